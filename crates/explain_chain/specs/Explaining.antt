-- The lines that explain how a datagram is decided, by the configuration that serves it and the
-- marks that serving it made: by which key its block was picked, what each step said that it
-- reached, and what was sent. This server's own rule.
use Rattle.std.specs.Prelude.{◌≡◌, ◌≢◌, ◌⊎◌, ◌&&◌, ℕ, nat_eq, List, [], ◌∷◌, ◌++◌, map, codes, IfOk}
use Rattle.std.specs.Prelude.{OnSome}
use Rattle.std.specs.Prelude.{Option, Some, None, Result, if◌then◌else◌}
use Rattle.std.specs.Fmt.{decimal}
use Rattle.hex.specs.Hex.{encode_lower}
use Rattle.dns_data.specs.declared.block.Block.{Block}
use Rattle.dns_data.specs.declared.class.TheConstants as classes
use Rattle.dns_data.specs.declared.query.Query.{Query}
use Rattle.dns_lists.specs.declared.memory.NoMemory.{NoMemory}
use Rattle.dns_wire.specs.Asked.{QueriesThis}
use Rattle.dns_wire.specs.declared.asked.Asked.{Asked}
use Rattle.outside.specs.Marks.{Adds}
use Rattle.outside.specs.States.{SideState, Stays}
use Rattle.outside.specs.declared.datagram.Datagram.{Datagram}
use Rattle.outside.specs.declared.mark.Mark.{Mark}
use Rattle.corefile_blocks.specs.declared.bundle.Bundle.{Bundle}
use Rattle.chain_meaning.specs.Accepting.{IsAccepted}
use Rattle.chain_meaning.specs.Grounds.{Terms}
use Rattle.chain_meaning.specs.Serving.{Serves, block_of, is_known_version, query_of}
use Rattle.chain_meaning.specs.Steps.{Step, steps_of}
use Rattle.chain_meaning.specs.declared.served.Served.{Served}
use Rattle.chain_meaning.specs.declared.served.Served.TheVariants as served
use Rattle.chain_meaning.specs.declared.served.Silence.{Silence}
use Rattle.chain_meaning.specs.declared.served.Silence.TheVariants as silence
use Rattle.chain_trail.specs.Lines.{reached_text}
use Rattle.chain_trail.specs.Names.{picked_line, step_names}
use Rattle.chain_trail.specs.declared.reached.StepName.{StepName}
use Rattle.plain_chain.specs.Traced.{chain_traced}
use Rattle.chain_build.specs.LoggedWalks.{ServeState}
use Rattle.chain_build.specs.Replying.{LogsServing, Server}
use Rattle.explain_chain.specs.declared.explaining.Explained.{Explained}

-- by which key a block was picked
abbrev pub block_line : Option ℕ → List ℕ
block_line None = codes "block none"
block_line (Some line) = codes "block line " ++ decimal line

-- what the steps of a block's chain said that were reached
abbrev pub chain_lines : List Step → List StepName → Query → List Mark → List (List ℕ)
chain_lines steps names q marks = map reached_text (chain_traced steps names q marks).lines

abbrev pub block_lines : (Block → List Step) → Option Block → Query → List Mark → List (List ℕ)
block_lines steps None q marks = []
block_lines steps (Some block) q marks =
    chain_lines (steps block) (step_names block.directives) q marks

-- the lines of a query; where its version or its class decides, no block is picked
abbrev pub query_lines : (Block → List Step) → List Block → Query → List Mark → List (List ℕ)
query_lines steps blocks q marks =
    block_line (picked_line blocks q.local q.name)
    ∷ block_lines steps (block_of blocks q) q marks

abbrev pub asked_lines : (Block → List Step) → List Block → Datagram → Asked → List Mark
    → List (List ℕ)
asked_lines steps blocks d asked marks =
    if is_known_version asked.opt && nat_eq asked.question.class classes.IN
    then query_lines steps blocks (query_of d asked) marks else []

-- why nothing was sent
abbrev pub silence_text : Silence → List ℕ
silence_text silence.Short = codes "silent short"
silence_text silence.Response = codes "silent response"
silence_text silence.Dropped = codes "silent dropped"

-- what was sent; for want of memory nothing is said
abbrev pub served_lines : Served → List (List ℕ)
served_lines (served.Reply bytes) = (codes "reply " ++ encode_lower bytes) ∷ []
served_lines (served.Silent why) = silence_text why ∷ []
served_lines served.NoMemory = []

-- a datagram that asks something of an accepted bundle, and the lines of that
pub record ExplainsAsked (bundle : Bundle) (terms : Terms) (d : Datagram) (marks : List Mark)
    (lines : List (List ℕ)) : Type 0 where
  pub blocks : List Block
  pub accepted : IsAccepted terms bundle blocks
  pub asked : Asked
  pub queries : QueriesThis d.bytes asked
  pub are : lines ≡ asked_lines (steps_of terms.said bundle.files) blocks d asked marks

-- what is no query has no line but that of what was sent
abbrev pub AsksNothing : Datagram → Type 0
AsksNothing d = (asked : Asked) → QueriesThis d.bytes asked → ⊥

abbrev pub ExplainsFront : Bundle → Terms → Datagram → List Mark → List (List ℕ) → Type 0
ExplainsFront bundle terms d marks lines =
    (AsksNothing d × (lines ≡ [])) ⊎ ExplainsAsked bundle terms d marks lines

-- these are the lines of a datagram that was served so, with these marks
pub record IsExplained (bundle : Bundle) (terms : Terms) (d : Datagram) (marks : List Mark)
    (how : Served) (lines : List (List ℕ)) : Type 0 where
  pub front : List (List ℕ)
  pub fronts : ExplainsFront bundle terms d marks front
  pub are : lines ≡ front ++ served_lines how

-- a side of which it is known which marks were made over it: it was given no script, or tells its
-- journal
abbrev pub HasTold : SideState → Type 0
HasTold side = (side.script ≡ None) ⊎ (side.journal ≢ None)

-- what explaining over a side that was just opened tells: serving made these marks and gave what
-- the datagram means by them, as serving does that explains nothing. Where the side tells its
-- journal, that is these marks; and where it is known which marks these were, the lines are those
-- of them
pub record TellsExplaining (server : Server) (d : Datagram)
    (result : Result Explained NoMemory) (old new : ServeState) : Type 0 where
  pub marks : List Mark
  pub how : Served
  pub told : IfOk result (λ e. OnSome new.side.journal (new.side.journal ≡ Some marks))
  pub adds : OnSome new.side.script (Adds old.side new.side marks)
  pub stays : Stays old.side new.side
  pub serves : Serves server.bundle server.terms d marks how
  pub logs : LogsServing server d marks old.log new.log
  pub served : IfOk result (λ e. e.served ≡ how)
  pub explains : IfOk result (λ e. HasTold new.side
      → IsExplained server.bundle server.terms d marks how e.lines)
