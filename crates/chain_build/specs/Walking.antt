-- What the parts of a walk do.
use Rattle.std.specs.Prelude.{◌≡◌, Bool, true, false, List, [], ◌∷◌, ◌++◌, Option, Some, None}
use Rattle.std.specs.Prelude.{Result, Ok, Err}
use Rattle.dns_lists.specs.declared.memory.NoMemory.{NoMemory}
use Rattle.dns_data.specs.Message.{AnswerData, no_answer}
use Rattle.dns_data.specs.declared.directive.Directive.{Directive}
use Rattle.dns_data.specs.declared.query.Query.{Query}
use Rattle.dns_write.specs.Tails.{with_tail}
use Rattle.outside.specs.Meanings.{Meaning, Done, Starved}
use Rattle.outside.specs.declared.mark.Mark.{Mark}
use Rattle.chain_meaning.specs.declared.decision.Decision.{Decision}
use Rattle.chain_meaning.specs.declared.decision.Decision.TheVariants as decision
use Rattle.rewrite_plugin.specs.declared.plan_data.Changed.{Changed}
use Rattle.chain_meaning.specs.Mean.{answer_of, mean, restored_in}
use Rattle.chain_meaning.specs.Steps.{Answerer, Step, dns64_steps}
use Rattle.chain_build.specs.declared.block_chain.FrontStep.{FrontStep}
use Rattle.chain_build.specs.declared.block_chain.FrontStep.TheVariants as front
use Rattle.chain_build.specs.declared.ended.Ended.{Ended}
use Rattle.chain_build.specs.declared.ended.Ended.TheVariants as ended

-- the decision of a chain that ended so, with this answer in the slot; the records of a tail stand
-- where those behind the answer would
abbrev pub decision_of : Ended → AnswerData → Decision
decision_of ended.Reply answer = decision.Reply answer
decision_of (ended.Lent tail) answer = decision.Reply (with_tail answer tail.now)
decision_of (ended.Code code cause) answer = decision.Code code cause
decision_of ended.Drop answer = decision.Drop

abbrev pub decided : Result Ended NoMemory → AnswerData → Result Decision NoMemory
decided (Ok e) answer = Ok (decision_of e answer)
decided (Err e) answer = Err e

-- a plugin that takes no marks said this, and left the slot as it was where it goes on
abbrev pub Answered : Answerer → Query → AnswerData → AnswerData → Result (Option Ended) NoMemory
    → Type 0
Answered plugin q old new (Ok None) =
    (new ≡ old) × ((left : List Mark) → answer_of plugin q left ≡ Done None left)
Answered plugin q old new (Ok (Some e)) =
    (left : List Mark) → answer_of plugin q left ≡ Done (Some (decision_of e new)) left
Answered plugin q old new (Err e) = Unit {0}

-- what a plugin answered, with this answer in the slot
abbrev pub answered : Result (Option Ended) NoMemory → AnswerData
    → Result (Option Decision) NoMemory
answered (Ok None) answer = Ok None
answered (Ok (Some e)) answer = Ok (Some (decision_of e answer))
answered (Err e) answer = Err e

-- plugins of others that say this of a query said it, and left the slot as it was where they go on
abbrev pub Said : (Query → Option Decision) → Query → AnswerData → AnswerData
    → Result (Option Ended) NoMemory → Type 0
Said says q old new (Ok None) = (new ≡ old) × (says q ≡ None)
Said says q old new (Ok (Some e)) = says q ≡ Some (decision_of e new)
Said says q old new (Err e) = Unit {0}

-- what stands behind `dns64`, where a chain has it, gets this query as it is
abbrev pub PassesDns64 : Option Directive → Query → Type 0
PassesDns64 dns64 q =
    (behind : List Step) → (marks : List Mark)
    → mean (dns64_steps dns64 ++ behind) q marks ≡ mean behind q marks

-- steps that note are `errors` alone, or none
abbrev pub NotesCodes : List FrontStep → Bool → Type 0
NotesCodes steps true = steps ≡ front.Errors ∷ []
NotesCodes steps false = steps ≡ []

-- a chain ended with no code, or didn't end
abbrev pub IsUncoded : Option Ended → Type 0
IsUncoded None = Unit {0}
IsUncoded (Some ended.Reply) = Unit {0}
IsUncoded (Some (ended.Lent tail)) = Unit {0}
IsUncoded (Some (ended.Code code cause)) = ⊥
IsUncoded (Some ended.Drop) = Unit {0}

-- a walk that asks nothing ended so, with this answer in the slot, or left it clear where it met a
-- plugin that asks
abbrev pub Tries : (List Mark → Meaning Decision) → AnswerData → Result (Option Ended) NoMemory
    → Type 0
Tries means slot (Ok None) = slot ≡ no_answer
Tries means slot (Ok (Some e)) = (left : List Mark) → means left ≡ Done (decision_of e slot) left
Tries means slot (Err e) = Starved (means [])

-- the reply of the rest was restored by the rules that were applied
abbrev pub Restored : List Directive → Changed → Decision → AnswerData → Result Ended NoMemory
    → Type 0
Restored ds changed v slot (Ok e) = restored_in ds changed v ≡ decision_of e slot
Restored ds changed v slot (Err e) = Unit {0}
