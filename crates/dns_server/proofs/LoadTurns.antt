-- What each turn of a load comes to: what it puts into the cache is just, and its reply has the
-- RCODE that is meant where what it found is just.
use Rattle.std.proofs.Common.{◌≡◌, ◌∙◌, ◌⊎◌, ℕ, zero, suc, Bool, true, false, List, [], ◌∷◌, Option, Some, None, refl, sym, ap, subst, inl, inr, if◌then◌else◌}
use Rattle.std.specs.Prelude.{Result, Ok, nat_eq, option_and_then, slice_get}
use Rattle.cache_rules.specs.{cache_zones, key_of}
use Rattle.corefile_blocks.specs.Blocks.{blocks_of}
use Rattle.corefile_blocks.specs.declared.bundle.Bundle.{Bundle}
use Rattle.corefile_blocks.specs.declared.fault.CorefileFault.{CorefileFault}
use Rattle.dns_data.specs.{lowered}
use Rattle.dns_data.specs.Message.{MessageData}
use Rattle.dns_data.specs.declared.block.Block.{Block}
use Rattle.dns_data.specs.declared.class.TheConstants as classes
use Rattle.dns_data.specs.declared.file.FileText.{FileText}
use Rattle.dns_data.specs.declared.query.Query.{Query}
use Rattle.dns_data.specs.declared.rcode.TheConstants as rcodes
use Rattle.dns_wire.specs.Asked.{QueriesThis, asked_of}
use Rattle.dns_wire.specs.declared.asked.Asked.{Asked}
use Rattle.file_plugin.specs.{FileData}
use Rattle.file_plugin.specs.Zones.{Served, answer_from, file_say, longest_of}
use Rattle.message_decoding.specs.Laws.{decodes_queries}
use Rattle.outside.specs.{EntryData}
use Rattle.outside.specs.Meanings.{Meaning, Done}
use Rattle.outside.specs.declared.datagram.Datagram.{Datagram}
use Rattle.outside.specs.declared.entry.Key.{Key}
use Rattle.outside.specs.declared.mark.Mark.{Mark}
use Rattle.plugin_api.specs.{Sayings, picked}
use Rattle.zone_words.specs.{is_in}
use Rattle.chain_meaning.specs.{nothing, steps_of}
use Rattle.chain_meaning.specs.Mean.{mean}
use Rattle.chain_meaning.specs.Serving.{asked_decides, block_decides, chain_decides, is_known_version, query_of, refused}
use Rattle.chain_meaning.specs.Steps.{Answers, Cache, File}
use Rattle.chain_meaning.specs.declared.decision.Decision.{Decision}
use Rattle.chain_meaning.specs.declared.decision.Decision.TheVariants as decision
use Rattle.load_maker.specs.Scripts.{zone_name}
use Rattle.load_maker.specs.Texts.{conf_text, second_text}
use Rattle.dns_server.proofs.CachedFiles.{IsHitTurn, IsMissTurn, IsPlainTurn, behind_is, chain_turn, file_code, file_decides}
use Rattle.dns_server.proofs.LoadBlocks.{behind_are, cache_of, files_of, first_blocks, load_block, same_pick, same_said, second_blocks, steps_are}
use Rattle.dns_server.specs.LoadCounts.{asked_code, behind_cache, code_in, datagram_code, good_blocks, load_bundle, meant_code}

abbrev pub load_files : List ℕ → List FileText
load_files zone = record { name = zone_name; bytes = Some zone } ∷ []

-- a configuration of the load
abbrev pub IsForm : List ℕ → Bundle → Type 0
IsForm zone bundle = (bundle ≡ load_bundle conf_text zone) ⊎ (bundle ≡ load_bundle second_text zone)

-- its blocks
pub record HasBlock (zone : List ℕ) (bundle : Bundle) (blocks : List Block) : Type 0 where
  pub line : ℕ
  pub blocks_are : blocks ≡ load_block line ∷ []
  pub files_are : bundle.files ≡ load_files zone

pub same_Ok : (a b : List Block) → ◌≡◌ {A = Result (List Block) CorefileFault} (Ok a) (Ok b) → a ≡ b
same_Ok a b e = cc

pub has_block : (zone : List ℕ) (bundle : Bundle) (port : ℕ) (blocks : List Block) → port ≡ 53 → IsForm zone bundle → blocks_of bundle port ≡ Ok blocks → HasBlock zone bundle blocks
has_block zone bundle port blocks p (inl is) read =
    let there : blocks_of (load_bundle conf_text zone) 53 ≡ Ok blocks = subst (λ (x : Bundle × ℕ). blocks_of x.0 x.1 ≡ Ok blocks) (λ i. (is i, p i)) read in
    record { line = 1; blocks_are = same_Ok blocks (load_block 1 ∷ []) (sym there ∙ first_blocks zone); files_are = ap (λ (b : Bundle). b.files) is }
has_block zone bundle port blocks p (inr is) read =
    let there : blocks_of (load_bundle second_text zone) 53 ≡ Ok blocks = subst (λ (x : Bundle × ℕ). blocks_of x.0 x.1 ≡ Ok blocks) (λ i. (is i, p i)) read in
    record { line = 2; blocks_are = same_Ok blocks (load_block 2 ∷ []) (sym there ∙ second_blocks zone); files_are = ap (λ (b : Bundle). b.files) is }

same_done : (v w : Decision) (a b : List Mark) → ◌≡◌ {A = Meaning Decision} (Done v a) (Done w b) → (v ≡ w) × (a ≡ b)
same_done v w a b e = (cc, cc)

none_behind : (k : ℕ) → ◌≡◌ {A = Option Block} (slice_get [] k) None
none_behind zero = refl
none_behind (suc k) = refl

-- queries of the same name and type are told the same by `file`
from_same : (q p : Query) (o : Option Served) → q.name ≡ p.name → q.kind ≡ p.kind → answer_from q o ≡ answer_from p o
from_same q p None n k = refl
from_same q p (Some served) n k = λ i. answer_from (record q { name = n i; kind = k i }) (Some served)

said_same : (plans : List FileData) (q p : Query) → q.name ≡ p.name → q.kind ≡ p.kind → file_say plans q ≡ file_say plans p
unfolding file_say
said_same plans q p n k = from_same q p (longest_of q.name None plans) n k ∙ ap (λ (name : List (List ℕ)). answer_from p (longest_of name None plans)) n

module _ (zone : List ℕ) where
  -- the RCODE of what `file` says in a load's block
  abbrev pub said_code : Query → Option ℕ
  said_code q = file_code (cache_of 1) (files_of (load_files zone) 1) q

  -- an entry under this key has the RCODE that is meant of each query of the key in small letters
  abbrev pub Just : Key → EntryData → Type 0
  Just key entry = (q : Query) → lowered q.name ≡ q.name → key_of q ≡ key → said_code q ≡ Some entry.answer.rcode

  code_same : (n : ℕ) (q : Query) → file_code (cache_of n) (files_of (load_files zone) n) q ≡ said_code q
  code_same n q = ap (λ o. code_in (file_decides o)) (same_said (load_files zone) n 1 q)

  pub put_just : (p : Query) (entry : EntryData) → lowered p.name ≡ p.name → said_code p ≡ Some entry.answer.rcode → Just (key_of p) entry
  put_just p entry small is q low same =
      let name : q.name ≡ p.name = sym low ∙ (ap (λ (k : Key). k.name) same ∙ small) in
      ap (λ o. code_in (file_decides o)) (said_same (files_of (load_files zone) 1) q p name (ap (λ (k : Key). k.kind) same)) ∙ is

  module _ (said : Sayings) (d : Datagram) (asked : Asked) where
    abbrev pub q : Query
    q = query_of d asked

    abbrev pub files : List FileText
    files = load_files zone

    -- what is meant without marks
    abbrev pub meant : Option ℕ
    meant = meant_code (asked_decides (behind_cache files) (load_block 1 ∷ []) d asked [])

    code_is_meant : asked_code (load_bundle conf_text zone) d asked ≡ meant
    code_is_meant = ap (λ r. meant_code (asked_decides (behind_cache files) (good_blocks r) d asked [])) (first_blocks zone)

    pub datagram_is : QueriesThis d.bytes asked → datagram_code (load_bundle conf_text zone) d ≡ meant
    datagram_is queries =
        ap (λ o. option_and_then (λ (m : MessageData). asked_code (load_bundle conf_text zone) d (asked_of m)) o) (decodes_queries.whole d.bytes queries.message queries.spells)
        ∙ (ap (asked_code (load_bundle conf_text zone) d) (sym queries.is) ∙ code_is_meant)

    module _ (n : ℕ) (marks : List Mark) (v : Decision) where
      -- a turn that came to the block's chain within the zones of its cache
      pub record IsCachedTurn (code : Option ℕ) : Type 0 where
        pub picks : picked (load_block n ∷ []) q.local q.name ≡ Some 0
        pub within : is_in q.name (cache_zones (cache_of n)) ≡ true
        pub turn : IsHitTurn (key_of q) marks v ⊎ IsMissTurn (key_of q) (said_code q) marks v
        pub code_is : said_code q ≡ code

      abbrev pub TurnedTo : Option ℕ → Type 0
      TurnedTo code = IsCachedTurn code ⊎ ((marks ≡ []) × (code_in v ≡ code))

      plain : (w : Decision) → Done w marks ≡ Done v [] → TurnedTo (code_in w)
      plain w e = let same = same_done w v marks [] e in inr (same.1, ap code_in (sym same.0))

      abbrev behind_by : Option ℕ → Option ℕ
      behind_by o = meant_code (block_decides (behind_cache files) (option_and_then (slice_get (load_block 1 ∷ [])) o) q [])

      abbrev steps_by : Option ℕ → Meaning Decision
      steps_by o = block_decides (steps_of said files) (option_and_then (slice_get (load_block n ∷ [])) o) q marks

      first_behind : said_code q ≡ behind_by (Some 0)
      first_behind =
          sym (ap (λ s. meant_code (chain_decides s q [])) (behind_are files 1) ∙ ap meant_code (behind_is (files_of files 1) q []))

      in_chain : picked (load_block n ∷ []) q.local q.name ≡ Some 0 → steps_by (Some 0) ≡ Done v [] → TurnedTo (behind_by (Some 0))
      in_chain picks e =
          let there : mean (Cache (cache_of n) ∷ Answers (File (files_of files n)) ∷ []) q marks ≡ Done v [] = sym (ap (λ s. chain_decides s q marks) (steps_are said files n)) ∙ e in
          by (chain_turn (cache_of n) (files_of files n) q marks v there)
        where
          by : ((is_in q.name (cache_zones (cache_of n)) ≡ true) × (IsHitTurn (key_of q) marks v ⊎ IsMissTurn (key_of q) (file_code (cache_of n) (files_of files n) q) marks v))
              ⊎ IsPlainTurn (cache_of n) (files_of files n) q (file_code (cache_of n) (files_of files n) q) marks v → TurnedTo (behind_by (Some 0))
          by (inl turned) = inl (record {
            picks = picks;
            within = turned.0;
            turn = subst (λ c. IsHitTurn (key_of q) marks v ⊎ IsMissTurn (key_of q) c marks v) (code_same n q) turned.1;
            code_is = first_behind;
          })
          by (inr turned) = inr (turned.none, turned.has ∙ (code_same n q ∙ first_behind))

      by_pick : (o : Option ℕ) → picked (load_block n ∷ []) q.local q.name ≡ o → steps_by o ≡ Done v [] → TurnedTo (behind_by o)
      by_pick None picks e = plain refused e
      by_pick (Some zero) picks e = in_chain picks e
      by_pick (Some (suc k)) picks e =
          let mine = none_behind k in
          let there : Done refused marks ≡ Done v [] = sym (ap (λ o. block_decides (steps_of said files) o q marks) mine) ∙ e in
          subst TurnedTo (sym (ap (λ o. meant_code (block_decides (behind_cache files) o q [])) mine)) (plain refused there)

      by_class : (t : Bool) → (if t then steps_by (picked (load_block n ∷ []) q.local q.name) else Done refused marks) ≡ Done v []
          → TurnedTo (meant_code (if t then block_decides (behind_cache files) (option_and_then (slice_get (load_block 1 ∷ [])) (picked (load_block 1 ∷ []) q.local q.name)) q [] else Done refused []))
      by_class true e = subst (λ o. TurnedTo (behind_by o)) (same_pick n 1 q.local q.name) (by_pick (picked (load_block n ∷ []) q.local q.name) refl e)
      by_class false e = plain refused e

      by_version : (t : Bool) → (if t then (if nat_eq asked.question.class classes.IN then steps_by (picked (load_block n ∷ []) q.local q.name) else Done refused marks) else Done (decision.Reply (nothing rcodes.NOERROR)) marks) ≡ Done v []
          → TurnedTo (meant_code (if t then (if nat_eq asked.question.class classes.IN then block_decides (behind_cache files) (option_and_then (slice_get (load_block 1 ∷ [])) (picked (load_block 1 ∷ []) q.local q.name)) q [] else Done refused [])
          else Done (decision.Reply (nothing rcodes.NOERROR)) []))
      by_version true e = by_class (nat_eq asked.question.class classes.IN) e
      by_version false e = plain (decision.Reply (nothing rcodes.NOERROR)) e

      -- what a turn of the load took and decided
      pub turned : asked_decides (steps_of said files) (load_block n ∷ []) d asked marks ≡ Done v [] → TurnedTo meant
      turned e = by_version (is_known_version asked.opt) e
