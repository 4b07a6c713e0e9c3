-- What a block with a cache in front of `file` decides: the RCODE is that of what `file` says, or
-- on a hit that of the entry, and an entry that is put has the RCODE of what `file` says.
use Rattle.std.proofs.Common.{◌≡◌, ◌∙◌, ◌⊎◌, ℕ, Bool, true, false, List, [], ◌∷◌, Option, Some, None, option_map, refl, sym, ap, subst, inl, inr, if◌then◌else◌}
use Rattle.std.proofs.lemmas.Bool.{and_parts}
use Rattle.std.specs.Prelude.{◌==◌, ◌&&◌, nat_le, option_and_then}
use Rattle.cache_rules.specs.{aged, cache_zones, class_of, entry_weight, key_of, seconds_left, with_ttls}
use Rattle.cache_rules.specs.Settings.{settings_of}
use Rattle.cache_rules.specs.declared.classes.Lived.{Lived}
use Rattle.dns_data.specs.Message.{AnswerData}
use Rattle.dns_data.specs.declared.query.Query.{Query}
use Rattle.file_plugin.specs.{FileData, file_say}
use Rattle.outside.specs.{EntryData, same_entry, same_key}
use Rattle.outside.specs.SameLaws.{exact_entry, exact_key}
use Rattle.outside.specs.Meanings.{Meaning, Done, Off, onward}
use Rattle.outside.specs.declared.entry.InnerMark.{InnerMark}
use Rattle.outside.specs.declared.entry.Key.{Key}
use Rattle.outside.specs.declared.mark.Mark.{Mark}
use Rattle.outside.specs.declared.mark.Mark.TheVariants as mark
use Rattle.plugin_api.specs.{PlanData}
use Rattle.plugin_api.specs.declared.verdict.Cause.TheVariants as cause
use Rattle.plugin_api.specs.declared.verdict.Code.TheVariants as code
use Rattle.zone_words.specs.{is_in}
use Rattle.chain_meaning.specs.declared.decision.Decision.{Decision}
use Rattle.chain_meaning.specs.declared.decision.Decision.TheVariants as decision
use Rattle.chain_meaning.specs.Caching.{cached, entry_for, entry_of, found, inners_in, kept_with, put_or, take_looked, take_now, take_put, taken}
use Rattle.chain_meaning.specs.Mean.{answer_of, mean, or_rest}
use Rattle.chain_meaning.specs.MeanLaws.{mean-end, mean-step, rule-answers, rule-cache}
use Rattle.dns_server.specs.LoadCounts.{code_in}
use Rattle.chain_meaning.specs.Steps.{Cache, Answers, File}

-- what `file` decides at the end of a chain
abbrev pub file_decides : Option AnswerData → Decision
file_decides (Some a) = decision.Reply a
file_decides None = decision.Code code.ServFail cause.EndOfChain

or_end : (q : Query) (o : Option AnswerData) (marks : List Mark) → or_rest (mean []) q (option_map decision.Reply o) marks ≡ Done (file_decides o) marks
or_end q (Some a) marks = refl
or_end q None marks = mean-end q marks

file_only : (plans : List FileData) (q : Query) (marks : List Mark) → answer_of (File plans) q marks ≡ Done (option_map decision.Reply (file_say plans q)) marks
unfolding answer_of
file_only plans q marks = refl

-- `file` at the end of a chain takes no mark
pub behind_is : (plans : List FileData) (q : Query) (marks : List Mark) → mean (Answers (File plans) ∷ []) q marks ≡ Done (file_decides (file_say plans q)) marks
behind_is plans q marks =
    mean-step (Answers (File plans)) [] q marks
    ∙ (rule-answers (File plans) (mean []) q marks
    ∙ (ap (λ (x : Meaning (Option Decision)). onward x (or_rest (mean []) q)) (file_only plans q marks)
    ∙ or_end q (file_say plans q) marks))

-- ageing changes no RCODE
with_rcode : (keeps : Bool) (entry : EntryData) (ttl : ℕ) → (if keeps then entry.answer else with_ttls ttl entry.answer).rcode ≡ entry.answer.rcode
with_rcode true entry ttl = refl
with_rcode false entry ttl = refl

aged_rcode : (plan : PlanData) (entry : EntryData) (now : ℕ) → (aged plan entry now).rcode ≡ entry.answer.rcode
aged_rcode plan entry now = with_rcode (settings_of plan.directive).keepttl entry (seconds_left entry.born entry.life now)

-- a reading of the clock, and what is left
record NowThen (marks : List Mark) (P : ℕ → List Mark → Type 0) : Type 0 where
  moment : ℕ
  rest : List Mark
  marks_are : marks ≡ mark.Now moment ∷ rest
  is : P moment rest

now_then : (marks left : List Mark) (v : Decision) (next : ℕ → List Mark → Meaning Decision) → onward (take_now marks) next ≡ Done v left → NowThen marks (λ moment rest. next moment rest ≡ Done v left)
now_then [] left v next e = absurd cc
now_then (mark.Now moment ∷ rest) left v next e = record { moment = moment; rest = rest; marks_are = refl; is = e }
now_then (mark.Put key entry kept ∷ rest) left v next e = absurd cc
now_then (mark.Looked key at found ∷ rest) left v next e = absurd cc
now_then (mark.Got d ∷ rest) left v next e = absurd cc
now_then (mark.RecvEnd ∷ rest) left v next e = absurd cc
now_then (mark.RecvFailed ∷ rest) left v next e = absurd cc
now_then (mark.Inner m ∷ rest) left v next e = absurd cc
now_then (mark.Sent b out ∷ rest) left v next e = absurd cc
now_then (mark.Noted b out ∷ rest) left v next e = absurd cc
now_then (mark.Pinned n ∷ rest) left v next e = absurd cc
now_then (mark.Unpinned n ∷ rest) left v next e = absurd cc

-- a look under a key, and what is left
record LookThen (key : Key) (marks : List Mark) (P : Option EntryData → List Mark → Type 0) : Type 0 where
  at : ℕ
  found : Option EntryData
  rest : List Mark
  marks_are : marks ≡ mark.Looked key at found ∷ rest
  is : P found rest

look_then : (key : Key) (moment : ℕ) (marks left : List Mark) (v : Decision) (next : Option EntryData → List Mark → Meaning Decision) → onward (take_looked key moment marks) next ≡ Done v left
    → LookThen key marks (λ found rest. next found rest ≡ Done v left)
look_then key moment [] left v next e = absurd cc
look_then key moment (mark.Looked other at found ∷ rest) left v next e = by (same_key key other && at == moment) refl e
  where
    by : (t : Bool) → (same_key key other && at == moment) ≡ t → onward (if t then Done found rest else Off) next ≡ Done v left → LookThen key (mark.Looked other at found ∷ rest) (λ found rest. next found rest ≡ Done v left)
    by true t e =
        let k : key ≡ other = (exact_key key other).0 (and_parts (same_key key other) (at == moment) t).0 in
        record { at = at; found = found; rest = rest; marks_are = ap (λ (x : Key). mark.Looked x at found ∷ rest) (sym k); is = e }
    by false t e = absurd cc
look_then key moment (mark.Now t ∷ rest) left v next e = absurd cc
look_then key moment (mark.Put k entry kept ∷ rest) left v next e = absurd cc
look_then key moment (mark.Got d ∷ rest) left v next e = absurd cc
look_then key moment (mark.RecvEnd ∷ rest) left v next e = absurd cc
look_then key moment (mark.RecvFailed ∷ rest) left v next e = absurd cc
look_then key moment (mark.Inner m ∷ rest) left v next e = absurd cc
look_then key moment (mark.Sent b out ∷ rest) left v next e = absurd cc
look_then key moment (mark.Noted b out ∷ rest) left v next e = absurd cc
look_then key moment (mark.Pinned n ∷ rest) left v next e = absurd cc
look_then key moment (mark.Unpinned n ∷ rest) left v next e = absurd cc

-- a put of an entry, and what is left
record PutThen (entry : EntryData) (marks left : List Mark) : Type 0 where
  kept : Bool
  marks_are : marks ≡ mark.Put (key_of entry.origin) entry kept ∷ left

same_done : (v w : Decision) (a b : List Mark) → ◌≡◌ {A = Meaning Decision} (Done v a) (Done w b) → (v ≡ w) × (a ≡ b)
same_done v w a b e = (cc, cc)

put_then : (entry : EntryData) (marks left : List Mark) (w v : Decision) → take_put entry w marks ≡ Done v left → PutThen entry marks left × (w ≡ v)
put_then entry [] left w v e = absurd cc
put_then entry (mark.Put other given kept ∷ rest) left w v e = by (same_key (key_of entry.origin) other && same_entry entry given) refl e
  where
    by : (t : Bool) → (same_key (key_of entry.origin) other && same_entry entry given) ≡ t → (if t then Done w rest else Off) ≡ Done v left → PutThen entry (mark.Put other given kept ∷ rest) left × (w ≡ v)
    by true t e =
        let parts = and_parts (same_key (key_of entry.origin) other) (same_entry entry given) t in
        let k : key_of entry.origin ≡ other = (exact_key (key_of entry.origin) other).0 parts.0 in
        let n : entry ≡ given = (exact_entry entry given).0 parts.1 in
        let same = same_done w v rest left e in
        (record { kept = kept; marks_are = λ i. mark.Put ((sym k) i) ((sym n) i) kept ∷ same.1 i }, same.0)
    by false t e = absurd cc
put_then entry (mark.Now t ∷ rest) left w v e = absurd cc
put_then entry (mark.Looked k at found ∷ rest) left w v e = absurd cc
put_then entry (mark.Got d ∷ rest) left w v e = absurd cc
put_then entry (mark.RecvEnd ∷ rest) left w v e = absurd cc
put_then entry (mark.RecvFailed ∷ rest) left w v e = absurd cc
put_then entry (mark.Inner m ∷ rest) left w v e = absurd cc
put_then entry (mark.Sent b out ∷ rest) left w v e = absurd cc
put_then entry (mark.Noted b out ∷ rest) left w v e = absurd cc
put_then entry (mark.Pinned n ∷ rest) left w v e = absurd cc
put_then entry (mark.Unpinned n ∷ rest) left w v e = absurd cc

-- the entry that is kept of an answer is of the query and has the answer
record IsEntryOf (q : Query) (a : AnswerData) (entry : EntryData) : Type 0 where
  origin_is : entry.origin ≡ q
  answer_is : entry.answer ≡ a

light_entry : (q : Query) (moment : ℕ) (a : AnswerData) (inner : List InnerMark) (lived : Lived) (entry : EntryData) (t : Bool) → (if t then Some (entry_of q moment a inner lived) else None) ≡ Some entry → IsEntryOf q a entry
light_entry q moment a inner lived entry true e =
    let same : entry_of q moment a inner lived ≡ entry = cc in
    subst (IsEntryOf q a) same (record { origin_is = refl; answer_is = refl })
light_entry q moment a inner lived entry false e = absurd cc

lived_entry : (q : Query) (moment : ℕ) (a : AnswerData) (inner : List InnerMark) (entry : EntryData) (o : Option Lived) → option_and_then (λ lived. if nat_le (entry_weight a inner) 16384 then Some (entry_of q moment a inner lived) else None) o ≡ Some entry
    → IsEntryOf q a entry
lived_entry q moment a inner entry None e = absurd cc
lived_entry q moment a inner entry (Some lived) e = light_entry q moment a inner lived entry (nat_le (entry_weight a inner) 16384) e

is_entry : (plan : PlanData) (q : Query) (moment : ℕ) (a : AnswerData) (inner : List InnerMark) (entry : EntryData) → entry_for plan q moment a inner ≡ Some entry → IsEntryOf q a entry
is_entry plan q moment a inner entry e = lived_entry q moment a inner entry (class_of plan a) e

-- what was put behind a miss: nothing, or an entry with this RCODE
pub record PutsOne (key : Key) (code : Option ℕ) (marks : List Mark) : Type 0 where
  pub entry : EntryData
  pub kept : Bool
  pub marks_are : marks ≡ mark.Put key entry kept ∷ []
  pub has : code ≡ Some entry.answer.rcode

-- a hit: the entry that was found has the RCODE of the decision
pub record IsHitTurn (key : Key) (marks : List Mark) (v : Decision) : Type 0 where
  pub moment : ℕ
  pub at : ℕ
  pub entry : EntryData
  pub marks_are : marks ≡ mark.Now moment ∷ mark.Looked key at (Some entry) ∷ []
  pub has : code_in v ≡ Some entry.answer.rcode

-- a miss: the decision has this RCODE, and so has the entry that was put
pub record IsMissTurn (key : Key) (code : Option ℕ) (marks : List Mark) (v : Decision) : Type 0 where
  pub moment : ℕ
  pub at : ℕ
  pub puts : List Mark
  pub marks_are : marks ≡ mark.Now moment ∷ mark.Looked key at None ∷ puts
  pub put : (puts ≡ []) ⊎ PutsOne key code puts
  pub has : code_in v ≡ code

module _ (plan : PlanData) (q : Query) (moment : ℕ) (left : List Mark) (v : Decision) where
  record Kept (w : Decision) : Type 0 where
    put : (left ≡ []) ⊎ PutsOne (key_of q) (code_in w) left
    has : code_in v ≡ code_in w

  put_kept : (a : AnswerData) (inner : List InnerMark) (o : Option EntryData) → entry_for plan q moment a inner ≡ o → put_or plan moment a o left ≡ Done v [] → Kept (decision.Reply a)
  put_kept a inner None is e =
      let same = same_done (decision.Reply a) v left [] e in
      record { put = inl same.1; has = ap code_in (sym same.0) }
  put_kept a inner (Some entry) is e =
      let of = is_entry plan q moment a inner entry is in
      let there = put_then entry left [] (decision.Reply (aged plan entry moment)) v e in
      let code : Some entry.answer.rcode ≡ Some a.rcode = ap (λ (x : AnswerData). Some x.rcode) of.answer_is in
      record {
        put = inr (record {
          entry = entry;
          kept = there.0.kept;
          marks_are = there.0.marks_are ∙ ap (λ (x : Query). mark.Put (key_of x) entry there.0.kept ∷ []) of.origin_is;
          has = sym code;
        });
        has = ap code_in (sym there.1) ∙ (ap (λ (n : ℕ). Some n) (aged_rcode plan entry moment) ∙ code);
      }

  kept_turn : (inner : List InnerMark) (w : Decision) → kept_with plan q moment inner w left ≡ Done v [] → Kept w
  kept_turn inner (decision.Reply a) e = put_kept a inner (entry_for plan q moment a inner) refl e
  kept_turn inner (decision.Code c cause) e =
      let same = same_done (decision.Code c cause) v left [] e in
      record { put = inl same.1; has = ap code_in (sym same.0) }
  kept_turn inner decision.Drop e =
      let same = same_done decision.Drop v left [] e in
      record { put = inl same.1; has = ap code_in (sym same.0) }

module _ (plan : PlanData) (plans : List FileData) (q : Query) where
  abbrev rest : Query → List Mark → Meaning Decision
  rest = mean (Answers (File plans) ∷ [])

  -- the RCODE of what `file` says at the end of a chain
  abbrev pub file_code : Option ℕ
  file_code = code_in (file_decides (file_say plans q))

  found_turn : (marks : List Mark) (v : Decision) (moment at : ℕ) (o : Option EntryData) (left : List Mark) → marks ≡ mark.Now moment ∷ mark.Looked (key_of q) at o ∷ left → found rest plan q moment o left ≡ Done v []
      → IsHitTurn (key_of q) marks v ⊎ IsMissTurn (key_of q) file_code marks v
  found_turn marks v moment at (Some entry) left are e =
      let same = same_done (decision.Reply (aged plan entry moment)) v left [] e in
      inl (record {
        moment = moment;
        at = at;
        entry = entry;
        marks_are = are ∙ ap (λ (l : List Mark). mark.Now moment ∷ mark.Looked (key_of q) at (Some entry) ∷ l) same.1;
        has = ap code_in (sym same.0) ∙ ap (λ (n : ℕ). Some n) (aged_rcode plan entry moment);
      })
  found_turn marks v moment at None left are e =
      let there : kept_with plan q moment (inners_in (taken left left)) (file_decides (file_say plans q)) left ≡ Done v [] =
      subst (λ (x : Meaning Decision). onward x (λ w end. kept_with plan q moment (inners_in (taken left end)) w end) ≡ Done v []) (behind_is plans q left) e in
      let kept = kept_turn plan q moment left v (inners_in (taken left left)) (file_decides (file_say plans q)) there in
      inr (record { moment = moment; at = at; puts = left; marks_are = are; put = kept.put; has = kept.has })

  cached_turn : (marks : List Mark) (v : Decision) → cached rest plan q marks ≡ Done v [] → IsHitTurn (key_of q) marks v ⊎ IsMissTurn (key_of q) file_code marks v
  cached_turn marks v e =
      let now = now_then marks [] v (λ moment left. onward (take_looked (key_of q) moment left) (found rest plan q moment)) e in
      let look = look_then (key_of q) now.moment now.rest [] v (found rest plan q now.moment) now.is in
      found_turn marks v now.moment look.at look.found look.rest (now.marks_are ∙ ap (λ (l : List Mark). mark.Now now.moment ∷ l) look.marks_are) look.is

  -- no mark was taken, and the decision has this RCODE
  pub record IsPlainTurn (code : Option ℕ) (marks : List Mark) (v : Decision) : Type 0 where
    pub none : marks ≡ []
    pub has : code_in v ≡ code

  within_turn : (t : Bool) (marks : List Mark) (v : Decision) → (if t then cached rest plan q marks else rest q marks) ≡ Done v []
      → ((t ≡ true) × (IsHitTurn (key_of q) marks v ⊎ IsMissTurn (key_of q) file_code marks v)) ⊎ IsPlainTurn file_code marks v
  within_turn true marks v e = inl (refl, cached_turn marks v e)
  within_turn false marks v e =
      let same = same_done (file_decides (file_say plans q)) v marks [] (sym (behind_is plans q marks) ∙ e) in
      inr (record { none = same.1; has = ap code_in (sym same.0) })

  -- what a turn that came to such a chain took and decided
  pub chain_turn : (marks : List Mark) (v : Decision) → mean (Cache plan ∷ Answers (File plans) ∷ []) q marks ≡ Done v []
      → ((is_in q.name (cache_zones plan) ≡ true) × (IsHitTurn (key_of q) marks v ⊎ IsMissTurn (key_of q) file_code marks v)) ⊎ IsPlainTurn file_code marks v
  chain_turn marks v e =
      within_turn (is_in q.name (cache_zones plan)) marks v
      (sym (mean-step (Cache plan) (Answers (File plans) ∷ []) q marks ∙ rule-cache plan rest q marks) ∙ e)
