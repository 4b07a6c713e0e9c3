-- The step `cache`: what it takes from the marks of a side in front of the rest of a chain and
-- behind it. This server's own rule; which answers are kept, and how long, is cache_rules'.
use Rattle.std.specs.Prelude.{◌≡◌, ℕ, ◌-◌, ◌==◌, ◌&&◌, nat_le, List, [], ◌∷◌, length, map, take}
use Rattle.std.specs.Prelude.{Option, Some, None, option_and_then, if◌then◌else◌}
use Rattle.cache_rules.specs.{aged, cache_zones, class_of, entry_weight, key_of}
use Rattle.cache_rules.specs.declared.classes.Lived.{Lived}
use Rattle.dns_data.specs.Message.{AnswerData}
use Rattle.dns_data.specs.declared.query.Query.{Query}
use Rattle.outside.specs.{EntryData, same_entry, same_key}
use Rattle.outside.specs.Meanings.{Meaning, Done, More, Off, onward}
use Rattle.outside.specs.declared.entry.InnerMark.{InnerMark}
use Rattle.outside.specs.declared.entry.Key.{Key}
use Rattle.outside.specs.declared.mark.Mark.{Mark}
use Rattle.outside.specs.declared.mark.Mark.TheVariants.{Inner, Looked, Now, Put}
use Rattle.plugin_api.specs.{PlanData}
use Rattle.zone_words.specs.{is_in}
use Rattle.chain_meaning.specs.declared.decision.Decision.{Decision}
use Rattle.chain_meaning.specs.declared.decision.Decision.TheVariants as decision

-- a reading of the clock
abbrev pub take_now : List Mark → Meaning ℕ
take_now [] = More
take_now (Now moment ∷ left) = Done moment left
take_now (mark ∷ left) = Off

-- a look under this key at this moment, and the entry that it found
abbrev pub take_looked : Key → ℕ → List Mark → Meaning (Option EntryData)
take_looked key moment [] = More
take_looked key moment (Looked other at found ∷ left) =
    if same_key key other && at == moment then Done found left else Off
take_looked key moment (mark ∷ left) = Off

-- what a look found, and when
pub record Look : Type 0 where
  pub moment : ℕ
  pub entry : Option EntryData

abbrev pub look_of : ℕ → Option EntryData → Look
look_of moment entry = record { moment = moment; entry = entry }

abbrev pub looked_at : ℕ → Option EntryData → List Mark → Meaning Look
looked_at moment entry left = Done (look_of moment entry) left

-- a reading of the clock, and a look under this key at that moment
abbrev pub take_look : Key → List Mark → Meaning Look
take_look key marks =
    onward (take_now marks)
    (λ moment left. onward (take_looked key moment left) (looked_at moment))

-- the entry of an answer with this class and lifetime
abbrev pub entry_of : Query → ℕ → AnswerData → List InnerMark → Lived → EntryData
entry_of q moment a inner lived = record {
  class = lived.class;
  born = moment;
  life = lived.life;
  answer = a;
  origin = q;
  inner = inner;
}

-- the entry that is kept of an answer of the rest: none without a class, and none that is too heavy
abbrev pub entry_for : PlanData → Query → ℕ → AnswerData → List InnerMark → Option EntryData
entry_for plan q moment a inner =
    option_and_then
    (λ lived. if nat_le (entry_weight a inner) 16384 then Some (entry_of q moment a inner lived)
    else None) (class_of plan a)

-- a decision stands once this entry was put, whether it was kept or not
abbrev pub take_put : EntryData → Decision → List Mark → Meaning Decision
take_put entry v [] = More
take_put entry v (Put key other out ∷ left) =
    if same_key (key_of entry.origin) key && same_entry entry other then Done v left else Off
take_put entry v (mark ∷ left) = Off

-- the inner marks among these
abbrev pub inners_in : List Mark → List InnerMark
inners_in [] = []
inners_in (Inner mark ∷ marks) = mark ∷ inners_in marks
inners_in (mark ∷ marks) = inners_in marks

-- the marks that were taken where these are left
abbrev pub taken : List Mark → List Mark → List Mark
taken marks left = take (length marks - length left) marks

abbrev pub put_or : PlanData → ℕ → AnswerData → Option EntryData → List Mark → Meaning Decision
put_or plan moment a None left = Done (decision.Reply a) left
put_or plan moment a (Some entry) left =
    take_put entry (decision.Reply (aged plan entry moment)) left

-- behind a miss: a reply of the rest is put where it is kept, and given as a hit at this moment
-- would be; another decision stands
abbrev pub kept_with : PlanData → Query → ℕ → List InnerMark → Decision → List Mark
    → Meaning Decision
kept_with plan q moment inner (decision.Reply a) left =
    put_or plan moment a (entry_for plan q moment a inner) left
kept_with plan q moment inner (decision.Code code cause) left = Done (decision.Code code cause) left
kept_with plan q moment inner decision.Drop left = Done decision.Drop left

module _ (rest : Query → List Mark → Meaning Decision) (plan : PlanData) (q : Query) where
  -- a hit is aged to the moment; on a miss the rest decides
  abbrev pub found : ℕ → Option EntryData → List Mark → Meaning Decision
  found moment (Some entry) left = Done (decision.Reply (aged plan entry moment)) left
  found moment None left =
      onward (rest q left) (λ v end. kept_with plan q moment (inners_in (taken left end)) v end)

  -- one reading of the clock, one look, and on a miss at most one put
  abbrev pub cached : List Mark → Meaning Decision
  cached marks =
      onward (take_now marks)
      (λ moment left. onward (take_looked (key_of q) moment left) (found moment))

  -- a name outside of the cache's zones is the rest's
  abbrev pub cache_means : List Mark → Meaning Decision
  cache_means marks = if is_in q.name (cache_zones plan) then cached marks else rest q marks

-- an entry repeats what the steps behind the cache decided for its query by its inner marks, and
-- has the class, the lifetime and the weight that the directive gives such an answer
pub record Justified (mean : Query → List Mark → Meaning Decision) (plan : PlanData)
    (entry : EntryData) : Type 0 where
  pub decided : mean entry.origin (map Inner entry.inner) ≡ Done (decision.Reply entry.answer) []
  pub kept : entry_for plan entry.origin entry.born entry.answer entry.inner ≡ Some entry
