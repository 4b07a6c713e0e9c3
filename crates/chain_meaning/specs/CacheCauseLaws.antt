-- Where a chain has a cache, what is decided there is SERVFAIL exactly where it has a cause.
use Rattle.std.proofs.Common.{◌≡◌, ◌∙◌, ℕ, Bool, true, false, List, [], ◌∷◌, Option, Some, None, refl, sym, subst, if◌then◌else◌}
use Rattle.std.specs.Prelude.{◌&&◌, nat_le, option_and_then}
use Rattle.cache_rules.specs.{aged, cache_zones, class_of, entry_weight, key_of, seconds_left, with_ttls}
use Rattle.cache_rules.specs.declared.classes.Lived.{Lived}
use Rattle.cache_rules.specs.Settings.{settings_of}
use Rattle.dns_data.specs.Message.{AnswerData}
use Rattle.dns_data.specs.declared.query.Query.{Query}
use Rattle.outside.specs.{EntryData, same_entry, same_key}
use Rattle.outside.specs.Meanings.{Meaning, Done, More, Off, onward}
use Rattle.outside.specs.declared.entry.InnerMark.{InnerMark}
use Rattle.outside.specs.declared.mark.Mark.{Mark}
use Rattle.outside.specs.declared.mark.Mark.TheVariants as mark
use Rattle.plugin_api.specs.{PlanData}
use Rattle.zone_words.specs.{is_in}
use Rattle.chain_meaning.specs.declared.decision.Decision.{Decision}
use Rattle.chain_meaning.specs.declared.decision.Decision.TheVariants as decision
use Rattle.chain_meaning.specs.Caching.{cache_means, cached, entry_for, entry_of, found, inners_in, kept_with, put_or, take_looked, take_now, take_put, taken}
use Rattle.chain_meaning.specs.CacheCauses.{IsGiven, by_zone, cache_cause, found_cause, given, looked_cause, moment_cause, shown}
use Rattle.chain_meaning.specs.Causes.{IsServFail}
use Rattle.chain_meaning.specs.GivesLaws.{Gives, gives_onward, if_same}

-- ageing changes no RCODE
with_rcode : (keeps : Bool) (entry : EntryData) (ttl : ℕ) → (if keeps then entry.answer else with_ttls ttl entry.answer).rcode ≡ entry.answer.rcode
with_rcode true entry ttl = refl
with_rcode false entry ttl = refl

aged_rcode : (plan : PlanData) (entry : EntryData) (now : ℕ) → (aged plan entry now).rcode ≡ entry.answer.rcode
aged_rcode plan entry now = with_rcode (settings_of plan.directive).keepttl entry (seconds_left entry.born entry.life now)

module _ (plan : PlanData) (q : Query) (moment : ℕ) (a : AnswerData) (inner : List InnerMark) where
  within_rcode : (lived : Lived) (light : Bool) → (shown plan moment a (if light then Some (entry_of q moment a inner lived) else None)).rcode ≡ a.rcode
  within_rcode lived true = aged_rcode plan (entry_of q moment a inner lived) moment
  within_rcode lived false = refl

  lived_rcode : (o : Option Lived)
      → (shown plan moment a (option_and_then (λ lived. if nat_le (entry_weight a inner) 16384 then Some (entry_of q moment a inner lived) else None) o)).rcode ≡ a.rcode
  lived_rcode None = refl
  lived_rcode (Some lived) = within_rcode lived (nat_le (entry_weight a inner) 16384)

  -- nor does what is kept of an answer
  shown_rcode : (shown plan moment a (entry_for plan q moment a inner)).rcode ≡ a.rcode
  shown_rcode = lived_rcode (class_of plan a)

module _ (plan : PlanData) (q : Query) (moment : ℕ) (inner : List InnerMark) where
  given_fails : (v : Decision) → IsServFail v → IsServFail (given plan q moment inner v)
  given_fails (decision.Reply a) fails = shown_rcode plan q moment a inner ∙ fails
  given_fails (decision.Code c cause) fails = fails
  given_fails decision.Drop fails = fails

  ungiven_fails : (v : Decision) → IsServFail (given plan q moment inner v) → IsServFail v
  ungiven_fails (decision.Reply a) fails = sym (shown_rcode plan q moment a inner) ∙ fails
  ungiven_fails (decision.Code c cause) fails = fails
  ungiven_fails decision.Drop fails = fails

put_gives : (P : Decision → Type 0) (entry : EntryData) (v : Decision) → P v → (left : List Mark) → Gives P (take_put entry v left)
put_gives P entry v p [] = tt
put_gives P entry v p (mark.Put key other kept ∷ left) = if_same P (same_key (key_of entry.origin) key && same_entry entry other) v left p
put_gives P entry v p (mark.Noted line out ∷ left) = tt
put_gives P entry v p (mark.Got d ∷ left) = tt
put_gives P entry v p (mark.RecvEnd ∷ left) = tt
put_gives P entry v p (mark.RecvFailed ∷ left) = tt
put_gives P entry v p (mark.Now t ∷ left) = tt
put_gives P entry v p (mark.Inner m ∷ left) = tt
put_gives P entry v p (mark.Sent b out ∷ left) = tt
put_gives P entry v p (mark.Pinned n ∷ left) = tt
put_gives P entry v p (mark.Unpinned n ∷ left) = tt
put_gives P entry v p (mark.Looked k t e ∷ left) = tt

or_gives : (P : Decision → Type 0) (plan : PlanData) (moment : ℕ) (a : AnswerData) (o : Option EntryData) → P (decision.Reply (shown plan moment a o)) → (left : List Mark)
    → Gives P (put_or plan moment a o left)
or_gives P plan moment a None p left = p
or_gives P plan moment a (Some entry) p left = put_gives P entry (decision.Reply (aged plan entry moment)) p left

-- a decision of the rest is given behind its put
kept_gives : (P : Decision → Type 0) (plan : PlanData) (q : Query) (moment : ℕ) (inner : List InnerMark) (v : Decision) → P (given plan q moment inner v) → (left : List Mark)
    → Gives P (kept_with plan q moment inner v left)
kept_gives P plan q moment inner (decision.Reply a) p left = or_gives P plan moment a (entry_for plan q moment a inner) p left
kept_gives P plan q moment inner (decision.Code c cause) p left = p
kept_gives P plan q moment inner decision.Drop p left = p

module _ (rest : List Mark → Decision → Type 0) (run : Query → List Mark → Meaning Decision) (plan : PlanData) (q : Query) (gives : (marks : List Mark) → Gives (λ v. IsServFail v → rest marks v) (run q marks)) where
  found_gives : (moment : ℕ) (o : Option EntryData) (left : List Mark) → Gives (λ v. IsServFail v → found_cause rest plan q v moment o left) (found run plan q moment o left)
  found_gives moment (Some entry) left = λ fails. (refl, sym (aged_rcode plan entry moment) ∙ fails)
  found_gives moment None left =
      gives_onward (λ v. IsServFail v → rest left v) (λ v. IsServFail v → IsGiven plan q moment (rest left) v) (run q left)
      (λ v end. kept_with plan q moment (inners_in (taken left end)) v end) (gives left)
      (λ v is end. kept_gives (λ v. IsServFail v → IsGiven plan q moment (rest left) v) plan q moment (inners_in (taken left end)) v
      (λ fails. record { rest = v; inner = inners_in (taken left end); cause = is (ungiven_fails plan q moment (inners_in (taken left end)) v fails); is = refl }) end)

  looked_gives : (moment : ℕ) (m : Meaning (Option EntryData)) → Gives (λ v. IsServFail v → looked_cause rest plan q v moment m) (onward m (found run plan q moment))
  looked_gives moment (Done o left) = found_gives moment o left
  looked_gives moment More = tt
  looked_gives moment Off = tt

  moment_gives : (m : Meaning ℕ)
      → Gives (λ v. IsServFail v → moment_cause rest plan q v m) (onward m (λ moment left. onward (take_looked (key_of q) moment left) (found run plan q moment)))
  moment_gives (Done moment left) = looked_gives moment (take_looked (key_of q) moment left)
  moment_gives More = tt
  moment_gives Off = tt

  within_gives : (marks : List Mark) (within : Bool)
      → Gives (λ v. IsServFail v → by_zone within (moment_cause rest plan q v (take_now marks)) (rest marks v)) (if within then cached run plan q marks else run q marks)
  within_gives marks true = moment_gives (take_now marks)
  within_gives marks false = gives marks

  -- what is decided where a chain has a cache has a cause where it is SERVFAIL
  pub cache_gives : (marks : List Mark) → Gives (λ v. IsServFail v → cache_cause rest plan q v marks) (cache_means run plan q marks)
  cache_gives marks = within_gives marks (is_in q.name (cache_zones plan))

module _ (rest : List Mark → Decision → Type 0) (plan : PlanData) (q : Query) (v : Decision) (fails : (left : List Mark) (v : Decision) → rest left v → IsServFail v) where
  found_fails : (moment : ℕ) (o : Option EntryData) (left : List Mark) → found_cause rest plan q v moment o left → IsServFail v
  found_fails moment (Some entry) left h = subst IsServFail (sym h.0) (aged_rcode plan entry moment ∙ h.1)
  found_fails moment None left h = subst IsServFail (sym h.is) (given_fails plan q moment h.inner h.rest (fails left h.rest h.cause))

  looked_fails : (moment : ℕ) (m : Meaning (Option EntryData)) → looked_cause rest plan q v moment m → IsServFail v
  looked_fails moment (Done o left) h = found_fails moment o left h
  looked_fails moment More h = absurd h
  looked_fails moment Off h = absurd h

  moment_fails : (m : Meaning ℕ) → moment_cause rest plan q v m → IsServFail v
  moment_fails (Done moment left) h = looked_fails moment (take_looked (key_of q) moment left) h
  moment_fails More h = absurd h
  moment_fails Off h = absurd h

  within_fails : (marks : List Mark) (within : Bool) → by_zone within (moment_cause rest plan q v (take_now marks)) (rest marks v) → IsServFail v
  within_fails marks true h = moment_fails (take_now marks) h
  within_fails marks false h = fails marks v h

  -- and what has a cause is SERVFAIL
  pub cache_fails : (marks : List Mark) → cache_cause rest plan q v marks → IsServFail v
  cache_fails marks h = within_fails marks (is_in q.name (cache_zones plan)) h
