-- Where a chain has `dns64`, what is decided there is SERVFAIL exactly where it has a cause.
use Rattle.std.proofs.Common.{◌∙◌, ℕ, Bool, true, false, List, Option, Some, None, refl, sym, subst, if◌then◌else◌}
use Rattle.dns_data.specs.declared.directive.Directive.{Directive}
use Rattle.dns_data.specs.declared.query.Query.{Query}
use Rattle.dns64_plugin.specs.{a_query, ptr_query, translates}
use Rattle.dns64_plugin.specs.Dns64Laws.{combined_code, pointed_code}
use Rattle.outside.specs.Meanings.{Meaning, Done, More, Off, onward}
use Rattle.outside.specs.declared.mark.Mark.{Mark}
use Rattle.chain_meaning.specs.declared.decision.Decision.{Decision}
use Rattle.chain_meaning.specs.declared.decision.Decision.TheVariants as decision
use Rattle.chain_meaning.specs.Causes.{IsServFail}
use Rattle.chain_meaning.specs.GivesLaws.{Gives, gives_onward}
use Rattle.chain_meaning.specs.Translating.{bound_of, combined_in, dns64_means, pointed_by, pointed_in, second, second_by}
use Rattle.chain_meaning.specs.TranslatingCauses.{IsMadeOf, by_test, dns64_cause, first_cause, pointed_cause, second_cause}

-- what is made of a decision keeps its RCODE
combined_fails : (d : Directive) (bound : ℕ) (v : Decision) → IsServFail v → IsServFail (combined_in d bound v)
combined_fails d bound (decision.Reply a) fails = combined_code d bound a ∙ fails
combined_fails d bound (decision.Code c cause) fails = fails
combined_fails d bound decision.Drop fails = fails

uncombined_fails : (d : Directive) (bound : ℕ) (v : Decision) → IsServFail (combined_in d bound v) → IsServFail v
uncombined_fails d bound (decision.Reply a) fails = sym (combined_code d bound a) ∙ fails
uncombined_fails d bound (decision.Code c cause) fails = fails
uncombined_fails d bound decision.Drop fails = fails

pointed_fails : (q inner : Query) (v : Decision) → IsServFail v → IsServFail (pointed_in q inner v)
pointed_fails q inner (decision.Reply a) fails = pointed_code q inner a ∙ fails
pointed_fails q inner (decision.Code c cause) fails = fails
pointed_fails q inner decision.Drop fails = fails

unpointed_fails : (q inner : Query) (v : Decision) → IsServFail (pointed_in q inner v) → IsServFail v
unpointed_fails q inner (decision.Reply a) fails = sym (pointed_code q inner a) ∙ fails
unpointed_fails q inner (decision.Code c cause) fails = fails
unpointed_fails q inner decision.Drop fails = fails

-- what is decided there has a cause where it is SERVFAIL
module _ (rest : Query → List Mark → Decision → Type 0) (run : Query → List Mark → Meaning Decision) (d : Directive) (q : Query)
    (gives : (p : Query) (marks : List Mark) → Gives (λ v. IsServFail v → rest p marks v) (run p marks)) (marks : List Mark) where
  second_gives : (v : Decision) → (IsServFail v → rest q marks v) → (bound : Option ℕ) (left : List Mark)
      → Gives (λ w. IsServFail w → second_cause rest d q marks w bound left) (second_by run d q v bound left)
  second_gives v p None left = p
  second_gives v p (Some bound) left =
      gives_onward (λ w. IsServFail w → rest (a_query q) left w) (λ w. IsServFail w → IsMadeOf (combined_in d bound) (rest (a_query q) left) w) (run (a_query q) left)
      (λ w more. Done (combined_in d bound w) more) (gives (a_query q) left)
      (λ w h more fails. record { rest = w; cause = h (uncombined_fails d bound w fails); is = refl })

  first_gives : (m : Meaning Decision) → Gives (λ v. IsServFail v → rest q marks v) m → Gives (λ v. IsServFail v → first_cause rest d q marks v m) (onward m (second run d q))
  first_gives (Done v left) p = second_gives v p (bound_of v) left
  first_gives More p = tt
  first_gives Off p = tt

  pointed_gives : (inner : Option Query) → Gives (λ v. IsServFail v → pointed_cause rest d q marks v inner) (pointed_by run d q inner marks)
  pointed_gives None = gives q marks
  pointed_gives (Some inner) =
      gives_onward (λ w. IsServFail w → rest inner marks w) (λ w. IsServFail w → IsMadeOf (pointed_in q inner) (rest inner marks) w) (run inner marks)
      (λ w more. Done (pointed_in q inner w) more) (gives inner marks)
      (λ w h more fails. record { rest = w; cause = h (unpointed_fails q inner w fails); is = refl })

  either_gives : (t : Bool) → Gives (λ v. IsServFail v → by_test t (first_cause rest d q marks v (run q marks)) (pointed_cause rest d q marks v (ptr_query d q)))
      (if t then onward (run q marks) (second run d q) else pointed_by run d q (ptr_query d q) marks)
  either_gives true = first_gives (run q marks) (gives q marks)
  either_gives false = pointed_gives (ptr_query d q)

  pub dns64_gives : Gives (λ v. IsServFail v → dns64_cause rest d q marks v (run q marks)) (dns64_means run d q marks)
  dns64_gives = either_gives (translates d q)

-- and what has a cause is SERVFAIL
module _ (rest : Query → List Mark → Decision → Type 0) (d : Directive) (q : Query) (marks : List Mark) (v : Decision)
    (fails : (p : Query) (left : List Mark) (w : Decision) → rest p left w → IsServFail w) where
  second_fails : (bound : Option ℕ) (left : List Mark) → second_cause rest d q marks v bound left → IsServFail v
  second_fails None left h = fails q marks v h
  second_fails (Some bound) left h = subst IsServFail (sym h.is) (combined_fails d bound h.rest (fails (a_query q) left h.rest h.cause))

  first_fails : (m : Meaning Decision) → first_cause rest d q marks v m → IsServFail v
  first_fails (Done first left) h = second_fails (bound_of first) left h
  first_fails More h = absurd h
  first_fails Off h = absurd h

  pointed_cause_fails : (inner : Option Query) → pointed_cause rest d q marks v inner → IsServFail v
  pointed_cause_fails None h = fails q marks v h
  pointed_cause_fails (Some inner) h = subst IsServFail (sym h.is) (pointed_fails q inner h.rest (fails inner marks h.rest h.cause))

  either_fails : (t : Bool) (m : Meaning Decision) → by_test t (first_cause rest d q marks v m) (pointed_cause rest d q marks v (ptr_query d q)) → IsServFail v
  either_fails true m h = first_fails m h
  either_fails false m h = pointed_cause_fails (ptr_query d q) h

  pub dns64_fails : (m : Meaning Decision) → dns64_cause rest d q marks v m → IsServFail v
  dns64_fails m h = either_fails (translates d q) m h
