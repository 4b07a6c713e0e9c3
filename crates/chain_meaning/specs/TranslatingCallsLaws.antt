-- Which calls the two runs of the rest tell.
use Rattle.std.proofs.Common.{◌≡◌, ◌∙◌, ℕ, ◌-◌, Bool, true, false, List, [], ◌++◌, length, Option, Some, None, refl, sym, ap, subst, arith, if◌then◌else◌}
use Rattle.std.proofs.lemmas.List.{append-nil, length-append, take_at}
use Rattle.dns_data.specs.declared.directive.Directive.{Directive}
use Rattle.dns_data.specs.declared.query.Query.{Query}
use Rattle.dns64_plugin.specs.{a_query, ptr_query, translates}
use Rattle.outside.specs.Meanings.{Meaning, Done, More, Off, Starved}
use Rattle.outside.specs.declared.mark.Mark.{Mark}
use Rattle.chain_meaning.specs.declared.decision.Decision.{Decision}
use Rattle.chain_meaning.specs.Caching.{taken}
use Rattle.chain_meaning.specs.Translating.{bound_of}
use Rattle.chain_meaning.specs.TranslatingCalls.{dns64_calls, first_calls, pointed_calls, second_calls}

pub taken_front : (m n : List Mark) → taken (m ++ n) n ≡ m
taken_front m n = take_at m n (length (m ++ n) - length n) (omega (arith, length-append m n))

if_so : {A : Type 0} (t : Bool) (x y : A) → t ≡ true → (if t then x else y) ≡ x
if_so true x y is = refl
if_so false x y is = absurd cc

module _ {C : Type 0} (calls : Query → List Mark → List C) (rest : Query → List Mark → Meaning Decision) (d : Directive) (q : Query) (both : translates d q ≡ true) where
  -- a first run took these marks, and behind it these stand
  pub both_calls : (v : Decision) (m n : List Mark) → rest q (m ++ n) ≡ Done v n → dns64_calls calls d q rest (m ++ n) ≡ calls q m ++ second_calls calls d q (bound_of v) n
  both_calls v m n is =
      if_so (translates d q) (first_calls calls d q (m ++ n) (rest q (m ++ n))) (pointed_calls calls d q (ptr_query d q) (m ++ n)) both
      ∙ ap (first_calls calls d q (m ++ n)) is ∙ ap (λ (ms : List Mark). calls q ms ++ second_calls calls d q (bound_of v) n) (taken_front m n)

  module _ (none : (p : Query) → calls p [] ≡ []) where
    second_none : (bound : Option ℕ) → second_calls calls d q bound [] ≡ []
    second_none None = refl
    second_none (Some bound) = none (a_query q)

    starved_calls : (m : List Mark) (x : Meaning Decision) → Starved x → first_calls calls d q m x ≡ calls q m
    starved_calls m (Done v left) empty =
        let all : taken m [] ≡ m = ap (λ (ms : List Mark). taken ms []) (sym (append-nil m)) ∙ taken_front m [] in
        subst (λ (ms : List Mark). calls q (taken m ms) ++ second_calls calls d q (bound_of v) ms ≡ calls q m) (sym empty)
        (ap (λ (ms : List Mark). calls q ms ++ second_calls calls d q (bound_of v) []) all ∙ ap (λ more. calls q m ++ more) (second_none (bound_of v)) ∙ append-nil (calls q m))
    starved_calls m More empty = refl
    starved_calls m Off empty = absurd empty

    -- a first run that ran out of memory
    pub failed_calls : (m : List Mark) → Starved (rest q m) → dns64_calls calls d q rest m ≡ calls q m
    failed_calls m starved =
        if_so (translates d q) (first_calls calls d q m (rest q m)) (pointed_calls calls d q (ptr_query d q) m) both ∙ starved_calls m (rest q m) starved
