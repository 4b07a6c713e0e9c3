-- A side's journal has one place at which it fails.
use Rattle.std.proofs.Common.{◌≡◌, ◌<◌, ℕ, Bool, true, false, List, [], ◌∷◌, ◌++◌, length, refl}
use Rattle.std.proofs.Common.{sym, ap, subst, ◌∙◌, inl, inr, arith, append_assoc}
use Rattle.std.specs.Prelude.{nat_lt, Result, Ok, Err}
use Rattle.outside.specs.declared.mark.Mark.{Mark}
use Rattle.run_meaning.specs.declared.work_end.WorkEnd.{WorkEnd}
use Rattle.audit_run.specs.declared.walk.SideFault.{SideFault}
use Rattle.audit_run.specs.declared.walk.SideFault.TheVariants as fault
use Rattle.audit_run.specs.declared.walk.Walk.{Walk}
use Rattle.audit_run.specs.Walking.{JudgesSide, NoneEnds, TellsPlace, start}
use Rattle.audit_run.specs.Walks.{EndsEarly, FailsAt, IsBad, MayEnd, Meanings}

-- a longer front begins with a shorter one and the mark behind it
record IsWithin (xs : List Mark) (y : Mark) (zs : List Mark) : Type 0 where
  more : List Mark
  is : (other : List Mark) → zs ++ other ≡ xs ++ y ∷ (more ++ other)

head_same : (a b : Mark) (xs ys : List Mark) → a ∷ xs ≡ b ∷ ys → a ≡ b
head_same a b xs ys e = cc

rest_same : (a b : Mark) (xs ys : List Mark) → a ∷ xs ≡ b ∷ ys → xs ≡ ys
rest_same a b xs ys e = cc

within : (xs ys zs ws : List Mark) (y w : Mark) → xs ++ y ∷ ys ≡ zs ++ w ∷ ws
    → length xs < length zs → IsWithin xs y zs
within xs ys [] ws y w e low = absurd (omega (arith, low))
within [] ys (z ∷ zs) ws y w e low = record {
  more = zs;
  is = λ other. ap (λ m. m ∷ (zs ++ other)) (sym (head_same y z ys (zs ++ w ∷ ws) e));
}
within (x ∷ xs) ys (z ∷ zs) ws y w e low =
    let rest = within xs ys zs ws y w (rest_same x z (xs ++ y ∷ ys) (zs ++ w ∷ ws) e)
    (omega (arith, low)) in
    record {
      more = rest.more;
      is = λ other. ap (λ m. m ∷ (zs ++ other))
          (sym (head_same x z (xs ++ y ∷ ys) (zs ++ w ∷ ws) e))
          ∙ ap (λ l. x ∷ l) (rest.is other);
    }

module _ (serves : Meanings) (most : ℕ) (end : WorkEnd) (w : Walk) (marks : List Mark) where
  abbrev Bad : ℕ → Type 0
  Bad at = IsBad serves most end w marks at

  abbrev Early : ℕ → Type 0
  Early at = EndsEarly serves most end w marks at

  none_before : (a b : ℕ) → Bad a → Bad b → a < b → ⊥
  none_before a b p q low =
      let first = p.number in
      let second = q.number in
      let in_it = within p.front p.rest q.front q.rest p.bad q.bad (sym p.is ∙ q.is)
      (omega (arith, first, second, low)) in
      p.never (in_it.more ++ q.other)
      (subst (λ l. MayEnd serves most end w l) (in_it.is q.other) q.may)

  none_early : (a b : ℕ) → Bad a → Early b → ⊥
  none_early a b p q = p.never (p.rest ++ q.more)
      (subst (λ l. MayEnd serves most end w l)
      (ap (λ l. l ++ q.more) p.is ∙ append_assoc p.front (p.bad ∷ p.rest) q.more) q.may)

  both_bad : (a b : ℕ) → Bad a → Bad b → a ≡ b
  both_bad a b p q = by (nat_lt a b) refl (nat_lt b a) refl
    where
      by : (x : Bool) → nat_lt a b ≡ x → (y : Bool) → nat_lt b a ≡ y → a ≡ b
      by true e y f = absurd (none_before a b p q (grind (arith, e)))
      by false e true f = absurd (none_before b a q p (grind (arith, f)))
      by false e false f = grind (arith, e, f)

  pub one_place : (a b : ℕ) → FailsAt serves most end w marks a
      → FailsAt serves most end w marks b → a ≡ b
  one_place a b (inl p) (inl q) = both_bad a b p q
  one_place a b (inl p) (inr q) = absurd (none_early a b p q)
  one_place a b (inr p) (inl q) = absurd (none_early b a q p)
  one_place a b (inr p) (inr q) = sym p.number ∙ q.number

  -- where no worker ends so at all no place is one
  none_fails : (a b : ℕ) → NoneEnds serves most end a → FailsAt serves most end start marks b → ⊥
  none_fails a b none (inl p) = none.never (p.front ++ p.other) p.may
  none_fails a b none (inr p) = none.never (marks ++ p.more) p.may

-- a judgement tells the one place
pub tells_place : (serves : Meanings) (most : ℕ) (end : WorkEnd) (marks : List Mark)
    (result : Result (Unit {0}) SideFault) → JudgesSide serves most end marks result
    → TellsPlace serves most end marks result
tells_place serves most end marks (Ok done) h = tt
tells_place serves most end marks (Err (fault.Mark at)) (inl h) =
    λ other p. one_place serves most end start marks other at p h
tells_place serves most end marks (Err (fault.Mark at)) (inr none) =
    λ other p. absurd (none_fails serves most end start marks at other none p)
tells_place serves most end marks (Err fault.NoMemory) h = tt
