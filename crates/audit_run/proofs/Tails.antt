-- How a turn ends.
use Rattle.std.proofs.Common.{◌≡◌, ℕ, Bool, List, [], ◌∷◌, ◌++◌, length, Option, Some, None, refl}
use Rattle.std.proofs.Common.{sym, ap, ◌∙◌, inl, inr, subst}
use Rattle.std.specs.Prelude.{◌⊎◌}
use Rattle.outside.specs.declared.mark.Mark.{Mark}
use Rattle.outside.specs.declared.mark.Mark.TheVariants.{Sent, Unpinned}
use Rattle.audit_run.specs.declared.walk.Tail.{Tail}
use Rattle.audit_run.specs.declared.walk.Tail.TheVariants as tail
use Rattle.audit_run.specs.Walking.{EndsSent, EndsTurn, TailEndsEarly, TailIsBad, TurnTail}

pub first_of : (a b : Mark) (xs ys : List Mark) → a ∷ xs ≡ b ∷ ys → a ≡ b
first_of a b xs ys e = cc

pub rest_of : (a b : Mark) (xs ys : List Mark) → a ∷ xs ≡ b ∷ ys → xs ≡ ys
rest_of a b xs ys e = cc

pub nothing_more : (a : Mark) (xs : List Mark) → [] ≡ a ∷ xs → ⊥
nothing_more a xs e = cc

sent_apart : (reply : List ℕ) (out : Bool) (serial : ℕ) → Sent reply out ≡ Unpinned serial → ⊥
sent_apart reply out serial e = cc

-- where memory ran out the turn ends at once
unpins : (reply : Option (List ℕ)) (serial : ℕ) (more : List Mark)
    → TurnTail reply serial (Unpinned serial ∷ more) more
unpins None serial more = refl
unpins (Some reply) serial more = inr refl

-- no mark is left
pub none_early : (reply : Option (List ℕ)) (serial : ℕ) → EndsTurn reply serial [] (tail.Fails 0)
none_early reply serial = inr (record {
  number = refl;
  never = λ more t. never reply more t;
  other = Unpinned serial ∷ [];
  may = λ more. unpins reply serial more;
})
  where
    never : (r : Option (List ℕ)) (more : List Mark) → TurnTail r serial [] more → ⊥
    never None more t = nothing_more (Unpinned serial) more t
    never (Some bytes) more (inl t) = nothing_more (Sent bytes t.0) (Unpinned serial ∷ more) t.1
    never (Some bytes) more (inr t) = nothing_more (Unpinned serial) more t

module _ (serial : ℕ) (first : Mark) (rest : List Mark) where
  -- the first mark may not stand there
  bad_at_first : (reply : Option (List ℕ))
      → ((other more : List Mark) → TurnTail reply serial (first ∷ other) more → ⊥)
      → EndsTurn reply serial (first ∷ rest) (tail.Fails 0)
  bad_at_first reply never = inl (record {
    front = [];
    bad = first;
    rest = rest;
    is = refl;
    number = refl;
    never = never;
    other = Unpinned serial ∷ [];
    may = λ more. unpins reply serial more;
  })

  pub no_reply_bad : (first ≡ Unpinned serial → ⊥)
      → EndsTurn None serial (first ∷ rest) (tail.Fails 0)
  no_reply_bad no_unpin = bad_at_first None
      (λ other more t. no_unpin (first_of first (Unpinned serial) other more t))

  pub reply_bad : (reply : List ℕ) → (first ≡ Unpinned serial → ⊥)
      → ((out : Bool) × (first ≡ Sent reply out) → ⊥)
      → EndsTurn (Some reply) serial (first ∷ rest) (tail.Fails 0)
  reply_bad reply no_unpin no_sent = bad_at_first (Some reply) (λ other more t. by other more t)
    where
      by : (other more : List Mark) → TurnTail (Some reply) serial (first ∷ other) more → ⊥
      by other more (inl t) =
          no_sent (t.0, first_of first (Sent reply t.0) other (Unpinned serial ∷ more) t.1)
      by other more (inr t) = no_unpin (first_of first (Unpinned serial) other more t)

  -- behind the mark of the reply
  pub sent_ends : (reply : List ℕ) (out : Bool) → first ≡ Sent reply out → (t : Tail)
      → EndsSent serial rest t → EndsTurn (Some reply) serial (first ∷ rest) t
  sent_ends reply out is (tail.Ends more) h =
      inl (out, ap (λ m. m ∷ rest) is ∙ ap (λ l. Sent reply out ∷ l) h)
  sent_ends reply out is (tail.Fails at) h = by rest refl
    where
      no_unpin : first ≡ Unpinned serial → ⊥
      no_unpin e = sent_apart reply out serial (sym is ∙ e)

      early : (more : List Mark) → TurnTail (Some reply) serial (first ∷ []) more → ⊥
      early more (inl t) = nothing_more (Unpinned serial) more
          (rest_of first (Sent reply t.0) [] (Unpinned serial ∷ more) t.1)
      early more (inr t) = no_unpin (first_of first (Unpinned serial) [] more t)

      sends : (more : List Mark)
          → TurnTail (Some reply) serial (first ∷ Unpinned serial ∷ more) more
      sends more = inl (out, ap (λ m. m ∷ Unpinned serial ∷ more) is)

      bad_second : (bad : Mark) → (bad ≡ Unpinned serial → ⊥) → (other more : List Mark)
          → TurnTail (Some reply) serial (first ∷ bad ∷ other) more → ⊥
      bad_second bad no_second other more (inl t) =
          no_second (first_of bad (Unpinned serial) other more
          (rest_of first (Sent reply t.0) (bad ∷ other) (Unpinned serial ∷ more) t.1))
      bad_second bad no_second other more (inr t) =
          no_unpin (first_of first (Unpinned serial) (bad ∷ other) more t)

      by : (l : List Mark) → rest ≡ l → TailIsBad (Some reply) serial (first ∷ rest) at
          ⊎ TailEndsEarly (Some reply) serial (first ∷ rest) at
      by [] e = inr (record {
        number = ap (λ l. length (first ∷ l)) e ∙ sym h.0;
        never = λ more t. early more
            (subst (λ l. TurnTail (Some reply) serial (first ∷ l) more) e t);
        other = Unpinned serial ∷ [];
        may = λ more. subst (λ l. TurnTail (Some reply) serial
            (first ∷ (l ++ Unpinned serial ∷ more)) more) (sym e) (sends more);
      })
      by (bad ∷ left) e = inl (record {
        front = first ∷ [];
        bad = bad;
        rest = left;
        is = ap (λ l. first ∷ l) e;
        number = sym h.0;
        never = bad_second bad (h.1 bad left e);
        other = Unpinned serial ∷ [];
        may = sends;
      })
