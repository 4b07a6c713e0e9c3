-- How many parts uses have of what workers share while chains are built.
use Rattle.std.proofs.Common.{◌≡◌, ◌<◌, ◌+◌, ◌-◌, ℕ, List, ◌∷◌, sym, subst, arith}
use Rattle.std.specs.List.{All}
use Rattle.std.proofs.lemmas.List.Elements.{All-head, All-tail, All-weaker}
use Rattle.forward_plugin.specs.PoolParts as pool
use Rattle.forward_plugin.specs.declared.pool_use.PoolUse.{PoolUse}
use Rattle.chain_build.specs.Shares.{HaveMore, HaveParts}

-- those with two or more have one to give
pools_left : (n : ℕ) (pools : List PoolUse) → 1 < n → HaveParts n pools → HaveMore pools
pools_left n pools many parts = All-weaker (pool.HasParts n) pool.HasMore (λ p is. subst (λ (k : ℕ). 1 < k) (sym is) many) pools parts

pub more_left : (n : ℕ) (blocks : List (List PoolUse)) → 1 < n → All (HaveParts n) blocks → All HaveMore blocks
more_left n blocks many parts = All-weaker (HaveParts n) HaveMore (λ pools. pools_left n pools many) blocks parts

-- and behind one more worker one less
pub one_less : (n : ℕ) (workers worker : ℕ) (blocks : List (List PoolUse)) → n ≡ workers + 1 - worker → All (HaveParts (n - 1)) blocks → All (HaveParts (workers + 1 - (worker + 1))) blocks
one_less n workers worker blocks is parts =
    let fewer : n - 1 ≡ workers + 1 - (worker + 1) = omega (arith, is) in
    subst (λ (k : ℕ). All (HaveParts k) blocks) fewer parts

-- a list whose first element was taken off
module _ {A : Type 0} (P : A → Type 0) (xs : List A) (x : A) (rest : List A) (is : xs ≡ x ∷ rest) (all : All P xs) where
  pub first_of : P x
  first_of = All-head P x rest (subst (All P) is all)

  pub rest_of : All P rest
  rest_of = All-tail P x rest (subst (All P) is all)
