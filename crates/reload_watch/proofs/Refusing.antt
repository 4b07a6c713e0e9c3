-- Within which bounds the refusals of patterns rose.
use Rattle.std.proofs.Common.{◌≡◌, ◌+◌, ◌⊎◌, ℕ, Bool, true, false, List, [], ◌∷◌, ◌++◌, inl, inr, arith}
use Rattle.std.specs.Prelude.{if◌then◌else◌}
use Rattle.outside.specs.Causes.{raised}
use Rattle.chain_meaning.specs.declared.refusal.Refusal.{Refusal}
use Rattle.chain_build.specs.{is_of_pattern}
use Rattle.reload_watch.specs.Going.{RoseWithin, pattern_refused, refusals_by}
use Rattle.reload_watch.specs.WatchTurn.{all_refused, look_refused}
use Rattle.run_meaning.specs.WatchTurn.{WatchTurn}

-- a count that stays, and one that a refusal or none at all raised
pub stays_within : (more n m : ℕ) → m ≡ n → RoseWithin 0 more n m
stays_within more n m same = record { least = omega (arith, same); most = omega (arith, same) }

of_pattern_within : (of_pattern : Bool) (n m : ℕ) → m ≡ (if of_pattern then raised n else n) → RoseWithin (if of_pattern then 1 else 0) 0 n m
of_pattern_within true n m is = record { least = omega (arith, is); most = omega (arith, is) }
of_pattern_within false n m is = stays_within 0 n m is

pub refused_within : (why : Refusal) (n m : ℕ) → m ≡ refusals_by why n → RoseWithin (pattern_refused why) 0 n m
refused_within why n m is = of_pattern_within (is_of_pattern why) n m is

pub starved_within : (n m : ℕ) → (m ≡ n) ⊎ (m ≡ raised n) → RoseWithin 0 1 n m
starved_within n m either = elim either [
  | inl same ↦ stays_within 1 n m same
  | inr rose ↦ record { least = omega (arith, rose); most = omega (arith, rose) }
]

pub all_refused-push : (looks : List WatchTurn) (look : WatchTurn) → all_refused (looks ++ look ∷ []) ≡ all_refused looks + look_refused look
all_refused-push [] look = omega arith
all_refused-push (l ∷ looks) look = omega (arith, all_refused-push looks look)
