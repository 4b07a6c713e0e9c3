-- What a worker counts beside its journal, and how it stands.
use Rattle.std.proofs.Common.{◌≡◌, ◌≤◌, ◌<◌, ℕ, ◌+◌, ◌-◌, ◌*◌, ◌^◌, min, true, false, Option, Some, None, refl, ap, arith}
use Rattle.outside.specs.Causes.{Rose}
use Rattle.query_worker.specs.declared.turn.Turned.{Turned}
use Rattle.query_worker.specs.declared.turn.Turned.TheVariants as turned
use Rattle.query_worker.specs.declared.worker.Tally.{Tally}
use Rattle.run_meaning.specs.declared.work_end.WorkEnd.{WorkEnd}
use Rattle.run_meaning.specs.declared.work_end.WorkEnd.TheVariants as ends
use Rattle.query_worker.specs.Tally.{TurnEnds, IsIdle, tallied}

-- what a worker counted, beside how often its side's `recv` failed
pub record IsTallied (first now : ℕ) (t : Tally) : Type 0 where
  pub since : first ≤ now
  pub starved : t.starved ≤ 65 * t.pins + t.failures
  pub rose : t.has_starved ≡ false → min (first + t.failures) (2 ^ 64 - 1) ≤ now
  pub has_starved : t.has_starved ≡ true → 0 < t.starved

-- how a worker stands: it goes on below its bounds, or has ended at them
abbrev pub StandsAt : ℕ → Tally → Option WorkEnd → Type 0
StandsAt most t None = (t.pins < most) × (t.failures < 64)
StandsAt most t (Some ends.End) = Unit {0}
StandsAt most t (Some ends.RecvFailed) = (t.failures ≡ 64) × (t.has_starved ≡ false)
StandsAt most t (Some ends.NoMemory) = t.has_starved ≡ true

-- behind a turn
pub tallied_by : (what : Turned) (first now next : ℕ) (t : Tally) → IsTallied first now t → t.failures < 64 → now ≤ next → (what ≡ turned.RecvFailed → Rose now next) → IsTallied first next (tallied what t)
tallied_by (turned.Answered s) first now next t is few later rose =
    record { since = omega (arith, is.since, later); starved = omega (arith, is.starved, few); rose = λ e. omega (arith, is.since, later); has_starved = λ e. absurd cc }
tallied_by (turned.Starved s) first now next t is few later rose =
    record { since = omega (arith, is.since, later); starved = omega (arith, is.starved, few); rose = λ e. omega (arith, is.since, later); has_starved = λ e. absurd cc }
tallied_by turned.RecvFailed first now next t is few later rose = record {
  since = omega (arith, is.since, later);
  starved = omega (arith, is.starved);
  rose = λ e. let r = rose refl in let was = is.rose e in omega (arith, r, was);
  has_starved = is.has_starved;
}
tallied_by turned.RecvStarved first now next t is few later rose =
    record { since = omega (arith, is.since, later); starved = omega (arith, is.starved); rose = λ e. absurd cc; has_starved = λ e. omega arith }
tallied_by turned.RecvEnd first now next t is few later rose =
    record { since = omega (arith, is.since, later); starved = is.starved; rose = λ e. let was = is.rose e in omega (arith, was, later); has_starved = is.has_starved }

pub stands_by : (what : Turned) (most : ℕ) (t : Tally) (result : Option WorkEnd) → t.pins < most → TurnEnds most what (tallied what t) result → StandsAt most (tallied what t) result
stands_by (turned.Answered s) most t None more ends = (ends, omega arith)
stands_by (turned.Answered s) most t (Some ends.End) more ends = tt
stands_by (turned.Answered s) most t (Some ends.RecvFailed) more ends = absurd ends
stands_by (turned.Answered s) most t (Some ends.NoMemory) more ends = absurd ends
stands_by (turned.Starved s) most t None more ends = (ends, omega arith)
stands_by (turned.Starved s) most t (Some ends.End) more ends = tt
stands_by (turned.Starved s) most t (Some ends.RecvFailed) more ends = absurd ends
stands_by (turned.Starved s) most t (Some ends.NoMemory) more ends = absurd ends
stands_by turned.RecvFailed most t None more ends = (more, ends)
stands_by turned.RecvFailed most t (Some ends.End) more ends = tt
stands_by turned.RecvFailed most t (Some ends.RecvFailed) more ends = ends
stands_by turned.RecvFailed most t (Some ends.NoMemory) more ends = ends.1
stands_by turned.RecvStarved most t None more ends = (more, ends)
stands_by turned.RecvStarved most t (Some ends.End) more ends = tt
stands_by turned.RecvStarved most t (Some ends.RecvFailed) more ends = ends
stands_by turned.RecvStarved most t (Some ends.NoMemory) more ends = refl
stands_by turned.RecvEnd most t None more ends = absurd cc
stands_by turned.RecvEnd most t (Some ends.End) more ends = tt
stands_by turned.RecvEnd most t (Some ends.RecvFailed) more ends = absurd cc
stands_by turned.RecvEnd most t (Some ends.NoMemory) more ends = absurd cc

-- before the first turn
pub tallied_first : (count most : ℕ) (t : Tally) → IsIdle t → 0 < most → IsTallied count count t × StandsAt most t None
tallied_first count most t idle some =
    let pins = ap (λ (x : Tally). x.pins) idle in
    let starved = ap (λ (x : Tally). x.starved) idle in
    let failures = ap (λ (x : Tally). x.failures) idle in
    let has_starved = ap (λ (x : Tally). x.has_starved) idle in
    (record { since = omega arith; starved = omega (arith, starved); rose = λ e. omega (arith, failures); has_starved = λ e. absurd cc }, (omega (arith, pins, some), omega (arith, failures)))

-- a worker that ended by failing calls has counted 64 of them
pub failed_at : (most first now : ℕ) (t : Tally) (end : WorkEnd) → IsTallied first now t → StandsAt most t (Some end) → end ≡ ends.RecvFailed → min (first + 64) (2 ^ 64 - 1) ≤ now
failed_at most first now t ends.End is stands e = absurd cc
failed_at most first now t ends.NoMemory is stands e = absurd cc
failed_at most first now t ends.RecvFailed is stands e = let rose = is.rose stands.1 in let all = stands.0 in omega (arith, rose, all)

-- one that ended by want of memory has met it
pub starved_at : (most first now : ℕ) (t : Tally) (end : WorkEnd) → IsTallied first now t → StandsAt most t (Some end) → end ≡ ends.NoMemory → 0 < t.starved
starved_at most first now t ends.End is stands e = absurd cc
starved_at most first now t ends.RecvFailed is stands e = absurd cc
starved_at most first now t ends.NoMemory is stands e = is.has_starved stands
