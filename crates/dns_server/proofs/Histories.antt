-- A run that published nothing has no cache.
use Rattle.std.proofs.Common.{◌≡◌, ◌<◌, ◌∙◌, ℕ, ◌-◌, nat_lt, cond, Bool, false, List, [], ◌∷◌, length, Option, Some, None, slice_get, refl, ap, arith}
use Rattle.std.proofs.lemmas.Option.{none-some}
use Rattle.block_readings.specs.Readings.{BlockReading}
use Rattle.chain_build.specs.History.{has_cache}
use Rattle.chain_meaning.specs.{Terms}
use Rattle.one_history.specs.Runs.{CacheRun, IsRun, block_at}
use Rattle.reload_watch.specs.Histories.{HaveOneHistory}

-- no cache where nothing was published
no_run : (run : CacheRun BlockReading) → IsRun has_cache [] run → ⊥
no_run run is = by run.blocks refl is.some
  where
    by : (blocks : List ℕ) → run.blocks ≡ blocks → 0 < length blocks → ⊥
    by [] e some = absurd (omega (arith, some))
    by (b ∷ blocks) e some =
        let zeroth : run.first - run.first ≡ 0 = omega arith in
        let low : nat_lt run.first run.first ≡ false = grind arith in
        let at : block_at run run.first ≡ Some b =
        ap (λ (t : Bool). cond {A = Option ℕ} t None (slice_get run.blocks (run.first - run.first))) low
        ∙ ap (λ (n : ℕ). slice_get run.blocks n) zeroth
        ∙ ap (λ (l : List ℕ). slice_get l 0) e in
        none-some run.reads (is.each run.first b at)

pub no_history : (terms : Terms) → HaveOneHistory terms [] []
no_history terms = record { readings = []; read = tt; one = λ run is shard low. absurd (no_run run is) }
