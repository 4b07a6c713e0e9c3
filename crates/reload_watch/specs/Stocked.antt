-- Where the extras of a run are: spare, or in the chains that stand in a table. This server's own
-- rule.
use Rattle.std.specs.Prelude.{◌≡◌, ◌≤◌, ℕ, ◌+◌, List}
use Rattle.extra_stock.specs.{asked_by, names_weigh, seats_in}
use Rattle.pin_table.specs.declared.views.Plan.{Plan}
use Rattle.pin_table.specs.{plan_of, standing}
use Rattle.plugin_api.specs.declared.extra.Extra as extra
use Rattle.plugin_api.specs.declared.rulebook.Rulebook as rulebook
use Rattle.chain_build.specs.declared.chain.Chain.{Chain}
use Rattle.chain_build.specs.{chain_extras}
use Rattle.reload_watch.specs.declared.watcher.Watcher.{Watcher}

module _ {B E : Type 0} {b : rulebook.Ghosts B} {e : extra.Ghosts E} where
  -- how much the names of a chain's extras weigh, and how many extras it has
  abbrev pub chain_weighs : (List ℕ → ℕ) → Chain B E b e → ℕ
  chain_weighs weight chain = asked_by weight (chain_extras chain)

  abbrev pub chain_seats : Chain B E b e → ℕ
  chain_seats chain = seats_in (chain_extras chain)

  -- how much the names of the extras weigh that stand in chains, and how many these are
  abbrev pub out_weighs : (List ℕ → ℕ) → Plan (Chain B E b e) → ℕ
  out_weighs weight plan = standing (chain_weighs weight) plan

  abbrev pub seats_out : Plan (Chain B E b e) → ℕ
  seats_out plan = standing chain_seats plan

  -- behind so many spares there are places for the extras that stand in chains
  abbrev pub HasPlaces : ℕ → ℕ → Plan (Chain B E b e) → Type 0
  HasPlaces spares capacity plan = spares + seats_out plan ≤ capacity

  -- how much the names of all extras but the judges weigh
  abbrev pub all_weigh : {W : Type 0} → (List ℕ → ℕ) → Watcher W B E b e → ℕ
  all_weigh weight watcher = names_weigh e.title weight watcher.stock.spare.items
      + out_weighs weight (plan_of watcher.publisher)

  -- the judges stay, and all other extras are spare or in chains as before, by their names
  pub record KeepsStock {W : Type 0} (old new : Watcher W B E b e) : Type 0 where
    pub judges : new.stock.judges ≡ old.stock.judges
    pub weighs : (weight : List ℕ → ℕ) → all_weigh weight new ≡ all_weigh weight old
