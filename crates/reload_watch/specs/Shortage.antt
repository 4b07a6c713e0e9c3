-- What a look tells of the stock of extras: that it is short of a name exactly where it is, with
-- the stock as it is once all chains have come home that could. This server's own rule.
use Rattle.std.specs.Prelude.{◌≡◌, ℕ, ◌+◌, List, [], map, None, Result, Ok, slice_index_or}
use Rattle.dns_data.specs.declared.block.Block.{Block}
use Rattle.dns_data.specs.declared.directive.Directive.{Directive}
use Rattle.extra_stock.specs.{IsShort, first_short, in_chains, is_named, names_weigh}
use Rattle.corefile_blocks.specs.declared.bundle.Bundle.{Bundle}
use Rattle.corefile_bundle.specs.declared.fault.GatherFault.{GatherFault}
use Rattle.corefile_bundle.specs.Gathering.{Source}
use Rattle.chain_meaning.specs.{IsAccepted, Terms}
use Rattle.chain_meaning.specs.Steps.{block_extras}
use Rattle.chain_build.specs.declared.chain.Chain.{Chain}
use Rattle.chain_build.specs.{chain_extras}
use Rattle.pin_table.specs.{count_of, plan_of}
use Rattle.plugin_api.specs.declared.extra.Extra as extra
use Rattle.plugin_api.specs.declared.rulebook.Rulebook as rulebook
use Rattle.reload_watch.specs.declared.watcher.Watcher.{Watcher}
use Rattle.run_meaning.specs.declared.looking.Looking.{Looking}
use Rattle.run_meaning.specs.declared.looking.Looking.TheVariants as looking

-- what a look depends on besides what serves: what configurations are read from, how many workers
-- chains are built for, and how many extras of each name it found spare
pub record Around : Type 0 where
  pub source : Source
  pub workers : ℕ
  pub found : List ℕ → ℕ

module _ {B E : Type 0} {b : rulebook.Ghosts B} {e : extra.Ghosts E} where
  -- how many extras of a name the chains of a generation have
  abbrev pub extras_at : List (List (Chain B E b e)) → List ℕ → ℕ → ℕ
  extras_at filled name serial =
      in_chains chain_extras (is_named name) (slice_index_or filled serial [])

  -- how many extras of a name a look found spare: those that it left so, and those of the chains
  -- that it published
  abbrev pub found_in : {W : Type 0} → Watcher W B E b e → Watcher W B E b e → List ℕ → ℕ
  found_in old new name =
      names_weigh e.title (is_named name) new.stock.spare.items
      + extras_at (plan_of new.publisher).past.filled name (count_of (plan_of old.publisher))

  abbrev pub around_of : {W : Type 0} → Source → Watcher W B E b e → Watcher W B E b e → Around
  around_of source old new = record {
    source = source;
    workers = old.workers;
    found = found_in old new;
  }

-- what a look says of the stock that it found, where the bundle that was read has these directives
-- of extras: it is short of a name, the first such in the order of the text; or it was enough
abbrev pub SaysStock : ℕ → List (List Directive) → (List ℕ → ℕ) → Looking → Type 0
SaysStock workers blocks found (looking.StockShort name asked had) =
    IsShort workers blocks found name asked had
SaysStock workers blocks found (looking.Published serial) =
    first_short workers blocks found ≡ None
SaysStock workers blocks found answer = Unit {0}

-- what was read is an accepted bundle, and this holds of the directives of extras of its blocks
pub record OfExtras (terms : Terms) (gives : Result Bundle GatherFault)
    (P : List (List Directive) → Type 0) : Type 0 where
  pub bundle : Bundle
  pub got : gives ≡ Ok bundle
  pub blocks : List Block
  pub accepted : IsAccepted terms bundle blocks
  pub is : P (map block_extras blocks)

-- a look that came so far as to build chains tells by what it read whether the stock was enough
abbrev pub TellsStock : Terms → Around → Result Bundle GatherFault → Looking → Type 0
TellsStock terms around gives (looking.StockShort name asked had) = OfExtras terms gives
    (λ blocks. SaysStock around.workers blocks around.found (looking.StockShort name asked had))
TellsStock terms around gives (looking.Published serial) = OfExtras terms gives
    (λ blocks. SaysStock around.workers blocks around.found (looking.Published serial))
TellsStock terms around gives answer = Unit {0}
