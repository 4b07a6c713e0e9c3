-- The watch's run: the read and the publication of the first bundle, and then looks. This server's
-- own rule.
use Rattle.std.specs.Prelude.{◌≡◌, ℕ, List, [], ◌∷◌, Option, IfSome}
use Rattle.std.specs.List.{flat_map}
use Rattle.outside.specs.declared.mark.WatchMark.{WatchMark}
use Rattle.outside.specs.Causes.{RoseJust}
use Rattle.outside.specs.States.{WatchState}
use Rattle.corefile_blocks.specs.declared.bundle.Bundle.{Bundle}
use Rattle.run_meaning.specs.WatchTurn.{WatchTurn}
use Rattle.reload_watch.specs.{RoseWithin}
use Rattle.run_meaning.specs.WatchTurn.{AreLooks}
use Rattle.run_meaning.specs.WatchRun.{IsReading, TellsLooks}
use Rattle.reload_watch.specs.{all_refused}
use Rattle.run_meaning.specs.WatchTurn.{all_starved, published_by}
use Rattle.dns_server.specs.States.{RunSetup, run_terms}

-- where the watch tells its journal, that is so
abbrev pub Tells : Option WatchState → (List WatchMark → Type 0) → Type 0
Tells watch P = IfSome watch (λ w. IfSome w.journal P)

-- the looks behind a first bundle, each by what was last published, with the bundles that they
-- published, how often they met want of memory, and how many patterns the watch refused over them
pub record LooksBehind (setup : RunSetup) (first : Bundle) (others : List Bundle)
    (looks : List WatchTurn) (watch : Option WatchState) (starved : ℕ) : Type 0 where
  pub published : others ≡ flat_map published_by looks
  pub are : AreLooks setup.source (run_terms setup) (first ∷ []) looks
  pub starved_is : RoseJust (all_starved looks) 0 starved
  pub refused : IfSome watch (λ w. RoseWithin (all_refused looks) (all_starved looks) 0 w.refusals)
  pub told : Tells watch (TellsLooks setup.source (run_terms setup) first looks)

-- the watch's run, by the list of published bundles
abbrev pub WatchRun : RunSetup → List Bundle → List WatchTurn → Option WatchState → ℕ → Type 0
WatchRun setup [] looks watch starved =
    (looks ≡ []) × (starved ≡ 0) × Tells watch (IsReading setup.source)
WatchRun setup (first ∷ others) looks watch starved =
    LooksBehind setup first others looks watch starved
