-- One turn of the watch, as a value: a look for a changed configuration, and the marks by which the
-- watch tells it. This server's own rule.
use Rattle.std.specs.Prelude.{◌≡◌, ℕ, ◌+◌, Bool, true, List, [], ◌∷◌, ◌++◌, length}
use Rattle.std.specs.Prelude.{Result, Ok, Err}
use Rattle.std.specs.List.{flat_map}
use Rattle.dns_data.specs.declared.block.Block.{Block}
use Rattle.outside.specs.declared.mark.WatchMark.{WatchMark}
use Rattle.outside.specs.declared.mark.WatchMark.TheVariants.{Look}
use Rattle.corefile_blocks.specs.declared.bundle.Bundle.{Bundle}
use Rattle.corefile_bundle.specs.declared.fault.GatherFault.{GatherFault}
use Rattle.corefile_bundle.specs.{GathersFrom, OneRead, Source, marks_of}
use Rattle.chain_meaning.specs.{IsAccepted, Terms}
use Rattle.plain_plugins.specs.declared.reload.ReloadTimes.{ReloadTimes}
use Rattle.run_meaning.specs.declared.looking.Looking.{Looking}
use Rattle.run_meaning.specs.declared.looking.Looking.TheVariants as looking
use Rattle.run_meaning.specs.Answers.{AnswersLook, look_marks}
use Rattle.run_meaning.specs.Reloads.{reloads, times_of}

-- a look, with the times by which it was waited for, its reads and what they came to, its answer,
-- and whether its note went out; or a look that met want of memory, with its times, the reads
-- before that, and what they came to
pub data WatchTurn : Type 0 where
  looked : ReloadTimes → List OneRead → Result Bundle GatherFault → Looking → Bool → WatchTurn
  starved : ReloadTimes → List OneRead → Result Bundle GatherFault → WatchTurn

-- the marks of a turn of the watch
abbrev pub watch_marks : WatchTurn → List WatchMark
watch_marks (looked times reads gives answer flag) =
    Look times.interval times.jitter ∷ look_marks reads answer flag
watch_marks (starved times reads gives) = Look times.interval times.jitter ∷ marks_of reads

-- the bundle that a gathering gave
abbrev pub gathered : Result Bundle GatherFault → List Bundle
gathered (Ok bundle) = bundle ∷ []
gathered (Err fault) = []

abbrev pub published_as : Result Bundle GatherFault → Looking → List Bundle
published_as gives (looking.Published serial) = gathered gives
published_as gives other = []

-- the bundle that a turn published, where it published one
abbrev pub published_by : WatchTurn → List Bundle
published_by (looked times reads gives answer flag) = published_as gives answer
published_by (starved times reads gives) = []

-- the bundles that were published: the first, and those that the turns published
abbrev pub bundles_of : Bundle → List WatchTurn → List Bundle
bundles_of first looks = first ∷ flat_map published_by looks

-- 1 for a turn that met want of memory
abbrev pub look_starved : WatchTurn → ℕ
look_starved (looked times reads gives answer flag) = 0
look_starved (starved times reads gives) = 1

-- how many of the turns met want of memory
abbrev pub all_starved : List WatchTurn → ℕ
all_starved [] = 0
all_starved (turn ∷ turns) = look_starved turn + all_starved turns

-- the last bundle that was published is accepted, has these blocks, and is to be looked at again,
-- at the times of its own
pub record IsLooked (terms : Terms) (bundles : List Bundle) (times : ReloadTimes)
    (P : Bundle → List Block → Type 0) : Type 0 where
  pub before : List Bundle
  pub last : Bundle
  pub last_is : bundles ≡ before ++ last ∷ []
  pub blocks : List Block
  pub accepted : IsAccepted terms last blocks
  pub again : reloads blocks ≡ true
  pub at : times ≡ times_of blocks
  pub is : P last blocks

-- the turn came to what a look behind these published bundles comes to
abbrev pub IsLook : Source → Terms → List Bundle → WatchTurn → Type 0
IsLook source terms bundles (looked times reads gives answer flag) =
    GathersFrom source reads gives × IsLooked terms bundles times (λ last blocks. AnswersLook
    (record {
      terms = terms;
      bundle = last;
      blocks = blocks;
      published = length bundles;
    }) gives answer)
IsLook source terms bundles (starved times reads gives) =
    GathersFrom source reads gives
    × IsLooked terms bundles times (λ last blocks. Unit {0})

-- turns one after another, behind these published bundles
abbrev pub AreLooks : Source → Terms → List Bundle → List WatchTurn → Type 0
AreLooks source terms bundles [] = Unit {0}
AreLooks source terms bundles (turn ∷ turns) =
    IsLook source terms bundles turn
    × AreLooks source terms (bundles ++ published_by turn) turns
