-- The words of `reload`: how often the files are looked at, and how much that varies. This server's
-- own rule, in the manner of CoreDNS.
use Rattle.std.specs.Prelude.{ℕ, ◌/◌, max, min, List, [], ◌∷◌, Option, Some, None, is_some}
use Rattle.std.specs.Prelude.{unwrap_or, if◌then◌else◌}
use Rattle.std.specs.Option.{option_or}
use Rattle.numbers.specs.{duration_of}
use Rattle.plugin_api.specs.declared.fault.DirectiveWhy.{DirectiveWhy}
use Rattle.plugin_api.specs.declared.fault.DirectiveWhy.TheVariants as why
use Rattle.plain_plugins.specs.declared.reload.ReloadTimes.{ReloadTimes}

-- no duration is a fault
abbrev pub duration_why : List ℕ → Option DirectiveWhy
duration_why word = if is_some (duration_of word) then None else Some why.Number

-- the first of two durations that is none, or a third word
abbrev pub reload_why : List (List ℕ) → Option DirectiveWhy
reload_why [] = None
reload_why (interval ∷ []) = duration_why interval
reload_why (interval ∷ jitter ∷ []) = option_or (duration_why interval) (duration_why jitter)
reload_why (interval ∷ jitter ∷ word ∷ words) =
    option_or (option_or (duration_why interval) (duration_why jitter)) (Some why.Args)

-- the interval, 30 seconds where none is given, and at least 2
abbrev pub interval_of : List (List ℕ) → ℕ
interval_of [] = 30000
interval_of (word ∷ words) = max 2000 (unwrap_or (duration_of word) 30000)

-- the jitter as it is given, 15 seconds where none is, and at least 1
abbrev pub jitter_of : List (List ℕ) → ℕ
jitter_of (interval ∷ jitter ∷ words) = max 1000 (unwrap_or (duration_of jitter) 15000)
jitter_of words = 15000

-- in milliseconds; the jitter is at most half of the interval
unfoldable pub reload_times : List (List ℕ) → ReloadTimes
reload_times words =
    let interval = interval_of words in
    record { interval = interval; jitter = min (jitter_of words) (interval / 2) }
