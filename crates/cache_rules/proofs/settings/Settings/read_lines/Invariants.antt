use Rattle.std.proofs.Common.{◌≡◌, drop}
use Rattle.cache_rules.specs.Settings.{settings_by}
use Rattle.cache_rules.proofs.settings.Settings.read_lines.Given as goal

abbrev pub invariant-loop-line : goal.invariant-loop-line
invariant-loop-line l = settings_by l.self (drop l.line-index l.lines) ≡ settings_by l.fn.self l.lines
