use Rattle.std.proofs.Common.{◌≡◌, drop}
use Rattle.std.specs.List.{list_any}
use Rattle.file_plugin.specs.Reading.{has_zone}
use Rattle.file_plugin.proofs.reading.one_has.Given as goal

abbrev pub invariant-loop-plan : goal.invariant-loop-plan
invariant-loop-plan l = list_any (has_zone l.origin) (drop l.plan-index l.before) ≡ list_any (has_zone l.origin) l.before
