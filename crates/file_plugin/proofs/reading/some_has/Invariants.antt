use Rattle.std.proofs.Common.{◌≡◌, drop}
use Rattle.file_plugin.specs.Reading.{some_has}
use Rattle.file_plugin.proofs.reading.some_has.Given as goal

abbrev pub invariant-loop-origin : goal.invariant-loop-origin
invariant-loop-origin l = some_has l.before (drop l.origin-index l.origins) ≡ some_has l.before l.origins
