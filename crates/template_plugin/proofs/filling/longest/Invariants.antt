use Rattle.std.proofs.Common.{◌≡◌, length}
use Rattle.template_plugin.specs.Template.{longest_by}
use Rattle.template_plugin.proofs.filling.longest.Given as goal

abbrev pub invariant-loop-zone : goal.invariant-loop-zone
invariant-loop-zone l = longest_by l.name l.longest l.rest ≡ longest_by l.name l.first l.zones

abbrev pub decreases-loop-zone : goal.decreases-loop-zone
decreases-loop-zone l = length l.rest
