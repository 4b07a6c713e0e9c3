use Rattle.std.proofs.Common.{◌≡◌, length}
use Rattle.dns_data.specs.Message.{no_answer}
use Rattle.template_plugin.specs.Template.{template_say}
use Rattle.template_plugin.proofs.say.decide.Given as goal

abbrev pub invariant-loop-plan : goal.invariant-loop-plan
invariant-loop-plan l = (template_say l.rest l.query ≡ template_say l.plans l.query) × (l.slot ≡ no_answer)

abbrev pub decreases-loop-plan : goal.decreases-loop-plan
decreases-loop-plan l = length l.rest
