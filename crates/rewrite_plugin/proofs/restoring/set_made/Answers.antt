use Rattle.std.proofs.Common.{ap}
use Rattle.dns_data.specs.{RecordData}
use Rattle.rewrite_plugin.specs.Answers.{owned_or}
use Rattle.rewrite_plugin.proofs.InPlace.{left_all}
use Rattle.rewrite_plugin.proofs.restoring.set_made.Goals as goal

pub returns-in-None : goal.returns-in-None
returns-in-None c = left_all (λ (r : RecordData). owned_or r c.args.made.now) c.args.section.now c.args.index (λ r. ap (owned_or r) c.in-None.is)
