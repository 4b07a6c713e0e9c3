use Rattle.corefile_blocks.proofs.KeyLemmas.{port_start}
use Rattle.corefile_blocks.proofs.keys.port_at.Goals as goal

pub loop-at-init : goal.loop-at-init
loop-at-init c = record { says = port_start c.args.text.now; inside = tt }
