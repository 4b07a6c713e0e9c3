use Rattle.forward_plugin.proofs.Judging.{looked}
use Rattle.forward_plugin.proofs.side_calls.more.Goals as goal

pub returns : goal.returns
returns g c = looked _ _ c.more-outcome.ensures.told c.more-outcome.ensures.counts c.keep_more.ensures
