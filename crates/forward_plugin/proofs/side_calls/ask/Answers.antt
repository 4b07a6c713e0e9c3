use Rattle.forward_plugin.proofs.Judging.{asked}
use Rattle.forward_plugin.proofs.side_calls.ask.Goals as goal

pub returns : goal.returns
returns g c = asked _ _ _ _ _ c.ask-outcome.ensures.told c.ask-outcome.ensures.counts c.keep_ask.ensures
