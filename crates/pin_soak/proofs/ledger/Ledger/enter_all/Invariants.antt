use Rattle.std.proofs.Common.{vec_len}
use Rattle.pin_soak.proofs.ledger.Ledger.enter_all.Given as goal

abbrev pub decreases-loop-chain : goal.decreases-loop-chain
decreases-loop-chain l = vec_len l.home
