use Rattle.forward_plugin.proofs.rounds.+has_bit.Given as goal

abbrev pub decreases-has_bit : goal.decreases-has_bit
decreases-has_bit l = l.number
