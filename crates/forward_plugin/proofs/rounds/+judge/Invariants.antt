use Rattle.forward_plugin.proofs.rounds.+judge.Given as goal

abbrev pub decreases-judge : goal.decreases-judge
decreases-judge g l = l.most
