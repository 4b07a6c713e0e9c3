use Rattle.plain_marks.proofs.asking.+judge.Given as goal

abbrev pub decreases-judge : goal.decreases-judge
decreases-judge l = l.most
