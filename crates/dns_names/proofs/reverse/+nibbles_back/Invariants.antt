use Rattle.dns_names.proofs.reverse.+nibbles_back.Given as goal

abbrev pub decreases-nibbles_back : goal.decreases-nibbles_back
decreases-nibbles_back l = l.count
