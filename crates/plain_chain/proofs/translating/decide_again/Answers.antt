use Rattle.plain_chain.proofs.translating.decide_again.Goals as goal
