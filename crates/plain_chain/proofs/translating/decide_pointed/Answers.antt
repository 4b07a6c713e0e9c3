use Rattle.plain_chain.proofs.translating.decide_pointed.Goals as goal
