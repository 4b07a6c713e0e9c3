use Rattle.plain_chain.proofs.caching.found.Goals as goal
