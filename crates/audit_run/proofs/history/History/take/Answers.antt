use Rattle.std.proofs.Common.{subst}
use Rattle.audit_run.specs.Histories.{Shows}
use Rattle.audit_run.proofs.Histories.{pool_takes, shard_takes}
use Rattle.audit_run.proofs.history.History.take.Goals as goal

pub returns-in-Pool : goal.returns-in-Pool
returns-in-Pool c = λ rule marks shows.
    pool_takes marks c.args.mark.now c.take_of_pool.result rule c.in-Pool.pool
    c.take_of_pool.new.pool (subst (λ h. Shows rule marks h) c.in-Pool.is shows)
    c.take_of_pool.ensures

pub returns-in_ok-taken-in-Shard : goal.returns-in_ok-taken-in-Shard
returns-in_ok-taken-in-Shard c = λ rule marks shows.
    shard_takes marks c.args.mark.now c.in_ok-taken-in-Shard.taken rule c.in-Shard.shard
    c.take_of_shard.new.shard (subst (λ h. Shows rule marks h) c.in-Shard.is shows)
    c.in_ok-taken-in-Shard.ensures
