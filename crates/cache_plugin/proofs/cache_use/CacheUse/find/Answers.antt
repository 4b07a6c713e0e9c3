use Rattle.cache_rules.specs.{key_of}
use Rattle.std.proofs.Common.{subst}
use Rattle.outside.specs.declared.entry.Key.{Key}
use Rattle.chain_meaning.specs.Caching.{take_looked}
use Rattle.cache_plugin.specs.Calling.{CallsBy, entry_found, state_at}
use Rattle.cache_plugin.specs.Uses.{use_logs}
use Rattle.cache_plugin.proofs.Calls.{found_starves, found_then}
use Rattle.cache_plugin.proofs.cache_use.CacheUse.find.Goals as goal

pub returns-in_err-key-clause-calls : goal.returns-in_err-key-clause-calls
returns-in_err-key-clause-calls g c =
    found_starves (key_of c.args.asked.now.query.now) c.now-moment.result c.now-moment.ensures.told c.now-moment.ensures.counts.stays c.from_residual.result (use_logs c.args.self.now) c.from_residual.ensures.0

pub returns-clause-calls : goal.returns-clause-calls
returns-clause-calls g c =
    let key = key_of c.args.asked.now.query.now in
    found_then key c.now-moment.result c.now-moment.ensures.told c.now-moment.ensures.counts.stays c.look.result c.look.ensures.moment
    (subst (λ (k : Key). CallsBy k (take_looked k c.now-moment.result) (entry_found c.look.result) (state_at (g.S.Side.state c.now-moment.new.self) (use_logs c.args.self.now)) (state_at (g.S.Side.state c.look.new.side) (use_logs c.look.new.self))) c.in_ok-key.ensures c.look.ensures.calls)
