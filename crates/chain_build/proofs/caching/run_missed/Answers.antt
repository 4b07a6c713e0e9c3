use Rattle.std.proofs.Common.{Some, None, refl, Ok, Err, List, Option, option_map, subst, sym, ap, ◌∙◌}
use Rattle.cache_rules.specs.{key_of}
use Rattle.outside.specs.Keys.{shard_of}
use Rattle.outside.specs.declared.entry.InnerMark.{InnerMark}
use Rattle.outside.specs.declared.kept.Kept.TheVariants as kept
use Rattle.chain_meaning.specs.Caching.{found}
use Rattle.chain_meaning.specs.CallsByRun.{pool_in}
use Rattle.chain_meaning.specs.Mean.{mean}
use Rattle.chain_build.specs.LoggedWalks.{AsksBy, TakesBy, asking, taking}
use Rattle.chain_build.specs.Plans.{behind_of}
use Rattle.chain_build.specs.Uses.{UseShape, lent_cache}
use Rattle.chain_build.specs.Walking.{decided, decision_of}
use Rattle.lent_caches.specs.declared.uses.LentCache.{LentCache}
use Rattle.chain_build.proofs.CachedWalks.{cached_numbers, fair_entry, missed_fails, missed_then, some_cache}
use Rattle.chain_build.proofs.LoggedWalks.{tb_as}
use Rattle.chain_build.proofs.Walks.{decided-err}
use Rattle.chain_build.proofs.caching.run_missed.Goals as goal

pub returns-in_err-ended-clause-takes : goal.returns-in_err-ended-clause-takes
returns-in_err-ended-clause-takes g c =
    let chain = c.args.chain.now in
    let q = c.args.asked.now.query.now in
    let plan = c.args.asked.now.plan.now in
    let u = some_cache chain plan c.args.uses.now.cache (ap (λ (s : UseShape). s.cached) c.requires.used) c.requires.plan in
    let fails = decided-err c.from_residual.result c.run_behind.new.room.plugins.slot c.from_residual.ensures.0 in
    let asks = subst (λ (marks : List InnerMark). AsksBy (pool_in (behind_of chain) q) (mean (behind_of chain) q) (Err c.in_err-ended.field-0.0) (asking (g.S.Side.state c.args.side.now) (kept.On marks) c.args.uses.now.pools) (asking (g.S.Side.state c.run_behind.new.side) c.run_behind.new.room.plugins.kept c.run_behind.new.pools)) c.new.ensures c.in_err-ended.ensures.asks in
    let takes = missed_fails (mean (behind_of chain)) plan q c.args.missed.moment (key_of q) (pool_in (behind_of chain) q) u.0 fails asks in
    tb_as _ _ (cached_numbers chain.cache plan (behind_of chain) q c.requires.plan c.requires.covers) (λ marks. refl)
    (subst (λ (o : Option LentCache). TakesBy (record { shard = Some (shard_of (key_of q)); pool = pool_in (behind_of chain) q }) (found (mean (behind_of chain)) plan q c.args.missed.moment None) (decided c.from_residual.result c.run_behind.new.room.plugins.slot) (taking (g.S.Side.state c.args.side.now) (record { pools = c.args.uses.now.pools; cache = o })) (taking (g.S.Side.state c.run_behind.new.side) (record { pools = c.run_behind.new.pools; cache = o }))) (sym u.1) takes)

pub keep_reply-requires-clause-fair : goal.keep_reply-requires-clause-fair
keep_reply-requires-clause-fair g c =
    let chain = c.args.chain.now in
    let q = c.args.asked.now.query.now in
    let v = decision_of c.in_ok-ended.ended c.run_behind.new.room.plugins.slot in
    fair_entry chain c.args.asked.now.plan.now c.in-Some.cache q c.args.missed.moment v c.run_behind.new.room.plugins.kept
    (sym (ap (option_map lent_cache) c.in-Some.is) ∙ ap (λ (s : UseShape). s.cache) c.requires.used) c.requires.plan
    (subst (λ (marks : List InnerMark). AsksBy (pool_in (behind_of chain) q) (mean (behind_of chain) q) (Ok v) (asking (g.S.Side.state c.args.side.now) (kept.On marks) c.args.uses.now.pools) (asking (g.S.Side.state c.run_behind.new.side) c.run_behind.new.room.plugins.kept c.run_behind.new.pools)) c.new.ensures c.in_ok-ended.ensures.asks)

pub returns-clause-takes : goal.returns-clause-takes
returns-clause-takes g c =
    let chain = c.args.chain.now in
    let q = c.args.asked.now.query.now in
    let plan = c.args.asked.now.plan.now in
    let v = decision_of c.in_ok-ended.ended c.run_behind.new.room.plugins.slot in
    let asks = subst (λ (marks : List InnerMark). AsksBy (pool_in (behind_of chain) q) (mean (behind_of chain) q) (Ok v) (asking (g.S.Side.state c.args.side.now) (kept.On marks) c.args.uses.now.pools) (asking (g.S.Side.state c.run_behind.new.side) c.run_behind.new.room.plugins.kept c.run_behind.new.pools)) c.new.ensures c.in_ok-ended.ensures.asks in
    let takes = missed_then (mean (behind_of chain)) plan q c.args.missed.moment (key_of q) (pool_in (behind_of chain) q) c.in-Some.cache c.keep_reply.new.cache asks (c.keep_reply.ensures.calls asks.asks.inners asks.asks.kept) in
    tb_as _ _ (cached_numbers chain.cache plan (behind_of chain) q c.requires.plan c.requires.covers) (λ marks. refl)
    (subst (λ (o : Option LentCache). TakesBy (record { shard = Some (shard_of (key_of q)); pool = pool_in (behind_of chain) q }) (found (mean (behind_of chain)) plan q c.args.missed.moment None) (decided c.keep_reply.result c.keep_reply.new.room.slot) (taking (g.S.Side.state c.args.side.now) (record { pools = c.args.uses.now.pools; cache = o })) (taking (g.S.Side.state c.keep_reply.new.side) (record { pools = c.run_behind.new.pools; cache = Some c.keep_reply.new.cache }))) (sym c.in-Some.is) takes)
