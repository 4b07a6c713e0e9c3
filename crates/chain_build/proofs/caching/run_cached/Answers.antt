use Rattle.std.proofs.Common.{◌≡◌, Some, None, Ok, Option, ap, refl, subst, sym}
use Rattle.std.specs.Arc.{arc_value}
use Rattle.cache_plugin.specs.{CallsBy, looked, state_at, use_logs}
use Rattle.cache_plugin.specs.declared.cache_use.Found.{Found}
use Rattle.cache_rules.specs.{aged, key_of}
use Rattle.dns_data.specs.Message.{AnswerData}
use Rattle.outside.specs.Keys.{shard_of}
use Rattle.outside.specs.Meanings.{Done, onward}
use Rattle.chain_meaning.specs.Caching.{cached, found, look_of, take_look}
use Rattle.chain_meaning.specs.CallsByRun.{pool_in}
use Rattle.chain_meaning.specs.Mean.{mean}
use Rattle.chain_meaning.specs.MeanLaws.{mean_nothing}
use Rattle.chain_meaning.specs.declared.decision.Decision.TheVariants as decision
use Rattle.chain_build.specs.LoggedWalks.{TakesBy, taking}
use Rattle.chain_build.specs.Plans.{behind_of}
use Rattle.chain_build.specs.Giving.{gave, hit_answer}
use Rattle.chain_build.specs.Walking.{decided}
use Rattle.lent_caches.specs.declared.uses.LentCache.{LentCache}
use Rattle.chain_build.proofs.CachedWalks.{cached_look, cached_numbers, called_fails, called_then, found_at, found_nothing}
use Rattle.chain_build.proofs.Givings.{tb_result}
use Rattle.chain_build.proofs.LoggedWalks.{tb_as, tb_nothing}
use Rattle.chain_build.proofs.Walks.{gave-err}
use Rattle.chain_build.proofs.caching.run_cached.Goals as goal

pub returns-in_err-entry-clause-takes : goal.returns-in_err-entry-clause-takes
returns-in_err-entry-clause-takes g c =
    let chain = c.args.chain.now in
    let q = c.args.asked.now.query.now in
    let plan = c.args.asked.now.plan.now in
    let rest = mean (behind_of chain) in
    let number = pool_in (behind_of chain) q in
    let takes = called_fails (key_of q) number (take_look (key_of q)) (found_at rest plan q) c.args.uses.now.pools c.in-Some.cache c.find.new.self (gave-err c.from_residual.result c.args.room.now.plugins.slot c.from_residual.ensures.0) c.in_err-entry.ensures.calls
    (found_nothing rest plan q (mean_nothing (behind_of chain) q)) in
    tb_as _ _ (cached_numbers chain.cache plan (behind_of chain) q c.requires.plan c.requires.covers) (cached_look rest plan q)
    (subst (λ (o : Option LentCache). TakesBy (record { shard = Some (shard_of (key_of q)); pool = number }) (λ marks. onward (take_look (key_of q) marks) (found_at rest plan q)) (gave c.from_residual.result c.args.room.now.plugins.slot) (taking (g.S.Side.state c.args.side.now) (record { pools = c.args.uses.now.pools; cache = o })) (taking (g.S.Side.state c.find.new.side) (record { pools = c.args.uses.now.pools; cache = Some c.find.new.self }))) (sym c.in-Some.is) takes)

pub returns-in-Hit-clause-takes : goal.returns-in-Hit-clause-takes
returns-in-Hit-clause-takes g c =
    let chain = c.args.chain.now in
    let q = c.args.asked.now.query.now in
    let plan = c.args.asked.now.plan.now in
    let rest = mean (behind_of chain) in
    let number = pool_in (behind_of chain) q in
    let entry = arc_value c.in-Hit.entry in
    let calls = subst (λ (f : Found). CallsBy (key_of q) (take_look (key_of q)) (Ok (looked f)) (state_at (g.S.Side.state c.args.side.now) (use_logs c.in-Some.cache.of)) (state_at (g.S.Side.state c.find.new.side) (use_logs c.find.new.self.of))) c.in-Hit.is c.in_ok-entry.ensures.calls in
    let hit = c.hit_of.result in
    let is : hit_answer hit ≡ aged plan entry c.in-Hit.moment = c.hit_of.ensures plan c.requires.plan in
    let takes = called_then (key_of q) number (take_look (key_of q)) (found_at rest plan q) c.args.uses.now.pools c.in-Some.cache c.find.new.self calls
    (tb_nothing (record { shard = Some (shard_of (key_of q)); pool = number }) (found_at rest plan q (look_of c.in-Hit.moment (Some entry))) {v = decision.Reply (hit_answer hit)} (λ left. ap (λ (a : AnswerData). Done (decision.Reply a) left) (sym is))) in
    tb_as _ _ (cached_numbers chain.cache plan (behind_of chain) q c.requires.plan c.requires.covers) (cached_look rest plan q)
    (subst (λ (o : Option LentCache). TakesBy (record { shard = Some (shard_of (key_of q)); pool = number }) (λ marks. onward (take_look (key_of q) marks) (found_at rest plan q)) (Ok (decision.Reply (hit_answer hit))) (taking (g.S.Side.state c.args.side.now) (record { pools = c.args.uses.now.pools; cache = o })) (taking (g.S.Side.state c.find.new.side) (record { pools = c.args.uses.now.pools; cache = Some c.find.new.self }))) (sym c.in-Some.is) takes)

pub returns-in-Miss-clause-takes : goal.returns-in-Miss-clause-takes
returns-in-Miss-clause-takes g c =
    let chain = c.args.chain.now in
    let q = c.args.asked.now.query.now in
    let plan = c.args.asked.now.plan.now in
    let rest = mean (behind_of chain) in
    let number = pool_in (behind_of chain) q in
    let numbers = cached_numbers chain.cache plan (behind_of chain) q c.requires.plan c.requires.covers in
    let calls = subst (λ (f : Found). CallsBy (key_of q) (take_look (key_of q)) (Ok (looked f)) (state_at (g.S.Side.state c.args.side.now) (use_logs c.in-Some.cache.of)) (state_at (g.S.Side.state c.find.new.side) (use_logs c.find.new.self.of))) c.in-Miss.is c.in_ok-entry.ensures.calls in
    let behind = tb_as (found rest plan q c.in-Miss.missed.moment None) (found rest plan q c.in-Miss.missed.moment None) (sym numbers) (λ marks. refl) c.run_missed.ensures.takes in
    let takes = called_then (key_of q) number (take_look (key_of q)) (found_at rest plan q) c.args.uses.now.pools c.in-Some.cache c.find.new.self calls behind in
    tb_result (cached rest plan q) (c.as_given.ensures c.run_missed.new.room.plugins.slot)
    (tb_as _ _ numbers (cached_look rest plan q)
    (subst (λ (o : Option LentCache). TakesBy (record { shard = Some (shard_of (key_of q)); pool = number }) (λ marks. onward (take_look (key_of q) marks) (found_at rest plan q)) (decided c.run_missed.result c.run_missed.new.room.plugins.slot) (taking (g.S.Side.state c.args.side.now) (record { pools = c.args.uses.now.pools; cache = o })) (taking (g.S.Side.state c.run_missed.new.side) c.run_missed.new.uses)) (sym c.in-Some.is) takes))
