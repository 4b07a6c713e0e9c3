use Rattle.std.proofs.Common.{◌∙◌, ap, subst, sym}
use Rattle.std.specs.Arc.{arc_value}
use Rattle.outside.specs.Keys.{shard_of}
use Rattle.outside.specs.declared.entry.Key.{Key}
use Rattle.cache_shards.specs.Seats.{IsHit, views_of}
use Rattle.cache_shards.proofs.CallLaws.{hit_law}
use Rattle.cache_shards.proofs.cache.Cache.get.Goals as goal

pub returns-in-Hit-clause-hit : goal.returns-in-Hit-clause-hit
returns-in-Hit-clause-hit g c =
    let just = g.J.Judge.just c.args.self.now.judge in
    let copied = c.in-Ok.ensures in
    subst (λ (k : Key). IsHit just (views_of c.ask_at.new.seat.seats.items) k c.args.now (arc_value c.in-Hit.entry)) copied
    (hit_law c.args.self.now.capacities just _ _ _ c.in-Ok.copy c.args.now _ (c.shard.ensures.place ∙ ap shard_of (sym copied)) c.in-Hit.ensures.adds)
