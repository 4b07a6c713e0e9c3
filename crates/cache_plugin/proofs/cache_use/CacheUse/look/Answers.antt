use Rattle.std.proofs.Common.{◌≡◌, subst}
use Rattle.chain_meaning.specs.Caching.{take_looked}
use Rattle.outside.specs.Keys.{shard_of}
use Rattle.cache_shards.specs.Calls.{DoesNothingOr, looked_marks}
use Rattle.cache_shards.specs.Seats.{AddsAt, CacheData, logs, views_of}
use Rattle.cache_plugin.specs.Calling.{CallsBy, entry_found, state_at}
use Rattle.cache_plugin.specs.Uses.{KeepsParts, UseData, use_logs}
use Rattle.cache_plugin.proofs.Kept.{keeps_looked}
use Rattle.cache_plugin.proofs.Calls.{looks_so}
use Rattle.cache_plugin.proofs.cache_use.CacheUse.look.Goals as goal

pub returns-clause-calls : goal.returns-clause-calls
returns-clause-calls g c =
    let key = c.args.key in
    let cache = c.self.inside.cache.value in
    let seats = c.self.inside.seat.seats.items in
    let after = c.get-got.new.seat.seats.items in
    let adds = subst (λ (x : CacheData g.row.J.Denot). DoesNothingOr c.get-got.result (after ≡ seats) (AddsAt x.capacities (g.J.Judge.just x.judge) (shard_of key) (views_of seats) (views_of after) (looked_marks key c.args.moment c.get-got.result))) c.deref.ensures c.get-got.ensures.adds in
    subst (λ (u : UseData g.row.J.Denot). CallsBy key (take_looked key c.args.moment) (entry_found c.found_of.result) (state_at (g.S.Side.state c.args.side.now) (use_logs u)) (state_at (g.S.Side.state c.show.new.side) (logs (views_of after)))) c.self.view_is
    (looks_so key c.args.moment cache seats after c.self.invariant (g.J.Judge.just cache.judge) c.get-got.result adds c.show.ensures.told c.show.ensures.stays c.found_of.ensures.entry)

pub returns-clause-keeps : goal.returns-clause-keeps
returns-clause-keeps g c =
    let key = c.args.key in
    let cache = c.self.inside.cache.value in
    let seats = c.self.inside.seat.seats.items in
    let after = c.get-got.new.seat.seats.items in
    let adds = subst (λ (x : CacheData g.row.J.Denot). DoesNothingOr c.get-got.result (after ≡ seats) (AddsAt x.capacities (g.J.Judge.just x.judge) (shard_of key) (views_of seats) (views_of after) (looked_marks key c.args.moment c.get-got.result))) c.deref.ensures c.get-got.ensures.adds in
    subst (λ (u : UseData g.row.J.Denot). KeepsParts u (record { cache = cache; views = views_of after })) c.self.view_is
    (keeps_looked cache (g.J.Judge.just cache.judge) key c.args.moment seats after c.get-got.result adds)
