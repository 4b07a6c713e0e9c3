use Rattle.std.proofs.Common.{length, sym, ap, subst, ◌∙◌}
use Rattle.std.specs.Arc.{arc_value}
use Rattle.cache_shards.specs.Seats.{CacheData, IsSeatOf, MeetAll, views_of}
use Rattle.cache_plugin.specs.Uses.{UseData}
use Rattle.cache_plugin.proofs.Shares.{eight_views}
use Rattle.cache_plugin.proofs.cache_use.CacheUse.meet.Goals as goal

pub returns-clause-same : goal.returns-clause-same
returns-clause-same g c =
    let cache = arc_value c.self.inside.cache in
    let after = c.meet.new.seat.seats.items in
    let own : IsSeatOf cache after = subst (λ (x : CacheData g.row.J.Denot). IsSeatOf x after) c.deref.ensures c.meet.ensures.own in
    record {
      cache = ap (λ (u : UseData g.row.J.Denot). u.cache) c.self.view_is;
      views = eight_views cache after own ∙ (sym (eight_views cache c.self.inside.seat.seats.items c.self.invariant) ∙ ap (λ (u : UseData g.row.J.Denot). length u.views) c.self.view_is);
    }

pub returns-clause-meets : goal.returns-clause-meets
returns-clause-meets g c =
    let after = views_of c.meet.new.seat.seats.items in
    subst (λ (u : UseData g.row.J.Denot). MeetAll c.args.self.now.views u.views after) c.other.view_is
    (subst (λ (u : UseData g.row.J.Denot). MeetAll u.views (views_of c.other.inside.seat.seats.items) after) c.self.view_is c.meet.ensures.meets)
