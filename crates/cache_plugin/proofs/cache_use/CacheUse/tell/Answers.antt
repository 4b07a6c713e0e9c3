use Rattle.std.proofs.Common.{length, sym, ap, ◌∙◌}
use Rattle.std.specs.Arc.{arc_value}
use Rattle.cache_plugin.specs.Uses.{UseData}
use Rattle.cache_plugin.proofs.Shares.{eight_views}
use Rattle.cache_plugin.proofs.cache_use.CacheUse.tell.Goals as goal

pub returns : goal.returns
returns g c =
    sym (ap (λ (u : UseData g.row.J.Denot). length u.views) c.self.view_is) ∙ eight_views (arc_value c.self.inside.cache) c.self.inside.seat.seats.items c.self.invariant
