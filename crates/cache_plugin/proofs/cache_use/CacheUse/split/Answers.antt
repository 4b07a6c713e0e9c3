use Rattle.std.proofs.Common.{subst, sym}
use Rattle.cache_shards.specs.Seats.{views_of}
use Rattle.cache_plugin.specs.Uses.{HasParts, UseData}
use Rattle.cache_plugin.proofs.Shares.{split_parts}
use Rattle.cache_plugin.proofs.cache_use.CacheUse.split.Goals as goal

pub returns-clause-parts : goal.returns-clause-parts
returns-clause-parts g c parts all =
    split_parts parts (views_of c.self.inside.seat.seats.items) _ c.in_ok-seat.ensures.left (subst (λ (u : UseData g.row.J.Denot). HasParts parts u) (sym c.self.view_is) all)
