use Rattle.std.proofs.Common.{sym, subst}
use Rattle.cache_shards.specs.Seats.{HaveAll}
use Rattle.cache_plugin.specs.Uses.{UseData}
use Rattle.cache_plugin.proofs.cache_use.CacheUse.whole.Goals as goal

pub whole-requires-clause-all : goal.whole-requires-clause-all
whole-requires-clause-all g c = subst (λ (u : UseData g.row.J.Denot). HaveAll u.views) (sym c.self.view_is) c.requires
