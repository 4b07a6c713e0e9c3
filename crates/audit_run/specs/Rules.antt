-- Which marks may stand behind which in the history of a shared part. This server's own rule.
use Rattle.std.specs.Prelude.{List, [], ◌∷◌, flat_map}
use Rattle.std.specs.NonZero.{non_zero_usize_get}
use Rattle.outside.specs.declared.entry.InnerMark.TheVariants.{Drawn, Reported}
use Rattle.outside.specs.declared.mark.Mark.{Mark}
use Rattle.outside.specs.declared.mark.Mark.TheVariants.{Inner}
use Rattle.cache_shards.specs.Answers as cache
use Rattle.upstream_health.specs.Pools as pools
use Rattle.audit_run.specs.declared.part.PartRule.{PartRule}
use Rattle.audit_run.specs.declared.part.PartRule.TheVariants.{Pool, Shard}

-- the call of a pool that a mark tells
abbrev pub events_of : Mark → List pools.Event
events_of (Inner (Drawn number down)) = pools.drew_event number down ∷ []
events_of (Inner (Reported upstream agreed)) = pools.noted_event upstream agreed ∷ []
events_of mark = []

abbrev pub all_events : List Mark → List pools.Event
all_events marks = flat_map events_of marks

-- a mark may stand behind these: a get is answered by the calls before it, and so is a draw
abbrev pub Allows : PartRule → List Mark → Mark → Type 0
Allows (Shard success denial) before mark =
    cache.IsAnswered (cache.capacities_of (non_zero_usize_get success) (non_zero_usize_get denial))
    before mark
Allows (Pool rule) before mark =
    pools.LegalBehind rule.most rule.size (all_events before) (events_of mark)

-- the history is legal
abbrev pub IsLegal : PartRule → List Mark → Type 0
IsLegal (Shard success denial) marks =
    cache.IsLegal (cache.capacities_of (non_zero_usize_get success) (non_zero_usize_get denial))
    marks
IsLegal (Pool rule) marks = pools.Legal rule.most rule.size (all_events marks)
