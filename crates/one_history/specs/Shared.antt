-- Which marks tell calls of what workers share: gets and puts of a cache, draws and reports of a
-- pool of upstreams. This server's own rule.
use Rattle.std.specs.Prelude.{◌≡◌, ℕ, ◌==◌, Bool, true, false, List, [], ◌++◌, map, Option}
use Rattle.std.specs.Prelude.{Some, None, slice_index_or, if◌then◌else◌}
use Rattle.std.specs.List.{filter}
use Rattle.outside.specs.declared.entry.InnerMark.{InnerMark}
use Rattle.outside.specs.declared.entry.InnerMark.TheVariants.{Drawn, Reported}
use Rattle.outside.specs.declared.mark.Mark.{Mark}
use Rattle.outside.specs.declared.mark.Mark.TheVariants.{Inner, Looked, Put}
use Rattle.one_history.specs.Calls.{Call}
use Rattle.one_history.specs.Logs.{Place}

abbrev pub is_pool_call : InnerMark → Bool
is_pool_call (Drawn number down) = true
is_pool_call (Reported upstream agreed) = true
is_pool_call other = false

-- the mark tells a call of what workers share
abbrev pub is_call : Mark → Bool
is_call (Looked key moment entry) = true
is_call (Put key entry kept) = true
is_call (Inner mark) = is_pool_call mark
is_call other = false

-- the marks of calls among these, in order
abbrev pub calls_in : List Mark → List Mark
calls_in marks = filter is_call marks

-- it tells a call of a pool
abbrev pub is_of_pool : Mark → Bool
is_of_pool (Inner mark) = is_pool_call mark
is_of_pool other = false

-- or of a cache
abbrev pub is_of_cache : Mark → Bool
is_of_cache (Looked key moment entry) = true
is_of_cache (Put key entry kept) = true
is_of_cache other = false

-- the marks of calls of pools among these, in order, and of those of caches
abbrev pub pool_calls_in : List Mark → List Mark
pool_calls_in marks = filter is_of_pool marks

abbrev pub cache_calls_in : List Mark → List Mark
cache_calls_in marks = filter is_of_cache marks

abbrev pub call_at : ℕ → Place → Mark → Call Mark
call_at serial place mark =
    record { serial = serial; block = place.block; part = place.part; mark = mark }

-- these marks as calls at a serial and a place, where there is one
abbrev pub placed : ℕ → Option Place → List Mark → List (Call Mark)
placed serial None marks = []
placed serial (Some place) marks = map (call_at serial place) marks

-- where a turn calls a cache, and where it calls a pool
pub record CallPlaces : Type 0 where
  pub shard : Option Place
  pub pool : Option Place

-- the calls that marks tell at a serial: those of a cache at the one place, and those of a pool at
-- the other
abbrev pub placed_calls : ℕ → CallPlaces → List Mark → List (Call Mark)
placed_calls serial places marks =
    placed serial places.shard (cache_calls_in marks)
    ++ placed serial places.pool (pool_calls_in marks)

abbrev pub log_at : List (List Mark) → ℕ → List Mark
log_at logs number = slice_index_or logs number []

-- of these calls, those of a part, where all were of the one with this number
abbrev pub called : Option ℕ → ℕ → List Mark → List Mark
called None part calls = []
called (Some number) part calls = if number == part then calls else []

-- the log of each part has grown by its calls, all of which were of the part with this number;
-- where there is no such part there is none
pub record Logged (number : Option ℕ) (calls : List Mark) (old new : List (List Mark)) : Type 0
  where
    pub each : (part : ℕ) → log_at new part ≡ log_at old part ++ called number part calls
    pub none : number ≡ None → calls ≡ []
