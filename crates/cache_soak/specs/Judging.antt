-- Which entries may stand in the cache of the soak.
use Rattle.outside.specs.{EntryData}
use Rattle.cache_soak.specs.declared.making.Anything.{Anything}

-- each may
abbrev pub is_any : Anything → EntryData → Type 0
is_any judge entry = Unit {0}
