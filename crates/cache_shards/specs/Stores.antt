-- A store as plain data: its entries, the last used first, and how many it holds.
use Rattle.std.specs.declared.sync.Arc.{Arc}
use Rattle.std.specs.Global.{Global}
use Rattle.lru.specs.LruCache.{LruCache}
use Rattle.outside.specs.{EntryData}
use Rattle.outside.specs.declared.entry.Key.{Key}

abbrev pub Held : Type 0
Held = Arc EntryData Global

abbrev pub StoreData : Type 0
StoreData = LruCache Key Held
