-- The names of caches.
use Rattle.std.specs.Prelude.{◌==◌, ◌&&◌, Bool}
use Rattle.lent_caches.specs.declared.name.CacheName.{CacheName}

abbrev pub same_name : CacheName → CacheName → Bool
same_name a b = a.serial == b.serial && a.block == b.block
