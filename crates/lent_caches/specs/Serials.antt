-- Names of caches by the serials with which they began. This server's own rule.
use Rattle.std.specs.Prelude.{◌<◌, ℕ, List, [], ◌∷◌}
use Rattle.lent_caches.specs.declared.name.CacheName.{CacheName}

-- each of these caches began before this serial
abbrev pub AreBefore : ℕ → List CacheName → Type 0
AreBefore serial [] = Unit {0}
AreBefore serial (n ∷ ns) = (n.serial < serial) × AreBefore serial ns
