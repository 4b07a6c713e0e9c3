-- The least TTL of the records of two lists.
use Rattle.std.proofs.Common.{◌≡◌, ℕ, List, [], ◌∷◌, ◌++◌, min, refl}
use Rattle.dns_data.specs.Record.{RecordData}
use Rattle.cache_rules.specs.Class.{least_ttl}

pub least_append : (least : ℕ) (xs ys : List RecordData) → least_ttl least (xs ++ ys) ≡ least_ttl
    (least_ttl least xs) ys
least_append least [] ys = refl
least_append least (r ∷ xs) ys = least_append (min least r.ttl) xs ys
