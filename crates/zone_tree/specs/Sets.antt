-- The records of one name, and what it gives.
use Rattle.std.specs.Prelude.{ℕ, Bool, true, false, cond, not, ◌&&◌, ◌||◌, ◌==◌}
use Rattle.std.specs.Prelude.{◌≡◌, Option, Some, None, List, [], ◌∷◌, ◌++◌, slice_get}
use Rattle.std.specs.List.{filter, list_any}
use Rattle.dns_data.specs.Record.{RecordData, kind_of}
use Rattle.dns_data.specs.declared.kind.TheConstants as kinds
use Rattle.zone_lookup.specs.Zone.{by_type, is_of}
use Rattle.zone_lookup.specs.ZoneAnswer.{Found, alias_found, set_found}

-- the record has the type
unfoldable pub is_kind : ℕ → RecordData → Bool
is_kind kind r = kind_of r.rdata == kind

-- or one that is asked for: any for type ANY
unfoldable pub is_asked : ℕ → RecordData → Bool
is_asked kind r = kind == kinds.ANY || is_kind kind r

-- an item that may be there, in front of others
abbrev pub before : {X : Type 0} → Option X → List X → List X
before None xs = xs
before (Some x) xs = x ∷ xs

-- the records of numbers
unfoldable pub picked : List RecordData → List ℕ → List RecordData
picked records [] = []
picked records (i ∷ is) = before (slice_get records i) (picked records is)

-- of the records at a name those of a type; for type ANY all, in order of type
unfoldable pub set_in : List RecordData → ℕ → List RecordData
set_in node kind = cond (kind == kinds.ANY) (by_type [] node) (filter (is_kind kind) node)

-- the question is for another type, and there is a CNAME
unfoldable pub is_alias_in : List RecordData → ℕ → Bool
is_alias_in node kind =
    not (kind == kinds.CNAME) && not (kind == kinds.ANY) && list_any (is_asked kinds.CNAME) node

-- what a name with these records gives
unfoldable pub found_in : List RecordData → ℕ → Found
found_in node kind =
    cond (is_alias_in node kind) (alias_found (set_in node kinds.CNAME))
    (set_found (set_in node kind))

-- whether one of the records has the name and the type of one of the others
unfoldable pub meet : List RecordData → List RecordData → Bool
meet others rs = list_any (λ r. list_any (is_of r.owner (kind_of r.rdata)) others) rs

-- records were appended that meet none of the answer's and none that was there; or nothing was
-- done
abbrev pub CopiesApart : Bool → List RecordData → List RecordData → List RecordData
    → List RecordData → Type 0
CopiesApart true answer rs old new =
    (meet answer rs ≡ false) × (meet old rs ≡ false) × (new ≡ old ++ rs)
CopiesApart false answer rs old new = new ≡ old
