-- What stands in a zone (RFC 1034, section 4.3.2; RFC 4592), as tests over the plain list of its
-- records.
use Rattle.std.specs.Cmp.Lexicographic.{pointwise}
use Rattle.std.specs.Prelude.{nat_eq, ℕ, ◌+◌, ◌-◌, nat_lt, nat_le, ◌==◌}
use Rattle.std.specs.Prelude.{Bool, true, false, cond, not, ◌&&◌, Option, Some, None}
use Rattle.std.specs.Prelude.{◌≡◌, List, [], ◌∷◌, ◌++◌, length}
use Rattle.std.specs.List.{filter, list_any}
use Rattle.std.specs.Option.{option_or}
use Rattle.dns_names.specs.Name.{is_same, is_within, wire_length}
use Rattle.dns_data.specs.Record.{RecordData, kind_of}
use Rattle.dns_data.specs.declared.zone.Zone.{Zone}
use Rattle.dns_data.specs.declared.kind.TheConstants as kinds
use Rattle.dns_names.specs.declared.limit.TheConstants as limits

-- a record's owner is the name, or lies below it
unfoldable pub exists_in : Zone → List (List ℕ) → Bool
exists_in zone name = list_any (λ r. is_within r.owner name) zone.records

-- the record's owner is the name
unfoldable pub is_at : List (List ℕ) → RecordData → Bool
is_at name r = is_same r.owner name

-- and its type the one that is asked for
unfoldable pub is_of : List (List ℕ) → ℕ → RecordData → Bool
is_of name kind r = is_same r.owner name && kind_of r.rdata == kind

-- a record put in front of the first whose type is larger
unfoldable pub placed : RecordData → List RecordData → List RecordData
placed r [] = r ∷ []
placed r (x ∷ xs) =
    cond (nat_le (kind_of x.rdata) (kind_of r.rdata)) (x ∷ placed r xs) (r ∷ x ∷ xs)

-- records put one by one among those that are in order of type: those of one type stay in order
unfoldable pub by_type : List RecordData → List RecordData → List RecordData
by_type done [] = done
by_type done (r ∷ rs) = by_type (placed r done) rs

-- the records of a type at a name, in the zone's order; for type ANY those of all types, in order
-- of type
unfoldable pub set_at : Zone → List (List ℕ) → ℕ → List RecordData
set_at zone name kind =
    cond (kind == kinds.ANY) (by_type [] (filter (is_at name) zone.records))
    (filter (is_of name kind) zone.records)

-- whether the list has an item
abbrev pub has_items : {X : Type 0} → List X → Bool
has_items [] = false
has_items (x ∷ xs) = true

unfoldable pub has_at : Zone → List (List ℕ) → ℕ → Bool
has_at zone name kind = has_items (set_at zone name kind)

-- what is there after a call that appends, also one that fails half-way
pub record Begins (old new : List RecordData) : Type 0 where
  pub more : List RecordData
  pub is : new ≡ old ++ more

-- the first label is `*`
abbrev pub is_star : List ℕ → Bool
is_star label = pointwise nat_eq label (42 ∷ [])

-- there is a cut at the name: it lies below the origin, has NS, and doesn't begin with `*`
unfoldable pub is_cut : Zone → List ℕ → List (List ℕ) → Bool
is_cut zone label above =
    nat_lt (length zone.origin) (length above + 1) && not (is_star label)
    && has_at zone (label ∷ above) kinds.NS

abbrev pub only_if : {X : Type 0} → Bool → X → Option X
only_if test x = cond test (Some x) None

-- the cut: the highest one at or above the name
unfoldable pub cut_of : Zone → List (List ℕ) → Option (List (List ℕ))
cut_of zone [] = None
cut_of zone (label ∷ above) =
    option_or (cut_of zone above) (only_if (is_cut zone label above) (label ∷ above))

-- the closest encloser: the longest of the name and those above it that exists
unfoldable pub encloser : Zone → List (List ℕ) → Option (List (List ℕ))
encloser zone [] = only_if (exists_in zone []) []
encloser zone (label ∷ above) =
    cond (exists_in zone (label ∷ above)) (Some (label ∷ above)) (encloser zone above)

-- `*` below a name, where that is a name
abbrev pub star_of : Option (List (List ℕ)) → Option (List (List ℕ))
star_of None = None
star_of (Some top) = only_if (nat_le (wire_length top + 2) limits.NAME_BYTES) ((42 ∷ []) ∷ top)

abbrev pub where_it_exists : Zone → Option (List (List ℕ)) → Option (List (List ℕ))
where_it_exists zone None = None
where_it_exists zone (Some name) = only_if (exists_in zone name) name

-- the wildcard below the closest encloser of a name
unfoldable pub wildcard : Zone → List (List ℕ) → Option (List (List ℕ))
wildcard zone name = where_it_exists zone (star_of (encloser zone name))
