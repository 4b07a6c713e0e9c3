-- The names of types in texts (RFC 1035, section 3.2.2; `TYPE` and a number by RFC 3597,
-- section 5).
use Rattle.std.specs.Prelude.{ℕ, ◌==◌, ◌^◌, nat_lt, List, [], ◌∷◌, ◌++◌, length, take, drop, codes}
use Rattle.std.specs.Prelude.{Option, Some, None, option_map, if◌then◌else◌}
use Rattle.std.specs.List.{find}
use Rattle.std.specs.Option.{option_or}
use Rattle.std.specs.Fmt.{decimal}
use Rattle.std.specs.Str.{str_eq_ignore_ascii_case}
use Rattle.dns_data.specs.declared.kind.TheConstants as kinds
use Rattle.numbers.specs.{number_below}

-- the types that have a name; OPT has none, since no record of a zone has this type
abbrev pub names : List (List ℕ × ℕ)
names =
    (codes "A", kinds.A) ∷ (codes "NS", kinds.NS) ∷ (codes "CNAME", kinds.CNAME)
    ∷ (codes "SOA", kinds.SOA) ∷ (codes "PTR", kinds.PTR) ∷ (codes "HINFO", kinds.HINFO)
    ∷ (codes "MX", kinds.MX) ∷ (codes "TXT", kinds.TXT) ∷ (codes "AAAA", kinds.AAAA)
    ∷ (codes "SRV", kinds.SRV) ∷ (codes "ANY", kinds.ANY) ∷ (codes "CAA", kinds.CAA) ∷ []

-- the name of a type
abbrev pub name_of : ℕ → Option (List ℕ)
name_of kind = option_map (λ row. row.0) (find (λ row. kind == row.1) names)

-- the type of a name, in any letters
abbrev pub named : List ℕ → Option ℕ
named text = option_map (λ row. row.1) (find (λ row. str_eq_ignore_ascii_case text row.0) names)

-- the type of `TYPE`, in any letters, and a number
abbrev pub numbered : List ℕ → Option ℕ
numbered text =
    if nat_lt (length text) 4 then None
    else if str_eq_ignore_ascii_case (take 4 text) (codes "TYPE")
    then number_below (2 ^ 16) (drop 4 text)
    else None

-- the type that a text names
unfoldable pub kind_of_text : List ℕ → Option ℕ
kind_of_text text = option_or (named text) (numbered text)

-- a type, printed, by its name or its number
abbrev pub printed : ℕ → Option (List ℕ) → List ℕ
printed kind None = codes "TYPE" ++ decimal kind
printed kind (Some name) = name

-- a type, printed: its name where it has one, else `TYPE` and its number
unfoldable pub kind_text : ℕ → List ℕ
kind_text kind = printed kind (name_of kind)
