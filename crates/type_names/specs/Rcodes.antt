-- The names of RCODEs in texts (RFC 1035, section 4.1.1).
use Rattle.std.specs.Prelude.{ℕ, ◌==◌, nat_eq, List, [], ◌∷◌, ◌++◌, codes, Option, Some, None}
use Rattle.std.specs.Prelude.{option_map}
use Rattle.std.specs.List.{find}
use Rattle.std.specs.Fmt.{decimal}
use Rattle.std.specs.Cmp.Lexicographic.{pointwise}
use Rattle.dns_data.specs.declared.rcode.TheConstants as rcodes

-- the RCODEs that have a name
abbrev pub names : List (List ℕ × ℕ)
names =
    (codes "NOERROR", rcodes.NOERROR) ∷ (codes "FORMERR", rcodes.FORMERR)
    ∷ (codes "SERVFAIL", rcodes.SERVFAIL) ∷ (codes "NXDOMAIN", rcodes.NXDOMAIN)
    ∷ (codes "NOTIMP", rcodes.NOTIMP) ∷ (codes "REFUSED", rcodes.REFUSED) ∷ []

-- the name of an RCODE
abbrev pub name_of : ℕ → Option (List ℕ)
name_of rcode = option_map (λ row. row.0) (find (λ row. rcode == row.1) names)

-- the RCODE of a name, in capitals
unfoldable pub rcode_of_text : List ℕ → Option ℕ
rcode_of_text text = option_map (λ row. row.1) (find (λ row. pointwise nat_eq text row.0) names)

-- an RCODE, printed, by its name or its number
abbrev pub printed : ℕ → Option (List ℕ) → List ℕ
printed rcode None = codes "RCODE" ++ decimal rcode
printed rcode (Some name) = name

-- an RCODE, printed: its name where it has one, else `RCODE` and its number
unfoldable pub rcode_text : ℕ → List ℕ
rcode_text rcode = printed rcode (name_of rcode)
