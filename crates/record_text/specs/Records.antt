-- Records in master file format (RFC 1035, section 5.1): `OWNER [TTL] [IN] TYPE DATA`, where
-- TTL and class may change places.
use Rattle.std.specs.Prelude.{ℕ, nat_eq, Bool, false, List, [], ◌∷◌, codes, Option, Some, None}
use Rattle.std.specs.Prelude.{option_map, option_and_then, if◌then◌else◌}
use Rattle.std.specs.Cmp.Lexicographic.{pointwise}
use Rattle.dns_data.specs.declared.class.TheConstants as classes
use Rattle.dns_data.specs.declared.record.Rdata.{Rdata}
use Rattle.dns_data.specs.Record.{RecordData}
use Rattle.record_text.specs.declared.form.Form.TheVariants.{Alone}
use Rattle.record_text.specs.Fields.{PlaceData, kind_in, name_in, taking}
use Rattle.record_text.specs.Rows.{data_of}
use Rattle.record_text.specs.Ttls.{ttl_of}
use Rattle.record_text.specs.Words.{WordData, words_of}

-- whether the class stands there
abbrev pub begins_class : List WordData → Bool
begins_class [] = false
begins_class (word ∷ words) = pointwise nat_eq word.text (codes "IN")

-- the words behind the class, where it stands there
abbrev pub behind_class : List WordData → List WordData
behind_class [] = []
behind_class (word ∷ words) = if begins_class (word ∷ words) then words else word ∷ words

-- the TTL of the first word, or else the one that is given, and the words behind it
abbrev pub ttl_or : ℕ → WordData → List WordData → Option ℕ → ℕ × List WordData
ttl_or given word words None = (given, word ∷ words)
ttl_or given word words (Some ttl) = (ttl, words)

abbrev pub behind_ttl : ℕ → List WordData → ℕ × List WordData
behind_ttl given [] = (given, [])
behind_ttl given (word ∷ words) = ttl_or given word words (ttl_of word.text)

-- the TTL, which is the given one where none is written, and the words behind TTL and class
abbrev pub head_of : ℕ → List WordData → ℕ × List WordData
head_of given words =
    if begins_class words then behind_ttl given (behind_class words)
    else ((behind_ttl given words).0, behind_class (behind_ttl given words).1)

abbrev pub with_data : List (List ℕ) → ℕ → Rdata → RecordData
with_data owner ttl d = record { owner = owner; class = classes.IN; ttl = ttl; rdata = d }

-- the record of an owner, by its TTL and the words from the type on
abbrev pub typed : PlaceData → List (List ℕ) → ℕ × List WordData → Option RecordData
typed place owner head =
    taking kind_in
    (λ kind words. option_map (with_data owner head.0) (data_of place kind words)) head.1

-- the record of an owner, by the words behind it; `ttl` is its TTL where none is written
unfoldable pub record_of : PlaceData → ℕ → List (List ℕ) → List WordData → Option RecordData
record_of place ttl owner words = typed place owner (head_of ttl words)

-- the record whose words begin with the owner
unfoldable pub owned : PlaceData → ℕ → List WordData → Option RecordData
owned place ttl words = taking (name_in place) (record_of place ttl) words

abbrev pub alone : List (List ℕ) → PlaceData
alone origin = record { origin = origin; form = Alone }

-- the record that a text spells
unfoldable pub record_spelt : List ℕ → List (List ℕ) → ℕ → Option RecordData
record_spelt text origin ttl = option_and_then (owned (alone origin) ttl) (words_of text)
