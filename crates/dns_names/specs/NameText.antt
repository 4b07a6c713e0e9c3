-- Names in presentation format (RFC 1035, section 5.1). Bytes by number: 34 `"`, 36 `$`, 40 `(`,
-- 41 `)`, 46 `.`, 48 `0`, 59 `;`, 64 `@`, 92 `\`.
use Rattle.std.specs.Prelude.{◌≡◌, ℕ, zero, suc, ◌+◌, ◌-◌, ◌≤◌, ◌<◌, ◌≢◌, ◌*◌, ◌/◌, ◌%◌, ◌==◌, nat_lt, Bool, true, false, ◌&&◌, ◌||◌, List, [], ◌∷◌, ◌++◌, length, slice_index, Option, Some, None, option_map, option_and_then, Result, Ok, Err, if◌then◌else◌}
use Rattle.std.specs.List.{flat_map}
use Rattle.std.specs.Char.{is_ascii_digit, is_ascii_graphic}
use Rattle.dns_names.specs.declared.limit.TheConstants as limits
use Rattle.dns_names.specs.Name.{IsLabel, wire_length}
use Rattle.dns_names.specs.declared.name_read.NameFault.{NameFault}
use Rattle.dns_names.specs.declared.name_read.NameFault.TheVariants.{Bad, NoMemory}

-- a byte with a meaning of its own in a zone file
abbrev pub is_special : ℕ → Bool
is_special byte =
    byte == 46 || byte == 92 || byte == 34 || byte == 40 || byte == 41 || byte == 59 || byte == 64
    || byte == 36

-- the three decimal digits of a byte
abbrev pub three_digits : ℕ → List ℕ
three_digits byte = (48 + byte / 100) ∷ (48 + byte / 10 % 10) ∷ (48 + byte % 10) ∷ []

-- a byte of a label, printed
abbrev pub byte_text : ℕ → List ℕ
byte_text byte =
    if is_special byte then 92 ∷ byte ∷ []
    else if is_ascii_graphic byte then byte ∷ []
    else 92 ∷ three_digits byte

-- a label, printed, and the dot behind it
abbrev pub label_text : List ℕ → List ℕ
label_text label = flat_map byte_text label ++ 46 ∷ []

-- a name, printed; the root is a dot
abbrev pub name_text : List (List ℕ) → List ℕ
name_text [] = 46 ∷ []
name_text (label ∷ labels) = flat_map label_text (label ∷ labels)

-- a character of presentation format: a dot that parts two labels, or a byte of a label
pub data Character : Type 0 where
  dot : Character
  byte : ℕ → Character

-- the number of three digits
abbrev pub number_of : ℕ → ℕ → ℕ → ℕ
number_of first second third = 100 * (first - 48) + 10 * (second - 48) + (third - 48)

-- the byte of three digits, the first of which is given, and that they are three
abbrev pub numbered : ℕ → List ℕ → Option (ℕ × ℕ)
numbered first [] = None
numbered first (second ∷ []) = None
numbered first (second ∷ third ∷ text) =
    if is_ascii_digit second && is_ascii_digit third && nat_lt (number_of first second third) 256
    then Some (number_of first second third, 3) else None

-- the byte that a backslash in front of this text means, and how many bytes behind the backslash
-- spell it
abbrev pub escaped : List ℕ → Option (ℕ × ℕ)
escaped [] = None
escaped (first ∷ text) = if is_ascii_digit first then numbered first text else Some (first, 1)

-- the byte of a label at the head of a text, and how many bytes behind the first spell it
abbrev pub byte_at : ℕ → List ℕ → Option (ℕ × ℕ)
byte_at first text = if first == 92 then escaped text else Some (first, 0)

-- a byte of a label, and the characters behind its spelling
abbrev pub byte_then : Option (ℕ × ℕ) → (ℕ → Option (List Character)) → Option (List Character)
byte_then None behind = None
byte_then (Some found) behind = option_map (λ others. byte found.0 ∷ others) (behind found.1)

-- the characters of a text behind its first `skip` bytes, which belong to an escape; none where a
-- backslash means no byte
abbrev pub characters : ℕ → List ℕ → Option (List Character)
characters skip [] = Some []
characters zero (first ∷ text) =
    if first == 46 then option_map (λ others. dot ∷ others) (characters 0 text)
    else byte_then (byte_at first text) (λ skip. characters skip text)
characters (suc skip) (first ∷ text) = characters skip text

-- with a byte at the front of the first label
abbrev pub byte_first : ℕ → List (List ℕ) → List (List ℕ)
byte_first value [] = []
byte_first value (label ∷ labels) = (value ∷ label) ∷ labels

-- the labels that dots part, one more than there are dots
abbrev pub parted : List Character → List (List ℕ)
parted [] = [] ∷ []
parted (dot ∷ others) = [] ∷ parted others
parted (byte value ∷ others) = byte_first value (parted others)

-- whether there are no items
abbrev pub is_empty : {A : Type 0} → List A → Bool
is_empty [] = true
is_empty (x ∷ xs) = false

-- the labels behind the first one: the origin stands behind the last, unless that is empty, since a
-- dot ended the text
abbrev pub completed : List (List ℕ) → List (List ℕ) → List (List ℕ)
completed origin [] = origin
completed origin (label ∷ labels) =
    if is_empty label && is_empty labels then [] else label ∷ completed origin labels

abbrev pub placed : List (List ℕ) → List (List ℕ) → List (List ℕ)
placed origin [] = origin
placed origin (label ∷ labels) = label ∷ completed origin labels

-- whether a label has 1 to 63 bytes
abbrev pub is_label : List ℕ → Bool
is_label label = nat_lt 0 (length label) && nat_lt (length label) (limits.LABEL_BYTES + 1)

abbrev pub are_labels : List (List ℕ) → Bool
are_labels [] = true
are_labels (label ∷ labels) = is_label label && are_labels labels

-- whether labels make a name
abbrev pub is_name : List (List ℕ) → Bool
is_name labels = are_labels labels && nat_lt (wire_length labels) (limits.NAME_BYTES + 1)

abbrev pub if_name : List (List ℕ) → Option (List (List ℕ))
if_name labels = if is_name labels then Some labels else None

-- whether the text is a dot
abbrev pub is_dot : List ℕ → Bool
is_dot [] = false
is_dot (first ∷ []) = first == 46
is_dot (first ∷ second ∷ text) = false

-- the name that a text spells: a dot is the root, a text that ends in a dot is absolute, and
-- another one stands below the origin
unfoldable pub name_of : List ℕ → List (List ℕ) → Option (List (List ℕ))
name_of text origin =
    if is_dot text then Some []
    else option_and_then (λ all. if_name (placed origin (parted all))) (characters 0 text)

-- the answer is what the text spells; want of memory can come at any time
abbrev pub ReadsName : List ℕ → List (List ℕ) → Result (List (List ℕ)) NameFault → Type 0
ReadsName text origin (Ok name) = name_of text origin ≡ Some name
ReadsName text origin (Err Bad) = name_of text origin ≡ None
ReadsName text origin (Err NoMemory) = Unit {0}

-- the same of a name that becomes what the text spells
abbrev pub SetsName : List ℕ → List (List ℕ) → List (List ℕ) → Result (Unit {0}) NameFault
    → Type 0
SetsName text origin name (Ok set) = ReadsName text origin (Ok name)
SetsName text origin name (Err fault) = ReadsName text origin (Err fault)

-- none of the first bytes is a dot or a backslash
abbrev pub IsRun : ℕ → List ℕ → Type 0
IsRun size text = (k : ℕ) → k < size → (slice_index text k ≢ 46) × (slice_index text k ≢ 92)

-- a name has room for one more label
abbrev pub Fits : List (List ℕ) → List ℕ → Type 0
Fits name label = IsLabel label × (wire_length name + length label + 1 ≤ limits.NAME_BYTES)

-- the answer is the name whose last label was read, or that there is none; want of memory can come
-- at any time
abbrev pub Completes : List (List ℕ) → List ℕ → List (List ℕ) → Result (List (List ℕ)) NameFault
    → Type 0
Completes labels label origin (Ok name) = if_name (placed origin (labels ++ label ∷ [])) ≡ Some name
Completes labels label origin (Err Bad) = if_name (placed origin (labels ++ label ∷ [])) ≡ None
Completes labels label origin (Err NoMemory) = Unit {0}
