-- Domain names (RFC 1035, sections 2.3.1 and 2.3.4): a list of labels, and its spelling in one
-- buffer.
use Rattle.std.specs.Prelude.{◌≡◌, ℕ, zero, suc, ◌+◌, ◌-◌, ◌≤◌, Bool, nat_eq, List, [], ◌∷◌, ◌++◌, length, take, drop, map}
use Rattle.std.specs.List.{AllByRecursion}
use Rattle.std.specs.Cmp.Lexicographic.{pointwise}
use Rattle.std.specs.Char.{to_ascii_lowercase}
use Rattle.dns_names.specs.declared.limit.TheConstants as limits

-- a label has 1 to 63 bytes
abbrev pub IsLabel : List ℕ → Type 0
IsLabel label = (1 ≤ length label) × (length label ≤ limits.LABEL_BYTES)

-- a length byte for each label, the labels' bytes, and a zero byte
abbrev pub wire_length : List (List ℕ) → ℕ
wire_length [] = 1
wire_length (label ∷ labels) = length label + 1 + wire_length labels

-- labels of which each is one, and at most 255 bytes in wire format
pub record IsName (labels : List (List ℕ)) : Type 0 where
  pub each : AllByRecursion IsLabel labels
  pub short : wire_length labels ≤ limits.NAME_BYTES

-- each label behind its length, with no zero byte at the end
abbrev pub spelled : List (List ℕ) → List ℕ
spelled [] = []
spelled (label ∷ labels) = length label ∷ (label ++ spelled labels)

-- the labels that bytes spell, at most so many
abbrev pub first_labels : ℕ → List ℕ → List (List ℕ)
first_labels zero bytes = []
first_labels (suc most) [] = []
first_labels (suc most) (size ∷ bytes) = take size bytes ∷ first_labels most (drop size bytes)

-- the labels that bytes spell
unfoldable pub labels_of : List ℕ → List (List ℕ)
labels_of bytes = first_labels (length bytes) bytes

-- the bytes are the spelling of a name
pub record IsWire (bytes : List ℕ) : Type 0 where
  pub spells : spelled (labels_of bytes) ≡ bytes
  pub proper : IsName (labels_of bytes)

-- the spelling of a name without its first labels
pub record Rest (name : List (List ℕ)) (count : ℕ) (rest : List ℕ) : Type 0 where
  pub inside : count ≤ length name
  pub is : rest ≡ spelled (drop count name)

-- each label in lower case
abbrev pub lowered : List (List ℕ) → List (List ℕ)
lowered labels = map (λ label. map to_ascii_lowercase label) labels

-- ASCII case aside, the last labels of the name are those of the zone (RFC 4343)
pub record IsWithin (name zone : List (List ℕ)) : Type 0 where
  pub above : ℕ
  pub inside : above ≤ length name
  pub same : lowered (drop above name) ≡ lowered zone

-- whether two names are equal byte for byte
abbrev pub same_labels : List (List ℕ) → List (List ℕ) → Bool
same_labels a b = pointwise (pointwise nat_eq) a b

-- whether two names are the same, ASCII case aside (RFC 4343)
abbrev pub is_same : List (List ℕ) → List (List ℕ) → Bool
is_same a b = same_labels (lowered a) (lowered b)

-- whether the name is the zone, or lies below it
unfoldable pub is_within : List (List ℕ) → List (List ℕ) → Bool
is_within name zone = is_same (drop (length name - length zone) name) zone
