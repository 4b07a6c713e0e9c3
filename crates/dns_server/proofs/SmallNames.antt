-- The names that a load's queries ask for have small letters alone, so that queries of the same key
-- ask for the same.
use Rattle.std.proofs.Common.{◌≡◌, ◌∙◌, ◌+◌, ◌-◌, ◌%◌, ◌^◌, ◌≤◌, ◌<◌, ℕ, zero, suc, Bool, true, false, List, [], ◌∷◌, ◌++◌, length, map, take, drop, refl, sym, ap, subst, arith, codes, length-append, if◌then◌else◌}
use Rattle.std.specs.Prelude.{nat_lt, slice_range}
use Rattle.std.specs.Char.{to_ascii_lowercase}
use Rattle.std.specs.Fmt.{decimal}
use Rattle.std.specs.List.{AllByRecursion}
use Rattle.std.proofs.lemmas.Grind.{common_steps}
use Rattle.std.proofs.lemmas.Fmt.{decimal_by_steps, length-decimal-le}
use Rattle.dns_data.specs.{lowered}
use Rattle.outside.specs.declared.datagram.Datagram.{Datagram}
use Rattle.dns_wire.specs.Wire.{NameAt, label, pointer, root}
use Rattle.dns_wire.specs.Asked.{QueriesThis}
use Rattle.dns_wire.specs.declared.asked.Asked.{Asked}
use Rattle.load_maker.specs.Queries.{asked_of, datagram_of, label_of, queries_of, suffix_of, wire_name}

-- a byte that is no capital
abbrev IsSmall : ℕ → Type 0
IsSmall byte = to_ascii_lowercase byte ≡ byte

abbrev AllSmall : List ℕ → Type 0
AllSmall bytes = AllByRecursion IsSmall bytes

small_low : (n : ℕ) → n ≤ 64 → IsSmall n
small_low n h = grind (arith, common_steps)

all_append : {A : Type 0} (P : A → Type 0) (xs ys : List A) → AllByRecursion P xs → AllByRecursion P ys → AllByRecursion P (xs ++ ys)
all_append P [] ys a b = b
all_append P (x ∷ xs) ys a b = (a.0, all_append P xs ys a.1 b)

all_drop : {A : Type 0} (P : A → Type 0) (n : ℕ) (xs : List A) → AllByRecursion P xs → AllByRecursion P (drop n xs)
all_drop P zero xs a = a
all_drop P (suc n) [] a = tt
all_drop P (suc n) (x ∷ xs) a = all_drop P n xs a.1

all_take : {A : Type 0} (P : A → Type 0) (n : ℕ) (xs : List A) → AllByRecursion P xs → AllByRecursion P (take n xs)
all_take P zero xs a = tt
all_take P (suc n) [] a = tt
all_take P (suc n) (x ∷ xs) a = (a.0, all_take P n xs a.1)

-- the bytes from a place on are small
abbrev SmallFrom : ℕ → List ℕ → Type 0
SmallFrom zero bytes = AllSmall bytes
SmallFrom (suc n) [] = Unit {0}
SmallFrom (suc n) (b ∷ bytes) = SmallFrom n bytes

small_drop : (n a : ℕ) (bytes : List ℕ) → n ≤ a → SmallFrom n bytes → AllSmall (drop a bytes)
small_drop zero a bytes le s = all_drop IsSmall a bytes s
small_drop (suc n) zero bytes le s = absurd (omega (arith, le))
small_drop (suc n) (suc a) [] le s = tt
small_drop (suc n) (suc a) (b ∷ bytes) le s = small_drop n a bytes (omega (arith, le)) s

small_map : (bytes : List ℕ) → AllSmall bytes → map to_ascii_lowercase bytes ≡ bytes
small_map [] s = refl
small_map (b ∷ bytes) s = let rest = small_map bytes s.1 in λ i. s.0 i ∷ rest i

small_range : (bytes : List ℕ) (a b : ℕ) → 12 ≤ a → SmallFrom 12 bytes → AllSmall (slice_range bytes a b)
small_range bytes a b le s = all_take IsSmall (b - a) (drop a bytes) (small_drop 12 a bytes le s)

-- a name behind the header of such bytes is small
small_name : (bytes : List ℕ) → SmallFrom 12 bytes → (start at : ℕ) (name : List (List ℕ)) (behind : ℕ) → 12 ≤ at → NameAt bytes start at name behind → lowered name ≡ name
small_name bytes s start at _ behind le (root zero_byte end) = refl
small_name bytes s start at _ behind le (label {first = first} {others = others} here there) =
    let text = small_map first (subst AllSmall here.text (small_range bytes (at + 1) (at + 1 + length first) (omega (arith, le)) s)) in
    let rest = small_name bytes s start (at + 1 + length first) others behind (omega (arith, le)) there in
    λ i. text i ∷ rest i
small_name bytes s start at name behind le (pointer {target = target} {other = other} here low less there end) = small_name bytes s target target name other low there

small_digits : (n : ℕ) → n < 2 ^ 64 → AllSmall (decimal n)
small_digits n lt =
    decimal_by_steps (λ n ds. AllSmall ds) (λ n few. (small_low (48 + n) (omega (arith, few)), tt))
    (λ n ds many s. all_append IsSmall ds ((48 + n % 10) ∷ []) s (small_low (48 + n % 10) (omega arith), tt)) n lt

small_suffix : (t : Bool) → AllSmall (if t then 4 ∷ codes "load" ++ 4 ∷ codes "test" ++ 0 ∷ [] else 5 ∷ codes "other" ++ 4 ∷ codes "test" ++ 0 ∷ [])
small_suffix true = (refl, (refl, (refl, (refl, (refl, (refl, (refl, (refl, (refl, (refl, (refl, tt)))))))))))
small_suffix false = (refl, (refl, (refl, (refl, (refl, (refl, (refl, (refl, (refl, (refl, (refl, (refl, tt))))))))))))

small_label : (number : ℕ) → number < 1500 → AllSmall (label_of number)
small_label number below = (refl, small_digits number (omega (arith, below)))

label_length : (number : ℕ) → number < 1500 → length (label_of number) ≤ 5
label_length number below =
    let parts : length (label_of number) ≡ length (codes "h") + length (decimal number) = length-append (codes "h") (decimal number) in
    let one : length (codes "h") ≡ 1 = refl in
    let few : length (decimal number) ≤ 4 = length-decimal-le 4 number (omega arith) (omega (arith, below)) (omega (arith, below)) in
    omega (arith, parts, one, few)

small_wire : (number : ℕ) → number < 1500 → AllSmall (wire_name number)
small_wire number below = (
  small_low (length (label_of number)) (let few = label_length number below in omega (arith, few)),
  all_append IsSmall (label_of number) (suffix_of number) (small_label number below) (small_suffix (nat_lt number 1400)),
)

small_datagram : (index : ℕ) → SmallFrom 12 (datagram_of index).bytes
small_datagram index =
    all_append IsSmall (wire_name (asked_of index)) (0 ∷ 1 ∷ 0 ∷ 1 ∷ []) (small_wire (asked_of index) (omega arith)) (refl, (refl, (refl, (refl, tt))))

-- a datagram whose query asks for a name in small letters, if it is one
abbrev pub AsksSmall : Datagram → Type 0
AsksSmall d = (asked : Asked) → QueriesThis d.bytes asked → lowered asked.question.name ≡ asked.question.name

asks_small : (index : ℕ) → AsksSmall (datagram_of index)
asks_small index asked queries =
    let spelt = queries.spells.message.question.name.spelt in
    let small = small_name (datagram_of index).bytes (small_datagram index) 12 12 queries.message.question.name queries.spells.message.question.middle (omega arith) spelt in
    let same : asked.question.name ≡ queries.message.question.name = ap (λ (a : Asked). a.question.name) queries.is in
    ap lowered same ∙ (small ∙ sym same)

pub all_small : (count : ℕ) → AllByRecursion AsksSmall (queries_of count)
all_small zero = tt
all_small (suc count) = all_append AsksSmall (queries_of count) (datagram_of count ∷ []) (all_small count) (asks_small count, tt)
