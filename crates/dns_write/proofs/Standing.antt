-- Bytes that stand at an offset, and what they spell there.
use Rattle.std.proofs.Common.{◌≡◌, ◌≤◌, ◌<◌, ℕ, ◌+◌, ◌-◌, ◌*◌, ◌/◌, ◌%◌, ◌^◌, List, [], ◌∷◌, ◌++◌, length, take, drop, get_or, slice_index, slice_range, refl, sym, ap, ◌∙◌, append_assoc, arith, length-append, length-drop}
use Rattle.std.proofs.lemmas.List.{take_at, drop_at, drop-drop}
use Rattle.std.proofs.lemmas.List.Prefix.{at_reads}
use Rattle.std.proofs.Math.Nat.{div-div-eq-div-mul}
use Rattle.std.proofs.lemmas.Nat.{div_below}
use Rattle.std.specs.Int.{w16, w32, w128, to_be_bytes}
use Rattle.dns_names.specs.Name.{IsLabel}
use Rattle.dns_wire.specs.Wire.{ByteAt, LabelAt, PointerAt, u16_at, u32_at, u128_at}
use Rattle.dns_wire.specs.Data.{CharacterStringAt}

pub record Stands (T : List ℕ) (at : ℕ) (x : List ℕ) : Type 0 where
  pub inside : at ≤ length T
  pub rest : List ℕ
  pub is : drop at T ≡ x ++ rest

pub size_of : {T : List ℕ} {at : ℕ} {x : List ℕ} → Stands T at x → at + length x ≤ length T
size_of {T} {at} {x} s = omega (arith, s.inside, ap length s.is, length-drop at T, length-append x s.rest)

-- the parts of what stands there
pub left : {T : List ℕ} {at : ℕ} (x y : List ℕ) → Stands T at (x ++ y) → Stands T at x
left x y s = record { inside = s.inside; rest = y ++ s.rest; is = s.is ∙ append_assoc x y s.rest }

pub right : {T : List ℕ} {at : ℕ} (x y : List ℕ) (n : ℕ) → Stands T at (x ++ y) → n ≡ at + length x → Stands T n y
right {T} {at} x y n s e = record {
  inside = omega (arith, size_of s, length-append x y);
  rest = s.rest;
  is = ap (λ (k : ℕ). drop k T) e ∙ sym (drop-drop (length x) at T) ∙ ap (drop (length x)) (s.is ∙ append_assoc x y s.rest) ∙ drop_at x (y ++ s.rest) (length x) refl;
}

pub moved : {T : List ℕ} {at : ℕ} {x : List ℕ} (n : ℕ) → Stands T at x → n ≡ at → Stands T n x
moved {T} n s e = record { inside = omega (arith, s.inside); rest = s.rest; is = ap (λ (k : ℕ). drop k T) e ∙ s.is }

-- a byte of what stands there
pub index : {T : List ℕ} {at : ℕ} {x : List ℕ} → Stands T at x → (i n : ℕ) → n ≡ at + i → i < length x → slice_index T n ≡ get_or x i 0
index {T} {at} {x} s i n e h = ap (λ (k : ℕ). get_or T k 0) e ∙ at_reads 0 T x at s.rest s.is i h

pub range : {T : List ℕ} {at : ℕ} {x : List ℕ} → Stands T at x → (end : ℕ) → end ≡ at + length x → slice_range T at end ≡ x
range {T} {at} {x} s end e =
    let long : end - at ≡ length x = omega arith in
    ap (λ (k : ℕ). take k (drop at T)) long ∙ ap (take (length x)) s.is ∙ take_at x s.rest (length x) refl

pub byte_here : {T : List ℕ} {at b : ℕ} → Stands T at (b ∷ []) → ByteAt T at b
byte_here {T} {at} {b} s = record { inside = omega (arith, size_of s); is = index s 0 at (omega arith) (omega arith) }

pub first_byte : {T : List ℕ} {at b : ℕ} {x : List ℕ} → Stands T at (b ∷ x) → ByteAt T at b
first_byte {T} {at} {b} {x} s = record { inside = omega (arith, size_of s); is = index s 0 at (omega arith) (omega arith) }

pub label_here : {T : List ℕ} {at : ℕ} (l : List ℕ) → IsLabel l → Stands T at (length l ∷ l) → LabelAt T at l
label_here {T} {at} l proper s =
    let text = right (length l ∷ []) l (at + 1) s (omega arith) in
    record { sized = proper; size = first_byte s; inside = omega (arith, size_of s); text = range text (at + 1 + length l) refl }

pub string_here : {T : List ℕ} {at : ℕ} (string : List ℕ) (behind : ℕ) → Stands T at (length string ∷ string) → behind ≡ at + 1 + length string → CharacterStringAt T at string behind
string_here {T} {at} string behind s e =
    let text = right (length string ∷ []) string (at + 1) s (omega arith) in
    record { size = first_byte s; behind_is = e; inside = omega (arith, size_of s); text = range text behind e }

pub pointer_here : {T : List ℕ} {at : ℕ} (target : ℕ) → Stands T at ((192 + target / 256) ∷ (target % 256) ∷ []) → PointerAt T at target
pointer_here {T} {at} target s =
    let a : slice_index T at ≡ 192 + target / 256 = index s 0 at (omega arith) (omega arith) in
    let b : slice_index T (at + 1) ≡ target % 256 = index s 1 (at + 1) refl (omega arith) in
    record { inside = omega (arith, size_of s); mark = omega arith; is = omega arith }

pub u16_here : {T : List ℕ} {at : ℕ} (n : ℕ) → n < 2 ^ 16 → Stands T at (to_be_bytes w16 n) → n ≡ u16_at T at
u16_here {T} {at} n small s =
    let a : slice_index T at ≡ n / 256 % 256 = index s 0 at (omega arith) (omega arith) in
    let b : slice_index T (at + 1) ≡ n % 256 = index s 1 (at + 1) refl (omega arith) in
    omega arith

-- the lowest 32 bits of a number
low_bits : (n q r s : ℕ) → q ≡ n / 256 → r ≡ q / 256 → s ≡ r / 256 → 65536 * (256 * (s % 256) + r % 256) + (256 * (q % 256) + n % 256) ≡ n % 4294967296
low_bits n q r s a b c = omega arith

u32_bits : {T : List ℕ} {at : ℕ} (n : ℕ) → Stands T at (to_be_bytes w32 n) → u32_at T at ≡ n % 4294967296
unfolding u32_at
u32_bits {T} {at} n s =
    let a : slice_index T at ≡ n / 16777216 % 256 = index s 0 at (omega arith) (omega arith) in
    let b : slice_index T (at + 1) ≡ n / 65536 % 256 = index s 1 (at + 1) refl (omega arith) in
    let c : slice_index T (at + 2) ≡ n / 256 % 256 = index s 2 (at + 2) refl (omega arith) in
    let d : slice_index T (at + 2 + 1) ≡ n % 256 = index s 3 (at + 2 + 1) (omega arith) (omega arith) in
    let two : n / 65536 ≡ n / 256 / 256 = sym (div-div-eq-div-mul n 256 256) in
    let three : n / 16777216 ≡ n / 256 / 256 / 256 = sym (div-div-eq-div-mul n 65536 256) ∙ ap (λ (q : ℕ). q / 256) two in
    let low = low_bits n (n / 256) (n / 256 / 256) (n / 256 / 256 / 256) refl refl refl in
    omega (arith, ap (λ (q : ℕ). q % 256) two, ap (λ (q : ℕ). q % 256) three)

pub u32_here : {T : List ℕ} {at : ℕ} (n : ℕ) → n < 2 ^ 32 → Stands T at (to_be_bytes w32 n) → n ≡ u32_at T at
u32_here n small s = omega (arith, u32_bits n s)

-- the bytes of a number of 128 bits are those of four numbers of 32 bits
deeper : (n a b c : ℕ) → a * b ≡ c → n / c % 256 ≡ n / a / b % 256
deeper n a b c e = ap (λ (k : ℕ). n / k % 256) (sym e) ∙ ap (λ (q : ℕ). q % 256) (sym (div-div-eq-div-mul n a b))

u128_bytes : (n : ℕ) → to_be_bytes w128 n ≡ to_be_bytes w32 (n / 2 ^ 96) ++ (to_be_bytes w32 (n / 2 ^ 64) ++ (to_be_bytes w32 (n / 2 ^ 32) ++ to_be_bytes w32 n))
u128_bytes n = λ i.
    deeper n (2 ^ 96) (2 ^ 24) (2 ^ 120) refl i ∷ deeper n (2 ^ 96) (2 ^ 16) (2 ^ 112) refl i ∷ deeper n (2 ^ 96) (2 ^ 8) (2 ^ 104) refl i ∷ (n / 2 ^ 96 % 256)
    ∷ deeper n (2 ^ 64) (2 ^ 24) (2 ^ 88) refl i ∷ deeper n (2 ^ 64) (2 ^ 16) (2 ^ 80) refl i ∷ deeper n (2 ^ 64) (2 ^ 8) (2 ^ 72) refl i ∷ (n / 2 ^ 64 % 256)
    ∷ deeper n (2 ^ 32) (2 ^ 24) (2 ^ 56) refl i ∷ deeper n (2 ^ 32) (2 ^ 16) (2 ^ 48) refl i ∷ deeper n (2 ^ 32) (2 ^ 8) (2 ^ 40) refl i ∷ (n / 2 ^ 32 % 256)
    ∷ (n / 2 ^ 24 % 256) ∷ (n / 2 ^ 16 % 256) ∷ (n / 2 ^ 8 % 256) ∷ (n % 256) ∷ []

-- a number below a power of 2^32 by its parts
by_parts : (n q r s : ℕ) → q ≡ n / 4294967296 → r ≡ q / 4294967296 → s ≡ r / 4294967296 → s < 4294967296
    → 4294967296 * (4294967296 * (4294967296 * (s % 4294967296) + r % 4294967296) + q % 4294967296) + n % 4294967296 ≡ n
by_parts n q r s a b c small = omega arith

pub u128_here : {T : List ℕ} {at : ℕ} (n : ℕ) → n < 2 ^ 128 → Stands T at (to_be_bytes w128 n) → n ≡ u128_at T at
unfolding u128_at
u128_here {T} {at} n small s =
    let whole = rw (u128_bytes n) at s in
    let b = right (to_be_bytes w32 (n / 2 ^ 96)) (to_be_bytes w32 (n / 2 ^ 64) ++ (to_be_bytes w32 (n / 2 ^ 32) ++ to_be_bytes w32 n)) (at + 4) whole refl in
    let c = right (to_be_bytes w32 (n / 2 ^ 64)) (to_be_bytes w32 (n / 2 ^ 32) ++ to_be_bytes w32 n) (at + 8) b (omega arith) in
    let d = right (to_be_bytes w32 (n / 2 ^ 32)) (to_be_bytes w32 n) (at + 12) c (omega arith) in
    let second : n / 2 ^ 64 ≡ n / 2 ^ 32 / 2 ^ 32 = sym (div-div-eq-div-mul n (2 ^ 32) (2 ^ 32)) in
    let first : n / 2 ^ 96 ≡ n / 2 ^ 64 / 2 ^ 32 = sym (div-div-eq-div-mul n (2 ^ 64) (2 ^ 32)) in
    let few : n / 2 ^ 96 < 4294967296 = div_below n (2 ^ 96) 4294967296 (omega arith) (omega arith) in
    let parts = by_parts n (n / 2 ^ 32) (n / 2 ^ 64) (n / 2 ^ 96) refl second first few in
    let one = u32_bits (n / 2 ^ 96) (left (to_be_bytes w32 (n / 2 ^ 96)) (to_be_bytes w32 (n / 2 ^ 64) ++ (to_be_bytes w32 (n / 2 ^ 32) ++ to_be_bytes w32 n)) whole) in
    let two = u32_bits (n / 2 ^ 64) (left (to_be_bytes w32 (n / 2 ^ 64)) (to_be_bytes w32 (n / 2 ^ 32) ++ to_be_bytes w32 n) b) in
    let three = u32_bits (n / 2 ^ 32) (left (to_be_bytes w32 (n / 2 ^ 32)) (to_be_bytes w32 n) c) in
    let last = u32_bits n d in
    sym parts ∙ (λ i. 4294967296 * (4294967296 * (4294967296 * sym one i + sym two i) + sym three i) + sym last i)
