-- Laws of presentation format: a printed name is ASCII, and reads as the name whatever the origin.
use Rattle.std.proofs.Common.{◌≡◌, ℕ, zero, suc, ◌+◌, ◌/◌, ◌%◌, ◌<◌, ◌≤◌, true, false, not, ◌&&◌, ◌||◌, cond, eqb, ltb, List, [], ◌∷◌, ◌++◌, length, get_or, Some, refl, ap, subst, ◌∙◌, append_assoc, arith, length-append}
use Rattle.std.proofs.lemmas.Bool.{agree_below_at, cond_both, lt-ltb, ltb-true, and_from}
use Rattle.std.proofs.lemmas.Grind.{common_steps}
use Rattle.std.specs.List.{AllByRecursion, flat_map}
use Rattle.std.specs.Str.{IsAscii}
use Rattle.std.specs.Char.{is_ascii_digit, is_ascii_graphic}
use Rattle.dns_names.specs.Name.{IsLabel, IsName, wire_length, spelled}
use Rattle.dns_names.specs.NameText.{is_special, three_digits, byte_text, label_text, name_text, Character, dot, byte, number_of, escaped, characters, parted, completed, placed, is_label, are_labels, is_name, if_name, is_dot, name_of}

-- each label is made of bytes
abbrev pub AreBytes : List (List ℕ) → Type 0
AreBytes labels = AllByRecursion (λ label. AllByRecursion (λ b. b < 256) label) labels

-- what holds of each item of two lists
all_left : (P : ℕ → Type 0) (a b : List ℕ) → AllByRecursion P (a ++ b) → AllByRecursion P a
all_left P [] b h = tt
all_left P (x ∷ a) b h = (h.0, all_left P a b h.1)

all_right : (P : ℕ → Type 0) (a b : List ℕ) → AllByRecursion P (a ++ b) → AllByRecursion P b
all_right P [] b h = h
all_right P (x ∷ a) b h = all_right P a b h.1

all_both : (P : ℕ → Type 0) (a b : List ℕ) → AllByRecursion P a → AllByRecursion P b → AllByRecursion P (a ++ b)
all_both P [] b p q = q
all_both P (x ∷ a) b p q = (p.0, all_both P a b p.1 q)

each_byte : (xs : List ℕ) → ((k : ℕ) → get_or xs k 0 < 256) → AllByRecursion (λ b. b < 256) xs
each_byte [] h = tt
each_byte (x ∷ xs) h = (h 0, each_byte xs (λ k. h (suc k)))

spelled_bytes : (ls : List (List ℕ)) → AllByRecursion (λ b. b < 256) (spelled ls) → AreBytes ls
spelled_bytes [] h = tt
spelled_bytes (l ∷ ls) h = (all_left (λ b. b < 256) l (spelled ls) h.1, spelled_bytes ls (all_right (λ b. b < 256) l (spelled ls) h.1))

-- a name that is spelled in bytes is made of bytes
pub are_bytes : (wire : List ℕ) (ls : List (List ℕ)) → wire ≡ spelled ls → ((k : ℕ) → get_or wire k 0 < 256) → AreBytes ls
are_bytes wire ls e h = spelled_bytes ls (subst (AllByRecursion (λ b. b < 256)) e (each_byte wire h))

-- a printed byte
special_is_ascii : (b : ℕ) → b < 256 → is_special b ≡ true → b < 128
special_is_ascii b h e =
    let table = agree_below_at (λ b. not (is_special b) || ltb b 128) (λ _. true) 256 b refl h in
    let low : ltb b 128 ≡ true = rw e at table in
    ltb-true b 128 low

ascii_byte : (b : ℕ) → b < 256 → AllByRecursion (λ x. x < 128) (byte_text b)
ascii_byte b h =
    cond_both (is_special b) (92 ∷ b ∷ []) (cond (is_ascii_graphic b) (b ∷ []) (92 ∷ three_digits b)) (AllByRecursion (λ x. x < 128))
    (λ e. (omega arith, (special_is_ascii b h e, tt)))
    (λ _. cond_both (is_ascii_graphic b) (b ∷ []) (92 ∷ three_digits b) (AllByRecursion (λ x. x < 128))
    (λ e. (grind (arith, common_steps), tt))
    (λ _. (omega arith, (omega arith, (omega arith, (omega arith, tt))))))

ascii_bytes : (l : List ℕ) → AllByRecursion (λ b. b < 256) l → AllByRecursion (λ x. x < 128) (flat_map byte_text l)
ascii_bytes [] h = tt
ascii_bytes (b ∷ l) h = all_both (λ x. x < 128) (byte_text b) (flat_map byte_text l) (ascii_byte b h.0) (ascii_bytes l h.1)

ascii_labels : (ls : List (List ℕ)) → AreBytes ls → AllByRecursion (λ x. x < 128) (flat_map label_text ls)
ascii_labels [] h = tt
ascii_labels (l ∷ ls) h =
    all_both (λ x. x < 128) (label_text l) (flat_map label_text ls)
    (all_both (λ x. x < 128) (flat_map byte_text l) (46 ∷ []) (ascii_bytes l h.0) (omega arith, tt)) (ascii_labels ls h.1)

is_ascii : (xs : List ℕ) → AllByRecursion (λ x. x < 128) xs → IsAscii xs
is_ascii [] h i = omega arith
is_ascii (x ∷ xs) h zero = h.0
is_ascii (x ∷ xs) h (suc i) = is_ascii xs h.1 i

pub labels_are_ascii : (ls : List (List ℕ)) → AreBytes ls → IsAscii (flat_map label_text ls)
labels_are_ascii ls h = is_ascii (flat_map label_text ls) (ascii_labels ls h)

-- a digit of a number below 1000
digit : (d : ℕ) → d < 10 → is_ascii_digit (48 + d) ≡ true
digit d h = agree_below_at (λ d. is_ascii_digit (48 + d)) (λ _. true) 10 d refl h

digits_read : (b : ℕ) (rest : List ℕ) → b < 256 → escaped (three_digits b ++ rest) ≡ Some (b, 3)
digits_read b rest h =
    let first = digit (b / 100) (omega arith) in
    let second = digit (b / 10 % 10) (omega arith) in
    let third = digit (b % 10) (omega arith) in
    let value : number_of (48 + b / 100) (48 + b / 10 % 10) (48 + b % 10) ≡ b = omega arith in
    let fits : ltb b 256 ≡ true = lt-ltb b 256 h in
    rw (first, second, third, value, fits) refl

special_read : (b : ℕ) (rest : List ℕ) → b < 256 → is_special b ≡ true → escaped (b ∷ rest) ≡ Some (b, 1)
special_read b rest h e =
    let table = agree_below_at (λ b. is_special b && is_ascii_digit b) (λ _. false) 256 b refl h in
    let no_digit : is_ascii_digit b ≡ false = rw e at table in
    rw no_digit refl

plain_read : (b : ℕ) (rest : List ℕ) (cs : List Character) → b < 256 → is_special b ≡ false → characters 0 rest ≡ Some cs → characters 0 (b ∷ rest) ≡ Some (byte b ∷ cs)
plain_read b rest cs h e is =
    let dots = agree_below_at (λ b. not (is_special b) && eqb b 46) (λ _. false) 256 b refl h in
    let slashes = agree_below_at (λ b. not (is_special b) && eqb b 92) (λ _. false) 256 b refl h in
    let no_dot : eqb b 46 ≡ false = rw e at dots in
    let no_slash : eqb b 92 ≡ false = rw e at slashes in
    rw (no_dot, no_slash, is) refl

-- a printed byte reads as the byte
byte_reads : (b : ℕ) (rest : List ℕ) (cs : List Character) → b < 256 → characters 0 rest ≡ Some cs → characters 0 (byte_text b ++ rest) ≡ Some (byte b ∷ cs)
byte_reads b rest cs h is =
    cond_both (is_special b) (92 ∷ b ∷ []) (cond (is_ascii_graphic b) (b ∷ []) (92 ∷ three_digits b)) (λ t. characters 0 (t ++ rest) ≡ Some (byte b ∷ cs))
    (λ e. rw (special_read b rest h e, is) refl)
    (λ e. cond_both (is_ascii_graphic b) (b ∷ []) (92 ∷ three_digits b) (λ t. characters 0 (t ++ rest) ≡ Some (byte b ∷ cs))
    (λ _. plain_read b rest cs h e is)
    (λ _. rw (digits_read b rest h, is) refl))

-- the characters of a label in front of others, and of labels
abbrev pub bytes_then : List ℕ → List Character → List Character
bytes_then [] cs = cs
bytes_then (b ∷ l) cs = byte b ∷ bytes_then l cs

abbrev shown : List (List ℕ) → List Character
shown [] = []
shown (l ∷ ls) = bytes_then l (dot ∷ shown ls)

bytes_read : (l rest : List ℕ) (cs : List Character) → AllByRecursion (λ b. b < 256) l → characters 0 rest ≡ Some cs → characters 0 (flat_map byte_text l ++ rest) ≡ Some (bytes_then l cs)
bytes_read [] rest cs h is = is
bytes_read (b ∷ l) rest cs h is =
    rw (append_assoc (byte_text b) (flat_map byte_text l) rest) (byte_reads b (flat_map byte_text l ++ rest) (bytes_then l cs) h.0 (bytes_read l rest cs h.1 is))

labels_read : (ls : List (List ℕ)) → AreBytes ls → characters 0 (flat_map label_text ls) ≡ Some (shown ls)
labels_read [] h = refl
labels_read (l ∷ ls) h =
    let others : characters 0 (46 ∷ flat_map label_text ls) ≡ Some (dot ∷ shown ls) = rw (labels_read ls h.1) refl in
    ap (characters 0) (append_assoc (flat_map byte_text l) (46 ∷ []) (flat_map label_text ls))
    ∙ bytes_read l (46 ∷ flat_map label_text ls) (dot ∷ shown ls) h.0 others

parted_bytes : (l : List ℕ) (cs : List Character) → parted (bytes_then l (dot ∷ cs)) ≡ l ∷ parted cs
parted_bytes [] cs = refl
parted_bytes (b ∷ l) cs = rw (parted_bytes l cs) refl

parted_shown : (ls : List (List ℕ)) → parted (shown ls) ≡ ls ++ [] ∷ []
parted_shown [] = refl
parted_shown (l ∷ ls) = parted_bytes l (shown ls) ∙ ap (λ (t : List (List ℕ)). l ∷ t) (parted_shown ls)

-- labels that a dot ends
pub completed_end : (origin ls : List (List ℕ)) → AllByRecursion IsLabel ls → completed origin (ls ++ [] ∷ []) ≡ ls
completed_end origin [] h = refl
completed_end origin ([] ∷ ls) h = absurd (omega (arith, h.0.0))
completed_end origin ((b ∷ l) ∷ ls) h = ap (λ (t : List (List ℕ)). (b ∷ l) ∷ t) (completed_end origin ls h.1)

-- the test of a name is that it is one
pub label_test : (l : List ℕ) → IsLabel l → is_label l ≡ true
label_test l h = and_from (ltb 0 (length l)) (ltb (length l) 64) (lt-ltb 0 (length l) (omega (arith, h.0))) (lt-ltb (length l) 64 (omega (arith, h.1)))

labels_test : (ls : List (List ℕ)) → AllByRecursion IsLabel ls → are_labels ls ≡ true
labels_test [] h = refl
labels_test (l ∷ ls) h = and_from (is_label l) (are_labels ls) (label_test l h.0) (labels_test ls h.1)

pub name_test : (ls : List (List ℕ)) → IsName ls → if_name ls ≡ Some ls
name_test ls h =
    let test : is_name ls ≡ true = and_from (are_labels ls) (ltb (wire_length ls) 256) (labels_test ls h.each) (lt-ltb (wire_length ls) 256 (omega (arith, h.short))) in
    rw test refl

-- a text of two bytes is no dot
long_is_no_dot : (t : List ℕ) → 2 ≤ length t → is_dot t ≡ false
long_is_no_dot [] h = absurd (omega arith)
long_is_no_dot (a ∷ []) h = absurd (omega arith)
long_is_no_dot (a ∷ b ∷ t) h = refl

byte_text_long : (b : ℕ) → 1 ≤ length (byte_text b)
byte_text_long b =
    cond_both (is_special b) (92 ∷ b ∷ []) (cond (is_ascii_graphic b) (b ∷ []) (92 ∷ three_digits b)) (λ t. 1 ≤ length t) (λ _. omega arith)
    (λ _. cond_both (is_ascii_graphic b) (b ∷ []) (92 ∷ three_digits b) (λ t. 1 ≤ length t) (λ _. omega arith) (λ _. omega arith))

text_long : (l : List ℕ) (ls : List (List ℕ)) → IsLabel l → 2 ≤ length (flat_map label_text (l ∷ ls))
text_long [] ls h = absurd (omega (arith, h.0))
text_long (b ∷ l) ls h =
    omega (arith, byte_text_long b, length-append (label_text (b ∷ l)) (flat_map label_text ls), length-append (flat_map byte_text (b ∷ l)) (46 ∷ []), length-append (byte_text b) (flat_map byte_text l))

-- a printed name reads as the name
pub reads_back : (name origin : List (List ℕ)) → IsName name → AreBytes name → name_of (name_text name) origin ≡ Some name
unfolding name_of
reads_back [] origin h b = refl
reads_back (l ∷ ls) origin h b =
    let all : placed origin (parted (shown (l ∷ ls))) ≡ l ∷ ls =
    ap (placed origin) (parted_shown (l ∷ ls)) ∙ ap (λ (t : List (List ℕ)). l ∷ t) (completed_end origin ls h.each.1) in
    rw (long_is_no_dot (flat_map label_text (l ∷ ls)) (text_long l ls h.each.0), labels_read (l ∷ ls) b, all) (name_test (l ∷ ls) h)
