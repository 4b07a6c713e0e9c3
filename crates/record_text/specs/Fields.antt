-- Fields of a record's data, one word each, and how one is taken after another.
use Rattle.std.specs.Prelude.{◌≡◌, ℕ, ◌^◌, ◌==◌, Bool, false, ◌&&◌, not, List, [], ◌∷◌, Option}
use Rattle.std.specs.Prelude.{Some, None, option_map, option_and_then, Result, Ok, Err}
use Rattle.std.specs.Prelude.{if◌then◌else◌}
use Rattle.dns_addr.specs.AddrText.{addr_of}
use Rattle.dns_data.specs.Addresses.{Addr, V4, V6}
use Rattle.dns_names.specs.NameText.{name_of}
use Rattle.record_text.specs.declared.form.Form.{Form}
use Rattle.record_text.specs.declared.form.Form.TheVariants.{Alone, ZoneFile}
use Rattle.record_text.specs.declared.fault.RecordFault.{RecordFault}
use Rattle.record_text.specs.declared.fault.RecordFault.TheVariants.{Bad, NoMemory}
use Rattle.record_text.specs.Strings.{string_of, tag_of}
use Rattle.record_text.specs.Ttls.{ttl_of}
use Rattle.record_text.specs.Words.{WordData}
use Rattle.type_names.specs.Kinds.{kind_of_text}
use Rattle.numbers.specs.{number_below}

-- where a record's text stands, and the origin there
pub record PlaceData : Type 0 where
  pub origin : List (List ℕ)
  pub form : Form

-- whether a text is `@`
abbrev pub is_at_sign : List ℕ → Bool
is_at_sign [] = false
is_at_sign (byte ∷ []) = byte == 64
is_at_sign (byte ∷ second ∷ bytes) = false

-- whether a word stands for the origin: `@` in a zone file, without quotes
abbrev pub is_origin : Form → WordData → Bool
is_origin Alone word = false
is_origin ZoneFile word = not word.quoted && is_at_sign word.text

-- the name of a word
abbrev pub name_in : PlaceData → WordData → Option (List (List ℕ))
name_in place word =
    if is_origin place.form word then Some place.origin else name_of word.text place.origin

abbrev pub u8_in : WordData → Option ℕ
u8_in word = number_below (2 ^ 8) word.text

abbrev pub u16_in : WordData → Option ℕ
u16_in word = number_below (2 ^ 16) word.text

abbrev pub u32_in : WordData → Option ℕ
u32_in word = number_below (2 ^ 32) word.text

abbrev pub ttl_in : WordData → Option ℕ
ttl_in word = ttl_of word.text

abbrev pub kind_in : WordData → Option ℕ
kind_in word = kind_of_text word.text

abbrev pub if_v4 : Addr → Option ℕ
if_v4 (V4 number) = Some number
if_v4 (V6 number) = None

abbrev pub if_v6 : Addr → Option ℕ
if_v6 (V4 number) = None
if_v6 (V6 number) = Some number

-- the IPv4 address of a word
abbrev pub v4_in : WordData → Option ℕ
v4_in word = option_and_then if_v4 (addr_of word.text)

-- the IPv6 address of a word
abbrev pub v6_in : WordData → Option ℕ
v6_in word = option_and_then if_v6 (addr_of word.text)

abbrev pub string_in : WordData → Option (List ℕ)
string_in word = string_of word.text

abbrev pub tag_in : WordData → Option (List ℕ)
tag_in word = tag_of word.text

-- what the first word means, and the words behind it
abbrev pub first : {A : Type 0} → (WordData → Option A) → List WordData → Option (A × List WordData)
first means [] = None
first means (word ∷ words) = option_map (λ x. (x, words)) (means word)

-- what the first word means, and what comes of the words behind it
abbrev pub taking : {A B : Type 0} → (WordData → Option A) → (A → List WordData → Option B)
    → List WordData → Option B
taking means next words = option_and_then (λ found. next found.0 found.1) (first means words)

-- no word is left
abbrev pub ended : {A : Type 0} → A → List WordData → Option A
ended x [] = Some x
ended x (word ∷ words) = None

-- the answer is this value, or Bad where there is none; want of memory can come at any time
abbrev pub Answers : {A : Type 0} → Option A → Result A RecordFault → Type 0
Answers value (Ok x) = value ≡ Some x
Answers value (Err Bad) = value ≡ None
Answers value (Err NoMemory) = Unit {0}

-- the answer is what the first word means, and the words behind it are left
abbrev pub Takes : {A : Type 0} → (WordData → Option A) → List WordData → List WordData
    → Result A RecordFault → Type 0
Takes means before after (Ok x) = first means before ≡ Some (x, after)
Takes means before after (Err Bad) = first means before ≡ None
Takes means before after (Err NoMemory) = Unit {0}
