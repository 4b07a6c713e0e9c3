-- Texts of address records in which a printed name is the owner: what stands between the name and
-- the address. Bytes by number: 32 space, 34 `"`, 92 `\`.
use Rattle.std.specs.Prelude.{◌≡◌, ℕ, ◌+◌, ◌<◌, ◌^◌, ◌==◌, nat_lt, Bool, true, false, ◌&&◌, not}
use Rattle.std.specs.Prelude.{List, [], ◌∷◌, ◌++◌, length, Option, Some, None, option_map}
use Rattle.std.specs.Prelude.{option_and_then, if◌then◌else◌}
use Rattle.std.specs.List.{list_all}
use Rattle.dns_addr.specs.AddrText.{addr_of}
use Rattle.dns_data.specs.Addresses.{Addr, V4, V6}
use Rattle.dns_data.specs.declared.kind.TheConstants as kinds
use Rattle.record_text.specs.declared.head.AddressHead.{AddressHead}
use Rattle.record_text.specs.Fields.{kind_in}
use Rattle.record_text.specs.Records.{head_of}
use Rattle.record_text.specs.Words.{WordData, words_from}

-- a byte that parts no words, and is neither a quote nor a backslash; `!` isn't counted among them
abbrev pub is_simple_byte : ℕ → Bool
is_simple_byte byte = nat_lt 34 byte && not (byte == 92)

-- whether a text is one word, without quotes and escapes
abbrev pub is_simple : List ℕ → Bool
is_simple [] = false
is_simple (byte ∷ bytes) = list_all is_simple_byte (byte ∷ bytes)

-- a text is a simple word, a space, and what stands behind it
pub record IsCut (text word rest : List ℕ) : Type 0 where
  pub is : text ≡ word ++ 32 ∷ rest
  pub simple : is_simple word ≡ true

-- a text begins with these words in front of the rest, whatever stands in the place of that
pub record BeginsWith (text : List ℕ) (words : List WordData) (rest : List ℕ) : Type 0 where
  pub lead : List ℕ
  pub is : text ≡ lead ++ rest
  pub cuts : (others : List ℕ)
      → words_from 0 (lead ++ others) ≡ option_map (λ o. words ++ o) (words_from 0 others)

-- the type of addresses of a form
abbrev pub address_kind : Bool → ℕ
address_kind six = if six then kinds.AAAA else kinds.A

-- words are a TTL, the class and a type of addresses
pub record IsHead (given : ℕ) (words : List WordData) (ttl : ℕ) (six : Bool) : Type 0 where
  pub kind : WordData
  pub head : head_of given words ≡ (ttl, kind ∷ [])
  pub form : kind_in kind ≡ Some (address_kind six)
  pub below : ttl < 2 ^ 31

-- a text begins with a space and these words, and a space behind each
pub record LeadsTo (text : List ℕ) (given : ℕ) (head : AddressHead) : Type 0 where
  pub behind : List ℕ
  pub words : List WordData
  pub rest : List ℕ
  pub is : text ≡ 32 ∷ behind
  pub begins : BeginsWith behind words rest
  pub size : head.size + length rest ≡ length text
  pub are : IsHead given words head.ttl head.six

-- the address, where it has the form
abbrev pub if_form : Bool → Addr → Option Addr
if_form six (V4 number) = if six then None else Some (V4 number)
if_form six (V6 number) = if six then Some (V6 number) else None

-- the address of a form that a text spells
abbrev pub address_in : Bool → List ℕ → Option Addr
address_in six text = option_and_then (if_form six) (addr_of text)
