-- A text that begins with a printed name, a TTL, a class and a type of addresses, and ends with one
-- simple word, spells the record of that name and of the address which the word spells.
use Rattle.std.proofs.Common.{◌≡◌, ℕ, zero, suc, ◌+◌, ◌/◌, ◌%◌, ◌<◌, Bool, true, false, not, ◌&&◌, cond, eqb, List, [], ◌∷◌, ◌++◌, length, drop, Option, Some, None, option_map, option_and_then, refl, sym, ap, ◌∙◌, append_assoc, append-nil, arith, length-append, take_all}
use Rattle.std.proofs.lemmas.Bool.{agree_below_at, and_parts, cond_both, ltb-true, ne_eqb}
use Rattle.std.proofs.lemmas.List.{drop_all, take_at, drop_at}
use Rattle.std.specs.List.{AllByRecursion, flat_map, list_all}
use Rattle.std.specs.Prelude.{codes, nat_eq}
use Rattle.std.specs.Cmp.Lexicographic.{pointwise}
use Rattle.std.specs.Char.{is_ascii_graphic}
use Rattle.dns_addr.specs.AddrText.{addr_of}
use Rattle.dns_data.specs.Addresses.{Addr, V4, V6}
use Rattle.dns_names.specs.Name.{IsName}
use Rattle.dns_names.specs.NameText.{byte_text, is_special, label_text, name_text, three_digits}
use Rattle.dns_names.specs.NameTextLaws.{AreBytes, reads_back}
use Rattle.dns_data.specs.Record.{address_record}
use Rattle.dns_data.specs.declared.record.Rdata.TheVariants as rdata
use Rattle.record_text.specs.declared.form.Form.TheVariants.{Alone}
use Rattle.record_text.specs.declared.head.AddressHead.{AddressHead}
use Rattle.record_text.specs.Fields.{PlaceData, ended, first, if_v4, if_v6}
use Rattle.record_text.specs.Heads.{BeginsWith, IsCut, IsHead, LeadsTo, address_in, address_kind, if_form, is_simple, is_simple_byte}
use Rattle.record_text.specs.Records.{alone, behind_class, behind_ttl, head_of, owned, record_of, record_spelt, ttl_or, typed, with_data}
use Rattle.record_text.specs.Rows.{data_of}
use Rattle.record_text.specs.Ttls.{ttl_of}
use Rattle.record_text.specs.Words.{WordData, is_blank, plain_size, words_from, words_of}

pub words-skip : (skip : ℕ) (text : List ℕ) → words_from skip text ≡ words_from 0 (drop skip text)
words-skip zero text = refl
words-skip (suc skip) [] = refl
words-skip (suc skip) (x ∷ text) = words-skip skip text

-- bytes that belong to a word, whatever stands behind them
abbrev Belong : List ℕ → Type 0
Belong bytes = (others : List ℕ) → plain_size Alone false (bytes ++ others) ≡ length bytes + plain_size Alone false others

belong_both : (a b : List ℕ) → Belong a → Belong b → Belong (a ++ b)
belong_both a b p q others =
    let size = length-append a b in
    let first = p (b ++ others) in
    let second = q others in
    ap (plain_size Alone false) (append_assoc a b others) ∙ omega (arith, first, second, size)

-- a byte that is no blank and no backslash
byte_belongs : (b : ℕ) → eqb b 32 ≡ false → eqb b 9 ≡ false → eqb b 92 ≡ false → Belong (b ∷ [])
byte_belongs b e f g others = rw (e, f, g) omega arith

-- a backslash takes any byte along
escaped_belongs : (b : ℕ) → Belong (92 ∷ b ∷ [])
escaped_belongs b others = omega arith

digit_belongs : (d : ℕ) → d < 10 → Belong ((48 + d) ∷ [])
digit_belongs d h =
    byte_belongs (48 + d) (agree_below_at (λ d. eqb (48 + d) 32) (λ _. false) 10 d refl h)
    (agree_below_at (λ d. eqb (48 + d) 9) (λ _. false) 10 d refl h) (agree_below_at (λ d. eqb (48 + d) 92) (λ _. false) 10 d refl h)

digits_belong : (b : ℕ) → Belong (92 ∷ three_digits b)
digits_belong b =
    belong_both (92 ∷ (48 + b / 100) ∷ []) ((48 + b / 10 % 10) ∷ (48 + b % 10) ∷ []) (escaped_belongs (48 + b / 100))
    (belong_both ((48 + b / 10 % 10) ∷ []) ((48 + b % 10) ∷ []) (digit_belongs (b / 10 % 10) (omega arith)) (digit_belongs (b % 10) (omega arith)))

-- a byte that is printed as it is
graphic_belongs : (b : ℕ) → b < 256 → is_special b ≡ false → is_ascii_graphic b ≡ true → Belong (b ∷ [])
graphic_belongs b h e g =
    let spaces = agree_below_at (λ b. is_ascii_graphic b && eqb b 32) (λ _. false) 256 b refl h in
    let tabs = agree_below_at (λ b. is_ascii_graphic b && eqb b 9) (λ _. false) 256 b refl h in
    let slashes = agree_below_at (λ b. not (is_special b) && eqb b 92) (λ _. false) 256 b refl h in
    let no_space : eqb b 32 ≡ false = rw g at spaces in
    let no_tab : eqb b 9 ≡ false = rw g at tabs in
    let no_slash : eqb b 92 ≡ false = rw e at slashes in
    byte_belongs b no_space no_tab no_slash

byte_text_belongs : (b : ℕ) → b < 256 → Belong (byte_text b)
byte_text_belongs b h =
    cond_both (is_special b) (92 ∷ b ∷ []) (cond (is_ascii_graphic b) (b ∷ []) (92 ∷ three_digits b)) Belong (λ _. escaped_belongs b)
    (λ e. cond_both (is_ascii_graphic b) (b ∷ []) (92 ∷ three_digits b) Belong (λ g. graphic_belongs b h e g) (λ _. digits_belong b))

none_belong : Belong []
none_belong others = omega arith

bytes_belong : (l : List ℕ) → AllByRecursion (λ b. b < 256) l → Belong (flat_map byte_text l)
bytes_belong [] h = none_belong
bytes_belong (b ∷ l) h = belong_both (byte_text b) (flat_map byte_text l) (byte_text_belongs b h.0) (bytes_belong l h.1)

dot_belongs : Belong (46 ∷ [])
dot_belongs = byte_belongs 46 refl refl refl

labels_belong : (ls : List (List ℕ)) → AreBytes ls → Belong (flat_map label_text ls)
labels_belong [] h = none_belong
labels_belong (l ∷ ls) h =
    belong_both (label_text l) (flat_map label_text ls) (belong_both (flat_map byte_text l) (46 ∷ []) (bytes_belong l h.0) dot_belongs) (labels_belong ls h.1)

name_belongs : (name : List (List ℕ)) → AreBytes name → Belong (name_text name)
name_belongs [] h = dot_belongs
name_belongs (l ∷ ls) h = labels_belong (l ∷ ls) h

-- a text begins with a byte that is no quote
abbrev BeginsWord : List ℕ → Type 0
BeginsWord [] = ⊥
BeginsWord (b ∷ bytes) = eqb b 34 ≡ false

byte_begins : (b : ℕ) (x y z : List ℕ) → b < 256 → BeginsWord (((byte_text b ++ x) ++ y) ++ z)
byte_begins b x y z h =
    cond_both (is_special b) (92 ∷ b ∷ []) (cond (is_ascii_graphic b) (b ∷ []) (92 ∷ three_digits b)) (λ t. BeginsWord (((t ++ x) ++ y) ++ z)) (λ _. refl)
    (λ e. cond_both (is_ascii_graphic b) (b ∷ []) (92 ∷ three_digits b) (λ t. BeginsWord (((t ++ x) ++ y) ++ z))
    (λ _. let quotes = agree_below_at (λ b. not (is_special b) && eqb b 34) (λ _. false) 256 b refl h in rw e at quotes) (λ _. refl))

name_begins : (name : List (List ℕ)) → AreBytes name → BeginsWord (name_text name)
name_begins [] h = refl
name_begins ([] ∷ ls) h = refl
name_begins ((b ∷ l) ∷ ls) h = byte_begins b (flat_map byte_text l) (46 ∷ []) (flat_map label_text ls) h.0.0

-- a simple word
not_true : (x : Bool) → not x ≡ true → x ≡ false
not_true true e = absurd cc
not_true false e = refl

simple_byte : (b : ℕ) → is_simple_byte b ≡ true → Belong (b ∷ [])
simple_byte b e =
    let parts = and_parts _ _ e in
    let big = ltb-true 34 b parts.0 in
    byte_belongs b (ne_eqb b 32 (λ z. omega (arith, z, big))) (ne_eqb b 9 (λ z. omega (arith, z, big))) (not_true (eqb b 92) parts.1)

simple_bytes : (word : List ℕ) → list_all is_simple_byte word ≡ true → Belong word
simple_bytes [] e = none_belong
simple_bytes (b ∷ word) e = let parts = and_parts _ _ e in belong_both (b ∷ []) word (simple_byte b parts.0) (simple_bytes word parts.1)

simple_belongs : (word : List ℕ) → is_simple word ≡ true → Belong word
simple_belongs [] e = none_belong
simple_belongs (b ∷ word) e = simple_bytes (b ∷ word) e

simple_begins : (word : List ℕ) → is_simple word ≡ true → BeginsWord word
simple_begins [] e = absurd cc
simple_begins (b ∷ word) e =
    let parts = and_parts _ _ e in
    let first = and_parts _ _ parts.0 in
    let big = ltb-true 34 b first.0 in
    ne_eqb b 34 (λ z. omega (arith, z, big))

abbrev pub plain : List ℕ → WordData
plain text = record { text = text; quoted = false }

size_by : (b : Bool) (m n : ℕ) → cond b 0 (1 + m) ≡ suc n + 0 → (b ≡ false) × (m ≡ n)
size_by true m n e = absurd (omega (arith, e))
size_by false m n e = (refl, omega (arith, e))

-- the first word of a text that a space ends
first_cut : (word others : List ℕ) → Belong word → BeginsWord word → words_from 0 (word ++ 32 ∷ others) ≡ option_map (λ o. plain word ∷ o) (words_from 0 others)
first_cut [] others p q = absurd q
first_cut (b ∷ word) others p q =
    let own = size_by (is_blank b) (plain_size Alone (eqb b 92) (word ++ 32 ∷ others)) (length word) (p (32 ∷ others)) in
    let front = take_at word (32 ∷ others) (length word) refl in
    let behind : words_from (length word) (word ++ 32 ∷ others) ≡ words_from 0 others =
    words-skip (length word) (word ++ 32 ∷ others) ∙ ap (words_from 0) (drop_at word (32 ∷ others) (length word) refl) in
    rw (own.0, q, own.1, front, behind) refl

-- the one word of a text
only_word : (word : List ℕ) → Belong word → BeginsWord word → words_from 0 word ≡ Some (plain word ∷ [])
only_word [] p q = absurd q
only_word (b ∷ word) p q =
    let all : plain_size Alone false (b ∷ word) ≡ suc (length word) + 0 = ap (plain_size Alone false) (sym (append-nil (b ∷ word))) ∙ p [] in
    let own = size_by (is_blank b) (plain_size Alone (eqb b 92) word) (length word) all in
    let front = take_all (length word) word (omega arith) in
    let behind : words_from (length word) word ≡ Some [] = words-skip (length word) word ∙ ap (words_from 0) (drop_all (length word) word (omega arith)) in
    rw (own.0, q, own.1, front, behind) refl

no_words : (o : Option (List WordData)) → o ≡ option_map (λ o. [] ++ o) o
no_words None = refl
no_words (Some o) = refl

-- a text begins with no words
pub begins : (text : List ℕ) → BeginsWith text [] text
begins text = record { lead = []; is = refl; cuts = λ others. no_words (words_from 0 others) }

map_both : (words : List WordData) (word : WordData) (o : Option (List WordData))
    → option_map (λ o. words ++ o) (option_map (λ o. word ∷ o) o) ≡ option_map (λ o. (words ++ word ∷ []) ++ o) o
map_both words word None = refl
map_both words word (Some o) = ap Some (sym (append_assoc words (word ∷ []) o))

-- and with one more
pub begins_more : (text rest others word : List ℕ) (words : List WordData) → BeginsWith text words rest → IsCut rest word others → BeginsWith text (words ++ plain word ∷ []) others
begins_more text rest others word words b cut = record {
  lead = b.lead ++ (word ++ 32 ∷ []);
  is = b.is ∙ ap (λ (r : List ℕ). b.lead ++ r) (cut.is ∙ sym (append_assoc word (32 ∷ []) others)) ∙ sym (append_assoc b.lead (word ++ 32 ∷ []) others);
  cuts = λ more. ap (words_from 0) (append_assoc b.lead (word ++ 32 ∷ []) more ∙ ap (λ (r : List ℕ). b.lead ++ r) (append_assoc word (32 ∷ []) more))
      ∙ b.cuts (word ++ 32 ∷ more)
      ∙ ap (option_map (λ o. words ++ o)) (first_cut word more (simple_belongs word cut.simple) (simple_begins word cut.simple))
      ∙ map_both words (plain word) (words_from 0 more);
}

-- the TTL and the words behind TTL and class
abbrev Leaves : ℕ → List WordData → ℕ × List WordData → Type 0
Leaves ttl words found = found ≡ (ttl, words)

-- words behind the type change nothing in front of it
module _ (more : List WordData) (ttl : ℕ) (kind : WordData) where
  class_by : (c : Bool) (given : ℕ) (word : WordData) (words : List WordData) → Leaves ttl (kind ∷ []) (given, cond c words (word ∷ words))
      → Leaves ttl (kind ∷ more) (given, cond c (words ++ more) (word ∷ (words ++ more)))
  class_by true given word words e = λ i. ((e i).0, (e i).1 ++ more)
  class_by false given word words e = λ i. ((e i).0, (e i).1 ++ more)

  none_not : (given : ℕ) → Leaves ttl (kind ∷ []) (given, []) → ⊥
  none_not given e = let size = ap (λ (p : ℕ × List WordData). length p.1) e in omega (arith, size)

  class_more : (given : ℕ) (words : List WordData) → Leaves ttl (kind ∷ []) (given, behind_class words) → Leaves ttl (kind ∷ more) (given, behind_class (words ++ more))
  class_more given [] e = absurd (none_not given e)
  class_more given (word ∷ words) e = class_by (pointwise nat_eq word.text (codes "IN")) given word words e

  or_more : (o : Option ℕ) (given : ℕ) (word : WordData) (words : List WordData) → Leaves ttl (kind ∷ []) (ttl_or given word words o) → Leaves ttl (kind ∷ more) (ttl_or given word (words ++ more) o)
  or_more None given word words e = λ i. ((e i).0, (e i).1 ++ more)
  or_more (Some t) given word words e = λ i. ((e i).0, (e i).1 ++ more)

  ttl_more : (given : ℕ) (words : List WordData) → Leaves ttl (kind ∷ []) (behind_ttl given words) → Leaves ttl (kind ∷ more) (behind_ttl given (words ++ more))
  ttl_more given [] e = absurd (none_not given e)
  ttl_more given (word ∷ words) e = or_more (ttl_of word.text) given word words e

  both_more : (o : Option ℕ) (given : ℕ) (word : WordData) (words : List WordData) → Leaves ttl (kind ∷ []) ((ttl_or given word words o).0, behind_class (ttl_or given word words o).1)
      → Leaves ttl (kind ∷ more) ((ttl_or given word (words ++ more) o).0, behind_class (ttl_or given word (words ++ more) o).1)
  both_more None given word words e = class_more given (word ∷ words) e
  both_more (Some t) given word words e = class_more t words e

  by_class : (c : Bool) (o : Option ℕ) (given : ℕ) (word : WordData) (words : List WordData)
      → Leaves ttl (kind ∷ []) (cond c (behind_ttl given (cond c words (word ∷ words))) ((ttl_or given word words o).0, behind_class (ttl_or given word words o).1))
      → Leaves ttl (kind ∷ more)
      (cond c (behind_ttl given (cond c (words ++ more) (word ∷ (words ++ more)))) ((ttl_or given word (words ++ more) o).0, behind_class (ttl_or given word (words ++ more) o).1))
  by_class true o given word words e = ttl_more given words e
  by_class false o given word words e = both_more o given word words e

  head_more : (given : ℕ) (words : List WordData) → Leaves ttl (kind ∷ []) (head_of given words) → Leaves ttl (kind ∷ more) (head_of given (words ++ more))
  head_more given [] e = absurd (none_not given e)
  head_more given (word ∷ words) e = by_class (pointwise nat_eq word.text (codes "IN")) (ttl_of word.text) given word words e

-- the record of one address of a form
v4_record : (name : List (List ℕ)) (ttl : ℕ) (o : Option Addr)
    → option_map (with_data name ttl) (option_and_then (λ found. ended (rdata.A found.0) found.1) (first (λ _. option_and_then if_v4 o) (plain [] ∷ [])))
    ≡ option_map (address_record name ttl) (option_and_then (if_form false) o)
v4_record name ttl None = refl
v4_record name ttl (Some (V4 number)) = refl
v4_record name ttl (Some (V6 number)) = refl

v6_record : (name : List (List ℕ)) (ttl : ℕ) (o : Option Addr)
    → option_map (with_data name ttl) (option_and_then (λ found. ended (rdata.Aaaa found.0) found.1) (first (λ _. option_and_then if_v6 o) (plain [] ∷ [])))
    ≡ option_map (address_record name ttl) (option_and_then (if_form true) o)
v6_record name ttl None = refl
v6_record name ttl (Some (V4 number)) = refl
v6_record name ttl (Some (V6 number)) = refl

data_record : (name : List (List ℕ)) (ttl : ℕ) (place : PlaceData) (six : Bool) (text : List ℕ)
    → option_map (with_data name ttl) (data_of place (address_kind six) (plain text ∷ [])) ≡ option_map (address_record name ttl) (address_in six text)
unfolding data_of
data_record name ttl place false text = v4_record name ttl (addr_of text)
data_record name ttl place true text = v6_record name ttl (addr_of text)

of_owner : (name : List (List ℕ)) (given ttl : ℕ) (place : PlaceData) (six : Bool) (words : List WordData) (text : List ℕ) → IsHead given words ttl six
    → record_of place given name (words ++ plain text ∷ []) ≡ option_map (address_record name ttl) (address_in six text)
unfolding record_of
of_owner name given ttl place six words text are =
    ap (typed place name) (head_more (plain text ∷ []) ttl are.kind given words are.head)
    ∙ rw are.form (data_record name ttl place six text)

by_owner : (name origin : List (List ℕ)) (given : ℕ) (words : List WordData) → IsName name → AreBytes name
    → owned (alone origin) given (plain (name_text name) ∷ words) ≡ record_of (alone origin) given name words
unfolding owned
by_owner name origin given words h b = rw (reads_back name origin h b) refl

-- the words of such a text
words_are : (name : List (List ℕ)) (behind rest last : List ℕ) (words : List WordData) (b : BeginsWith behind words rest) → AreBytes name → is_simple last ≡ true
    → words_from 0 (name_text name ++ 32 ∷ (b.lead ++ last)) ≡ Some (plain (name_text name) ∷ (words ++ plain last ∷ []))
words_are name behind rest last words b bytes simple =
    first_cut (name_text name) (b.lead ++ last) (name_belongs name bytes) (name_begins name bytes)
    ∙ ap (option_map (λ o. plain (name_text name) ∷ o))
    (b.cuts last ∙ ap (option_map (λ o. words ++ o)) (only_word last (simple_belongs last simple) (simple_begins last simple)))

spelt_by : (text : List ℕ) (origin : List (List ℕ)) (given : ℕ) (words : List WordData) → words_from 0 text ≡ Some words → record_spelt text origin given ≡ owned (alone origin) given words
unfolding record_spelt words_of
spelt_by text origin given words is = ap (option_and_then (owned (alone origin) given)) is

-- what stands behind the head
parts_are : (behind rest others : List ℕ) (words : List WordData) (size : ℕ) (b : BeginsWith behind words rest) → size + length rest ≡ length (32 ∷ behind)
    → ((32 ∷ behind) ++ others ≡ 32 ∷ (b.lead ++ (rest ++ others))) × (drop size ((32 ∷ behind) ++ others) ≡ rest ++ others)
parts_are behind rest others words size b e =
    let is : (32 ∷ behind) ++ others ≡ (32 ∷ b.lead) ++ (rest ++ others) = ap (λ (t : List ℕ). (32 ∷ t) ++ others) b.is ∙ append_assoc (32 ∷ b.lead) rest others in
    let whole = ap length b.is in
    let both = length-append b.lead rest in
    let front : length (32 ∷ b.lead) ≡ size = omega (arith, e, whole, both) in
    (is, ap (drop size) is ∙ drop_at (32 ∷ b.lead) (rest ++ others) size front)

-- The record of a text that begins with a printed name and a head, where the rest is one word.
pub address_spelt : (name : List (List ℕ)) (origin : List (List ℕ)) (given : ℕ) (text others : List ℕ) (head : AddressHead) → IsName name → AreBytes name → LeadsTo text given head
    → is_simple (drop head.size (text ++ others)) ≡ true
    → record_spelt (name_text name ++ (text ++ others)) origin given ≡ option_map (address_record name head.ttl) (address_in head.six (drop head.size (text ++ others)))
address_spelt name origin given text others head h bytes leads simple =
    let sizes : head.size + length leads.rest ≡ length (32 ∷ leads.behind) = leads.size ∙ ap length leads.is in
    let same : text ++ others ≡ (32 ∷ leads.behind) ++ others = ap (λ (t : List ℕ). t ++ others) leads.is in
    let parts = parts_are leads.behind leads.rest others leads.words head.size leads.begins sizes in
    let last : drop head.size (text ++ others) ≡ leads.rest ++ others = ap (drop head.size) same ∙ parts.1 in
    let one : is_simple (leads.rest ++ others) ≡ true = ap is_simple (sym last) ∙ simple in
    let words = words_are name leads.behind leads.rest (leads.rest ++ others) leads.words leads.begins bytes one in
    ap (λ (t : List ℕ). record_spelt (name_text name ++ t) origin given) (same ∙ parts.0)
    ∙ spelt_by (name_text name ++ 32 ∷ (leads.begins.lead ++ (leads.rest ++ others))) origin given _ words
    ∙ by_owner name origin given (leads.words ++ plain (leads.rest ++ others) ∷ []) h bytes
    ∙ of_owner name given head.ttl (alone origin) head.six leads.words (leads.rest ++ others) leads.are
    ∙ ap (λ (t : List ℕ). option_map (address_record name head.ttl) (address_in head.six t)) (sym last)
