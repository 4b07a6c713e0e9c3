-- The record of a text that begins with the name of the query and is that of an address.
use Rattle.std.proofs.Common.{◌≡◌, ◌∙◌, ◌≤◌, ℕ, List, [], ◌++◌, length, drop, Bool, true, Option, option_map, sym, ap, arith}
use Rattle.dns_data.specs.Addresses.{Addr}
use Rattle.dns_names.specs.Name.{IsName}
use Rattle.dns_names.specs.NameText.{name_text}
use Rattle.dns_names.specs.NameTextLaws.{AreBytes}
use Rattle.dns_data.specs.Record.{address_record}
use Rattle.record_text.specs.{address_in, address_spelt, is_simple, record_spelt}
use Rattle.record_text.specs.declared.head.AddressHead.{AddressHead}
use Rattle.template_plugin.specs.declared.part.Part.{Part}
use Rattle.template_plugin.specs.Heads.{BeginsAddress}
use Rattle.template_plugin.specs.Parts.{FillingData, filled_in, record_by}
use Rattle.template_plugin.specs.Template.{default_ttl}

module _ (filling : FillingData) (parts : List Part) (head : AddressHead) (begins : BeginsAddress parts head) where
  rest_is : filled_in filling (drop 2 parts) ≡ begins.bytes ++ filled_in filling begins.others
  rest_is = ap (λ (p : List Part). filled_in filling (drop 2 p)) begins.are

  headed : (owner : List (List ℕ)) (text : List ℕ) → filling.name ≡ name_text owner → IsName owner → AreBytes owner → text ≡ filled_in filling (drop 2 parts)
      → is_simple (drop head.size text) ≡ true → record_by filling parts ≡ option_map (address_record owner head.ttl) (address_in head.six (drop head.size text))
  headed owner text named name bytes is simple =
      let others = filled_in filling begins.others in
      let whole : text ≡ begins.bytes ++ others = is ∙ rest_is in
      let one : is_simple (drop head.size (begins.bytes ++ others)) ≡ true = ap (λ (t : List ℕ). is_simple (drop head.size t)) (sym whole) ∙ simple in
      ap (record_by filling) begins.are
      ∙ ap (λ (n : List ℕ). record_spelt (n ++ (begins.bytes ++ others)) [] default_ttl) named
      ∙ address_spelt owner [] default_ttl begins.bytes others head name bytes begins.leads one
      ∙ ap (λ (t : List ℕ). option_map (address_record owner head.ttl) (address_in head.six (drop head.size t))) (sym whole)

  -- the record, by the address that the word behind the head spells
  pub record_is : (owner : List (List ℕ)) (before text word : List ℕ) (rest : List Part) (simple : Bool) (found : Option Addr) → filling.name ≡ name_text owner → IsName owner → AreBytes owner
      → rest ≡ drop 2 parts → before ≡ [] → text ≡ before ++ filled_in filling rest → word ≡ drop head.size text → simple ≡ is_simple word → simple ≡ true → found ≡ address_in head.six word
      → record_by filling parts ≡ option_map (address_record owner head.ttl) found
  record_is owner before text word rest simple found named name bytes behind none filled drops tests passed reads =
      let all : text ≡ filled_in filling (drop 2 parts) = filled ∙ (λ i. none i ++ filled_in filling (behind i)) in
      let one : is_simple (drop head.size text) ≡ true = ap is_simple (sym drops) ∙ sym tests ∙ passed in
      headed owner text named name bytes all one
      ∙ ap (option_map (address_record owner head.ttl)) (ap (address_in head.six) (sym drops) ∙ sym reads)

pub some_size : (parts : List Part) (head : AddressHead) → BeginsAddress parts head → 2 ≤ length parts
some_size parts head begins = let size = ap length begins.are in omega (arith, size)
