-- The sets of keys beside one more record.
use Rattle.std.proofs.Common.{◌≡◌, ℕ, nat_eq, Bool, true, false, ◌||◌, cond, List, [], ◌∷◌, ◌++◌, Vec, refl, sym, ap, ◌∙◌}
use Rattle.std.specs.Cmp.Lexicographic.{pointwise}
use Rattle.std.specs.HashSet.{HashSet, contains}
use Rattle.std.specs.List.{list_any}
use Rattle.std.proofs.lemmas.List.Folds.{list_any-append}
use Rattle.dns_data.specs.Record.{RecordData}
use Rattle.zone_file.specs.Keys.{is_cname, side_key}
use Rattle.zone_file.specs.Kept.{same_key}
use Rattle.zone_file.specs.Zones.{is_soa}

or_cond : (a b : Bool) → cond a true b ≡ (b || (a || false))
or_cond true true = refl
or_cond true false = refl
or_cond false true = refl
or_cond false false = refl

-- whether a record has this key, with one more record
any_push : (test : RecordData → Bool) (records : List RecordData) (r : RecordData) → cond (test r) true (list_any test records) ≡ list_any test (records ++ r ∷ [])
any_push test records r = or_cond (test r) (list_any test records) ∙ sym (list_any-append test records (r ∷ []))

no_false : (b : Bool) → (b || false) ≡ b
no_false true = refl
no_false false = refl

pub key_push : {Z S : Type 0} (means : RecordData → List ℕ) (records : List RecordData) (r : RecordData) (before after : HashSet (Vec ℕ Z) S) (key : Vec ℕ Z) → key.items ≡ means r
    → ((q : Vec ℕ Z) → contains same_key before q ≡ list_any (λ k. pointwise nat_eq (means k) q.items) records)
    → ((q : Vec ℕ Z) → contains same_key after q ≡ cond (same_key key q) true (contains same_key before q))
    → (q : Vec ℕ Z) → contains same_key after q ≡ list_any (λ k. pointwise nat_eq (means k) q.items) (records ++ r ∷ [])
key_push means records r before after key is has updates q =
    updates q ∙ ap (λ b. cond (same_key key q) true b) (has q)
    ∙ ap (λ (bytes : List ℕ). cond (pointwise nat_eq bytes q.items) true (list_any (λ k. pointwise nat_eq (means k) q.items) records)) is
    ∙ any_push (λ k. pointwise nat_eq (means k) q.items) records r

abbrev pub side_of : RecordData → List ℕ
side_of r = side_key r.owner (is_cname r)

pub soa_push : (records : List RecordData) (r : RecordData) (before after : Bool) → before ≡ list_any is_soa records → after ≡ (before || is_soa r) → after ≡ list_any is_soa (records ++ r ∷ [])
soa_push records r before after has is =
    is ∙ ap (λ b. b || is_soa r) has ∙ ap (λ b. list_any is_soa records || b) (sym (no_false (is_soa r))) ∙ sym (list_any-append is_soa records (r ∷ []))
