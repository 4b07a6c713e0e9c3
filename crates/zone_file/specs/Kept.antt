-- What is kept beside the records of a zone, so that no search walks them all.
use Rattle.std.specs.Prelude.{◌≡◌, ℕ, nat_eq, Bool, List, Vec}
use Rattle.std.specs.Cmp.Lexicographic.{pointwise}
use Rattle.std.specs.HashSet.{HashSet, contains}
use Rattle.std.specs.List.{list_any}
use Rattle.dns_data.specs.Record.{RecordData}
use Rattle.zone_file.specs.Keys.{is_cname, record_key, side_key}
use Rattle.zone_file.specs.Zones.{is_soa}

-- equality of keys, as a set tests it
abbrev pub same_key : {Z : Type 0} → Vec ℕ Z → Vec ℕ Z → Bool
same_key a b = pointwise nat_eq a.items b.items

-- the sets have the keys of the records and no others
pub record IsKept {Z S : Type 0} (records : List RecordData)
    (key_set side_set : HashSet (Vec ℕ Z) S) (has_soa : Bool) : Type 0 where
  pub keys : (key : Vec ℕ Z) → contains same_key key_set key
      ≡ list_any (λ r. pointwise nat_eq (record_key r) key.items) records
  pub sides : (key : Vec ℕ Z) → contains same_key side_set key
      ≡ list_any (λ r. pointwise nat_eq (side_key r.owner (is_cname r)) key.items) records
  pub soa : has_soa ≡ list_any is_soa records
