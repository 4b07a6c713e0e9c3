-- What the owner at an offset says of the record there.
use Rattle.std.proofs.Common.{◌≡◌, ◌≤◌, ℕ, ◌+◌, List, [], ◌∷◌, refl, sym, subst, ◌∙◌, ap, arith}
use Rattle.dns_names.specs.Name.{wire_length}
use Rattle.dns_data.specs.Record.{RecordData}
use Rattle.dns_data.specs.declared.message.Opt.{Opt}
use Rattle.dns_data.specs.declared.record.Rdata.{Rdata}
use Rattle.dns_wire.specs.Wire.{ByteAt, WholeNameAt, u16_at, root}
use Rattle.dns_wire.specs.Records.{EndsAt, RecordAt, OptAt, PartAt}
use Rattle.dns_wire.specs.declared.record.Part.{Part}
use Rattle.dns_wire.specs.declared.record.Part.TheVariants as part
use Rattle.dns_wire.proofs.Names.{one_name, same_end}
use Rattle.dns_wire.specs.Data.{IsDataOf}
use Rattle.dns_wire.proofs.Rows.{no_opt_data}

-- a record of either kind has an owner and an end
pub record Owned (bytes : List ℕ) (at behind : ℕ) : Type 0 where
  pub name : List (List ℕ)
  pub middle : ℕ
  pub owner : WholeNameAt bytes at name middle
  pub ends : EndsAt bytes middle behind

pub owned : {bytes : List ℕ} {at behind : ℕ} → (p : Part) → PartAt bytes at p behind → Owned bytes at behind
owned (part.Record r) h = record { name = r.owner; middle = h.middle; owner = h.owner; ends = h.ends }
owned (part.Opt o) h = record { name = []; middle = h.middle; owner = h.owner; ends = h.ends }

pub ends_here : {bytes : List ℕ} {at behind middle : ℕ} {name : List (List ℕ)} → WholeNameAt bytes at name middle → Owned bytes at behind → EndsAt bytes middle behind
ends_here {bytes} {at} {behind} {middle} {name} here h =
    subst (λ (m : ℕ). EndsAt bytes m behind) (same_end bytes at h.middle middle h.name name h.owner here) h.ends

one_end : {bytes : List ℕ} {middle x y : ℕ} → EndsAt bytes middle x → EndsAt bytes middle y → x ≡ y
one_end p q = p.behind_is ∙ sym q.behind_is

-- two records at one offset end at one offset
pub part_end : {bytes : List ℕ} {at x y : ℕ} → Owned bytes at x → Owned bytes at y → x ≡ y
part_end p q = one_end p.ends (ends_here p.owner q)

-- an OPT record isn't another one
pub not_opt : {bytes : List ℕ} {at behind middle : ℕ} {name : List (List ℕ)} → (r : RecordData) → WholeNameAt bytes at name middle → u16_at bytes middle ≡ 41 → RecordAt bytes at r behind → ⊥
not_opt {bytes} {at} {behind} {middle} {name} r here kind h =
    let same : middle ≡ h.middle = same_end bytes at middle h.middle name r.owner here h.owner in
    let is : u16_at bytes h.middle ≡ 41 = ap (u16_at bytes) (sym same) ∙ kind in
    no_opt_data bytes (u16_at bytes h.middle) (h.middle + 10) behind is r.rdata (h.kind, h.rdata)

pub parts_differ : {bytes : List ℕ} {at x y : ℕ} → (r : RecordData) (o : Opt) → RecordAt bytes at r x → OptAt bytes at o y → ⊥
parts_differ r o p q = not_opt r q.owner q.kind p

-- the owner of an OPT record is the root
pub opt_owner : {bytes : List ℕ} {at middle : ℕ} {name : List (List ℕ)} → (p : Part) (behind : ℕ) → PartAt bytes at p behind → WholeNameAt bytes at name middle → u16_at bytes middle ≡ 41 → name ≡ []
opt_owner (part.Record r) behind h here kind = absurd (not_opt r here kind h)
opt_owner {bytes} {at} {middle} {name} (part.Opt o) behind h here kind = (one_name bytes at at middle h.middle name [] here.spelt h.owner.spelt).0

length-pos : (labels : List (List ℕ)) → 1 ≤ wire_length labels
length-pos [] = omega arith
length-pos (l ∷ labels) = omega (arith, length-pos labels)

pub root_only : (name : List (List ℕ)) → wire_length name ≡ 1 → name ≡ []
root_only [] is = refl
root_only (l ∷ labels) is = absurd (omega (arith, is, length-pos labels))

-- the data of a record that isn't OPT
pub data_here : {bytes : List ℕ} {at y middle : ℕ} {name : List (List ℕ)} → (p : Part) (x : ℕ) → PartAt bytes at p x → WholeNameAt bytes at name middle → EndsAt bytes middle y → (u16_at bytes middle ≡ 41 → ⊥)
    → (d : Rdata) × IsDataOf bytes (u16_at bytes middle) (middle + 10) y d
data_here {bytes} {at} {y} {middle} {name} (part.Record r) x h here ends other =
    let same : h.middle ≡ middle = same_end bytes at h.middle middle r.owner name h.owner here in
    let end : x ≡ y = one_end (subst (λ (m : ℕ). EndsAt bytes m x) same h.ends) ends in
    (r.rdata, subst (λ (m : ℕ). IsDataOf bytes (u16_at bytes m) (m + 10) y r.rdata) same (subst (λ (z : ℕ). IsDataOf bytes (u16_at bytes h.middle) (h.middle + 10) z r.rdata) end (h.kind, h.rdata)))
data_here {bytes} {at} {y} {middle} {name} (part.Opt o) x h here ends other =
    let same : middle ≡ h.middle = same_end bytes at middle h.middle name [] here h.owner in
    absurd (other (ap (u16_at bytes) same ∙ h.kind))

pub as_record : {bytes : List ℕ} {at behind : ℕ} {p : Part} {r : RecordData} → p ≡ part.Record r → PartAt bytes at p behind → RecordAt bytes at r behind
as_record {bytes} {at} {behind} is h = subst (λ (q : Part). PartAt bytes at q behind) is h

pub as_opt : {bytes : List ℕ} {at behind : ℕ} {p : Part} {o : Opt} → p ≡ part.Opt o → PartAt bytes at p behind → OptAt bytes at o behind
as_opt {bytes} {at} {behind} is h = subst (λ (q : Part). PartAt bytes at q behind) is h

-- the root stands where a zero byte stands
pub root_at : (bytes : List ℕ) (at : ℕ) → ByteAt bytes at 0 → WholeNameAt bytes at [] (at + 1)
root_at bytes at here = record { proper = record { each = tt; short = omega arith }; spelt = root here refl }
