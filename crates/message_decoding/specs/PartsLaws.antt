-- Records and sections decode.
use Rattle.std.proofs.Common.{◌≡◌, ℕ, zero, suc, ◌+◌, Bool, true, false, List, [], ◌∷◌, length, Option, Some, None, is_none, refl, sym, ap, subst, ◌∙◌, arith}
use Rattle.std.specs.Prelude.{if◌then◌else◌, ◌==◌}
use Rattle.std.proofs.lemmas.Bool.{leb-true, eqb-true, le-leb, eq-eqb, ne_eqb}
use Rattle.dns_data.specs.Record.{RecordData}
use Rattle.dns_data.specs.declared.message.Opt.{Opt}
use Rattle.dns_data.specs.declared.kind.TheConstants as kinds
use Rattle.dns_wire.specs.Wire.{WholeNameAt, u16_at}
use Rattle.dns_wire.specs.Records.{EndsAt, RecordAt, OptAt, PartAt, SectionAt, no_more, rr, options}
use Rattle.dns_wire.specs.declared.record.Part.{Part}
use Rattle.dns_wire.specs.declared.record.Part.TheVariants as part
use Rattle.message_decoding.specs.Steps.{taking, only, took, takes, held, holds, same}
use Rattle.message_decoding.specs.Decoding.{Labels, data_in, end_in, record_of, opt_of, rest_in, part_in, Section, in_front, section_in, plain_in}
use Rattle.message_decoding.specs.NamesLaws.{whole_sound, whole_whole}
use Rattle.message_decoding.specs.DataLaws.{data_sound, data_whole, row}

end_sound : (bytes : List ℕ) (middle behind : ℕ) → end_in bytes middle ≡ Some behind → EndsAt bytes middle behind
unfolding end_in
end_sound bytes middle behind e =
    let h = held e in
    let is : middle + 10 + u16_at bytes (middle + 8) ≡ behind = same h.then in
    record { behind_is = sym is; inside = omega (arith, is, leb-true (middle + 10 + u16_at bytes (middle + 8)) (length bytes) h.passed) }

end_whole : (bytes : List ℕ) (middle behind : ℕ) → EndsAt bytes middle behind → end_in bytes middle ≡ Some behind
unfolding end_in
end_whole bytes middle behind h =
    holds (le-leb (middle + 10 + u16_at bytes (middle + 8)) (length bytes) (omega (arith, h.behind_is, h.inside))) (ap Some (sym h.behind_is))

empty : (labels : Labels) → length labels ≡ 0 → labels ≡ []
empty [] is = refl
empty (l ∷ labels) is = absurd (omega arith)

rest_step : (bytes : List ℕ) (at : ℕ) (owner : Labels) (middle behind : ℕ) (r : Bool) → (u16_at bytes middle == kinds.OPT) ≡ r → WholeNameAt bytes at owner middle → EndsAt bytes middle behind → (p : Part)
    → (if r then only (length owner == 0) (Some (part.Opt (opt_of bytes middle)))
    else taking (data_in (u16_at bytes middle) bytes (middle + 10) behind) (λ d. Some (part.Record (record_of bytes owner middle d)))) ≡ Some p
    → PartAt bytes at p behind
unfolding opt_of record_of
rest_step bytes at owner middle behind true is here ends p e =
    let h = held e in
    let root : owner ≡ [] = empty owner (eqb-true (length owner) 0 h.passed) in
    let found : OptAt bytes at (opt_of bytes middle) behind = record {
      middle = middle;
      owner = subst (λ (labels : Labels). WholeNameAt bytes at labels middle) root here;
      ends = ends;
      kind = eqb-true (u16_at bytes middle) kinds.OPT is;
      fields = record { size = refl; ext = refl; version = refl; dnssec = refl };
    } in
    subst (λ (q : Part). PartAt bytes at q behind) (same h.then) found
rest_step bytes at owner middle behind false is here ends p e =
    let t = took e in
    let d = data_sound (u16_at bytes middle) bytes (middle + 10) behind t.x t.is in
    let found : RecordAt bytes at (record_of bytes owner middle t.x) behind = record {
      middle = middle;
      owner = here;
      ends = ends;
      kind = d.0;
      class = refl;
      ttl = refl;
      rdata = d.1;
    } in
    subst (λ (q : Part). PartAt bytes at q behind) (same t.then) found

rest_sound : (bytes : List ℕ) (at : ℕ) (owner : Labels) (middle behind : ℕ) (p : Part) → rest_in bytes owner middle behind ≡ Some p → WholeNameAt bytes at owner middle → EndsAt bytes middle behind → PartAt bytes at p behind
unfolding rest_in
rest_sound bytes at owner middle behind p e here ends = rest_step bytes at owner middle behind (u16_at bytes middle == kinds.OPT) refl here ends p e

rest_opt : (bytes : List ℕ) (owner : Labels) (middle behind : ℕ) → (u16_at bytes middle == kinds.OPT) ≡ true → rest_in bytes owner middle behind ≡ only (length owner == 0) (Some (part.Opt (opt_of bytes middle)))
unfolding rest_in
rest_opt bytes owner middle behind is = rw is refl

rest_record : (bytes : List ℕ) (owner : Labels) (middle behind : ℕ) → (u16_at bytes middle == kinds.OPT) ≡ false
    → rest_in bytes owner middle behind ≡ taking (data_in (u16_at bytes middle) bytes (middle + 10) behind) (λ d. Some (part.Record (record_of bytes owner middle d)))
unfolding rest_in
rest_record bytes owner middle behind is = rw is refl

record_is : (bytes : List ℕ) (at behind : ℕ) (r : RecordData) → (h : RecordAt bytes at r behind) → record_of bytes r.owner h.middle r.rdata ≡ r
unfolding record_of
record_is bytes at behind r h = λ i. record { owner = r.owner; class = sym h.class i; ttl = sym h.ttl i; rdata = r.rdata }

opt_is : (bytes : List ℕ) (at behind : ℕ) (o : Opt) → (h : OptAt bytes at o behind) → opt_of bytes h.middle ≡ o
unfolding opt_of
opt_is bytes at behind o h = λ i. record { size = sym h.fields.size i; ext = sym h.fields.ext i; version = sym h.fields.version i; dnssec = sym h.fields.dnssec i }

part_sound : (bytes : List ℕ) (at : ℕ) (x : Part × ℕ) → part_in bytes at ≡ Some x → PartAt bytes at x.0 x.1
unfolding part_in
part_sound bytes at x e =
    let owner = took e in
    let behind = took owner.then in
    let rest = took behind.then in
    let found = rest_sound bytes at owner.x.0 owner.x.1 behind.x rest.x rest.is (whole_sound bytes at owner.x owner.is) (end_sound bytes owner.x.1 behind.x behind.is) in
    subst (λ (y : Part × ℕ). PartAt bytes at y.0 y.1) (same rest.then) found

part_whole : (bytes : List ℕ) (at : ℕ) (p : Part) (behind : ℕ) → PartAt bytes at p behind → part_in bytes at ≡ Some (p, behind)
unfolding part_in
part_whole bytes at (part.Record r) behind h =
    let other : (u16_at bytes h.middle == kinds.OPT) ≡ false =
    ne_eqb (u16_at bytes h.middle) kinds.OPT (λ is. let not_opt = (row bytes (h.middle + 10) behind r.rdata h.rdata).not_opt in not_opt (h.kind ∙ is)) in
    let rest : rest_in bytes r.owner h.middle behind ≡ Some (part.Record r) =
    rest_record bytes r.owner h.middle behind other
    ∙ takes _ (data_whole (u16_at bytes h.middle) bytes (h.middle + 10) behind r.rdata (h.kind, h.rdata)) (ap (λ (s : RecordData). Some (part.Record s)) (record_is bytes at behind r h)) in
    takes _ (whole_whole bytes at r.owner h.middle h.owner) (takes _ (end_whole bytes h.middle behind h.ends) (takes _ rest refl))
part_whole bytes at (part.Opt o) behind h =
    let rest : rest_in bytes [] h.middle behind ≡ Some (part.Opt o) =
    rest_opt bytes [] h.middle behind (eq-eqb (u16_at bytes h.middle) kinds.OPT h.kind) ∙ holds refl (ap (λ (p : Opt). Some (part.Opt p)) (opt_is bytes at behind o h)) in
    takes _ (whole_whole bytes at [] h.middle h.owner) (takes _ (end_whole bytes h.middle behind h.ends) (takes _ rest refl))

-- Sections.

none_is : {A : Type 0} (o : Option A) → is_none o ≡ true → o ≡ None
none_is None is = refl
none_is (Some x) is = absurd cc

abbrev IsSection : List ℕ → ℕ → ℕ → Section → Type 0
IsSection bytes count at s = SectionAt bytes count at s.records s.opt s.behind

front_sound : (bytes : List ℕ) (left at middle : ℕ) (p : Part) (rest s : Section) → PartAt bytes at p middle → IsSection bytes left middle rest → in_front p rest ≡ Some s → IsSection bytes (suc left) at s
unfolding in_front
front_sound bytes left at middle (part.Record r) rest s here others e =
    subst (IsSection bytes (suc left) at) (same e) (rr {left = left} (omega arith) here others)
front_sound bytes left at middle (part.Opt o) rest s here others e =
    let h = held e in
    let alone : SectionAt bytes left middle rest.records None rest.behind =
    subst (λ (opt : Option Opt). SectionAt bytes left middle rest.records opt rest.behind) (none_is rest.opt h.passed) others in
    subst (IsSection bytes (suc left) at) (same h.then) (options {left = left} (omega arith) here alone)

pub section_sound : (count : ℕ) (bytes : List ℕ) (at : ℕ) (s : Section) → section_in count bytes at ≡ Some s → IsSection bytes count at s
unfolding section_in
section_sound zero bytes at s e = subst (IsSection bytes zero at) (same e) (no_more refl refl)
section_sound (suc left) bytes at s e =
    let first = took e in
    let others = took first.then in
    front_sound bytes left at first.x.1 first.x.0 others.x s (part_sound bytes at first.x first.is) (section_sound left bytes first.x.1 others.x others.is) others.then

made : List RecordData → Option Opt → ℕ → Section
made records opt behind = record { records = records; opt = opt; behind = behind }

one_more : (left : ℕ) (bytes : List ℕ) (at middle : ℕ) (p : Part) (rest s : Section) → PartAt bytes at p middle → section_in left bytes middle ≡ Some rest → in_front p rest ≡ Some s → section_in (suc left) bytes at ≡ Some s
unfolding section_in
one_more left bytes at middle p rest s here others front = takes _ (part_whole bytes at p middle here) (takes _ others front)

record_front : (r : RecordData) (others : List RecordData) (opt : Option Opt) (behind : ℕ) → in_front (part.Record r) (made others opt behind) ≡ Some (made (r ∷ others) opt behind)
unfolding in_front made
record_front r others opt behind = refl

opt_front : (o : Opt) (others : List RecordData) (behind : ℕ) → in_front (part.Opt o) (made others None behind) ≡ Some (made others (Some o) behind)
unfolding in_front made
opt_front o others behind = holds refl refl

no_records : (bytes : List ℕ) (at behind : ℕ) → behind ≡ at → section_in zero bytes at ≡ Some (made [] None behind)
unfolding section_in made
no_records bytes at behind is = λ i. Some (record { records = []; opt = None; behind = sym is i })

section_made : (count : ℕ) (bytes : List ℕ) (at : ℕ) {records : List RecordData} {opt : Option Opt} {behind : ℕ} → SectionAt bytes count at records opt behind → section_in count bytes at ≡ Some (made records opt behind)
section_made zero bytes at (no_more {behind = behind} e is) = no_records bytes at behind is
section_made zero bytes at (rr e here rest) = absurd (omega arith)
section_made zero bytes at (options e here rest) = absurd (omega arith)
section_made (suc less) bytes at (no_more e is) = absurd (omega arith)
section_made (suc less) bytes at (rr {left = left} {middle = middle} {behind = behind} {first = first} {others = others} {opt = opt} e here rest) =
    let size : left ≡ less = omega arith in
    let there : SectionAt bytes less middle others opt behind = subst (λ (n : ℕ). SectionAt bytes n middle others opt behind) size rest in
    one_more less bytes at middle (part.Record first) (made others opt behind) (made (first ∷ others) opt behind) here (section_made less bytes middle there) (record_front first others opt behind)
section_made (suc less) bytes at (options {left = left} {middle = middle} {behind = behind} {found = found} {others = others} e here rest) =
    let size : left ≡ less = omega arith in
    let there : SectionAt bytes less middle others None behind = subst (λ (n : ℕ). SectionAt bytes n middle others None behind) size rest in
    one_more less bytes at middle (part.Opt found) (made others None behind) (made others (Some found) behind) here (section_made less bytes middle there) (opt_front found others behind)

pub section_whole : (count : ℕ) (bytes : List ℕ) (at : ℕ) (records : List RecordData) (opt : Option Opt) (behind : ℕ) → SectionAt bytes count at records opt behind
    → section_in count bytes at ≡ Some (record { records = records; opt = opt; behind = behind })
unfolding made
section_whole count bytes at records opt behind h = section_made count bytes at h

pub plain_sound : (count : ℕ) (bytes : List ℕ) (at : ℕ) (x : List RecordData × ℕ) → plain_in count bytes at ≡ Some x → SectionAt bytes count at x.0 None x.1
unfolding plain_in
plain_sound count bytes at x e =
    let s = took e in
    let h = held s.then in
    let there : SectionAt bytes count at s.x.records None s.x.behind =
    subst (λ (opt : Option Opt). SectionAt bytes count at s.x.records opt s.x.behind) (none_is s.x.opt h.passed) (section_sound count bytes at s.x s.is) in
    subst (λ (y : List RecordData × ℕ). SectionAt bytes count at y.0 None y.1) (same h.then) there

pub plain_whole : (count : ℕ) (bytes : List ℕ) (at : ℕ) (records : List RecordData) (behind : ℕ) → SectionAt bytes count at records None behind → plain_in count bytes at ≡ Some (records, behind)
unfolding plain_in
plain_whole count bytes at records behind h = takes _ (section_whole count bytes at records None behind h) (holds refl refl)
