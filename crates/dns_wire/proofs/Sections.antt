-- The records of a section, one after the other.
use Rattle.std.specs.Prelude.{is_some}
use Rattle.std.proofs.Common.{◌≡◌, true, false, ◌<◌, ℕ, ◌+◌, List, [], ◌∷◌, ◌++◌, Option, Some, None, refl, sym, subst, append_assoc, arith}
use Rattle.std.proofs.lemmas.List.{append-nil}
use Rattle.dns_data.specs.Record.{RecordData}
use Rattle.dns_data.specs.declared.message.Opt.{Opt}
use Rattle.dns_wire.specs.Records.{RecordAt, OptAt, PartAt, SectionAt, no_more, rr, options}
use Rattle.dns_wire.specs.declared.record.Part.{Part}
use Rattle.dns_wire.specs.declared.record.Part.TheVariants as part
use Rattle.dns_wire.proofs.Parts.{owned, part_end, parts_differ}

-- behind an OPT record there is no other
abbrev pub Once : Option Opt → Option Opt → Type 0
Once None later = Unit {0}
Once (Some o) later = later ≡ None

abbrev pub first_of : Option Opt → Option Opt → Option Opt
first_of None later = later
first_of (Some o) later = Some o

-- what is left of a section
pub record Left (bytes : List ℕ) (left at : ℕ) (opt : Option Opt) (behind : ℕ) : Type 0 where
  pub others : List RecordData
  pub later : Option Opt
  pub here : SectionAt bytes left at others later behind
  pub once : Once opt later

-- what was read up to an offset is these records: whatever records follow complete them, and nothing else does
pub record SectionSoFar (bytes : List ℕ) (count start left at : ℕ) (front : List RecordData) (opt : Option Opt) : Type 0 where
  pub sound : (others : List RecordData) (later : Option Opt) (behind : ℕ) → SectionAt bytes left at others later behind → Once opt later → SectionAt bytes count start (front ++ others) (first_of opt later) behind
  pub complete : (whole : List RecordData) (any : Option Opt) (behind : ℕ) → SectionAt bytes count start whole any behind → Left bytes left at opt behind

pub section_begins : (bytes : List ℕ) (count start : ℕ) → SectionSoFar bytes count start count start [] None
section_begins bytes count start = record {
  sound = λ others later behind h once. h;
  complete = λ whole any behind h. record { others = whole; later = any; here = h; once = tt };
}

-- behind a record, the rest
behind_record : {bytes : List ℕ} {left less at middle behind : ℕ} {r : RecordData} {whole : List RecordData} {any : Option Opt} → left ≡ less + 1 → RecordAt bytes at r middle → SectionAt bytes left at whole any behind
    → (others : List RecordData) × SectionAt bytes less middle others any behind
behind_record more here (no_more none is) = absurd (omega arith)
behind_record {bytes} {left} {less} {at} {middle} {behind} {r} {any = any} more here (rr {left = l} {middle = m} {first = s} {others = others} e there rest) =
    let size : l ≡ less = omega arith in
    let end : m ≡ middle = part_end (owned (part.Record s) there) (owned (part.Record r) here) in
    (others, subst (λ (n : ℕ). SectionAt bytes n middle others any behind) size (subst (λ (n : ℕ). SectionAt bytes l n others any behind) end rest))
behind_record {r = r} more here (options {found = o} e there rest) = absurd (parts_differ r o here there)

-- behind an OPT record, the rest
behind_opt : {bytes : List ℕ} {left less at middle behind : ℕ} {o : Opt} {whole : List RecordData} {any : Option Opt} → left ≡ less + 1 → OptAt bytes at o middle → SectionAt bytes left at whole any behind
    → (others : List RecordData) × SectionAt bytes less middle others None behind
behind_opt more here (no_more none is) = absurd (omega arith)
behind_opt {o = o} more here (rr {first = r} e there rest) = absurd (parts_differ r o there here)
behind_opt {bytes} {left} {less} {at} {middle} {behind} {o} more here (options {left = l} {middle = m} {found = p} {others = others} e there rest) =
    let size : l ≡ less = omega arith in
    let end : m ≡ middle = part_end (owned (part.Opt p) there) (owned (part.Opt o) here) in
    (others, subst (λ (n : ℕ). SectionAt bytes n middle others None behind) size (subst (λ (n : ℕ). SectionAt bytes l n others None behind) end rest))

pub takes_record : {bytes : List ℕ} {count start left less at middle : ℕ} {front : List RecordData} {opt : Option Opt} {r : RecordData} → SectionSoFar bytes count start left at front opt → left ≡ less + 1
    → RecordAt bytes at r middle → SectionSoFar bytes count start less middle (front ++ r ∷ []) opt
takes_record {bytes} {count} {start} {left} {less} {at} {middle} {front} {opt} {r} so_far more here = record {
  sound = λ others later behind h once.
      subst (λ (l : List RecordData). SectionAt bytes count start l (first_of opt later) behind) (sym (append_assoc front (r ∷ []) others)) (so_far.sound (r ∷ others) later behind (rr more here h) once);
  complete = λ whole any behind h.
      let a = so_far.complete whole any behind h in
      let b = behind_record more here a.here in
      record { others = b.0; later = a.later; here = b.1; once = a.once };
}

pub takes_opt : {bytes : List ℕ} {count start left less at middle : ℕ} {front : List RecordData} {o : Opt} → SectionSoFar bytes count start left at front None → left ≡ less + 1
    → OptAt bytes at o middle → SectionSoFar bytes count start less middle front (Some o)
takes_opt {bytes} {count} {start} {left} {less} {at} {middle} {front} {o} so_far more here = record {
  sound = λ others later behind h once.
      so_far.sound others (Some o) behind (options more here (subst (λ (t : Option Opt). SectionAt bytes less middle others t behind) once h)) tt;
  complete = λ whole any behind h.
      let a = so_far.complete whole any behind h in
      let b = behind_opt more here a.here in
      record { others = b.0; later = None; here = b.1; once = refl };
}

-- where there was an OPT record, no second one follows
no_second : {bytes : List ℕ} {left at middle behind : ℕ} {o : Opt} {whole : List RecordData} → 0 < left → OptAt bytes at o middle → SectionAt bytes left at whole None behind → ⊥
no_second more here (no_more none is) = omega arith
no_second {o = o} more here (rr {first = r} e there rest) = parts_differ r o there here

pub second_opt : {bytes : List ℕ} {count start left at middle : ℕ} {front : List RecordData} {p o : Opt} → SectionSoFar bytes count start left at front (Some p) → 0 < left
    → OptAt bytes at o middle → (whole : List RecordData) (any : Option Opt) (behind : ℕ) → SectionAt bytes count start whole any behind → ⊥
second_opt {bytes} {left} {at} so_far more here whole any behind h =
    let a = so_far.complete whole any behind h in
    no_second more here (subst (λ (t : Option Opt). SectionAt bytes left at a.others t behind) a.once a.here)

-- where a record is left, one stands there
first_part : {bytes : List ℕ} {left at behind : ℕ} {whole : List RecordData} {any : Option Opt} → 0 < left → SectionAt bytes left at whole any behind → (p : Part) × (middle : ℕ) × PartAt bytes at p middle
first_part more (no_more none is) = absurd (omega arith)
first_part more (rr {middle = m} {first = r} e here rest) = (part.Record r, m, here)
first_part more (options {middle = m} {found = o} e here rest) = (part.Opt o, m, here)

pub next_part : {bytes : List ℕ} {count start left at : ℕ} {front : List RecordData} {opt : Option Opt} → SectionSoFar bytes count start left at front opt → 0 < left
    → (whole : List RecordData) (any : Option Opt) (behind : ℕ) → SectionAt bytes count start whole any behind → (p : Part) × (middle : ℕ) × PartAt bytes at p middle
next_part so_far more whole any behind h = let a = so_far.complete whole any behind h in first_part more a.here

pub section_ends : {bytes : List ℕ} {count start left at : ℕ} {front : List RecordData} → (opt : Option Opt) → SectionSoFar bytes count start left at front opt → left ≡ 0 → SectionAt bytes count start front opt at
section_ends {bytes} {count} {start} {left} {at} {front} None so_far none =
    subst (λ (l : List RecordData). SectionAt bytes count start l None at) (append-nil front) (so_far.sound [] None at (no_more none refl) tt)
section_ends {bytes} {count} {start} {left} {at} {front} (Some o) so_far none =
    subst (λ (l : List RecordData). SectionAt bytes count start l (Some o) at) (append-nil front) (so_far.sound [] None at (no_more none refl) refl)

-- what a test of an OPT record says
pub not_none : (opt : Option Opt) → is_some opt ≡ true → opt ≡ None → ⊥
not_none None some none = absurd cc
not_none (Some o) some none = absurd cc

pub second_part : {bytes : List ℕ} {count start left at middle : ℕ} {front : List RecordData} {o : Opt} → (opt : Option Opt) → is_some opt ≡ true → SectionSoFar bytes count start left at front opt → 0 < left
    → OptAt bytes at o middle → (whole : List RecordData) (any : Option Opt) (behind : ℕ) → SectionAt bytes count start whole any behind → ⊥
second_part None some so_far more here whole any behind h = absurd cc
second_part (Some p) some so_far more here whole any behind h = second_opt so_far more here whole any behind h

pub takes_first_opt : {bytes : List ℕ} {count start left less at middle : ℕ} {front : List RecordData} {o : Opt} → (opt : Option Opt) → is_some opt ≡ false → SectionSoFar bytes count start left at front opt
    → left ≡ less + 1 → OptAt bytes at o middle → SectionSoFar bytes count start less middle front (Some o)
takes_first_opt None none so_far more here = takes_opt so_far more here
takes_first_opt (Some p) none so_far more here = absurd cc
