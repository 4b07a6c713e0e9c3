-- A tail is put as its records are.
use Rattle.std.proofs.Common.{◌≡◌, ◌≤◌, ℕ, ◌+◌, ◌-◌, List, [], ◌∷◌, ◌++◌, length, sym, ap, subst, ◌∙◌, arith, inl, inr, length-append}
use Rattle.std.proofs.lemmas.List.{append-nil, nil_from_length}
use Rattle.dns_names.specs.Name.{IsName, spelled}
use Rattle.dns_data.specs.Record.{RecordData}
use Rattle.dns_data.specs.declared.message.Question.{Question}
use Rattle.dns_write.specs.Written.{Draft, OffsetData, empty, put_question, size}
use Rattle.dns_write.specs.Offsets.{suffixes_at}
use Rattle.dns_write.specs.declared.plan.Plan.{Plan}
use Rattle.dns_write.specs.Tails.{AsksRecords, EndsBelow, EndsIn, Fills, IsPlanOf, Knows, Lacks, PutsAll, begun, past_records, pieces_bytes, records_pieces, spots_of, text_of}
use Rattle.dns_write.proofs.FirstName.{first_written, length-suffixes}
use Rattle.dns_write.proofs.Layouts.{records_long}
use Rattle.dns_write.proofs.Patching.{fills_pieces, pieces_long}
use Rattle.dns_write.proofs.Tails.{IsApart, IsClosed, Renders, apart_closed, lacks_apart, records_asked, records_follow, starts_at, starts_behind}

spelled_long : (front ls : List (List ℕ)) → length (spelled (front ++ ls)) ≡ length (spelled front) + length (spelled ls)
spelled_long [] ls = omega arith
spelled_long (l ∷ front) ls = omega (arith, spelled_long front ls, length-append l (spelled (front ++ ls)), length-append l (spelled front))

below_long : {name anchor : List (List ℕ)} {above : List ℕ} {count : ℕ} → EndsBelow name anchor above count → length (spelled anchor) ≤ length (spelled name)
below_long {name} {anchor} {above} ends = omega (arith, ap (λ (n : List (List ℕ)). length (spelled n)) ends.is, spelled_long ends.front (above ∷ anchor), length-append above (spelled anchor))

-- the anchor is no longer than a name that ends in it
pub behind_anchor : {name anchor : List (List ℕ)} {above : List ℕ} {count : ℕ} → EndsIn name anchor above count → length (spelled anchor) ≤ length (spelled name)
behind_anchor {name} {anchor} (inl is) = omega (arith, ap (λ (n : List (List ℕ)). length (spelled n)) is.1)
behind_anchor (inr ends) = below_long ends

-- how many labels such a name has
pub counted_all : {name anchor : List (List ℕ)} {above : List ℕ} {count : ℕ} → EndsIn name anchor above count → length name ≡ count + length anchor
counted_all (inl is) = omega (arith, is.0, ap length is.1)
counted_all {name} {anchor} {above} (inr ends) = omega (arith, ends.counted, ap length ends.is, length-append ends.front (above ∷ anchor))

-- no other offset is kept
alone : (name : List (List ℕ)) (d : Draft) → Knows name d → length d.offsets ≡ length name → d.offsets ≡ suffixes_at 12 name
alone name d known many =
    let none : known.others ≡ [] = nil_from_length known.others (omega (arith, many, ap length known.offsets, length-append (suffixes_at 12 name) known.others, length-suffixes 12 name)) in
    known.offsets ∙ ap (λ (os : List OffsetData). suffixes_at 12 name ++ os) none ∙ append-nil (suffixes_at 12 name)

-- the records behind a draft in which the anchor stands, as their plan is filled in there
puts_from : {Asked : List (List ℕ) → Type 0} (d new : Draft) (plan : Plan) (rs : List RecordData) (room anchor : ℕ) → IsClosed Asked → AsksRecords Asked rs → Renders Asked anchor d d (begun plan.anchor) [] → IsPlanOf rs plan
    → size d + length plan.text.items + 256 ≤ 16384 → size d + length plan.text.items ≤ room → Fills plan.text.items plan.spots.items anchor d new → PutsAll d new rs room
puts_from d new plan rs room anchor closed asked start planned near inside filled =
    let top = plan.anchor in
    let ps = records_pieces (begun top) rs in
    let size_all : (past_records (begun top) rs).size ≡ length plan.text.items = omega (arith, records_long (begun top) rs, ap length planned.text) in
    let written = (records_follow closed rs asked).renders d (begun top) [] start (omega (arith, size_all, near)) in
    let same : Fills (text_of ps) (spots_of 0 ps) anchor d new = subst (λ (t : List ℕ). Fills t (spots_of 0 ps) anchor d new) planned.text (rw planned.spots at filled) in
    let bytes : new.bytes ≡ d.bytes ++ pieces_bytes anchor (size d) ps = fills_pieces anchor ps d new same in
    record {
      bytes = bytes ∙ sym written.bytes;
      fits = omega (arith, inside, ap length bytes, length-append d.bytes (pieces_bytes anchor (size d) ps), pieces_long anchor (size d) ps, ap length planned.text);
      proper = planned.proper;
    }

pub puts_tail : (name : List (List ℕ)) (d new : Draft) (plan : Plan) (rs : List RecordData) (room anchor count : ℕ) (above : List ℕ) → IsPlanOf rs plan → Knows name d → EndsIn name plan.anchor above count → Lacks above plan.labels
    → length d.offsets ≡ count + plan.depth → anchor ≡ 12 + (length (spelled name) - length (spelled plan.anchor)) → size d + length plan.text.items + 256 ≤ 16384 → size d + length plan.text.items ≤ room
    → Fills plan.text.items plan.spots.items anchor d new → PutsAll d new rs room
puts_tail name d new plan rs room anchor count above planned known (inl is) lacks many at near inside filled =
    let top = plan.anchor in
    let offsets = alone name d known (omega (arith, many, is.0, planned.depth, ap length is.1)) ∙ ap (suffixes_at 12) is.1 in
    let here : anchor ≡ 12 = omega (arith, at, ap (λ (n : List (List ℕ)). length (spelled n)) is.1) in
    let start = subst (λ (n : ℕ). Renders (λ (other : List (List ℕ)). Unit {0}) n d d (begun top) []) (sym here) (starts_at top d offsets) in
    puts_from d new plan rs room anchor (λ label labels any. tt) (records_asked (λ n listed. tt) rs planned.listed) start planned near inside filled
puts_tail name d new plan rs room anchor count above planned known (inr ends) lacks many at near inside filled =
    let top = plan.anchor in
    let A = 12 + length (spelled ends.front) + length above + 1 in
    let count_all : length d.offsets ≡ length name = omega (arith, many, ends.counted, planned.depth, ap length ends.is, length-append ends.front (above ∷ top)) in
    let offsets = alone name d known count_all ∙ ap (suffixes_at 12) ends.is in
    let asked = records_asked (λ n listed. lacks_apart above top n (listed above lacks)) rs planned.listed in
    let here : anchor ≡ A = omega (arith, at, ap (λ (n : List (List ℕ)). length (spelled n)) ends.is, spelled_long ends.front (above ∷ top), length-append above (spelled top)) in
    let start = subst (λ (n : ℕ). Renders (IsApart above top) n d d (begun top) []) (sym here) (starts_behind ends.front above top d offsets) in
    puts_from d new plan rs room anchor (apart_closed above top) asked start planned near inside filled

-- behind the question the offsets of its name are kept
pub question_known : (q : Question) → IsName q.name → Knows q.name (put_question empty q)
unfolding put_question
question_known q proper = record {
  others = [];
  offsets = ap (λ (d : Draft). d.offsets) (first_written q.name proper) ∙ sym (append-nil (suffixes_at 12 q.name));
}
