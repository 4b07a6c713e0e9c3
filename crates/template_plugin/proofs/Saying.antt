-- What a template says, by what was made of it.
use Rattle.std.proofs.Common.{◌≡◌, ◌∙◌, ◌<◌, ℕ, zero, suc, Bool, true, false, List, [], ◌∷◌, ◌++◌, length, map, codes, Option, Some, None, IfSome, IsUtf8, refl, sym, ap, arith}
use Rattle.std.specs.Prelude.{option_map, option_and_then, unwrap_or, if◌then◌else◌}
use Rattle.std.specs.List.{flat_map}
use Rattle.std.specs.Prelude.{slice_get}
use Rattle.std.proofs.lemmas.Option.{slice_get-map}
use Rattle.std.proofs.lemmas.Str.{IsCharBoundary-end, IsCharBoundary-from_drop}
use Rattle.dns_data.specs.{addr_text, name_text}
use Rattle.dns_data.specs.declared.directive.Line.{Line}
use Rattle.dns_data.specs.Message.{AnswerData}
use Rattle.dns_data.specs.declared.query.Query.{Query}
use Rattle.pattern.specs.Searches.{IsPartOf}
use Rattle.pattern.specs.Texts.{Finding, whole_text}
use Rattle.pattern.specs.declared.scratch.Scratch.{Scratch}
use Rattle.plugin_api.specs.{PlanData}
use Rattle.record_text.specs.{record_spelt}
use Rattle.regex.specs.declared.string.regex.Regex.{Regex}
use Rattle.type_names.specs.{kind_text}
use Rattle.template_plugin.specs.declared.record_parts.Sections.{Sections}
use Rattle.template_plugin.specs.declared.piece.Piece.{Piece}
use Rattle.template_plugin.specs.declared.piece.Piece.TheVariants as piece
use Rattle.template_plugin.specs.declared.piece.Place.{Place}
use Rattle.template_plugin.specs.declared.piece.Place.TheVariants as place
use Rattle.template_plugin.specs.Made.{IsFirst, IsMade, PlanParts, own_say, pattern_sections, spans_by}
use Rattle.template_plugin.specs.Parts.{FillingData, answer_by, compiled, compiled_place, compiled_text, compiled_texts, filling_of, full_answer, named_part, part_text, record_by, records_by, sections_of}
use Rattle.template_plugin.specs.Template.{Said, answer_in, answer_with, default_ttl, first_found, found_by, found_said, longest_zone, next, no_match, piece_text, place_text, record_in, records_in, reply, said_of, searched, spanned_by, with_record}
use Rattle.template_plugin.specs.Words.{patterns_of, rcode_of, text_pieces, texts_of}
use Rattle.template_plugin.proofs.Judged.{as_many}

module _ (plan : PlanData) (q : Query) (found : Finding) where
  named_is : (o : Option ℕ) → part_text (filling_of plan q found.span) (named_part o) ≡ spanned_by (searched q.name) found o
  named_is None = refl
  named_is (Some number) = refl

  place_is : (p : Place) → part_text (filling_of plan q found.span) (compiled_place found.number p) ≡ place_text plan q found p
  place_is place.Name = refl
  place_is place.Zone = refl
  place_is place.Type = refl
  place_is place.Class = refl
  place_is place.Remote = refl
  place_is (place.Named name) = named_is (found.number name)
  place_is (place.Number number) = refl

  piece_is : (p : Piece) → part_text (filling_of plan q found.span) (compiled found.number p) ≡ piece_text plan q found p
  piece_is (piece.Bytes bytes) = refl
  piece_is (piece.Place p) = place_is p

  pieces_are : (pieces : List Piece) → flat_map (part_text (filling_of plan q found.span)) (map (compiled found.number) pieces) ≡ flat_map (piece_text plan q found) pieces
  pieces_are [] = refl
  pieces_are (p ∷ pieces) = λ i. piece_is p i ++ pieces_are pieces i

  record_is : (text : List ℕ) → record_by (filling_of plan q found.span) (compiled_text found.number text) ≡ record_in plan q found text
  record_is text = ap (λ (t : List ℕ). record_spelt t [] default_ttl) (pieces_are (text_pieces text))

  records_are : (texts : List (List ℕ)) → records_by (filling_of plan q found.span) (compiled_texts found.number texts) ≡ records_in plan q found texts
  records_are [] = refl
  records_are (text ∷ texts) = λ i. option_and_then (with_record (records_are texts i)) (record_is text i)

  answer_is : answer_by (filling_of plan q found.span) (sections_of found.number plan.directive.body) (rcode_of plan.directive.body) ≡ answer_in plan q found
  answer_is =
      let lines = plan.directive.body in
      λ i. option_and_then
      (λ answer. option_and_then
      (λ authority. option_map (answer_with (rcode_of lines) answer authority) (records_are (texts_of (codes "additional") lines) i))
      (records_are (texts_of (codes "authority") lines) i))
      (records_are (texts_of (codes "answer") lines) i)

  -- what is said by the parts of a plan
  pub said_found : (filling : FillingData) (sections : Sections) (rcode : ℕ) → filling ≡ filling_of plan q found.span
      → sections ≡ sections_of found.number plan.directive.body → rcode ≡ rcode_of plan.directive.body
      → said_of (answer_by filling sections rcode) ≡ found_said plan q next (Some found)
  said_found filling sections rcode e f g = (λ i. said_of (answer_by (e i) (f i) (g i))) ∙ ap said_of answer_is

chosen : (b : Bool) (others : Said) → (if b then next else no_match) ≡ next → (if b then others else no_match) ≡ others
chosen true others e = refl
chosen false others e = absurd cc

chosen_not : (b : Bool) (others s : Said) → (if b then next else no_match) ≡ s → (s ≡ next → ⊥) → (if b then others else no_match) ≡ s
chosen_not true others s e other = absurd (other (sym e))
chosen_not false others s e other = e

said_not_next : (o : Option AnswerData) → said_of o ≡ next → ⊥
said_not_next None e = absurd cc
said_not_next (Some a) e = absurd cc

-- a query goes on to the others where it would go on to nothing
pub goes_to : (plan : PlanData) (q : Query) (found : Option Finding) (others : Said) → found_said plan q next found ≡ next → found_said plan q others found ≡ others
goes_to plan q None others e = chosen _ others e
goes_to plan q (Some found) others e = absurd (said_not_next (answer_in plan q found) e)

-- and where it doesn't, they say nothing
pub stays : (plan : PlanData) (q : Query) (found : Option Finding) (others s : Said) → found_said plan q next found ≡ s → (s ≡ next → ⊥) → found_said plan q others found ≡ s
stays plan q None others s e other = chosen_not _ others s e other
stays plan q (Some found) others s e other = e

-- an answer in a slot that was clear but for its records
pub slot_full : (rcode : ℕ) (inside slot : AnswerData) → inside ≡ slot → slot.ra ≡ false → slot.tc ≡ false
    → said_of (full_answer true rcode slot)
    ≡ reply (record { rcode = rcode; aa = true; ra = inside.ra; tc = inside.tc; answer = inside.answer; authority = inside.authority; additional = inside.additional })
slot_full rcode inside slot e f g = λ i. reply (record {
  rcode = rcode;
  aa = true;
  ra = (sym f ∙ ap (λ (a : AnswerData). a.ra) (sym e)) i;
  tc = (sym g ∙ ap (λ (a : AnswerData). a.tc) (sym e)) i;
  answer = ap (λ (a : AnswerData). a.answer) (sym e) i;
  authority = ap (λ (a : AnswerData). a.authority) (sym e) i;
  additional = ap (λ (a : AnswerData). a.additional) (sym e) i;
})

abbrev pub filled_with : List ℕ → List (List (List ℕ)) → Query → (ℕ → Option (ℕ × ℕ)) → FillingData
filled_with name zones q span = record { name = name; zone = name_text (longest_zone q.name zones); kind = kind_text q.kind; client = addr_text q.client; span = span }

some_back : (a b : Sections) → Some a ≡ Some b → a ≡ b
some_back a b e = ap (λ (o : Option Sections). unwrap_or o a) e

sections_at : (lines : List Line) (patterns : List Regex) (all : List Sections) (number : ℕ) (pattern : Regex) (sections : Sections)
    → all ≡ map (pattern_sections lines) patterns → slice_get patterns number ≡ Some pattern → slice_get all number ≡ Some sections → sections ≡ pattern_sections lines pattern
sections_at lines patterns all number pattern sections e f g =
    some_back sections (pattern_sections lines pattern) (sym g ∙ ap (λ (l : List Sections). slice_get l number) e ∙ slice_get-map (pattern_sections lines) patterns number ∙ ap (option_map (pattern_sections lines)) f)

-- by a pattern that was found
pub pattern_said : (plan : PlanData) (q : Query) (name : List ℕ) (parts : PlanParts) (scratch : Scratch) (number : ℕ) (sections : Sections) → IsMade plan parts → name ≡ searched q.name
    → IsFirst (patterns_of plan.directive.body) parts.patterns name scratch number → slice_get parts.sections number ≡ Some sections
    → said_of (answer_by (filled_with name parts.zones q (spans_by (Some scratch) name)) sections parts.rcode)
    ≡ found_said plan q next (first_found (patterns_of plan.directive.body) name)
pattern_said plan q name parts scratch number sections made e first stands =
    let lines = plan.directive.body in
    let filling : filled_with name parts.zones q (spans_by (Some scratch) name) ≡ filling_of plan q first.found.span =
    λ i. filled_with (e i) (made.zones_are i) q (λ n. first.spans n i) in
    let own = sections_at lines parts.patterns parts.sections number first.pattern sections made.sections_are first.stands stands in
    let same : sections ≡ sections_of first.found.number lines = own ∙ (λ i. sections_of (λ group. first.numbers group i) lines) in
    said_found plan q first.found (filled_with name parts.zones q (spans_by (Some scratch) name)) sections parts.rcode filling same made.rcode_is
    ∙ ap (found_said plan q next) (sym first.is)

whole_by : (plan : PlanData) (q : Query) (texts : List (List ℕ)) (name : List ℕ) → length texts ≡ 0 → found_by texts name ≡ Some (whole_text name)
whole_by plan q [] name e = refl
whole_by plan q (t ∷ texts) name e = absurd (omega (arith, e))

-- without patterns
pub whole_said : (plan : PlanData) (q : Query) (name : List ℕ) (parts : PlanParts) → IsMade plan parts → name ≡ searched q.name → length parts.patterns ≡ 0
    → said_of (answer_by (filled_with name parts.zones q (spans_by None name)) parts.whole parts.rcode) ≡ own_say plan q
whole_said plan q name parts made e none =
    let lines = plan.directive.body in
    let found = whole_text (searched q.name) in
    let filling : filled_with name parts.zones q (spans_by None name) ≡ filling_of plan q found.span = λ i. filled_with (e i) (made.zones_are i) q (spans_by None (e i)) in
    let many = as_many (patterns_of lines) parts.patterns made.patterns_are in
    said_found plan q found (filled_with name parts.zones q (spans_by None name)) parts.whole parts.rcode filling made.whole_is made.rcode_is
    ∙ ap (found_said plan q next) (sym (whole_by plan q (patterns_of lines) (searched q.name) (omega (arith, many, none))))

some_by : (plan : PlanData) (q : Query) (texts : List (List ℕ)) (name : List ℕ) → name ≡ searched q.name → 0 < length texts
    → found_said plan q next (first_found texts name) ≡ found_said plan q next (found_by texts (searched q.name))
some_by plan q [] name e some = absurd (omega (arith, some))
some_by plan q (t ∷ texts) name e some = ap (λ (n : List ℕ). found_said plan q next (first_found (t ∷ texts) n)) e

-- by patterns, where there are some
pub some_said : (plan : PlanData) (q : Query) (name : List ℕ) (parts : PlanParts) → IsMade plan parts → name ≡ searched q.name → 0 < length parts.patterns
    → found_said plan q next (first_found (patterns_of plan.directive.body) name) ≡ own_say plan q
some_said plan q name parts made e some = some_by plan q (patterns_of plan.directive.body) name e (omega (arith, as_many (patterns_of plan.directive.body) parts.patterns made.patterns_are, some))

-- the whole of a text is a part of it
pub whole_parts : (text : List ℕ) → IsUtf8 text → (n : ℕ) → IfSome (spans_by None text n) (IsPartOf text)
whole_parts text utf8 zero = (omega arith, (IsCharBoundary-from_drop text 0 (omega arith) utf8, IsCharBoundary-end text))
whole_parts text utf8 (suc n) = tt
