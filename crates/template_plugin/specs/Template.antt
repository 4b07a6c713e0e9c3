-- What `template` says of a query: records by a pattern of its name, or that no pattern matches, or
-- that a text made no record. This server's own rule, in the manner of CoreDNS.
use Rattle.std.specs.Prelude.{ℕ, ◌==◌, nat_lt, Bool, true, false, ◌&&◌, ◌||◌, List, [], ◌∷◌, length}
use Rattle.std.specs.Prelude.{codes}
use Rattle.std.specs.Prelude.{slice_range, Option, Some, None, option_map, option_and_then}
use Rattle.std.specs.Prelude.{if◌then◌else◌}
use Rattle.std.specs.List.{flat_map}
use Rattle.std.specs.Option.{option_or}
use Rattle.dns_data.specs.{RecordData, addr_text, is_within, lowered, name_text}
use Rattle.dns_data.specs.Message.{AnswerData}
use Rattle.dns_data.specs.declared.kind.TheConstants as kinds
use Rattle.dns_data.specs.declared.query.Query.{Query}
use Rattle.plugin_api.specs.{PlanData, fallthrough_of}
use Rattle.pattern.specs.Texts.{Finding, finding_of, whole_text}
use Rattle.record_text.specs.{record_spelt}
use Rattle.type_names.specs.{kind_text}
use Rattle.zone_words.specs.{is_in}
use Rattle.template_plugin.specs.declared.piece.Piece.{Piece}
use Rattle.template_plugin.specs.declared.piece.Piece.TheVariants as piece
use Rattle.template_plugin.specs.declared.piece.Place.{Place}
use Rattle.template_plugin.specs.declared.piece.Place.TheVariants as place
use Rattle.template_plugin.specs.Words.{kind_of, patterns_of, plan_zones, rcode_of}
use Rattle.template_plugin.specs.Words.{text_pieces, texts_of}

-- the text of a name that patterns search, and `.Name` stands for: in small letters
abbrev pub searched : List (List ℕ) → List ℕ
searched name = name_text (lowered name)

-- the longer of two zones, where the first one holds a name
abbrev pub longer : List (List ℕ) → List (List ℕ) → List (List ℕ) → List (List ℕ)
longer name zone other =
    if is_within name zone && nat_lt (length other) (length zone) then zone else other

-- the longest of this zone and of those that hold a name
abbrev pub longest_by : List (List ℕ) → List (List ℕ) → List (List (List ℕ)) → List (List ℕ)
longest_by name longest [] = longest
longest_by name longest (zone ∷ zones) = longest_by name (longer name zone longest) zones

-- the longest of the zones that hold a name; the root, where none does
abbrev pub longest_zone : List (List ℕ) → List (List (List ℕ)) → List (List ℕ)
longest_zone name zones = longest_by name [] zones

-- whether a type is that of the template
abbrev pub fits_kind : ℕ → ℕ → Bool
fits_kind own kind = own == kind || own == kinds.ANY

-- whether a template is for a query
abbrev pub applies : PlanData → Query → Bool
applies plan q =
    fits_kind (kind_of plan.directive.args) q.kind && is_in q.name (plan_zones plan)

-- the first of the patterns that is found in a text
abbrev pub first_found : List (List ℕ) → List ℕ → Option Finding
first_found [] text = None
first_found (pattern ∷ patterns) text =
    option_or (finding_of pattern text) (first_found patterns text)

-- without a pattern the whole text is found
abbrev pub found_by : List (List ℕ) → List ℕ → Option Finding
found_by [] text = Some (whole_text text)
found_by (pattern ∷ patterns) text = first_found (pattern ∷ patterns) text

-- what a span has of a text; nothing, where there is none
abbrev pub spanned : List ℕ → Option (ℕ × ℕ) → List ℕ
spanned text None = []
spanned text (Some s) = slice_range text s.0 s.1

abbrev pub spanned_by : List ℕ → Finding → Option ℕ → List ℕ
spanned_by text found None = []
spanned_by text found (Some number) = spanned text (found.span number)

-- what a place stands for
abbrev pub place_text : PlanData → Query → Finding → Place → List ℕ
place_text plan q found place.Name = searched q.name
place_text plan q found place.Zone = name_text (longest_zone q.name (plan_zones plan))
place_text plan q found place.Type = kind_text q.kind
place_text plan q found place.Class = codes "IN"
place_text plan q found place.Remote = addr_text q.client
place_text plan q found (place.Named name) =
    spanned_by (searched q.name) found (found.number name)
place_text plan q found (place.Number number) = spanned (searched q.name) (found.span number)

abbrev pub piece_text : PlanData → Query → Finding → Piece → List ℕ
piece_text plan q found (piece.Bytes bytes) = bytes
piece_text plan q found (piece.Place place) = place_text plan q found place

-- a text with its places filled in
abbrev pub rendered : PlanData → Query → Finding → List ℕ → List ℕ
rendered plan q found text = flat_map (piece_text plan q found) (text_pieces text)

-- the TTL of a record whose text has none
abbrev pub default_ttl : ℕ
default_ttl = 3600

-- the record of a text
abbrev pub record_in : PlanData → Query → Finding → List ℕ → Option RecordData
record_in plan q found text = record_spelt (rendered plan q found text) [] default_ttl

-- with a record in front, where all are records
abbrev pub with_record : Option (List RecordData) → RecordData → Option (List RecordData)
with_record records record' = option_map (λ others. record' ∷ others) records

-- the records of texts, where each makes one
abbrev pub records_in : PlanData → Query → Finding → List (List ℕ) → Option (List RecordData)
records_in plan q found [] = Some []
records_in plan q found (text ∷ texts) =
    option_and_then (with_record (records_in plan q found texts)) (record_in plan q found text)

-- the records of a section
abbrev pub section_in : PlanData → Query → Finding → List ℕ → Option (List RecordData)
section_in plan q found section = records_in plan q found (texts_of section plan.directive.body)

abbrev pub answer_with : ℕ → List RecordData → List RecordData → List RecordData → AnswerData
answer_with rcode answer authority additional = record {
  rcode = rcode;
  aa = true;
  ra = false;
  tc = false;
  answer = answer;
  authority = authority;
  additional = additional;
}

-- the answer of records of the three sections, where each text makes one
abbrev pub with_additional : PlanData → List RecordData → List RecordData → List RecordData
    → AnswerData
with_additional plan answer authority additional =
    answer_with (rcode_of plan.directive.body) answer authority additional

abbrev pub with_authority : PlanData → Query → Finding → List RecordData → List RecordData
    → Option AnswerData
with_authority plan q found answer authority =
    option_map (with_additional plan answer authority)
    (section_in plan q found (codes "additional"))

abbrev pub with_answer : PlanData → Query → Finding → List RecordData → Option AnswerData
with_answer plan q found answer =
    option_and_then (with_authority plan q found answer)
    (section_in plan q found (codes "authority"))

abbrev pub answer_in : PlanData → Query → Finding → Option AnswerData
answer_in plan q found =
    option_and_then (with_answer plan q found) (section_in plan q found (codes "answer"))

-- a query is answered, goes on, matches no pattern, or has a text that makes no record
pub data Said : Type 0 where
  reply : AnswerData → Said
  next : Said
  no_match : Said
  not_record : Said

abbrev pub said_of : Option AnswerData → Said
said_of None = not_record
said_of (Some answer) = reply answer

-- a name that nothing matches goes on to the next template where `fallthrough` covers it
abbrev pub unmatched : PlanData → Query → Said → Said
unmatched plan q others =
    if is_in q.name (fallthrough_of plan.directive.body) then others else no_match

-- what a template that is for the query says, by what was found
abbrev pub found_said : PlanData → Query → Said → Option Finding → Said
found_said plan q others None = unmatched plan q others
found_said plan q others (Some found) = said_of (answer_in plan q found)

-- what the templates of a block say, tried in the order of the text
unfoldable pub template_say : List PlanData → Query → Said
template_say [] q = next
template_say (plan ∷ plans) q =
    if applies plan q
    then found_said plan q (template_say plans q)
    (found_by (patterns_of plan.directive.body) (searched q.name))
    else template_say plans q
