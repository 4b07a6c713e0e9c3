-- The pieces of a text as they are filled in, with groups by their numbers.
use Rattle.std.specs.Prelude.{ℕ, Bool, List, [], ◌∷◌, ◌++◌, map, codes, Option, Some, None}
use Rattle.std.specs.Prelude.{option_map, option_and_then, if◌then◌else◌}
use Rattle.std.specs.List.{flat_map}
use Rattle.dns_data.specs.{RecordData, addr_text, name_text}
use Rattle.dns_data.specs.Message.{AnswerData}
use Rattle.dns_data.specs.declared.directive.Line.{Line}
use Rattle.dns_data.specs.declared.query.Query.{Query}
use Rattle.plugin_api.specs.{PlanData}
use Rattle.pattern.specs.Texts.{number_in}
use Rattle.record_text.specs.{record_spelt}
use Rattle.regex.specs.Strings.{regex_names}
use Rattle.regex.specs.declared.string.regex.Regex.{Regex}
use Rattle.type_names.specs.{kind_text}
use Rattle.template_plugin.specs.declared.part.Part.{Part}
use Rattle.template_plugin.specs.declared.part.Part.TheVariants as part
use Rattle.template_plugin.specs.declared.record_parts.Sections.{Sections}
use Rattle.template_plugin.specs.declared.piece.Piece.{Piece}
use Rattle.template_plugin.specs.declared.piece.Piece.TheVariants as piece
use Rattle.template_plugin.specs.declared.piece.Place.{Place}
use Rattle.template_plugin.specs.declared.piece.Place.TheVariants as place
use Rattle.template_plugin.specs.Template.{answer_with, default_ttl, longest_zone, searched}
use Rattle.template_plugin.specs.Template.{spanned, with_record}
use Rattle.template_plugin.specs.Words.{plan_zones, text_pieces, texts_of}

-- the group of a name; nothing, where the pattern has none of the name
abbrev pub named_part : Option ℕ → Part
named_part None = part.Bytes []
named_part (Some number) = part.Group number

abbrev pub compiled_place : (List ℕ → Option ℕ) → Place → Part
compiled_place numbers place.Name = part.Name
compiled_place numbers place.Zone = part.Zone
compiled_place numbers place.Type = part.Type
compiled_place numbers place.Class = part.Bytes (codes "IN")
compiled_place numbers place.Remote = part.Remote
compiled_place numbers (place.Named name) = named_part (numbers name)
compiled_place numbers (place.Number number) = part.Group number

abbrev pub compiled : (List ℕ → Option ℕ) → Piece → Part
compiled numbers (piece.Bytes bytes) = part.Bytes bytes
compiled numbers (piece.Place place) = compiled_place numbers place

-- a text as it is filled in
abbrev pub compiled_text : (List ℕ → Option ℕ) → List ℕ → List Part
compiled_text numbers text = map (compiled numbers) (text_pieces text)

-- the texts of a section
abbrev pub compiled_texts : (List ℕ → Option ℕ) → List (List ℕ) → List (List Part)
compiled_texts numbers texts = map (compiled_text numbers) texts

-- the texts of the three sections, with the numbers of groups by their names
abbrev pub sections_of : (List ℕ → Option ℕ) → List Line → Sections
sections_of numbers lines = record {
  answer = compiled_texts numbers (texts_of (codes "answer") lines);
  authority = compiled_texts numbers (texts_of (codes "authority") lines);
  additional = compiled_texts numbers (texts_of (codes "additional") lines);
}

-- the numbers of the groups of a pattern; none, where there is no pattern
abbrev pub numbers_of : Option Regex → List ℕ → Option ℕ
numbers_of None name = None
numbers_of (Some pattern) name = number_in (regex_names pattern) name

-- what is filled in: the texts of the name, of its zone, of the type and of the client, and the
-- parts of the name that groups span
pub record FillingData : Type 0 where
  pub name : List ℕ
  pub zone : List ℕ
  pub kind : List ℕ
  pub client : List ℕ
  pub span : ℕ → Option (ℕ × ℕ)

abbrev pub filling_of : PlanData → Query → (ℕ → Option (ℕ × ℕ)) → FillingData
filling_of plan q span = record {
  name = searched q.name;
  zone = name_text (longest_zone q.name (plan_zones plan));
  kind = kind_text q.kind;
  client = addr_text q.client;
  span = span;
}

-- what a part stands for
abbrev pub part_text : FillingData → Part → List ℕ
part_text filling (part.Bytes bytes) = bytes
part_text filling part.Name = filling.name
part_text filling part.Zone = filling.zone
part_text filling part.Type = filling.kind
part_text filling part.Remote = filling.client
part_text filling (part.Group number) = spanned filling.name (filling.span number)

abbrev pub filled_in : FillingData → List Part → List ℕ
filled_in filling parts = flat_map (part_text filling) parts

-- the record of a text
abbrev pub record_by : FillingData → List Part → Option RecordData
record_by filling parts = record_spelt (filled_in filling parts) [] default_ttl

-- the records of texts, where each makes one
abbrev pub records_by : FillingData → List (List Part) → Option (List RecordData)
records_by filling [] = Some []
records_by filling (parts ∷ texts) =
    option_and_then (with_record (records_by filling texts)) (record_by filling parts)

-- records behind those that stood before
abbrev pub joined : List RecordData → Option (List RecordData) → Option (List RecordData)
joined before records = option_map (λ more. before ++ more) records

-- a record, where there is one, behind those that stood before
abbrev pub with_one : List RecordData → Option RecordData → Option (List RecordData)
with_one before made = option_map (λ one. before ++ one ∷ []) made

-- what a section has where each of its texts made a record
abbrev pub whole : Bool → List RecordData → Option (List RecordData)
whole full records = if full then Some records else None

-- the answer of texts, where each makes a record
abbrev pub with_authority : FillingData → Sections → ℕ → List RecordData → List RecordData
    → Option AnswerData
with_authority filling sections rcode answer authority =
    option_map (answer_with rcode answer authority) (records_by filling sections.additional)

abbrev pub with_answer : FillingData → Sections → ℕ → List RecordData → Option AnswerData
with_answer filling sections rcode answer =
    option_and_then (with_authority filling sections rcode answer)
    (records_by filling sections.authority)

abbrev pub answer_by : FillingData → Sections → ℕ → Option AnswerData
answer_by filling sections rcode =
    option_and_then (with_answer filling sections rcode) (records_by filling sections.answer)

-- the answer that a slot has where each text made a record
abbrev pub full_answer : Bool → ℕ → AnswerData → Option AnswerData
full_answer full rcode slot =
    if full then Some (answer_with rcode slot.answer slot.authority slot.additional) else None
