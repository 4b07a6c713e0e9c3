-- Records that stand behind the answers to many questions whose names end in one name, the anchor.
-- How they are written is known but for two numbers: where the anchor begins in the message, and
-- where the records do.
use Rattle.std.specs.Prelude.{◌≡◌, ◌≤◌, ℕ, ◌+◌, ◌-◌, ◌/◌, ◌%◌, true, false, List, [], ◌∷◌, ◌++◌, length, take, drop, Option, Some, None, option_map, find, if◌then◌else◌}
use Rattle.std.specs.Prelude.{◌⊎◌}
use Rattle.std.specs.Int.{w16, w32, w128, to_be_bytes}
use Rattle.std.specs.List.{AllByRecursion}
use Rattle.dns_names.specs.Name.{IsWire, labels_of, same_labels, spelled}
use Rattle.dns_data.specs.Message.{AnswerData, MessageData}
use Rattle.dns_write.specs.Written.{Draft, OffsetData, put_records, size}
use Rattle.dns_write.specs.Offsets.{suffixes_at}
use Rattle.dns_write.specs.declared.layout.Placed.{Placed}
use Rattle.dns_write.specs.declared.layout.Spot.{Spot}
use Rattle.dns_write.specs.declared.plan.Plan.{Plan}
use Rattle.dns_data.specs.Record.{IsProper, RecordData, kind_of, fields_of, Field, Compressed, Uncompressed, U8, U16, U32, U128, CharString, NonEmpty, CharStrings, Remainder, Unknown}

-- where a pointer leads: so many bytes behind the first one of the anchor, or of the records
pub data Place : Type 0 where
  InAnchor : ℕ → Place
  InTail : ℕ → Place

-- the offset of a place, of an anchor and records that begin here
abbrev pub place_at : ℕ → ℕ → Place → ℕ
place_at anchor tail (InAnchor behind) = anchor + behind
place_at anchor tail (InTail behind) = tail + behind

-- a pointer to an offset: two bits that are set, and the offset in 14 bits
abbrev pub pointer_bytes : ℕ → List ℕ
pointer_bytes at = (192 + at / 256) ∷ (at % 256) ∷ []

-- what the records are written in: bytes that stay, and pointers
pub data Piece : Type 0 where
  Plain : List ℕ → Piece
  Pointer : Place → Piece

-- the bytes of a piece, and of pieces
abbrev pub piece_bytes : ℕ → ℕ → Piece → List ℕ
piece_bytes anchor tail (Plain bytes) = bytes
piece_bytes anchor tail (Pointer place) = pointer_bytes (place_at anchor tail place)

abbrev pub pieces_bytes : ℕ → ℕ → List Piece → List ℕ
pieces_bytes anchor tail [] = []
pieces_bytes anchor tail (piece ∷ pieces) =
    piece_bytes anchor tail piece ++ pieces_bytes anchor tail pieces

-- a suffix that was written out, and where
pub record PlacedSuffix : Type 0 where
  pub suffix : List (List ℕ)
  pub place : Place

-- how many bytes of the records are written so far, and the suffixes that were written out, the
-- earliest first
pub record Progress : Type 0 where
  pub size : ℕ
  pub placed : List PlacedSuffix

-- the earliest place at which a suffix was written out, byte for byte
unfoldable pub place_of : List PlacedSuffix → List (List ℕ) → Option Place
place_of placed suffix =
    option_map (λ p. p.place) (find (λ p. same_labels p.suffix suffix) placed)

-- behind so many bytes more
abbrev pub past : Progress → ℕ → Progress
past p count = record { size = p.size + count; placed = p.placed }

-- with a suffix that is written out next
abbrev pub placing : Progress → List (List ℕ) → Progress
placing p suffix = record {
  size = p.size;
  placed = p.placed ++ record { suffix = suffix; place = InTail p.size } ∷ [];
}

-- behind a label
abbrev pub past_label : Progress → List ℕ → List (List ℕ) → Progress
past_label p label labels = past (placing p (label ∷ labels)) (length label + 1)

-- behind a pointer to a place, or behind what is written out where there is none
abbrev pub past_or : Progress → Option Place → Progress → Progress
past_or p (Some place) written_out = past p 2
past_or p None written_out = written_out

-- behind a compressed name
unfoldable pub past_name : Progress → List (List ℕ) → Progress
past_name p [] = past p 1
past_name p (label ∷ labels) =
    past_or p (place_of p.placed (label ∷ labels)) (past_name (past_label p label labels) labels)

-- a pointer to a place, or what is written out where there is none
abbrev pub pieces_or : Option Place → List Piece → List Piece
pieces_or (Some place) written_out = Pointer place ∷ []
pieces_or None written_out = written_out

-- a compressed name: labels up to the first suffix that was written out before, or to the root
unfoldable pub name_pieces : Progress → List (List ℕ) → List Piece
name_pieces p [] = Plain (0 ∷ []) ∷ []
name_pieces p (label ∷ labels) =
    pieces_or (place_of p.placed (label ∷ labels))
    (Plain (length label ∷ label) ∷ name_pieces (past_label p label labels) labels)

-- the bytes of a field that has no compressed name
abbrev pub strings_bytes : List (List ℕ) → List ℕ
strings_bytes [] = []
strings_bytes (string ∷ strings) = (length string ∷ string) ++ strings_bytes strings

abbrev pub field_bytes : Field → List ℕ
field_bytes (Compressed labels) = []
field_bytes (Uncompressed labels) = spelled labels ++ 0 ∷ []
field_bytes (U8 number) = number ∷ []
field_bytes (U16 number) = to_be_bytes w16 number
field_bytes (U32 number) = to_be_bytes w32 number
field_bytes (U128 number) = to_be_bytes w128 number
field_bytes (CharString text) = length text ∷ text
field_bytes (NonEmpty text) = length text ∷ text
field_bytes (CharStrings texts) = strings_bytes texts
field_bytes (Remainder text) = text
field_bytes (Unknown kind text) = text

-- behind a field
abbrev pub past_field : Progress → Field → Progress
past_field p (Compressed labels) = past_name p labels
past_field p (Uncompressed labels) = past p (length (field_bytes (Uncompressed labels)))
past_field p (U8 number) = past p 1
past_field p (U16 number) = past p 2
past_field p (U32 number) = past p 4
past_field p (U128 number) = past p 16
past_field p (CharString text) = past p (length text + 1)
past_field p (NonEmpty text) = past p (length text + 1)
past_field p (CharStrings texts) = past p (length (strings_bytes texts))
past_field p (Remainder text) = past p (length text)
past_field p (Unknown kind text) = past p (length text)

-- what a field is written in
abbrev pub field_pieces : Progress → Field → List Piece
field_pieces p (Compressed labels) = name_pieces p labels
field_pieces p other = Plain (field_bytes other) ∷ []

-- behind fields
abbrev pub past_fields : Progress → List Field → Progress
past_fields p [] = p
past_fields p (field ∷ fields) = past_fields (past_field p field) fields

-- what fields are written in
abbrev pub fields_pieces : Progress → List Field → List Piece
fields_pieces p [] = []
fields_pieces p (field ∷ fields) = field_pieces p field ++ fields_pieces (past_field p field) fields

-- where the data of a record begins: behind its owner and the ten bytes of type, class, TTL and
-- length
abbrev pub at_data : Progress → RecordData → Progress
at_data p r = past (past_name p r.owner) 10

-- behind a record
unfoldable pub past_record : Progress → RecordData → Progress
past_record p r = past_fields (at_data p r) (fields_of r.rdata)

-- the ten bytes in front of data of this length
abbrev pub head_bytes : RecordData → ℕ → List ℕ
head_bytes r length =
    to_be_bytes w16 (kind_of r.rdata)
    ++ (to_be_bytes w16 r.class ++ (to_be_bytes w32 r.ttl ++ to_be_bytes w16 length))

-- what a record is written in
unfoldable pub record_pieces : Progress → RecordData → List Piece
record_pieces p r =
    name_pieces p r.owner
    ++ (Plain (head_bytes r ((past_record p r).size - (at_data p r).size))
    ∷ fields_pieces (at_data p r) (fields_of r.rdata))

-- behind records
abbrev pub past_records : Progress → List RecordData → Progress
past_records p [] = p
past_records p (r ∷ rs) = past_records (past_record p r) rs

-- what records are written in
abbrev pub records_pieces : Progress → List RecordData → List Piece
records_pieces p [] = []
records_pieces p (r ∷ rs) = record_pieces p r ++ records_pieces (past_record p r) rs

-- the suffixes of the anchor from so many bytes on
unfoldable pub anchor_suffixes : ℕ → List (List ℕ) → List PlacedSuffix
anchor_suffixes at [] = []
anchor_suffixes at (label ∷ labels) =
    record { suffix = label ∷ labels; place = InAnchor at }
    ∷ anchor_suffixes (at + length label + 1) labels

-- nothing of the records is written, and the anchor stands in the question
abbrev pub begun : List (List ℕ) → Progress
begun anchor = record { size = 0; placed = anchor_suffixes 0 anchor }

-- the text of pieces, with two zeros where each pointer stands
abbrev pub text_of : List Piece → List ℕ
text_of [] = []
text_of (Plain bytes ∷ pieces) = bytes ++ text_of pieces
text_of (Pointer place ∷ pieces) = 0 ∷ 0 ∷ text_of pieces

-- a pointer by where it stands in the text, and where it leads
abbrev pub spot_of : ℕ → Place → Spot
spot_of at (InAnchor behind) = record { at = at; behind = behind; in_anchor = true }
spot_of at (InTail behind) = record { at = at; behind = behind; in_anchor = false }

-- the pointers of pieces that begin at an offset of the text
abbrev pub spots_of : ℕ → List Piece → List Spot
spots_of at [] = []
spots_of at (Plain bytes ∷ pieces) = spots_of (at + length bytes) pieces
spots_of at (Pointer place ∷ pieces) = spot_of at place ∷ spots_of (at + 2) pieces

-- the records as far as they are laid out: text, pointers, and suffixes that were written out
pub record LayoutData : Type 0 where
  pub text : List ℕ
  pub spots : List Spot
  pub placed : List PlacedSuffix

-- how far records are laid out
abbrev pub progress_of : LayoutData → Progress
progress_of l = record { size = length l.text; placed = l.placed }

-- with pieces behind, and the suffixes that are known then
abbrev pub laid : LayoutData → List Piece → Progress → LayoutData
laid l pieces p = record {
  text = l.text ++ text_of pieces;
  spots = l.spots ++ spots_of (length l.text) pieces;
  placed = p.placed;
}

-- with a name behind
abbrev pub laid_name : LayoutData → List (List ℕ) → LayoutData
laid_name l name = laid l (name_pieces (progress_of l) name) (past_name (progress_of l) name)

-- with fields behind
abbrev pub laid_fields : LayoutData → List Field → LayoutData
laid_fields l fs = laid l (fields_pieces (progress_of l) fs) (past_fields (progress_of l) fs)

-- with a record behind
abbrev pub laid_record : LayoutData → RecordData → LayoutData
laid_record l r = laid l (record_pieces (progress_of l) r) (past_record (progress_of l) r)

-- with bytes behind
abbrev pub with_text : LayoutData → List ℕ → LayoutData
with_text l bytes = record { text = l.text ++ bytes; spots = l.spots; placed = l.placed }

-- with the length of what stands from an offset on in the two bytes before it
abbrev pub filled_in : LayoutData → ℕ → LayoutData
filled_in l at = record {
  text = take (at - 2) l.text ++ (to_be_bytes w16 (length l.text - at) ++ drop at l.text);
  spots = l.spots;
  placed = l.placed;
}

-- with records behind
abbrev pub laid_records : LayoutData → List RecordData → LayoutData
laid_records l rs = laid l (records_pieces (progress_of l) rs) (past_records (progress_of l) rs)

-- nothing is laid out, and the anchor stands in the question
abbrev pub laid_behind : List (List ℕ) → LayoutData
laid_behind anchor = record { text = []; spots = []; placed = anchor_suffixes 0 anchor }

-- a suffix by its wire format
abbrev pub placed_of : Placed → PlacedSuffix
placed_of p = record {
  suffix = labels_of p.suffix.now;
  place = if p.in_anchor then InAnchor p.behind else InTail p.behind;
}

-- it is one
abbrev pub IsPlaced : Placed → Type 0
IsPlaced p = IsWire p.suffix.now

-- where a spot leads, of an anchor and a tail that begin here
abbrev pub leads_to : ℕ → ℕ → Spot → ℕ
leads_to anchor tail s = if s.in_anchor then anchor + s.behind else tail + s.behind

-- bytes with the pointers of these spots filled in, of a tail that begins here
abbrev pub patched : ℕ → ℕ → List Spot → List ℕ → List ℕ
patched anchor tail [] out = out
patched anchor tail (s ∷ spots) out =
    patched anchor tail spots
    (take (tail + s.at) out
    ++ (pointer_bytes (leads_to anchor tail s) ++ drop (tail + s.at + 2) out))

-- a spot stands in a text of so many bytes, and doesn't lead far
pub record IsInside (size : ℕ) (s : Spot) : Type 0 where
  pub at : s.at + 2 ≤ size
  pub behind : s.behind ≤ size + 255

-- a text stands behind a draft, with these pointers filled in, in a buffer that has these bytes
-- before and behind
pub record Fills (text : List ℕ) (spots : List Spot) (anchor : ℕ) (old new : Draft) : Type 0 where
  pub front : List ℕ
  pub behind : List ℕ
  pub begins : length front ≡ size old
  pub bytes : old.bytes ≡ drop 12 front
  pub filled : new.bytes
      ≡ drop 12 (take (size old + length text)
      (patched anchor (size old) spots (front ++ (text ++ behind))))

-- none of a name's labels is this one
abbrev pub Lacks : List ℕ → List (List ℕ) → Type 0
Lacks label labels = AllByRecursion (λ other. other ≡ label → ⊥) labels

-- these have each label of a name
abbrev pub AreListed : List (List ℕ) → List (List ℕ) → Type 0
AreListed labels name = (label : List ℕ) → Lacks label labels → Lacks label name

-- something holds of each compressed name: of a field, of fields, of a record with its owner, of
-- records
abbrev pub AsksField : (List (List ℕ) → Type 0) → Field → Type 0
AsksField Asked (Compressed labels) = Asked labels
AsksField Asked other = Unit {0}

abbrev pub AsksFields : (List (List ℕ) → Type 0) → List Field → Type 0
AsksFields Asked [] = Unit {0}
AsksFields Asked (field ∷ fields) = AsksField Asked field × AsksFields Asked fields

pub record AsksRecord (Asked : List (List ℕ) → Type 0) (r : RecordData) : Type 0 where
  pub owner : Asked r.owner
  pub fields : AsksFields Asked (fields_of r.rdata)

abbrev pub AsksRecords : (List (List ℕ) → Type 0) → List RecordData → Type 0
AsksRecords Asked [] = Unit {0}
AsksRecords Asked (r ∷ rs) = AsksRecord Asked r × AsksRecords Asked rs

-- the records are laid out, and the labels of their names listed
pub record IsPlanOf (rs : List RecordData) (plan : Plan) : Type 0 where
  pub text : plan.text.items ≡ text_of (records_pieces (begun plan.anchor) rs)
  pub spots : plan.spots.items ≡ spots_of 0 (records_pieces (begun plan.anchor) rs)
  pub inside : AllByRecursion (IsInside (length plan.text.items)) plan.spots.items
  pub listed : AsksRecords (AreListed plan.labels) rs
  pub proper : AllByRecursion IsProper rs
  pub depth : plan.depth ≡ length plan.anchor

-- a plan is that of these records, where there is one
abbrev pub IsPlanned : List RecordData → Option Plan → Type 0
IsPlanned rs None = Unit {0}
IsPlanned rs (Some plan) = IsPlanOf rs plan

-- a name is below the anchor, with this label above it and so many above it
pub record EndsBelow (name anchor : List (List ℕ)) (above : List ℕ) (count : ℕ) : Type 0 where
  pub front : List (List ℕ)
  pub is : name ≡ front ++ (above ∷ anchor)
  pub counted : count ≡ length front + 1

-- a name is the anchor, or is below it
abbrev pub EndsIn : List (List ℕ) → List (List ℕ) → List ℕ → ℕ → Type 0
EndsIn name anchor above count =
    ((count ≡ 0) × (name ≡ anchor)) ⊎ EndsBelow name anchor above count

-- the offsets of a draft begin with those of the question's name
pub record Knows (name : List (List ℕ)) (d : Draft) : Type 0 where
  pub others : List OffsetData
  pub offsets : d.offsets ≡ suffixes_at 12 name ++ others

-- all of these records stand behind a draft, within so many bytes
pub record PutsAll (old new : Draft) (rs : List RecordData) (room : ℕ) : Type 0 where
  pub bytes : new.bytes ≡ (put_records old rs).bytes
  pub fits : size new ≤ room
  pub proper : AllByRecursion IsProper rs

-- records that stand behind many answers
pub record TailData : Type 0 where
  pub authority : List RecordData
  pub additional : List RecordData

-- the parts of a message have these records behind the answer
pub record Lends (t : TailData) (m : MessageData) : Type 0 where
  pub authority : t.authority ≡ m.authority
  pub additional : t.additional ≡ m.additional

-- a message with these records in place of those that stand behind its answer
abbrev pub lent_to : MessageData → TailData → MessageData
lent_to m t = record {
  id = m.id;
  qr = m.qr;
  opcode = m.opcode;
  aa = m.aa;
  tc = m.tc;
  rd = m.rd;
  ra = m.ra;
  ad = m.ad;
  cd = m.cd;
  rcode = m.rcode;
  question = m.question;
  answer = m.answer;
  authority = t.authority;
  additional = t.additional;
  opt = m.opt;
}

-- an answer with these records behind it
abbrev pub with_tail : AnswerData → TailData → AnswerData
with_tail a t = record {
  rcode = a.rcode;
  aa = a.aa;
  ra = a.ra;
  tc = a.tc;
  answer = a.answer;
  authority = t.authority;
  additional = t.additional;
}
