-- The table of types read backwards: the kinds of fields that a type's data has, and the data that
-- has such fields.
use Rattle.std.specs.Prelude.{ℕ, zero, suc, ◌+◌, ◌==◌, List, [], ◌∷◌, map, if◌then◌else◌}
use Rattle.dns_data.specs.Record.{fields_of, Field, Compressed, Uncompressed, U8, U16, U32, U128, CharString, NonEmpty, CharStrings, Remainder, Unknown}
use Rattle.dns_data.specs.declared.record.Rdata.{Rdata}
use Rattle.dns_data.specs.declared.record.Rdata.TheVariants as rdata
use Rattle.dns_data.specs.declared.kind.TheConstants as kinds

-- the kind of a field as a number, that of a type without a form among it
abbrev pub shape : Field → ℕ
shape (Compressed labels) = 0
shape (Uncompressed labels) = 1
shape (U8 number) = 2
shape (U16 number) = 3
shape (U32 number) = 4
shape (U128 number) = 5
shape (CharString text) = 6
shape (NonEmpty text) = 7
shape (CharStrings texts) = 8
shape (Remainder text) = 9
shape (Unknown kind text) = 10 + kind

-- what one field of several holds
abbrev pub field_at : ℕ → List Field → Field
field_at index [] = U8 0
field_at zero (field ∷ fields) = field
field_at (suc index) (field ∷ fields) = field_at index fields

abbrev pub number_of : Field → ℕ
number_of (U8 number) = number
number_of (U16 number) = number
number_of (U32 number) = number
number_of (U128 number) = number
number_of field = 0

abbrev pub labels_in : Field → List (List ℕ)
labels_in (Compressed labels) = labels
labels_in (Uncompressed labels) = labels
labels_in field = []

abbrev pub text_of : Field → List ℕ
text_of (CharString text) = text
text_of (NonEmpty text) = text
text_of (Remainder text) = text
text_of (Unknown kind text) = text
text_of field = []

abbrev pub texts_of : Field → List (List ℕ)
texts_of (CharStrings texts) = texts
texts_of field = []

-- the data of a type with a form that has such fields
abbrev pub listed : ℕ → List Field → Rdata
listed kind fs =
    if kind == kinds.A then rdata.A (number_of (field_at 0 fs))
    else if kind == kinds.NS then rdata.Ns (labels_in (field_at 0 fs))
    else if kind == kinds.CNAME then rdata.Cname (labels_in (field_at 0 fs))
    else if kind == kinds.SOA then rdata.Soa (record {
      mname = labels_in (field_at 0 fs);
      rname = labels_in (field_at 1 fs);
      serial = number_of (field_at 2 fs);
      refresh = number_of (field_at 3 fs);
      retry = number_of (field_at 4 fs);
      expire = number_of (field_at 5 fs);
      minimum = number_of (field_at 6 fs);
    })
    else if kind == kinds.PTR then rdata.Ptr (labels_in (field_at 0 fs))
    else if kind == kinds.HINFO then rdata.Hinfo (text_of (field_at 0 fs)) (text_of (field_at 1 fs))
    else if kind == kinds.MX then rdata.Mx (number_of (field_at 0 fs)) (labels_in (field_at 1 fs))
    else if kind == kinds.TXT then rdata.Txt (texts_of (field_at 0 fs))
    else if kind == kinds.AAAA then rdata.Aaaa (number_of (field_at 0 fs))
    else if kind == kinds.SRV then rdata.Srv (number_of (field_at 0 fs))
    (number_of (field_at 1 fs)) (number_of (field_at 2 fs)) (labels_in (field_at 3 fs))
    else if kind == kinds.CAA then rdata.Caa (number_of (field_at 0 fs)) (text_of (field_at 1 fs))
    (text_of (field_at 2 fs))
    else rdata.Opaque kind (text_of (field_at 0 fs))

-- the kinds of the fields of a type with a form
abbrev pub shapes_of : ℕ → List ℕ
shapes_of kind = map shape (fields_of (listed kind []))
