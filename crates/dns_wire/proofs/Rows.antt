-- The table of types, row by row: the number and the fields of data determine it.
use Rattle.std.proofs.Common.{◌≡◌, ℕ, ◌+◌, Bool, true, false, List, [], ◌∷◌, map, refl, sym, ap, ◌∙◌, arith}
use Rattle.std.specs.Prelude.{if◌then◌else◌}
use Rattle.dns_data.specs.Record.{kind_of, fields_of, is_known_type, Field, Unknown}
use Rattle.dns_data.specs.declared.record.Rdata.{Rdata}
use Rattle.dns_data.specs.declared.record.Rdata.TheVariants as rdata
use Rattle.dns_wire.specs.Data.{DataAt, IsDataOf}
use Rattle.dns_wire.specs.Fields.{shape, text_of, field_at, listed, shapes_of}

-- the data of a type that has such fields
abbrev pub made : ℕ → List Field → Rdata
made kind fs = if is_known_type kind then listed kind fs else rdata.Opaque kind (text_of (field_at 0 fs))

-- the kinds of the fields of any type
abbrev pub shapes_for : ℕ → List ℕ
shapes_for kind = if is_known_type kind then shapes_of kind else (10 + kind) ∷ []

pub record Row (d : Rdata) : Type 0 where
  pub again : made (kind_of d) (fields_of d) ≡ d
  pub shape_is : map shape (fields_of d) ≡ shapes_for (kind_of d)
  pub not_opt : kind_of d ≡ 41 → ⊥

known_opt : is_known_type 41 ≡ true
unfolding is_known_type
known_opt = refl

unknown_row : (kind : ℕ) (text : List ℕ) → is_known_type kind ≡ false → Row (rdata.Opaque kind text)
unknown_row kind text other = record {
  again = ap (λ (b : Bool). if b then listed kind (Unknown kind text ∷ []) else rdata.Opaque kind text) other;
  shape_is = sym (ap (λ (b : Bool). if b then shapes_of kind else (10 + kind) ∷ []) other);
  not_opt = λ e. absurd (let clash = sym known_opt ∙ ap is_known_type (sym e) ∙ other in cc);
}

pub row : (bytes : List ℕ) (at behind : ℕ) (d : Rdata) → DataAt bytes at d behind → Row d
unfolding is_known_type
row bytes at behind (rdata.Opaque kind text) h = unknown_row kind text h.1.3
row bytes at behind d h = record { again = refl; shape_is = refl; not_opt = λ e. omega arith }

-- two data of one type have fields of the same kinds
pub same_shapes : (bytes : List ℕ) (at x y : ℕ) (d e : Rdata) → DataAt bytes at d x → DataAt bytes at e y → kind_of d ≡ kind_of e → map shape (fields_of d) ≡ map shape (fields_of e)
same_shapes bytes at x y d e p q same = let a = row bytes at x d p in let b = row bytes at y e q in a.shape_is ∙ ap shapes_for same ∙ sym b.shape_is

-- no data has the type OPT
pub no_opt_data : (bytes : List ℕ) (kind at behind : ℕ) → kind ≡ 41 → (d : Rdata) → IsDataOf bytes kind at behind d → ⊥
no_opt_data bytes kind at behind is d h = let r = row bytes at behind d h.1 in r.not_opt (h.0 ∙ is)

pub shapes_known : (kind : ℕ) → is_known_type kind ≡ true → shapes_for kind ≡ shapes_of kind
shapes_known kind known = ap (λ (b : Bool). if b then shapes_of kind else (10 + kind) ∷ []) known
