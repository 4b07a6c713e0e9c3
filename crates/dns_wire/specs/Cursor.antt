-- How far the data of a record was read, field by field.
use Rattle.std.specs.Prelude.{◌≡◌, ◌≤◌, ◌<◌, ℕ, ◌+◌, Bool, true, false, List, [], ◌∷◌, length, map, Option, Some, None, Result, IfOk}
use Rattle.std.proofs.Common.{Bor}
use Rattle.std.specs.List.{AllByRecursion}
use Rattle.dns_data.specs.Record.{Field, HasForm, IsFormed, texts_length}
use Rattle.dns_data.specs.declared.record.Rdata.{Rdata}
use Rattle.dns_wire.specs.Data.{CharacterStringAt, FieldAt, IsDataOf}
use Rattle.dns_wire.specs.Fields.{shape}
use Rattle.dns_wire.specs.Reads.{Reads}
use Rattle.dns_wire.specs.declared.fault.WireFault.{WireFault}

-- where a reader stands in data that ends at a limit, and whether all stood there that it was asked
-- for
pub record CursorData : Type 0 where
  pub bytes : List ℕ
  pub at : ℕ
  pub limit : ℕ
  pub is_sound : Bool

-- fields stand one after the other, up to an offset: told from the last of them to the first
abbrev pub StandBack : List ℕ → ℕ → ℕ → List Field → ℕ → Type 0
StandBack bytes limit start [] at = at ≡ start
StandBack bytes limit start (field ∷ fields) at =
    (middle : ℕ) × StandBack bytes limit start fields middle × FieldAt bytes limit middle field at

-- the fields, from the last to the first, in front of others
abbrev pub back_onto : {A : Type 0} → List A → List A → List A
back_onto [] others = others
back_onto (x ∷ xs) others = back_onto xs (x ∷ others)

-- these fields stand there, from the last to the first, and have their form
pub record Found (bytes : List ℕ) (start limit : ℕ) (fields : List Field) (at : ℕ) : Type 0 where
  pub stand : StandBack bytes limit start fields at
  pub formed : AllByRecursion HasForm fields
  pub size : texts_length fields + start ≤ at

-- no fields of these kinds stand within the data
abbrev pub NoneStand : List ℕ → ℕ → ℕ → List Field → Type 0
NoneStand bytes start limit fields =
    (others : List Field) (end : ℕ) → map shape others ≡ map shape fields
    → StandBack bytes limit start others end → end ≤ limit → ⊥

-- a reader that began at start has read these fields, the last one first, or no such fields stand
-- there
pub record HasRead (bytes : List ℕ) (start limit : ℕ) (fields : List Field)
    (c : CursorData) : Type 0 where
  pub same_bytes : c.bytes ≡ bytes
  pub same_limit : c.limit ≡ limit
  pub few : limit ≤ start + 65535
  pub found : c.is_sound ≡ true → Found bytes start limit fields c.at
  pub missed : c.is_sound ≡ false → NoneStand bytes start limit fields

-- a reader goes on by a field, whatever it has read before
abbrev pub Takes : CursorData → CursorData → Field → Type 0
Takes before after field =
    (bytes : List ℕ) (start limit : ℕ) (fields : List Field)
    → HasRead bytes start limit fields before → HasRead bytes start limit (field ∷ fields) after

-- what reading the data of a type answers
pub record ReadsData (bytes : List ℕ) (kind at behind : ℕ)
    (result : Result Rdata WireFault) : Type 0 where
  pub spelt : Reads (IsDataOf bytes kind at behind) result
  pub form : IfOk result IsFormed

-- what passing so many bytes answers: the offset of the first, or they aren't left
abbrev pub Passes : CursorData → CursorData → ℕ → Option ℕ → Type 0
Passes before after count (Some at) =
    (after ≡ record before { at = before.at + count }) × (before.is_sound ≡ true)
    × (at ≡ before.at) × (at + count ≤ before.limit) × (before.limit ≤ length before.bytes)
Passes before after count None =
    (after ≡ record before { is_sound = false })
    × (before.is_sound ≡ true → before.limit < before.at + count)

-- what passing a character-string answers: the string, or none stands there
abbrev pub TakesString : CursorData → CursorData → Option (Bor (List ℕ)) → Type 0
TakesString before after (Some text) =
    (after ≡ record before { at = before.at + 1 + length text.now })
    × (before.is_sound ≡ true)
    × CharacterStringAt before.bytes before.at text.now (before.at + 1 + length text.now)
    × (length text.now ≤ 255)
TakesString before after None =
    (after ≡ record before { is_sound = false })
    × (before.is_sound ≡ true → (text : List ℕ) (behind : ℕ)
    → CharacterStringAt before.bytes before.at text behind → behind ≤ before.limit → ⊥)
