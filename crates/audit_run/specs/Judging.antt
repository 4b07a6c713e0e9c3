-- What the orders of a record come to. This server's own rule.
use Rattle.std.specs.Prelude.{◌≡◌, ◌≢◌, ◌<◌, ◌⊎◌, ℕ, ◌+◌, ◌==◌, ◌&&◌, Bool, true, false, not, List}
use Rattle.std.specs.Prelude.{[], ◌∷◌}
use Rattle.std.specs.Prelude.{map, take, length, Option, Some, None, slice_get, slice_index_or}
use Rattle.std.specs.Prelude.{Result, Ok, Err, MatchBool, if◌then◌else◌}
use Rattle.std.specs.List.{AllByRecursion, list_any}
use Rattle.outside.specs.declared.mark.Mark.{Mark}
use Rattle.one_history.specs.Calls.{Call, HasHistory}
use Rattle.one_history.specs.Runs.{run_marks}
use Rattle.audit_run.specs.declared.part.SharedCall.{SharedCall}
use Rattle.audit_run.specs.declared.part.SharedPart.{SharedPart}
use Rattle.audit_run.specs.declared.place.Order.{Order}
use Rattle.audit_run.specs.declared.place.Place.{Place}
use Rattle.audit_run.specs.declared.record.AuditFault.{AuditFault}
use Rattle.audit_run.specs.declared.record.AuditFault.TheVariants as fault
use Rattle.audit_run.specs.declared.record.SideRecord.{SideRecord}
use Rattle.audit_run.specs.Orders.{Comes, IsHistory}
use Rattle.audit_run.specs.Parts.{is_order_of, part_marks, run_of}
use Rattle.audit_run.specs.Rules.{IsLegal}
use Rattle.audit_run.specs.Told.{allows_told, mark_in}

-- the part that an order names, where there is one
abbrev pub part_of : List SharedPart → Order → Option SharedPart
part_of [] o = None
part_of (p ∷ parts) o = if is_order_of p o then Some p else part_of parts o

abbrev pub is_bare : List Place → Bool
is_bare [] = true
is_bare (place ∷ places) = false

-- of no part there is no mark
abbrev pub first_fault : List Place → Option ℕ
first_fault places = if is_bare places then None else Some 0

abbrev pub same_part : Order → Order → Bool
same_part a b = a.part == b.part && a.serial == b.serial && a.block == b.block

-- some marks of an order stand in an earlier one: each order without a fault has all of its part
abbrev pub stands_again : List Order → Order → Bool
stands_again earlier o = list_any (same_part o) earlier && not (is_bare o.marks)

abbrev pub has_order : List Order → SharedPart → Bool
has_order orders p = list_any (is_order_of p) orders

-- a part has no marks
abbrev pub IsBare : List (List SharedCall) → SharedPart → Type 0
IsBare calls p = (worker serial : ℕ) → part_marks p calls worker serial ≡ []

-- whether a part with marks lacks its order
abbrev pub Lacks : List (List SharedCall) → List Order → SharedPart → Bool → Type 0
Lacks calls orders p true =
    (has_order orders p ≡ false) × (worker : ℕ) × (serial : ℕ)
    × (part_marks p calls worker serial ≢ [])
Lacks calls orders p false = (has_order orders p ≡ true) ⊎ IsBare calls p

-- each part has an order, or no marks
abbrev pub AllHaveOrders : List (List SharedCall) → List SharedPart → List Order → Type 0
AllHaveOrders calls parts orders = (k : ℕ) (p : SharedPart) → slice_get parts k ≡ Some p
    → Lacks calls orders p false

-- a part with marks has none
pub record LacksOrder (calls : List (List SharedCall)) (parts : List SharedPart)
    (orders : List Order) : Type 0 where
  pub number : ℕ
  pub part : SharedPart
  pub is : slice_get parts number ≡ Some part
  pub lacks : Lacks calls orders part true

-- one of these or the other
abbrev pub LackOrders : List (List SharedCall) → List SharedPart → List Order → Bool → Type 0
LackOrders calls parts orders true = LacksOrder calls parts orders
LackOrders calls parts orders false = AllHaveOrders calls parts orders

-- the numbers of the marks rise
abbrev pub Rises : List SharedCall → Type 0
Rises [] = Unit {0}
Rises (c ∷ cs) = AllByRecursion (λ d. c.mark < d.mark) cs × Rises cs

-- each side's calls stand in the order of its journal
abbrev pub AreRising : List (List SharedCall) → Type 0
AreRising calls = (worker : ℕ) → Rises (slice_index_or calls worker [])

-- a call, with the mark that tells it
abbrev pub call_told : List SideRecord → ℕ → SharedCall → Call Mark
call_told sides worker c = record {
  serial = c.serial;
  block = c.block;
  part = c.part;
  mark = mark_in sides worker c.mark;
}

-- those of each side, from this one on
abbrev pub told_from : List SideRecord → ℕ → List (List SharedCall) → List (List (Call Mark))
told_from sides worker [] = []
told_from sides worker (own ∷ others) =
    map (call_told sides worker) own ∷ told_from sides (worker + 1) others

-- the calls that the sides' journals tell
abbrev pub told_calls : List SideRecord → List (List SharedCall) → List (List (Call Mark))
told_calls sides calls = told_from sides 0 calls

-- What is judged: the sides, the calls that their journals tell, by side, and the parts that these
-- are of.
module _ (sides : List SideRecord) (calls : List (List SharedCall)) (parts : List SharedPart)
  where
    abbrev pub ComesOf : Option SharedPart → List Place → Option ℕ → Type 0
    ComesOf None places at = at ≡ first_fault places
    ComesOf (Some p) places at = Comes (part_marks p calls) (allows_told p.rule sides) places at

    -- what an order comes to behind these
    abbrev pub JudgesOrder : List Order → Order → Option ℕ → Type 0
    JudgesOrder earlier o at =
        MatchBool (stands_again earlier o) (at ≡ Some 0) (ComesOf (part_of parts o) o.marks at)

    -- so many orders in front have no fault
    abbrev pub AreFine : List Order → ℕ → Type 0
    AreFine orders many = (k : ℕ) (o : Order) → k < many → slice_get orders k ≡ Some o
        → JudgesOrder (take k orders) o None

    -- the first order with a fault, and its place
    pub record OrderFails (orders : List Order) (number at : ℕ) : Type 0 where
      pub order : Order
      pub is : slice_get orders number ≡ Some order
      pub before : AreFine orders number
      pub fails : JudgesOrder (take number orders) order (Some at)

    -- none has one, but a part with marks lacks its order
    pub record PartFails (orders : List Order) (number at : ℕ) : Type 0 where
      pub behind : number ≡ length orders
      pub first : at ≡ 0
      pub before : AreFine orders number
      pub lacks : LacksOrder calls parts orders

    -- what all orders come to
    abbrev pub JudgesOrders : List Order → Result (Unit {0}) AuditFault → Type 0
    JudgesOrders orders (Ok done) =
        AreFine orders (length orders) × AllHaveOrders calls parts orders
    JudgesOrders orders (Err (fault.Order number at)) =
        OrderFails orders number at ⊎ PartFails orders number at
    JudgesOrders orders (Err fault.NoMemory) = Unit {0}
    JudgesOrders orders (Err other) = ⊥

    -- no order names two of the parts
    abbrev pub AreNamedApart : Type 0
    AreNamedApart = (i j : ℕ) (p q : SharedPart) (o : Order) → slice_get parts i ≡ Some p
        → slice_get parts j ≡ Some q → is_order_of p o ≡ true → is_order_of q o ≡ true → i ≡ j

    -- each part has one history
    abbrev pub HaveHistories : Type 0
    HaveHistories = (k : ℕ) (p : SharedPart) → slice_get parts k ≡ Some p
        → HasHistory (IsLegal p.rule) (run_marks (run_of p) p.part (told_calls sides calls))

    -- an order whose marks don't stand in earlier ones is no history of its part
    abbrev pub IsNoHistory : List Order → ℕ → Type 0
    IsNoHistory orders number = (o : Order) (p : SharedPart) → slice_get orders number ≡ Some o
        → stands_again (take number orders) o ≡ false → part_of parts o ≡ Some p
        → IsHistory (part_marks p calls) (allows_told p.rule sides) o.marks → ⊥

    -- what follows from a judgement
    abbrev pub Tells : List Order → Result (Unit {0}) AuditFault → Type 0
    Tells orders (Ok done) = AreNamedApart → HaveHistories
    Tells orders (Err (fault.Order number at)) = AreRising calls → IsNoHistory orders number
    Tells orders (Err other) = Unit {0}

-- a fault is of this place, or want of memory
abbrev pub IsFaultOf : ℕ → ℕ → AuditFault → Type 0
IsFaultOf number at (fault.Order n a) = (n ≡ number) × (a ≡ at)
IsFaultOf number at fault.NoMemory = Unit {0}
IsFaultOf number at other = ⊥
