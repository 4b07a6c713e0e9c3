-- The pins of a worker's pass, and the turns that stand for them. This server's own rule.
use Rattle.std.specs.Prelude.{◌≡◌, ◌≤◌, ◌<◌, ◌⊎◌, ℕ, ◌+◌, List, [], ◌∷◌, length}
use Rattle.std.specs.Prelude.{None, Some, slice_get}
use Rattle.std.specs.List.{AllByRecursion}
use Rattle.outside.specs.declared.datagram.Datagram.{Datagram}
use Rattle.outside.specs.declared.mark.Mark.{Mark}
use Rattle.corefile_blocks.specs.declared.bundle.Bundle.{Bundle}
use Rattle.pin_table.specs.declared.passes.Pass.{Pass}
use Rattle.pin_table.specs.declared.table.PinTable.{PinTable}
use Rattle.pin_table.specs.declared.views.PassView.{PassView}
use Rattle.pin_table.specs.declared.views.Turn as views
use Rattle.pin_table.specs.{IsPassOf, Keeps, pass_of}
use Rattle.pin_table.specs.Known.{turn_serials}
use Rattle.chain_meaning.specs.declared.served.Served.{Served}
use Rattle.chain_meaning.specs.declared.served.Served.TheVariants.{Reply, Silent, NoMemory}
use Rattle.chain_meaning.specs.Serving.{Serves}
use Rattle.chain_build.specs.declared.chain.Chain.{Chain}
use Rattle.chain_build.specs.{LogsServing, chain_identity, chain_log, ground_of, plans_of}
use Rattle.chain_build.specs.{server_of, terms_in}
use Rattle.plugin_api.specs.declared.extra.Extra as extra
use Rattle.plugin_api.specs.declared.rulebook.Rulebook as rulebook
use Rattle.chain_meaning.specs.{Ground}
use Rattle.query_worker.specs.declared.worker.Tally.{Tally}
use Rattle.query_worker.specs.declared.worker.Worker.{Worker}
use Rattle.query_worker.specs.Tally.{IsIdle}
use Rattle.run_meaning.specs.Turn.{Turn, failed, unread, replied, silenced, starved}

-- the serials that a pass has pinned, the last one first
abbrev pub pinned_by : {C : Type 0} → PassView C → List ℕ
pinned_by pass = turn_serials pass.turns

-- a pin that has ended: its serial, and its chain as it was given and as it came home
abbrev pub PastPin : Type 0 → Type 0
PastPin C = views.Turn C

-- one of these pins, and a fact of it
abbrev pub OfPin : {C : Type 0} → List (PastPin C) → (PastPin C → Type 0) → Type 0
OfPin [] P = ⊥
OfPin (pin ∷ pins) P = P pin ⊎ OfPin pins P

-- the last of serials that were pinned, the last one first; 0 where there is none
abbrev pub last_seen : List ℕ → ℕ
last_seen [] = 0
last_seen (serial ∷ earlier) = serial

-- what a worker counted is what its pass shows: each datagram has its pin, and the pass has seen
-- just the last one's serial, or whatever it had where there is none
pub record CountsPins {C : Type 0} (tally : Tally) (pass : PassView C) : Type 0 where
  pub pins : length pass.turns ≡ tally.pins
  pub seen : tally.seen ≡ last_seen (pinned_by pass)
  pub last : 0 < tally.pins → pass.seen ≡ tally.seen + 1
  pub none : tally.pins ≡ 0 → tally.seen ≡ 0
  pub within : tally.seen + 1 ≤ pass.seen

module _ {B E : Type 0} {b : rulebook.Ghosts B} {e : extra.Ghosts E} where
  -- the pin has this serial, and by its chain's bundle and basis this is what a datagram means,
  -- with these marks; and its chain's log has grown by the calls that these tell
  pub record IsPinFor (serial : ℕ) (d : Datagram) (marks : List Mark) (served : Served)
      (pin : PastPin (Chain B E b e)) : Type 0 where
    pub serial_is : pin.serial ≡ serial
    pub serves : Serves (plans_of pin.given).bundle (terms_in b.taken b.said (plans_of pin.given))
        d marks served
    pub logs : LogsServing (server_of pin.given) d marks (chain_log pin.given) (chain_log pin.home)

  -- the turn took a datagram under this pin, and did what the pin's chain means
  abbrev pub IsByPin : PastPin (Chain B E b e) → Turn → Type 0
  IsByPin pin failed = ⊥
  IsByPin pin unread = ⊥
  IsByPin pin (replied serial d marks reply out) = IsPinFor serial d marks (Reply reply) pin
  IsByPin pin (silenced serial d marks why) = IsPinFor serial d marks (Silent why) pin
  IsByPin pin (starved serial d marks) = IsPinFor serial d marks NoMemory pin

  -- a turn that took a datagram did so under one of these pins, and did what that pin's chain means
  abbrev pub IsOfPass : List (PastPin (Chain B E b e)) → Turn → Type 0
  IsOfPass pins failed = Unit {0}
  IsOfPass pins unread = Unit {0}
  IsOfPass pins (replied serial d marks reply out) =
      OfPin pins (IsPinFor serial d marks (Reply reply))
  IsOfPass pins (silenced serial d marks why) =
      OfPin pins (IsPinFor serial d marks (Silent why))
  IsOfPass pins (starved serial d marks) =
      OfPin pins (IsPinFor serial d marks NoMemory)

  -- under these pins, the first one first, each turn that took a datagram did so, one under each
  abbrev pub TakeUnder : List (PastPin (Chain B E b e)) → List Turn → Type 0
  TakeUnder [] [] = Unit {0}
  TakeUnder (pin ∷ pins) [] = ⊥
  TakeUnder [] (failed ∷ turns) = TakeUnder [] turns
  TakeUnder (pin ∷ pins) (failed ∷ turns) = TakeUnder (pin ∷ pins) turns
  TakeUnder [] (unread ∷ turns) = TakeUnder [] turns
  TakeUnder (pin ∷ pins) (unread ∷ turns) = TakeUnder (pin ∷ pins) turns
  TakeUnder [] (turn ∷ turns) = ⊥
  TakeUnder (pin ∷ pins) (turn ∷ turns) = IsByPin pin turn × TakeUnder pins turns

  -- the chain of the pin is of the bundle that was published with its serial, on this basis
  abbrev pub IsOf : List Bundle → Ground → PastPin (Chain B E b e) → Type 0
  IsOf bundles basis pin =
      (slice_get bundles pin.serial ≡ Some (plans_of pin.given).bundle)
      × (ground_of (plans_of pin.given) ≡ basis)

  -- the chain of each pin is
  abbrev pub AreOf : List Bundle → Ground → List (PastPin (Chain B E b e)) → Type 0
  AreOf bundles basis pins = AllByRecursion (IsOf bundles basis) pins

  -- the pass is this table's, holds no pin, and gave each chain home as the one that it was
  pub record IsResting {N K : Type 0} (table : PinTable (Chain B E b e) N K)
      (pass : Pass (Chain B E b e)) : Type 0 where
    pub own : IsPassOf table pass
    pub idle : (pass_of pass).held ≡ None
    pub kept : Keeps chain_identity chain_log (pass_of pass).turns

  -- a worker that has done nothing yet, by a pass that has pinned nothing and has seen a generation
  pub record IsReady {S N K : Type 0} (table : PinTable (Chain B E b e) N K)
      (worker : Worker S B E b e) : Type 0 where
    pub rests : IsResting table worker.pass
    pub unused : (pass_of worker.pass).turns ≡ []
    pub settled : (pass_of worker.pass).taken ≡ None
    pub published : 0 < (pass_of worker.pass).seen
    pub idle : IsIdle worker.tally
