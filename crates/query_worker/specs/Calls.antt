-- The calls of what workers share in a worker's turns: those that its datagrams made, by the pins
-- under which it took them. This server's own rule.
use Rattle.std.specs.Prelude.{◌≡◌, ℕ, List, [], ◌∷◌}
use Rattle.std.specs.Box.{box_value}
use Rattle.outside.specs.declared.datagram.Datagram.{Datagram}
use Rattle.outside.specs.declared.mark.Mark.{Mark}
use Rattle.corefile_blocks.specs.declared.bundle.Bundle.{Bundle}
use Rattle.one_history.specs.Calls.{Call}
use Rattle.one_history.specs.Logs.{Place}
use Rattle.chain_meaning.specs.{AreCalls, Terms}
use Rattle.chain_build.specs.declared.chain.Chain.{Chain}
use Rattle.chain_build.specs.{chain_places, plans_of}
use Rattle.plugin_api.specs.declared.extra.Extra as extra
use Rattle.plugin_api.specs.declared.rulebook.Rulebook as rulebook
use Rattle.query_worker.specs.Pins.{PastPin, TakeUnder}
use Rattle.run_meaning.specs.Turn.{IsPublished, Turn, failed, replied, silenced, starved, unread}

-- these are the calls that a datagram made, which was taken under this serial, with these marks: by
-- the published bundle of the serial
abbrev pub MakesCalls : List Bundle → Terms → ℕ → Datagram → List Mark → List (Call Mark) → Type 0
MakesCalls bundles terms serial d marks calls =
    IsPublished bundles serial (λ bundle. AreCalls bundle terms serial d marks calls)

-- of turns one after another, those of each that took a datagram
abbrev pub MakeCalls : List Bundle → Terms → List Turn → List (List (Call Mark)) → Type 0
MakeCalls bundles terms [] [] = Unit {0}
MakeCalls bundles terms [] (calls ∷ each) = ⊥
MakeCalls bundles terms (failed ∷ turns) each = MakeCalls bundles terms turns each
MakeCalls bundles terms (unread ∷ turns) each = MakeCalls bundles terms turns each
MakeCalls bundles terms (turn ∷ turns) [] = ⊥
MakeCalls bundles terms (replied serial d marks reply out ∷ turns) (calls ∷ each) =
    MakesCalls bundles terms serial d marks calls × MakeCalls bundles terms turns each
MakeCalls bundles terms (silenced serial d marks why ∷ turns) (calls ∷ each) =
    MakesCalls bundles terms serial d marks calls × MakeCalls bundles terms turns each
MakeCalls bundles terms (starved serial d marks ∷ turns) (calls ∷ each) =
    MakesCalls bundles terms serial d marks calls × MakeCalls bundles terms turns each

module _ {B E : Type 0} {b : rulebook.Ghosts B} {e : extra.Ghosts E} where
  -- of turns under these pins, the calls of each that took a datagram: one list a pin
  abbrev pub calls_under : (pins : List (PastPin (Chain B E b e))) (turns : List Turn)
      → TakeUnder pins turns → List (List (Call Mark))
  calls_under [] [] under = []
  calls_under (pin ∷ pins) [] under = absurd under
  calls_under [] (failed ∷ turns) under = calls_under [] turns under
  calls_under (pin ∷ pins) (failed ∷ turns) under = calls_under (pin ∷ pins) turns under
  calls_under [] (unread ∷ turns) under = calls_under [] turns under
  calls_under (pin ∷ pins) (unread ∷ turns) under = calls_under (pin ∷ pins) turns under
  calls_under [] (replied serial d marks reply out ∷ turns) under = absurd under
  calls_under [] (silenced serial d marks why ∷ turns) under = absurd under
  calls_under [] (starved serial d marks ∷ turns) under = absurd under
  calls_under (pin ∷ pins) (replied serial d marks reply out ∷ turns) under =
      under.0.logs.calls ∷ calls_under pins turns under.1
  calls_under (pin ∷ pins) (silenced serial d marks why ∷ turns) under =
      under.0.logs.calls ∷ calls_under pins turns under.1
  calls_under (pin ∷ pins) (starved serial d marks ∷ turns) under =
      under.0.logs.calls ∷ calls_under pins turns under.1

  -- the pin's chain is of its serial, and the parts of its log stand at the places of that
  pub record IsPlacedPin (places : ℕ → List Place) (pin : PastPin (Chain B E b e)) : Type 0 where
    pub serial_is : (box_value pin.given.held).serial ≡ pin.serial
    pub places_are : places pin.serial ≡ chain_places (plans_of pin.given)
