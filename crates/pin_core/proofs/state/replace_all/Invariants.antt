use Rattle.std.proofs.Common.{◌≡◌, ◌++◌, map, take, drop}
use Rattle.pin_core.specs.Slots.{replaced_slot}
use Rattle.pin_core.proofs.state.replace_all.Given as goal

abbrev pub invariant-loop-slot : goal.invariant-loop-slot
invariant-loop-slot l = l.slots ≡ map replaced_slot (take l.slot-index l.fn.slots) ++ drop l.slot-index l.fn.slots
