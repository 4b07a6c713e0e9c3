-- Which serials workers hold below one: for each of them the last that it pinned below it. Where
-- that one is the last published, these are replaced generations whose pins may be open. This
-- server's own rule.
use Rattle.std.specs.Prelude.{ℕ, nat_eq, List, [], ◌∷◌, Option, Some, None, if◌then◌else◌}
use Rattle.std.specs.List.{list_any}
use Rattle.pin_table.specs.Known.{last_below}

-- the list with this serial, where it isn't among them
abbrev pub with_serial : Option ℕ → List ℕ → List ℕ
with_serial None held = held
with_serial (Some serial) held = if list_any (nat_eq serial) held then held else serial ∷ held

-- the serials that are held below `last`, each once. These are the serials of each worker's pins,
-- the last one first.
abbrev pub held_by : ℕ → List (List ℕ) → List ℕ
held_by last [] = []
held_by last (pinned ∷ others) = with_serial (last_below last pinned) (held_by last others)
