-- The marks that places name, and which of them may stand behind which. This server's own rule.
use Rattle.std.specs.Prelude.{ℕ, List, [], map, Option, Some, None, slice_get, slice_index_or}
use Rattle.outside.specs.declared.mark.Mark.{Mark}
use Rattle.outside.specs.declared.mark.Mark.TheVariants.{RecvEnd}
use Rattle.one_history.specs.Calls.{Told}
use Rattle.audit_run.specs.declared.part.PartRule.{PartRule}
use Rattle.audit_run.specs.declared.record.SideRecord.{SideRecord}
use Rattle.audit_run.specs.Rules.{Allows}

abbrev pub journal_of : Option SideRecord → List Mark
journal_of None = []
journal_of (Some side) = side.marks

-- the mark with this number in a side's journal. A number that none has names one that is no call.
abbrev pub mark_in : List SideRecord → ℕ → ℕ → Mark
mark_in sides worker number = slice_index_or (journal_of (slice_get sides worker)) number RecvEnd

abbrev pub shown_in : List SideRecord → Told ℕ → Mark
shown_in sides t = mark_in sides t.worker t.mark

-- a mark that is told may stand behind others
abbrev pub allows_told : PartRule → List SideRecord → List (Told ℕ) → Told ℕ → Type 0
allows_told rule sides before t = Allows rule (map (shown_in sides) before) (shown_in sides t)
