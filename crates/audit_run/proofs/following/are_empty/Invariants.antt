use Rattle.std.proofs.Common.{◌≡◌, ◌<◌, ℕ, []}
use Rattle.std.specs.Prelude.{slice_index_or}
use Rattle.audit_run.proofs.following.are_empty.Given as goal

abbrev pub invariant-loop-row : goal.invariant-loop-row
invariant-loop-row l = (w : ℕ) → w < l.row-index → slice_index_or l.rows w [] ≡ []
