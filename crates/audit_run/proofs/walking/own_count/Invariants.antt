use Rattle.std.proofs.Common.{◌≡◌, ◌++◌, take, drop}
use Rattle.audit_run.specs.Own.{behind_own, own_part}
use Rattle.audit_run.proofs.walking.own_count.Given as goal

abbrev pub invariant-loop-at : goal.invariant-loop-at
invariant-loop-at l =
    (own_part l.marks ≡ take l.at l.marks ++ own_part (drop l.at l.marks))
    × (behind_own l.marks ≡ behind_own (drop l.at l.marks))
