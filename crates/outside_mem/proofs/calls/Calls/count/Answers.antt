use Rattle.std.proofs.Common.{sym, ap, ◌∙◌, ◌+◌, ℕ, arith}
use Rattle.outside_mem.proofs.Counting.{used_up_within, failed_more, used_more}
use Rattle.outside_mem.proofs.calls.Calls.count.Goals as goal
use Rattle.outside_mem.proofs.calls.Calls.count.Goals.{then-not-contains, else-not-contains}

pub overflow_add-self : goal.overflow_add-self
overflow_add-self c = omega (arith, used_up_within c.self.inside.fails.items c.self.inside.counted, c.self.invariant)

pub invariant_of-self : goal.invariant_of-self
invariant_of-self c =
    let fails = c.self.inside.fails.items in
    let test = rw c.deref.ensures.value at c.contains.ensures.value in
    elim c.if-not-contains.branch [
      | then-not-contains w ↦ rw w.self-inside-is (ap (λ (n : ℕ). n + 1) c.self.invariant ∙ sym (used_more fails c.self.inside.counted (sym test ∙ w.if-not-contains.true)))
      | else-not-contains w ↦ rw w.self-inside-is (c.self.invariant ∙ sym (failed_more fails c.self.inside.counted (sym test ∙ w.if-not-contains.false)))
    ]
