use Rattle.std.proofs.Common.{◌≡◌, ◌+◌, ◌-◌, ◌++◌, length, ap, subst, arith}
use Rattle.dns_names.specs.NameLaws.{few}
use Rattle.dns_write.specs.Tails.{Fills, IsPlanned, Lacks, PutsAll}
use Rattle.dns_write.proofs.Lending.{behind_anchor, counted_all, puts_tail}
use Rattle.dns_write.proofs.tail.Tail.put.Goals as goal

pub overflow_sub-behind : goal.overflow_sub-behind
overflow_sub-behind c =
    omega (arith, behind_anchor c.in-Some-label_above.ensures, ap length c.as_wire.ensures.value, ap length c.as_wire-2.ensures.value)

pub overflow_add-count : goal.overflow_add-count
overflow_add-count c =
    let planned = subst (IsPlanned (c.self.inside.authority ++ c.self.inside.additional)) c.in-Some.is c.self.invariant in
    omega (arith, counted_all c.in-Some-label_above.ensures, planned.depth, few c.args.name.now, ap length c.as_wire.ensures.value, c.as_wire.type_inv.0)

pub returns-clause-put : goal.returns-clause-put
returns-clause-put c = λ done.
    let rs = c.self.inside.authority ++ c.self.inside.additional in
    let plan = c.in-Some.plan in
    let planned = subst (IsPlanned rs) c.in-Some.is c.self.invariant in
    let many : length c.args.writer.now.offsets ≡ c.in-Some-label_above.count + plan.depth = omega (arith, c.offset_count.ensures, c.if-offset_count-count.false) in
    let A = 12 + (length c.as_wire.result.now - length c.as_wire-2.result.now) in
    let filled = subst (λ t. Fills t plan.spots.items A c.args.writer.now c.put_filled.new.self) c.deref.ensures.value
    (subst (λ t. Fills c.deref.result.now t A c.args.writer.now c.put_filled.new.self) c.deref-2.ensures.value (c.put_filled.ensures.filled done)) in
    let put = puts_tail c.args.name.now c.args.writer.now c.put_filled.new.self plan rs c.args.room A c.in-Some-label_above.count c.in-Some-label_above.above.now planned c.requires.known c.in-Some-label_above.ensures
    (subst (Lacks c.in-Some-label_above.above.now) c.as_slice.ensures (c.has_label.ensures.missing c.if-has_label.false)) many (omega (arith, ap length c.as_wire.ensures.value, ap length c.as_wire-2.ensures.value)) (omega arith) (omega arith) filled in
    subst (λ t. PutsAll c.args.writer.now c.put_filled.new.self (t.authority ++ t.additional) c.args.room) c.self.view_is put
