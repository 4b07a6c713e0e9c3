use Rattle.std.proofs.Common.{arith}
use Rattle.zone_lookup.proofs.PlainList.{set_any, set_of}
use Rattle.zone_lookup.proofs.plain.PlainZoneZoneStore.copy_set.Goals as goal

pub returns-then-kind-eq-ANY-clause-ok : goal.returns-then-kind-eq-ANY-clause-ok
returns-then-kind-eq-ANY-clause-ok c =
    let all = set_any c.args.self.now.zone c.args.name.now c.args.kind (omega arith) in
    rw (c.as_slice-records.ensures, all) at c.copy_all.ensures.ok

pub returns-clause-ok : goal.returns-clause-ok
returns-clause-ok c =
    let all = set_of c.args.self.now.zone c.args.name.now c.args.kind (λ e. omega (arith, e)) in
    rw (c.as_slice-records.ensures, all) at c.copy_kind.ensures.ok
