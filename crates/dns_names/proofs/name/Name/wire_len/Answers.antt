use Rattle.std.proofs.Common.{length, ap, arith}
use Rattle.dns_names.specs.NameLaws.{length-spelled, spelling, proper}
use Rattle.dns_names.proofs.name.Name.wire_len.Goals as goal

pub overflow_add-result : goal.overflow_add-result
overflow_add-result c =
    let s = ap length (spelling c.self.inside.wire c.args.self.now c.self.invariant c.self.view_is) in
    let n = proper c.self.inside.wire c.args.self.now c.self.invariant c.self.view_is in
    omega (arith, s, n.short, length-spelled c.args.self.now)

pub returns-clause-value : goal.returns-clause-value
returns-clause-value c =
    let s = ap length (spelling c.self.inside.wire c.args.self.now c.self.invariant c.self.view_is) in
    omega (arith, s, length-spelled c.args.self.now)
