use Rattle.std.proofs.Common.{arith, length, ap, subst}
use Rattle.dns_names.specs.NameLaws.{length-spelled}
use Rattle.name_table.specs.Table.{IsMissing}
use Rattle.name_table.proofs.Tables.{none_so_long}
use Rattle.name_table.proofs.table.NameTable.find.Goals as goal

pub bounds-self-inside-wire : goal.bounds-self-inside-wire
bounds-self-inside-wire c =
    let short = c.as_wire-wire.ensures.proper.short in
    omega (arith, ap length c.as_wire-wire.ensures.value, length-spelled c.args.key.now, short)

pub returns-then-not-self-wire-clause-none : goal.returns-then-not-self-wire-clause-none
returns-then-not-self-wire-clause-none c =
    subst (λ names. IsMissing names c.args.key.now) c.self.view_is
    (none_so_long c.self.inside.names.items c.self.inside.lengths c.args.key.now c.as_wire-wire.result.now c.self.invariant.1 c.as_wire-wire.ensures.value c.if-not-self-wire.true)
