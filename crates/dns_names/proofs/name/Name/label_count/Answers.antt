use Rattle.std.proofs.Common.{arith}
use Rattle.dns_names.specs.NameLaws.{few, proper, length-spelled}
use Rattle.dns_names.proofs.NameWalks.{has_room, moves_on, at_end, step}
use Rattle.dns_names.proofs.name.Name.label_count.Goals as goal

pub behind_first-rest-requires : goal.behind_first-rest-requires
behind_first-rest-requires c = has_room c.args.self.now c.loop-rest.count c.loop-rest.rest.now c.loop-rest.invariant c.loop-rest-test.true

pub overflow_add-count : goal.overflow_add-count
overflow_add-count c =
    let s = step c.args.self.now c.loop-rest.count c.loop-rest.rest.now c.loop-rest.invariant c.loop-rest-test.true in
    let n = proper c.self.inside.wire c.args.self.now c.self.invariant c.self.view_is in
    omega (arith, s.inside, n.short, few c.args.self.now, length-spelled c.args.self.now)

pub loop-rest-preserved : goal.loop-rest-preserved
loop-rest-preserved c = moves_on c.args.self.now c.loop-rest.count c.loop-rest.rest.now _ c.loop-rest.invariant c.loop-rest-test.true c.behind_first-rest.ensures

pub returns : goal.returns
returns c = at_end c.args.self.now c.loop-rest.count c.loop-rest.rest.now c.loop-rest.invariant (omega arith)
