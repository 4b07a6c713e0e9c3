use Rattle.std.proofs.Common.{arith, ◌-◌}
use Rattle.zone_tree.proofs.Shapes.{next_is_new, next_starts, grows_by, all_when_done}
use Rattle.zone_tree.proofs.shape.add_owner.Goals as goal

pub push_name-requires-clause-new : goal.push_name-requires-clause-new
push_name-requires-clause-new c =
    next_is_new c.loop-above.table c.args.owner.now c.in_ok-name.name c.loop-above.above (c.loop-above.above - 1) c.loop-above.number c.loop-above.invariant.2 (omega arith) c.in_ok-name.ensures

pub loop-above-preserved : goal.loop-above-preserved
loop-above-preserved c =
    let adding = c.loop-above.invariant.2 in (
      c.in_ok-number.ensures.shape,
      rw c.in_ok-number.ensures.names (
          grows_by c.args.table.now c.loop-above.table c.args.owner.now c.in_ok-name.name (c.loop-above.above - 1) c.loop-above.invariant.1 (omega (arith, adding.inside)) c.in_ok-name.ensures
          ),
      rw (c.in_ok-number.ensures.names, c.in_ok-number.ensures.number) (
          next_starts c.loop-above.table c.args.owner.now c.in_ok-name.name c.loop-above.above (c.loop-above.above - 1) c.loop-above.number adding (omega arith) c.in_ok-name.ensures
          ),
    )

pub returns-clause-all : goal.returns-clause-all
returns-clause-all c =
    all_when_done c.loop-above.table c.loop-above.nodes.items c.args.owner.now c.loop-above.above c.loop-above.number c.loop-above.invariant.0 c.loop-above.invariant.2 c.loop-above-test.false
