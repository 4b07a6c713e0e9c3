use Rattle.std.proofs.Common.{◌≡◌, ap, subst, ◌∙◌, arith}
use Rattle.name_table.specs.Table.{IsMissing, IsNumberOf}
use Rattle.zone_tree.specs.Tree.{AreEmpty}
use Rattle.zone_tree.proofs.Shapes.{inside}
use Rattle.zone_tree.proofs.Filling.{fills, fills_none, passes_by}
use Rattle.zone_tree.proofs.sets.sets_of.Goals as goal
use Rattle.zone_tree.proofs.sets.sets_of.Goals.{in-Some+in_ok-push, in_default}

pub loop-i-init : goal.loop-i-init
loop-i-init c = fills_none c.args.table.now c.args.records.now c.in_ok-sets.sets.items (subst (λ n. AreEmpty c.in_ok-sets.sets.items n) c.len.ensures c.in_ok-sets.ensures)

pub index_mut-requires : goal.index_mut-requires
index_mut-requires c = let lt = inside c.args.table.now c.in-Some.number c.labels.result c.in-Some.ensures.found.is in omega (arith, lt, c.loop-i.invariant.as_many)

pub loop-i-preserved : goal.loop-i-preserved
loop-i-preserved c =
    let owner : c.labels.result ≡ c.index-records-i.result.owner = c.labels.ensures ∙ ap (λ r. r.owner) c.record.view_is in
    elim c.match-find.branch [
      | in-Some+in_ok-push w ↦
          let number = subst (λ k. IsNumberOf c.args.table.now k w.in-Some.number) owner w.in-Some.ensures.found in
          rw w.sets-is (
          fills c.args.table.now c.args.records.now c.loop-i.sets.items c.loop-i.i w.in-Some.number c.index-records-i.result w.index_mut.result.now w.push.new.self c.loop-i.invariant (omega arith) c.index-records-i.is number
          w.index_mut.ensures.value w.in_ok-push.ensures.ok
          )
      | in_default w ↦
          let missing = subst (λ k. IsMissing c.args.table.now k) owner w.in_default.ensures.none in
          rw w.sets-is (passes_by c.args.table.now c.args.records.now c.loop-i.sets.items c.loop-i.i c.index-records-i.result c.loop-i.invariant (omega arith) c.index-records-i.is missing)
    ]
