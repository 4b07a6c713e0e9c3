use Rattle.std.proofs.Common.{◌≡◌, ◌++◌, ◌∙◌, ap, sym, subst, arith}
use Rattle.std.specs.Prelude.{OnOk}
use Rattle.std.proofs.lemmas.List.{append-nil}
use Rattle.name_table.specs.Table.{IsMissing, IsNamed}
use Rattle.zone_lookup.specs.Zone.{set_at}
use Rattle.zone_tree.specs.Sets.{picked, set_in}
use Rattle.zone_tree.proofs.Shapes.{inside}
use Rattle.zone_tree.proofs.Filling.{no_set, set_in_at}
use Rattle.zone_tree.proofs.Cutting.{set_of_number}
use Rattle.zone_tree.proofs.store.TreeZoneZoneStore.copy_set.Goals as goal

pub returns-in_default-clause-ok : goal.returns-in_default-clause-ok
returns-in_default-clause-ok c =
    let tree = c.self.inside.tree in
    let missing = subst (λ key. IsMissing tree.table key) c.labels.ensures c.in_default.ensures.none in
    let none = no_set tree.table tree.zone c.args.name.now c.args.kind c.self.invariant.tree_is.names missing in
    sym (append-nil c.args.out.now) ∙ ap (λ rs. c.args.out.now ++ rs) (sym none ∙ ap (λ zone. set_at zone c.args.name.now c.args.kind) c.self.view_is)

pub index-requires : goal.index-requires
index-requires c =
    let lt = inside c.self.inside.tree.table c.in-Some.number c.labels.result c.in-Some.ensures.found.is in
    omega (arith, lt, c.self.invariant.tree_is.sets.as_many)

pub returns-clause-ok : goal.returns-clause-ok
returns-clause-ok c =
    let tree = c.self.inside.tree in
    let named = subst (λ key. IsNamed tree.table c.in-Some.number key) c.labels.ensures c.in-Some.ensures.found.is in
    let node = set_of_number tree c.args.name.now c.in-Some.number c.index.result.now c.self.invariant.tree_is named c.index.ensures in
    let set = (λ j. set_in (picked (c.as_slice-records.ensures j) (c.as_slice.ensures j)) c.args.kind) ∙ set_in_at tree.zone c.args.name.now c.args.kind (picked tree.zone.records c.index.result.now) node
    ∙ ap (λ zone. set_at zone c.args.name.now c.args.kind) c.self.view_is in
    subst (λ rs. OnOk c.copy_asked.result (c.copy_asked.new.out ≡ c.args.out.now ++ rs)) set c.copy_asked.ensures.ok
