use Rattle.std.proofs.Common.{◌≡◌, ◌++◌, ◌∙◌, ap, sym, subst, arith, map}
use Rattle.std.specs.Prelude.{OnOk}
use Rattle.std.specs.List.{filter}
use Rattle.std.proofs.lemmas.List.{append-nil}
use Rattle.zone_lookup.specs.Zone.{set_at}
use Rattle.zone_lookup.specs.ZoneAnswer.{denying}
use Rattle.zone_tree.specs.Sets.{is_kind, picked}
use Rattle.zone_tree.proofs.Shapes.{inside}
use Rattle.zone_tree.proofs.Filling.{no_set, numbered_none, numbered_some, set_in_at, set_in_of}
use Rattle.zone_tree.proofs.Cutting.{set_of_number}
use Rattle.zone_tree.proofs.store.TreeZoneZoneStore.copy_denial.Goals as goal

pub returns-in_default : goal.returns-in_default
returns-in_default c =
    let tree = c.self.inside.tree in
    let missing = numbered_none tree.table tree.top tree.zone.origin c.self.invariant.tree_is.top c.in_default.is in
    let none = no_set tree.table tree.zone tree.zone.origin 6 c.self.invariant.tree_is.names missing in
    sym (append-nil c.args.out.now) ∙ ap (λ rs. c.args.out.now ++ map denying rs) (sym none ∙ ap (λ zone. set_at zone zone.origin 6) c.self.view_is)

pub index-requires : goal.index-requires
index-requires c =
    let tree = c.self.inside.tree in
    let named = numbered_some tree.table tree.top c.in-Some.number tree.zone.origin c.self.invariant.tree_is.top c.in-Some.is in
    let lt = inside tree.table c.in-Some.number tree.zone.origin named in
    omega (arith, lt, c.self.invariant.tree_is.sets.as_many)

pub returns : goal.returns
returns c =
    let tree = c.self.inside.tree in
    let named = numbered_some tree.table tree.top c.in-Some.number tree.zone.origin c.self.invariant.tree_is.top c.in-Some.is in
    let node = set_of_number tree tree.zone.origin c.in-Some.number c.index.result.now c.self.invariant.tree_is named c.index.ensures in
    let set = (λ j. map denying (filter (is_kind 6) (picked (c.as_slice-records.ensures j) (c.as_slice.ensures j)))) ∙ ap (map denying) (sym (set_in_of (picked tree.zone.records c.index.result.now) 6 (λ e. omega (arith, e)))
    ∙ set_in_at tree.zone tree.zone.origin 6 (picked tree.zone.records c.index.result.now) node) ∙ ap (λ zone. map denying (set_at zone zone.origin 6)) c.self.view_is in
    subst (λ rs. OnOk c.copy_denying.result (c.copy_denying.new.out ≡ c.args.out.now ++ rs)) set c.copy_denying.ensures
