use Rattle.std.proofs.Common.{◌++◌, ◌∙◌, [], ap, sym, refl, arith, map}
use Rattle.std.specs.List.{filter}
use Rattle.zone_lookup.specs.ZoneAnswer.{denying}
use Rattle.zone_tree.specs.Sets.{is_kind, picked}
use Rattle.zone_tree.proofs.Cutting.{set_of_number}
use Rattle.zone_tree.proofs.Glue.{denial_from}
use Rattle.zone_tree.proofs.Shapes.{inside}
use Rattle.zone_tree.proofs.Filling.{numbered_some, set_in_at, set_in_of}
use Rattle.zone_tree.proofs.ready.denial_of.Goals as goal

pub index-requires : goal.index-requires
index-requires c =
    let tree = c.args.tree.now in
    let named = numbered_some tree.table tree.top c.in-Some.top tree.zone.origin c.requires.top c.in-Some.is in
    let lt = inside tree.table c.in-Some.top tree.zone.origin named in
    omega (arith, lt, c.requires.sets.as_many)

pub returns : goal.returns
returns c =
    let tree = c.args.tree.now in
    let named = numbered_some tree.table tree.top c.in-Some.top tree.zone.origin c.requires.top c.in-Some.is in
    let node = set_of_number tree tree.zone.origin c.in-Some.top c.index.result.now c.requires named c.index.ensures in
    let soa = c.in_ok-copy_denying.ensures ∙ (λ j. c.new-denial.ensures j ++ map denying (filter (is_kind 6) (picked (c.as_slice-records.ensures j) (c.as_slice.ensures j))))
    ∙ ap (map denying) (sym (set_in_of (picked tree.zone.records c.index.result.now) 6 (λ e. omega (arith, e))) ∙ set_in_at tree.zone tree.zone.origin 6 (picked tree.zone.records c.index.result.now) node) in
    denial_from tree.zone c.as_slice-2.result.now [] c.in_ok-new.field-0 (c.as_slice-2.ensures ∙ soa) refl c.in_ok-new.ensures
