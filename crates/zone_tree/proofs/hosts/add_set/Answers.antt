use Rattle.std.proofs.Common.{◌++◌, ◌<◌, length, sym, ap, subst, ◌∙◌, arith, rules}
use Rattle.std.specs.List.{filter, list_any}
use Rattle.std.proofs.lemmas.Result.{on_ok_weaker}
use Rattle.name_table.specs.Table.{IsMissing, IsNamed}
use Rattle.zone_lookup.specs.Zone.{is_of}
use Rattle.zone_tree.specs.Sets.{is_kind, picked}
use Rattle.zone_tree.proofs.Shapes.{inside}
use Rattle.zone_tree.proofs.Glue.{set_there, set_missing, set_found}
use Rattle.zone_tree.proofs.hosts.add_set.Goals as goal

pub returns-then-has_of : goal.returns-then-has_of
returns-then-has_of c =
    let has = c.has_of.ensures ∙ (λ j. list_any (is_of c.args.name.now c.args.kind) (picked (c.as_slice-records.ensures j) (c.as_slice.ensures j))) in
    set_there c.args.zone.now (picked c.args.zone.now.records c.args.hosts.now) c.args.name.now c.args.kind (sym has ∙ c.if-has_of.true)

pub returns-in_default : goal.returns-in_default
returns-in_default c =
    let has = c.has_of.ensures ∙ (λ j. list_any (is_of c.args.name.now c.args.kind) (picked (c.as_slice-records.ensures j) (c.as_slice.ensures j))) in
    let missing = subst (λ key. IsMissing c.args.table.now key) c.labels.ensures c.in_default.ensures.none in
    set_missing c.args.table.now c.args.zone.now (picked c.args.zone.now.records c.args.hosts.now) c.args.name.now c.args.kind c.requires.names missing (sym has ∙ c.if-has_of.false)

pub bounds-sets-number : goal.bounds-sets-number
bounds-sets-number c = let lt = inside c.args.table.now c.in-Some.number c.labels.result c.in-Some.ensures.found.is in omega (arith, lt, c.requires.sets.as_many)

pub offset_bounds-sets-number : goal.offset_bounds-sets-number
offset_bounds-sets-number c =
    let low = inside c.args.table.now c.in-Some.number c.labels.result c.in-Some.ensures.found.is in
    let lt : c.in-Some.number < length c.args.sets.now = omega (arith, low, c.requires.sets.as_many) in
    search rules

pub returns : goal.returns
returns c =
    let has = c.has_of.ensures ∙ (λ j. list_any (is_of c.args.name.now c.args.kind) (picked (c.as_slice-records.ensures j) (c.as_slice.ensures j))) in
    let named = subst (λ key. IsNamed c.args.table.now c.in-Some.number key) c.labels.ensures c.in-Some.ensures.found.is in
    let found = set_found c.args.table.now c.args.zone.now c.args.sets.now (picked c.args.zone.now.records c.args.hosts.now) c.args.name.now c.in-Some.number c.args.kind c.index-sets-number.result c.requires.sets named c.index-sets-number.is
    c.requires.kind (sym has ∙ c.if-has_of.false) in
    on_ok_weaker c.add_kind.result (λ e. sym (ap (λ rs. picked rs c.add_kind.new.out) c.as_slice-records.ensures) ∙ e
    ∙ (λ j. picked (c.as_slice-records.ensures j) c.args.hosts.now ++ filter (is_kind c.args.kind) (picked (c.as_slice-records.ensures j) (c.as_slice-2.ensures j))) ∙ found) c.add_kind.ensures
