use Rattle.std.proofs.Common.{◌∙◌, subst, arith}
use Rattle.std.specs.Prelude.{IfOk}
use Rattle.std.proofs.lemmas.Result.{IfOk-weaker}
use Rattle.zone_lookup.specs.ZoneAnswer.{Finds, owned_by}
use Rattle.zone_tree.specs.Sets.{found_in, picked}
use Rattle.zone_tree.specs.Tree.{star_at}
use Rattle.zone_tree.proofs.Shapes.{inside}
use Rattle.zone_tree.proofs.Cutting.{finds_itself, finds_no_star, finds_star_as, star_number, longest_inside}
use Rattle.std.proofs.Common.{drop}
use Rattle.zone_tree.proofs.tree.Tree.find.Goals as goal

pub returns-then-encloser-eq0 : goal.returns-then-encloser-eq0
returns-then-encloser-eq0 c =
    let what = (λ j. found_in (picked (c.as_slice-records.ensures j) (c.as_slice-set.ensures j)) c.args.kind)
    ∙ finds_itself c.args.self.now c.args.name.now c.args.kind c.args.encloser c.index.result.now c.requires.tree c.requires.longest c.if-encloser-eq0.true c.index.ensures in
    subst (λ f. IfOk c.find_in.result (λ find. Finds f find c.args.out.now c.find_in.new.out)) what c.find_in.ensures

pub index-requires-2 : goal.index-requires-2
index-requires-2 c = let lt = longest_inside c.args.self.now.table c.args.name.now c.args.encloser c.requires.longest in omega (arith, lt, c.requires.tree.shape.as_many)

pub returns-in_default : goal.returns-in_default
returns-in_default c =
    finds_no_star c.args.self.now c.args.name.now c.args.kind c.args.encloser c.index-2.result.now c.nothing.result c.args.out.now c.requires.tree c.requires.longest c.if-encloser-eq0.false c.index-2.ensures c.in_default.is
    c.nothing.ensures.absent c.nothing.ensures.target

pub index-requires-3 : goal.index-requires-3
index-requires-3 c =
    let star = star_number c.args.self.now c.args.name.now c.args.encloser c.index-2.result.now c.in-Some.star c.requires.tree c.requires.longest c.index-2.ensures c.in-Some.is in
    let lt = inside c.args.self.now.table c.in-Some.star (star_at (drop c.args.encloser.above c.args.name.now)) star.0 in
    omega (arith, lt, c.requires.tree.sets.as_many)

pub returns : goal.returns
returns c =
    let star = star_number c.args.self.now c.args.name.now c.args.encloser c.index-2.result.now c.in-Some.star c.requires.tree c.requires.longest c.index-2.ensures c.in-Some.is in
    let here = subst (λ f. IfOk c.find_owned.result (λ find. Finds f find c.args.out.now c.find_owned.new.out))
    (λ j. owned_by c.args.name.now (found_in (picked (c.as_slice-records.ensures j) (c.as_slice.ensures j)) c.args.kind)) c.find_owned.ensures in
    IfOk-weaker c.find_owned.result _ _
    (λ find f. finds_star_as c.args.self.now c.args.name.now c.args.kind c.args.encloser c.in-Some.star c.index-3.result.now find c.args.out.now c.find_owned.new.out c.requires.tree c.requires.longest c.if-encloser-eq0.false star c.index-3.ensures f)
    here
