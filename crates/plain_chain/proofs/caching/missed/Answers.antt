use Rattle.std.proofs.Common.{subst}
use Rattle.chain_build.specs.Plans.{behind_of}
use Rattle.chain_trail.specs.Trail.{head_name, tail_names, traced}
use Rattle.chain_trail.specs.Trails.{Trails}
use Rattle.plain_marks.specs.declared.meant.Meant as declared
use Rattle.plain_marks.specs.declared.meant.Meant.TheVariants as meant
use Rattle.chain_meaning.specs.declared.decision.Decision.{Decision}
use Rattle.plain_chain.proofs.Keeping.{left-fits, ok-kept}
use Rattle.plain_chain.proofs.caching.missed.Goals as goal

pub returns-in-Done : goal.returns-in-Done
returns-in-Done c =
    let cached = c.args.cached.now in
    let q = cached.asking.query.now in
    let names = c.args.names.now in
    let steps = behind_of cached.asking.chain.now in
    let marks = c.args.marks.now in
    let mid = c.reach.new.trail in
    let after = c.decide_behind.new.trail in
    let t : Trails (traced steps (tail_names names) q) marks mid after (meant.Done c.in-Done.decision c.in-Done.end) =
    subst (λ (m : declared.Meant Decision). Trails (traced steps (tail_names names) q) marks mid after m) c.in-Done.is (subst (λ ns. Trails (traced steps ns q) marks mid after c.in_ok-decision.field-0) c.rest_of.ensures c.in_ok-decision.ensures) in
    ok-kept (head_name names) (traced steps (tail_names names)) cached.plan.now q cached.moment c.kept_by.result marks c.in-Done.end.now c.taken_of.result.now c.args.trail.now mid after c.in-Done.decision t.lines c.in_ok-reach.ensures t.added t.are c.taken_of.ensures c.kept_by.ensures

pub taken_of-requires : goal.taken_of-requires
taken_of-requires c =
    let cached = c.args.cached.now in
    let q = cached.asking.query.now in
    let steps = behind_of cached.asking.chain.now in
    let t : Trails (traced steps c.rest_of.result.now q) c.args.marks.now c.reach.new.trail c.decide_behind.new.trail (meant.Done c.in-Done.decision c.in-Done.end) =
    subst (λ (m : declared.Meant Decision). Trails (traced steps c.rest_of.result.now q) c.args.marks.now c.reach.new.trail c.decide_behind.new.trail m) c.in-Done.is c.in_ok-decision.ensures in
    left-fits (traced steps c.rest_of.result.now q) c.args.marks.now c.in-Done.end.now t.lines c.in-Done.decision t.are
