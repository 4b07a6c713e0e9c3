use Rattle.std.proofs.Common.{◌≡◌, true, false, [], rules, sym, subst}
use Rattle.std.specs.Prelude.{IfOk}
use Rattle.std.proofs.lemmas.List.{append-nil}
use Rattle.cache_rules.specs.{cache_zones, key_of}
use Rattle.zone_words.specs.{is_in}
use Rattle.plain_marks.specs.Caching.{look_means}
use Rattle.plain_marks.specs.Meant.{Means}
use Rattle.chain_build.specs.Plans.{behind_of}
use Rattle.chain_trail.specs.Says.{pass_say}
use Rattle.chain_trail.specs.Trail.{head_name, reached, tail_names, traced}
use Rattle.chain_trail.specs.Trails.{Trails}
use Rattle.plain_chain.proofs.Traced.{found_at, inner-beyond, inner-cached}
use Rattle.plain_chain.proofs.Trailing.{ok-lined, taken-on, taken-stops, taken-wants}
use Rattle.plain_chain.proofs.caching.decide_inner.Goals as goal

pub returns-then-not-covers : goal.returns-then-not-covers
returns-then-not-covers c =
    let chain = c.args.asking.chain.now in
    let q = c.args.asking.query.now in
    let names = c.args.names.now in
    let beyond : is_in q.name (cache_zones c.in-Some.plan) ≡ false = search rules in
    let r = c.decide_behind-then-not-covers.result in
    let after = c.decide_behind-then-not-covers.new.trail in
    ok-lined r (traced (behind_of chain) (tail_names names) q) _ c.args.marks.now (reached (head_name names) pass_say) c.args.trail.now c.reach.new.trail after
    (inner-beyond chain.cache c.in-Some.plan (behind_of chain) names q c.in-Some.is beyond) c.in_ok-reach.ensures
    (subst (λ ns. IfOk r (Trails (traced (behind_of chain) ns q) c.args.marks.now c.reach.new.trail after)) c.rest_of.ensures c.decide_behind-then-not-covers.ensures)

pub returns-in-Done : goal.returns-in-Done
returns-in-Done c =
    let chain = c.args.asking.chain.now in
    let q = c.args.asking.query.now in
    let names = c.args.names.now in
    let within : is_in q.name (cache_zones c.in-Some.plan) ≡ true = search rules in
    taken-on (look_means (key_of q)) (found_at (head_name names) (traced (behind_of chain) (tail_names names)) c.in-Some.plan q) _ (inner-cached chain.cache c.in-Some.plan (behind_of chain) names q c.in-Some.is within)
    c.found.result c.args.marks.now c.in-Done.left.now c.args.trail.now c.found.new.trail c.in-Done.look (subst (Means (look_means (key_of q)) c.args.marks.now) c.in-Done.is c.in_ok-look.ensures) c.found.ensures

pub returns-in-More : goal.returns-in-More
returns-in-More c =
    let chain = c.args.asking.chain.now in
    let q = c.args.asking.query.now in
    let names = c.args.names.now in
    let within : is_in q.name (cache_zones c.in-Some.plan) ≡ true = search rules in
    taken-wants (look_means (key_of q)) (found_at (head_name names) (traced (behind_of chain) (tail_names names)) c.in-Some.plan q) _ (inner-cached chain.cache c.in-Some.plan (behind_of chain) names q c.in-Some.is within)
    c.args.marks.now c.args.trail.now (subst (Means (look_means (key_of q)) c.args.marks.now) c.in-More.is c.in_ok-look.ensures)

pub returns-in-Off : goal.returns-in-Off
returns-in-Off c =
    let chain = c.args.asking.chain.now in
    let q = c.args.asking.query.now in
    let names = c.args.names.now in
    let within : is_in q.name (cache_zones c.in-Some.plan) ≡ true = search rules in
    record {
      lines = [];
      added = sym (append-nil c.args.trail.now);
      are = taken-stops (look_means (key_of q)) (found_at (head_name names) (traced (behind_of chain) (tail_names names)) c.in-Some.plan q) _ (inner-cached chain.cache c.in-Some.plan (behind_of chain) names q c.in-Some.is within)
          c.args.marks.now c.in-Off.left.now (subst (Means (look_means (key_of q)) c.args.marks.now) c.in-Off.is c.in_ok-look.ensures);
    }
