use Rattle.std.proofs.Common.{◌≡◌, false, Some, None, refl, rules}
use Rattle.std.specs.Prelude.{◌&&◌}
use Rattle.plugin_api.specs.{is_once, rank_of}
use Rattle.plugin_api.specs.declared.ranks.Rank.TheVariants as rank
use Rattle.chain_meaning.specs.{brought_of}
use Rattle.chain_meaning.specs.Accepting.{stands_in}
use Rattle.chain_build.specs.Places.{behind_at}
use Rattle.chain_build.proofs.Fixed.{fixed_maker}
use Rattle.chain_build.proofs.OneRead.{as_fixed, extra_read, extra_taken, is_fixed, others_taken, placed_fixed, reads_on}
use Rattle.chain_build.proofs.places.read_more.Goals as goal

pub returns-in-Rewrite-clause-reads : goal.returns-in-Rewrite-clause-reads
returns-in-Rewrite-clause-reads g c =
    let r = c.args.reading.now in
    let brought = brought_of (g.J.Judges.named c.args.judges.now) (g.J.Judges.taken c.args.judges.now) in
    let is : rank_of r.directive.now.name ≡ Some rank.Rewrite = search rules in
    reads_on brought rank.Rewrite (behind_at r c.args.places.now) r.directive.now c.args.places.now c.read_rewrite.new.places (g.M.PatternMaker.last c.read_rewrite.new.maker) c.read_rewrite.result is refl c.read_rewrite.ensures.reads
    c.read_rewrite.ensures.placed

pub returns-in-Template-clause-reads : goal.returns-in-Template-clause-reads
returns-in-Template-clause-reads g c =
    let r = c.args.reading.now in
    let brought = brought_of (g.J.Judges.named c.args.judges.now) (g.J.Judges.taken c.args.judges.now) in
    let is : rank_of r.directive.now.name ≡ Some rank.Template = search rules in
    reads_on brought rank.Template (behind_at r c.args.places.now) r.directive.now c.args.places.now c.read_template.new.places (g.M.PatternMaker.last c.read_template.new.maker) c.read_template.result is refl c.read_template.ensures.reads
    c.read_template.ensures.placed

pub returns-in-Rewrite-clause-taken : goal.returns-in-Rewrite-clause-taken
returns-in-Rewrite-clause-taken g c =
    let r = c.args.reading.now in
    others_taken (g.J.Judges.taken c.args.judges.now) rank.Rewrite (behind_at r c.args.places.now).context r.directive.now c.args.places.now c.read_rewrite.new.places c.read_rewrite.result c.read_rewrite.ensures.placed

pub returns-in-Template-clause-taken : goal.returns-in-Template-clause-taken
returns-in-Template-clause-taken g c =
    let r = c.args.reading.now in
    others_taken (g.J.Judges.taken c.args.judges.now) rank.Template (behind_at r c.args.places.now).context r.directive.now c.args.places.now c.read_template.new.places c.read_template.result c.read_template.ensures.placed

pub returns-in_default-clause-reads : goal.returns-in_default-clause-reads
returns-in_default-clause-reads g c =
    let r = c.args.reading.now in
    let brought = brought_of (g.J.Judges.named c.args.judges.now) (g.J.Judges.taken c.args.judges.now) in
    let is : rank_of r.directive.now.name ≡ None = search rules in
    extra_read brought (behind_at r c.args.places.now) r.directive.now c.args.places.now c.read_extra.new.places (g.M.PatternMaker.last c.args.maker.now) c.read_extra.result is c.read_extra.ensures

pub returns-in_default-clause-taken : goal.returns-in_default-clause-taken
returns-in_default-clause-taken g c =
    let brought = brought_of (g.J.Judges.named c.args.judges.now) (g.J.Judges.taken c.args.judges.now) in
    extra_taken brought c.args.reading.now.directive.now c.args.places.now c.read_extra.new.places c.read_extra.result c.read_extra.ensures

pub returns-in_default-rank : goal.returns-in_default-rank
returns-in_default-rank g c =
    let r = c.args.reading.now in
    let brought = brought_of (g.J.Judges.named c.args.judges.now) (g.J.Judges.taken c.args.judges.now) in
    let own = c.in-Some.rank in
    let is : rank_of r.directive.now.name ≡ Some own = search rules in
    let first : (is_once own && stands_in r.before.now r.directive.now.name) ≡ false = search rules in
    let last = g.M.PatternMaker.last c.args.maker.now in
    let reads = as_fixed own (behind_at r c.args.places.now) r.directive.now c.args.places.now c.read_as.new.places last c.read_as.result (is_fixed own c.in_default-rank.not-Rewrite c.in_default-rank.not-Template) c.read_as.ensures in
    let placed = placed_fixed own (behind_at r c.args.places.now) r.directive.now c.args.places.now c.read_as.new.places c.read_as.result c.read_as.ensures in
    record {
      reads = reads_on brought own (behind_at r c.args.places.now) r.directive.now c.args.places.now c.read_as.new.places last c.read_as.result is first reads placed;
      taken = others_taken (g.J.Judges.taken c.args.judges.now) own (behind_at r c.args.places.now).context r.directive.now c.args.places.now c.read_as.new.places c.read_as.result placed;
      maker = fixed_maker own (behind_at r c.args.places.now) r.directive.now c.args.places.now c.read_as.new.places c.read_as.result c.read_as.ensures (g.M.PatternMaker.state c.args.maker.now);
    }
