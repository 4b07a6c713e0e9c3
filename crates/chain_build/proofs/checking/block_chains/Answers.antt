use Rattle.std.proofs.Common.{◌≡◌, ◌∙◌, Err, map, rules, subst, sym}
use Rattle.std.specs.List.{All}
use Rattle.std.proofs.lemmas.List.Elements.{All-push}
use Rattle.chain_meaning.specs.{brought_of}
use Rattle.chain_meaning.specs.Accepting.{blocks_task}
use Rattle.chain_meaning.specs.Steps.{block_extras, steps_of}
use Rattle.block_readings.specs.Behind.{block_behind}
use Rattle.chain_build.specs.Chains.{HasTaken}
use Rattle.chain_build.specs.Plans.{behind_of, block_cache, cache_in, extras_in, steps_in}
use Rattle.chain_meaning.specs.AcceptingLaws.{blocks_carried, blocks_made}
use Rattle.chain_build.proofs.BlocksMaking.{blocks_err}
use Rattle.chain_build.proofs.checking.block_chains.Goals as goal

pub returns-in_err-made-clause-made : goal.returns-in_err-made-clause-made
returns-in_err-made-clause-made g c =
    let e = c.in_err-made.field-0.0 in
    let is : c.from_residual-in_err-made.result ≡ Err e = search rules in
    rw is (blocks_err (brought_of (g.J.Judges.named c.args.judges.now) (g.J.Judges.taken c.args.judges.now)) c.loop-block.patterns c.args.sources.now.files.now c.args.blocks.now c.loop-block.rest.now c.in-Some.block.now c.in-Some.behind.now (g.M.PatternMaker.last c.block_chain.new.maker) e c.in-Some.ensures.cases.0 c.loop-block.invariant.carried c.in_err-made.ensures.made)

pub loop-block-preserved : goal.loop-block-preserved
loop-block-preserved g c =
    let made = c.in_ok-made.ensures.made in
    record {
      carried = blocks_carried (brought_of (g.J.Judges.named c.args.judges.now) (g.J.Judges.taken c.args.judges.now)) c.loop-block.patterns c.in_ok-made.made.patterns c.args.sources.now.files.now c.loop-block.rest.now c.in-Some.block.now c.in-Some.behind.now (blocks_task (brought_of (g.J.Judges.named c.args.judges.now) (g.J.Judges.taken c.args.judges.now)) 0 c.args.sources.now.files.now c.args.blocks.now)
          c.in-Some.ensures.cases.0 made.count made.well c.loop-block.invariant.carried;
      made = λ said. blocks_made (steps_in said) (steps_of said c.args.sources.now.files.now) c.loop-block.chains c.push.new.self c.in_ok-made.made.chain c.loop-block.rest.now c.in-Some.behind.now c.in-Some.block.now
          (map (steps_of said c.args.sources.now.files.now) c.args.blocks.now) c.in_ok-push.ensures.ok (made.steps said) c.in-Some.ensures.cases.0 (c.loop-block.invariant.made said);
      behind = blocks_made behind_of (block_behind c.args.sources.now.files.now) c.loop-block.chains c.push.new.self c.in_ok-made.made.chain c.loop-block.rest.now c.in-Some.behind.now c.in-Some.block.now
          (map (block_behind c.args.sources.now.files.now) c.args.blocks.now) c.in_ok-push.ensures.ok made.behind c.in-Some.ensures.cases.0 c.loop-block.invariant.behind;
      cached = blocks_made cache_in block_cache c.loop-block.chains c.push.new.self c.in_ok-made.made.chain c.loop-block.rest.now c.in-Some.behind.now c.in-Some.block.now
          (map block_cache c.args.blocks.now) c.in_ok-push.ensures.ok made.cached c.in-Some.ensures.cases.0 c.loop-block.invariant.cached;
      extras = blocks_made extras_in block_extras c.loop-block.chains c.push.new.self c.in_ok-made.made.chain c.loop-block.rest.now c.in-Some.behind.now c.in-Some.block.now (map block_extras c.args.blocks.now) c.in_ok-push.ensures.ok made.extras
          c.in-Some.ensures.cases.0 c.loop-block.invariant.extras;
      taken = subst (All (HasTaken (g.J.Judges.taken c.args.judges.now))) (sym c.in_ok-push.ensures.ok) (All-push (HasTaken (g.J.Judges.taken c.args.judges.now)) c.loop-block.chains c.in_ok-made.made.chain c.loop-block.invariant.taken made.taken);
      state = c.in_ok-made.ensures.maker ∙ c.loop-block.invariant.state;
    }
