use Rattle.std.proofs.Common.{◌∙◌, ap, subst, sym}
use Rattle.chain_meaning.specs.Steps.{context_of}
use Rattle.chain_build.specs.Compiled.{back_steps, head_of, inner_steps, whole_by}
use Rattle.chain_build.specs.Places.{AreTaken}
use Rattle.chain_build.specs.PlacesLaws.{behind-placed, cache-placed, extras-placed, patterns-placed, steps-placed}
use Rattle.chain_build.proofs.checking.block_chain.Goals as goal

pub returns-clause-made : goal.returns-clause-made
returns-clause-made g c =
    let reads = c.in_ok-places.ensures.reads in
    let front = c.in_ok-chain.chain.front in
    let middle = c.in_ok-chain.chain.middle in
    let back = c.in_ok-chain.chain.back in
    record {
      well = reads.well;
      steps = λ said. (λ i. whole_by said (head_of front (c.in_ok-chain.ensures.dns64 i) middle) (c.in_ok-chain.ensures.extras i) (inner_steps (c.in_ok-chain.ensures.cache i) (c.in_ok-chain.ensures.rewrites i) back))
          ∙ steps-placed said c.args.sources.now.files.now c.args.block.now c.args.patterns c.in_ok-places.places reads.is front middle back c.in_ok-chain.ensures.front c.in_ok-chain.ensures.middle c.in_ok-chain.ensures.back;
      behind = (λ i. back_steps (c.in_ok-chain.ensures.rewrites i) back) ∙ behind-placed c.args.sources.now.files.now c.args.block.now c.args.patterns c.in_ok-places.places reads.is back c.in_ok-chain.ensures.back;
      cached = c.in_ok-chain.ensures.cache ∙ cache-placed c.args.sources.now.files.now c.args.block.now c.args.patterns c.in_ok-places.places reads.is;
      extras = c.in_ok-chain.ensures.extras ∙ ap (λ p. p.extras) reads.is ∙ extras-placed (context_of c.args.sources.now.files.now c.args.block.now) c.args.block.now.directives c.args.patterns;
      taken = subst (AreTaken (g.J.Judges.taken c.args.judges.now)) (sym c.in_ok-chain.ensures.extras) reads.taken;
      count = ap (λ p. p.patterns) reads.is ∙ patterns-placed (context_of c.args.sources.now.files.now c.args.block.now) c.args.block.now.directives c.args.patterns;
    }
