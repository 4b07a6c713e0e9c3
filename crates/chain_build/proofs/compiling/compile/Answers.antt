use Rattle.chain_build.proofs.OneForward.{compiled_lone, compiled_one}
use Rattle.chain_build.proofs.compiling.compile.Goals as goal

pub invariant_of-result : goal.invariant_of-result
invariant_of-result c = record {
  one = compiled_one c.in_ok-back.back c.args.places c.in_ok-back.ensures;
  lone = compiled_lone c.in_ok-back.back c.args.places c.in_ok-back.ensures;
  judged = λ n is. absurd cc;
}
