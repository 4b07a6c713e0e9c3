use Rattle.std.proofs.Common.{refl}
use Rattle.std.proofs.Common.{[], ◌∷◌}
use Rattle.chain_meaning.specs.CallsByRun.{pool_in}
use Rattle.chain_build.specs.Compiled.{back_answerer, back_of}
use Rattle.chain_build.proofs.LoggedWalks.{by_answered}
use Rattle.chain_build.proofs.Walks.{answered_next}
use Rattle.chain_build.proofs.back.answer_behind.Goals as goal

pub returns : goal.returns
returns g c =
    let plugin = back_answerer c.args.plugin.now in
    let q = c.args.walk.now.query.now in
    let old = c.args.room.now.slot in
    let new = c.back_answer.new.room.slot in
    record {
      count = refl;
      asks = by_answered (pool_in (back_of c.args.plugin.now ∷ []) q) plugin q old new c.back_answer.result c.back_answer.ensures.answered c.back_answer.ensures.kept;
      next = answered_next plugin q old new c.back_answer.result c.back_answer.ensures.answered;
    }
