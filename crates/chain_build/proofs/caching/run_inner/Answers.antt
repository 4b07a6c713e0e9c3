use Rattle.std.proofs.Common.{◌≡◌, List, refl, ap, sym, ◌∙◌}
use Rattle.outside.specs.declared.mark.Mark.{Mark}
use Rattle.chain_meaning.specs.CallsByRun.{shard_in}
use Rattle.chain_meaning.specs.Mean.{mean}
use Rattle.chain_meaning.specs.Caching.{cached}
use Rattle.chain_build.specs.Plans.{behind_of, inner_of}
use Rattle.chain_build.specs.WalkingLaws.{inner-beyond, inner-cached, inner-none}
use Rattle.chain_build.proofs.CachedWalks.{inner_pool}
use Rattle.chain_build.proofs.Givings.{tb_result}
use Rattle.chain_build.proofs.LoggedWalks.{takes_by, tb_as}
use Rattle.chain_build.proofs.caching.run_inner.Goals as goal
use Rattle.chain_build.proofs.caching.run_inner.Goals.{in-Some+else-covers, in_default}

pub returns-then-covers-clause-takes : goal.returns-then-covers-clause-takes
returns-then-covers-clause-takes g c =
    let chain = c.args.chain.now in
    let q = c.args.walk.now.query.now in
    tb_as (cached (mean (behind_of chain)) c.in-Some.plan q) _ refl (inner-cached chain.cache c.in-Some.plan (behind_of chain) q c.in-Some.is (sym c.covers.ensures ∙ c.if-covers.true)) c.run_cached.ensures.takes

pub returns-clause-takes : goal.returns-clause-takes
returns-clause-takes g c =
    let chain = c.args.chain.now in
    let q = c.args.walk.now.query.now in
    let shard = shard_in (inner_of chain) q in
    let same : (marks : List Mark) → mean (inner_of chain) q marks ≡ mean (behind_of chain) q marks = elim c.match-chain.branch [
      | in-Some+else-covers w ↦ inner-beyond chain.cache w.in-Some.plan (behind_of chain) q w.in-Some.is (sym w.covers.ensures ∙ w.if-covers.false)
      | in_default w ↦ inner-none chain.cache (behind_of chain) q w.in_default.is
    ] in
    tb_result (mean (inner_of chain) q) (c.as_given.ensures c.run_behind.new.room.plugins.slot)
    (tb_as (mean (behind_of chain) q) _ (ap (λ pool. record { shard = shard; pool = pool }) (inner_pool chain.cache (behind_of chain) q)) same (takes_by shard c.args.uses.now.cache c.run_behind.ensures.asks))
