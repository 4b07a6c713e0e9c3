use Rattle.std.proofs.Common.{◌≡◌, ◌++◌, ◌∙◌}
use Rattle.std.proofs.lemmas.Result.{on_ok_weaker}
use Rattle.chain_trail.specs.Trail.{reached}
use Rattle.plain_chain.proofs.reaching.reach_end.Goals as goal

pub returns : goal.returns
returns c =
    on_ok_weaker c.push.result
    (λ (p : c.push.new.self ≡ c.args.trail.now ++ reached (record { line = 0; name = c.in_ok-from_str.field-0 }) c.in_ok-from_str-2.field-0).
    p ∙ (λ i. c.args.trail.now ++ reached (record { line = 0; name = c.in_ok-from_str.ensures i }) (c.in_ok-from_str-2.ensures i))) c.push.ensures.ok
