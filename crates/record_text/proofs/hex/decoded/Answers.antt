use Rattle.std.proofs.Common.{sym, ◌∙◌}
use Rattle.record_text.proofs.Steps.{hex_step}
use Rattle.record_text.proofs.hex.decoded.Goals as goal

pub loop-high-preserved : goal.loop-high-preserved
loop-high-preserved c =
    hex_step c.args.digits.now c.loop-high.bytes c.push.new.self c.loop-high.rest.now c.in-Some.behind.now c.in-Some-split_first.others.now c.in-Some.high.now c.in-Some-split_first.low.now c.in-Some-hex_byte.byte
    c.loop-high.invariant c.in-Some.ensures.cases.0 c.in-Some-split_first.ensures.cases.0 (sym c.hex_byte.ensures ∙ c.in-Some-hex_byte.is) c.in_ok-push.ensures.ok
