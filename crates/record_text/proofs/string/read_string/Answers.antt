use Rattle.std.proofs.Common.{sym, ◌∙◌}
use Rattle.std.proofs.lemmas.List.{take_rest}
use Rattle.record_text.proofs.Steps.{bytes_step}
use Rattle.record_text.proofs.string.read_string.Goals as goal

pub loop-byte-preserved : goal.loop-byte-preserved
loop-byte-preserved c =
    bytes_step c.args.text.now c.loop-byte.bytes c.push.new.self c.loop-byte.rest.now c.in-Some.behind.now _ c.in-Some.byte.now c.in-Some-byte_at.value c.in-Some-byte_at.size
    c.loop-byte.invariant c.in-Some.ensures.cases.0 (sym c.byte_at.ensures.value ∙ c.in-Some-byte_at.is) c.in_ok-push.ensures.ok (take_rest c.in-Some.behind.now c.in-Some-byte_at.size)
