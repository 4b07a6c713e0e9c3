use Rattle.std.proofs.Common.{◌∙◌, ◌∷◌, sym, ap, unwrap_or}
use Rattle.corefile_blocks.specs.PlacedLines.{stream_of}
use Rattle.corefile_blocks.proofs.LineLemmas.{next_of, read_out}
use Rattle.corefile_blocks.proofs.stack.next_line.Goals as goal

pub loop-frame-preserved : goal.loop-frame-preserved
loop-frame-preserved c =
    read_out c.loop-frame.frames c.pop.new.self c.in-Some.frame (sym c.in_default-get.ensures.line) c.in-Some.ensures ∙ c.loop-frame.invariant

pub returns-in-Some-get : goal.returns-in-Some-get
returns-in-Some-get c =
    let next = next_of c.loop-frame.frames c.pop.new.self c.push.new.self c.in-Some.frame c.in-Some-get.line.now.value (sym c.in-Some-get.ensures.line) c.in-Some.ensures c.in_ok-push.ensures.ok in
    let number = c.unwrap_or.ensures ∙ ap (λ l. unwrap_or c.in-Some.frame.number l.number) c.deref.ensures in
    let line = c.in_ok-clone.ensures.cases in
    sym c.loop-frame.invariant ∙ next
    ∙ (λ i. record { line = sym line i; number = sym number i; depth = c.in-Some.frame.depth } ∷ stream_of c.push.new.self)
