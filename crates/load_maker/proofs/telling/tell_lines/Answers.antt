use Rattle.std.proofs.Common.{ℕ, List, subst, arith, ◌∙◌}
use Rattle.outside.specs.Hosts.{TellsOneLine}
use Rattle.outside.specs.declared.datagram.Wrote.{Wrote}
use Rattle.load_maker.proofs.Lines.{fails_at}
use Rattle.load_maker.proofs.telling.tell_lines.Goals as goal

pub returns-in-Failed-clause-tells : goal.returns-in-Failed-clause-tells
returns-in-Failed-clause-tells g c =
    fails_at c.args.lines.now c.loop-line.line-index c.line-item.result (omega (arith, c.loop-line-test.true)) c.loop-line.invariant
    (subst (λ (x : List ℕ × Wrote). TellsOneLine (g.H.Host.state c.loop-line.host) (g.H.Host.state c.tell.new.self) x.0 x.1) (λ k. ((c.as_bytes.ensures.value ∙ (c.as_str.ensures ∙ c.line-item.is)) k, c.in-Failed.is k)) c.tell.ensures)
