use Rattle.std.proofs.Common.{List, ℕ, inl, inr, refl, subst}
use Rattle.std.proofs.lemmas.Result.{IfOk-weaker}
use Rattle.dns_wire.specs.Asked.{QueriesThis}
use Rattle.dns_wire.specs.declared.asked.Asked.{Asked}
use Rattle.explain_chain.proofs.Unasked.{no_query}
use Rattle.explain_chain.proofs.asking.front_lines.Goals as goal

pub returns-in-Ok-clause-lines : goal.returns-in-Ok-clause-lines
returns-in-Ok-clause-lines g c =
    IfOk-weaker c.asked_lines.result _ _ (λ lines are. inr (record {
      blocks = c.args.plans.now.blocks;
      accepted = c.tell.ensures.accepted;
      asked = c.in-Ok.asked;
      queries = subst (λ (bytes : List ℕ). QueriesThis bytes c.in-Ok.asked) c.as_slice.ensures c.in-Ok.ensures;
      are = are;
    })) c.asked_lines.ensures.lines

pub returns-in_default : goal.returns-in_default
returns-in_default g c = record {
  lines = inl (
    subst (λ (bytes : List ℕ). (asked : Asked) → QueriesThis bytes asked → ⊥) c.as_slice.ensures (no_query c.as_slice.result.now c.in-Err.fault c.in-Err.ensures c.in_default.not-NoMemory),
    c.new.ensures,
  );
  same = record { serial = refl; worker = refl; seats = refl; uses = refl };
}
