use Rattle.std.proofs.Common.{◌≡◌, subst, ◌+◌, ℕ, replicate, refl, sym, ◌∙◌, arith}
use Rattle.std.specs.Result.{OnErr}
use Rattle.std.proofs.lemmas.List.{length-replicate, take_rest}
use Rattle.dns_names.proofs.ReadNames.{on_err, reads_dot, filled_none, filled_on, filled_wire, filled_ends, filled_ended}
use Rattle.dns_names.proofs.name.Name.set_read.Goals as goal

pub loop-rest-init : goal.loop-rest-init
loop-rest-init c = (refl, filled_none c.copy_behind.new.into (replicate 255 0) c.args.text.now c.copy_behind.ensures (omega (arith, length-replicate {A = ℕ} 255 0)) (omega (arith, c.if-text-ge-NAME_BYTES.false)))

pub of_wire-requires : goal.of_wire-requires
of_wire-requires c = filled_wire c.loop-rest.wire c.loop-rest.rest.now c.loop-rest.at _ c.loop-rest.invariant.1

pub loop-rest-preserved : goal.loop-rest-preserved
loop-rest-preserved c = (
  c.loop-rest.invariant.0,
  filled_on _ c.loop-rest.wire _ c.loop-rest.rest.now _ c.loop-rest.at c.run_len-size.result c.loop-rest.invariant.1 c.run_len-size.ensures.run
      (omega (arith, c.run_len-size.ensures.inside, c.if-size-rest.false)) c.if-rest-size-ne46.false (omega (arith, c.if-size-eq0-2.false)) (omega (arith, c.if-size-gt-LABEL_BYTES.false))
      refl (take_rest c.loop-rest.rest.now (c.run_len-size.result + 1)),
)

pub set_wire-requires : goal.set_wire-requires
set_wire-requires c = filled_wire c.loop-rest.wire c.loop-rest.rest.now c.loop-rest.at _ c.loop-rest.invariant.1

pub returns-in_err-set_wire-clause-err : goal.returns-in_err-set_wire-clause-err
returns-in_err-set_wire-clause-err c = on_err c.from_residual.result (c.in_err-set_wire.ensures.err ∙ c.loop-rest.invariant.0)

pub returns-in_err-name-clause-err : goal.returns-in_err-name-clause-err
returns-in_err-name-clause-err c = on_err c.from_residual-in_err-name.result c.loop-rest.invariant.0

pub returns-then-size-rest : goal.returns-then-size-rest
returns-then-size-rest c = record {
  value = c.set_to-then-size-rest.ensures.value c.args.text.now c.args.origin.now (
      filled_ends c.args.text.now c.loop-rest.rest.now c.loop-rest.wire _ _ c.args.origin.now c.loop-rest.at c.run_len-size.result c.completed.result
      (sym c.is_dot.ensures ∙ c.if-is_dot.false) c.loop-rest.invariant.1 refl c.in_ok-name.ensures c.run_len-size.ensures.run c.if-size-rest.true c.completed.ensures
      );
  err = subst (λ s. OnErr c.set_to-then-size-rest.result (c.set_to-then-size-rest.new.self ≡ s)) c.loop-rest.invariant.0 c.set_to-then-size-rest.ensures.err;
}

pub returns-then-is_dot-clause-value : goal.returns-then-is_dot-clause-value
returns-then-is_dot-clause-value c = reads_dot c.args.text.now c.args.origin.now c.clear.new.self (sym c.is_dot.ensures ∙ c.if-is_dot.true) c.clear.ensures

pub returns-then-at-gt0-clause-value : goal.returns-then-at-gt0-clause-value
returns-then-at-gt0-clause-value c =
    filled_ended c.args.text.now c.loop-rest.rest.now c.loop-rest.wire _ _ c.args.origin.now c.loop-rest.at c.run_len-size.result (sym c.is_dot.ensures ∙ c.if-is_dot.false) c.loop-rest.invariant.1 refl
    c.in_ok-set_wire.ensures.ok c.run_len-size.ensures.run c.if-size-rest.true c.if-size-eq0.true c.if-at-gt0.true

pub returns-then-text-ge-NAME_BYTES-clause-value : goal.returns-then-text-ge-NAME_BYTES-clause-value
returns-then-text-ge-NAME_BYTES-clause-value c = c.set_to.ensures.value c.args.text.now c.args.origin.now c.read_slowly.ensures

pub returns-then-rest-size-ne46-clause-value : goal.returns-then-rest-size-ne46-clause-value
returns-then-rest-size-ne46-clause-value c =
    c.set_to-then-rest-size-ne46.ensures.value c.args.text.now c.args.origin.now c.read_slowly-then-rest-size-ne46.ensures
