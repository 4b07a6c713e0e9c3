use Rattle.std.proofs.Common.{ℕ, ◌+◌, ◌≡◌, List, [], length, refl, sym, ap, ◌∙◌, subst, arith}
use Rattle.std.proofs.lemmas.List.{length_push}
use Rattle.std.proofs.lemmas.List.Elements.{All-nil}
use Rattle.pin_table.specs.{AreNew, AreNew-push}
use Rattle.pin_soak.specs.declared.chains.Chain.{Chain}
use Rattle.pin_soak.specs.Chains.{identity_of, log_of}
use Rattle.pin_soak.proofs.chains.chains_of.Goals as goal

pub loop-worker-preserved : goal.loop-worker-preserved
loop-worker-preserved c =
    let i = c.loop-worker.invariant in
    let made = c.loop-worker.chains.items in
    let chain : Chain = record { serial = c.args.serial; worker = c.loop-worker.worker; pins = 0 } in
    let e = c.in_ok-push.ensures.items in (
      ap (λ (l : List Chain). length l) e ∙ (length_push made chain ∙ ap (λ (k : ℕ). k + 1) i.0),
      subst (λ (l : List Chain). AreNew identity_of log_of c.args.serial 0 l) (sym e)
          (AreNew-push identity_of log_of c.args.serial 0 made chain i.1 refl (omega (arith, i.0)) (All-nil (λ (part : List ℕ). part ≡ []))),
    )
