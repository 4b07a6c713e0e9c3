use Rattle.std.proofs.Common.{◌≡◌, ◌∙◌, List, ℕ, subst}
use Rattle.std.specs.Prelude.{IfOk}
use Rattle.load_maker.proofs.Zones.{zone_is}
use Rattle.load_maker.proofs.texts.zone.Goals as goal

pub returns : goal.returns
returns c =
    subst (λ (t : List ℕ). IfOk c.from_slice.result (λ b. b ≡ t))
    (c.as_bytes.ensures.value ∙ zone_is c.loop-host.host _ c.loop-host.invariant.0 c.loop-host.invariant.1 c.loop-host-test.false)
    c.from_slice.ensures
