use Rattle.std.proofs.Common.{◌∙◌}
use Rattle.std.proofs.lemmas.Result.{IfOk-weaker}
use Rattle.zone_lookup.proofs.Chaining.{answers}
use Rattle.zone_lookup.proofs.answering.positive.Goals as goal

pub returns : goal.returns
returns g c =
    let first = rw (c.as_slice.ensures, c.as_slice-2.ensures) at c.in_ok-push_hosts.ensures in
    IfOk-weaker c.end_with.result _ _
    (λ tail e. e ∙ answers (g.Z.ZoneStore.zone c.args.zone.now) c.args.name.now c.args.kind _ _ _ c.in_ok-end.end _ _ (c.slot.view_is ∙ c.requires.clear) c.rcode_of-slot-inside.ensures.value c.in_ok-end.ensures first)
    c.end_with.ensures
