use Rattle.std.proofs.Common.{ap, ◌∙◌, refl}
use Rattle.zone_lookup.proofs.Chaining.{begins_with, refers, refers_cut}
use Rattle.zone_lookup.proofs.store.ZoneStore.refer_or_find.Goals as goal

pub returns-in_ok-push_hosts-in-Cut : goal.returns-in_ok-push_hosts-in-Cut
returns-in_ok-push_hosts-in-Cut g c =
    let zone = g.Self.ZoneStore.zone c.args.self.now in
    let clear = c.slot.view_is ∙ c.requires.clear in
    let none = ap (λ a. a.answer) clear in
    let s = rw (none, c.in-Cut.is) at c.in_ok-step.ensures in
    let glue = rw (c.as_slice.ensures, c.as_slice-in-Cut.ensures) at c.in_ok-push_hosts-in-Cut.ensures in
    refers_cut zone c.args.name.now c.args.kind c.step.new.out _ s
    (refers zone _ c.step.new.out _ _ _ (begins_with _ c.step.new.out clear) c.swap.ensures.x_after c.swap.ensures.y_after glue)
