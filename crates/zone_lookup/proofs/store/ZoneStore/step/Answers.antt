use Rattle.std.proofs.Common.{sym, ◌∙◌}
use Rattle.zone_lookup.proofs.Chaining.{steps_cut, steps_found}
use Rattle.zone_lookup.proofs.store.ZoneStore.step.Goals as goal

pub returns-in-Some : goal.returns-in-Some
returns-in-Some g c = steps_cut (g.Self.ZoneStore.zone c.args.self.now) c.args.name.now c.in-Some.cut c.args.kind _ _ (sym c.in_ok-cut.ensures ∙ c.in-Some.is) c.in_ok-copy_set.ensures.ok

pub returns : goal.returns
returns g c = steps_found (g.Self.ZoneStore.zone c.args.self.now) c.args.name.now c.args.kind c.in_ok-find.find _ _ (sym c.in_ok-cut.ensures ∙ c.in_default.is) c.in_ok-find.ensures
