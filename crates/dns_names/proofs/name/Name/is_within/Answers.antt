use Rattle.std.proofs.Common.{length, ap, ◌∙◌, arith}
use Rattle.dns_names.specs.NameLaws.{spelling, proper}
use Rattle.dns_names.specs.WithinLaws.{decides_within}
use Rattle.dns_names.proofs.NameWalks.{has_room, within_goes_on, within_ends}
use Rattle.dns_names.proofs.name.Name.is_within.Goals as goal

pub behind_first-rest-requires : goal.behind_first-rest-requires
behind_first-rest-requires c = has_room c.args.self.now c.loop-rest.invariant.count c.loop-rest.rest.now c.loop-rest.invariant.at (omega arith)

pub loop-rest-preserved : goal.loop-rest-preserved
loop-rest-preserved c =
    let size = ap length (spelling c.zone.inside.wire c.args.zone.now c.zone.invariant c.zone.view_is) in
    within_goes_on c.args.self.now c.args.zone.now c.loop-rest.rest.now _ c.loop-rest.invariant (omega (arith, size)) c.behind_first-rest.ensures

pub returns-clause-within : goal.returns-clause-within
returns-clause-within c =
    let is = spelling c.zone.inside.wire c.args.zone.now c.zone.invariant c.zone.view_is in
    let ended = within_ends c.args.self.now c.args.zone.now c.loop-rest.rest.now c.loop-rest.invariant (omega (arith, ap length is))
    (proper c.self.inside.wire c.args.self.now c.self.invariant c.self.view_is) (proper c.zone.inside.wire c.args.zone.now c.zone.invariant c.zone.view_is) in
    let zone = c.as_slice.ensures ∙ is in
    (λ t. ended.0 (rw (← zone) (c.same_letters.ensures.0 t)), λ h. c.same_letters.ensures.1 (rw zone (ended.1 h)))

pub returns-clause-test : goal.returns-clause-test
returns-clause-test c = decides_within c.args.self.now c.args.zone.now _ (returns-clause-within c)
