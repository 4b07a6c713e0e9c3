use Rattle.std.proofs.Common.{sym, ap, ◌∙◌, ◌≡◌}
use Rattle.std.specs.Prelude.{◌&&◌, ◌==◌}
use Rattle.dns_names.specs.Name.{is_same}
use Rattle.zone_lookup.specs.ZoneAnswer.{with_authority}
use Rattle.zone_lookup.proofs.Chaining.{no_authority, asks}
use Rattle.zone_lookup.proofs.answering.push_authority.Goals as goal

pub returns-then-is_question : goal.returns-then-is_question
returns-then-is_question g c =
    let zone = g.Z.ZoneStore.zone c.args.zone.now in
    let is = c.is_question.ensures ∙ ap (λ origin. is_same c.args.name.now origin && (c.args.kind == 2)) c.origin.ensures in
    let none = asks zone c.args.name.now c.args.kind c.args.denied c.is_question.result c.if-denied.false is c.if-is_question.true in
    no_authority zone c.args.slot.now c.requires ∙ ap (with_authority zone c.args.slot.now) (sym none)
