use Rattle.std.proofs.Common.{◌∙◌, ap}
use Rattle.std.specs.Prelude.{◌&&◌, ◌==◌}
use Rattle.std.proofs.lemmas.Option.{IfSome_then}
use Rattle.dns_names.specs.Name.{is_same}
use Rattle.zone_lookup.proofs.Lending.{denial_behind, servers_behind}
use Rattle.zone_lookup.proofs.answering.ready.Goals as goal

pub returns-then-denied : goal.returns-then-denied
returns-then-denied g c =
    IfSome_then c.ready_denial.result c.ready_denial.ensures
    (λ tail d. denial_behind (g.Z.ZoneStore.zone c.args.zone.now) c.args.name.now c.args.kind c.args.answer.now c.args.denied tail.now c.if-denied.true d)

pub returns : goal.returns
returns g c =
    let zone = g.Z.ZoneStore.zone c.args.zone.now in
    let is = c.is_question.ensures ∙ ap (λ origin. is_same c.args.name.now origin && (c.args.kind == 2)) c.origin.ensures in
    IfSome_then c.ready_servers.result c.ready_servers.ensures
    (λ tail r. servers_behind zone c.args.name.now c.args.kind c.args.answer.now c.args.denied c.is_question.result tail.now c.if-denied.false is c.if-is_question.false r)
