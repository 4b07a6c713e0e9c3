use Rattle.std.proofs.Common.{◌≡◌, rules}
use Rattle.std.proofs.lemmas.List.Elements.{All-push}
use Rattle.plugin_api.specs.{Obeys}
use Rattle.extra_stock.specs.Stocks.{is_named, names_weigh}
use Rattle.extra_stock.specs.StocksLaws.{one_left}
use Rattle.extra_stock.proofs.spares.seat_block.Goals as goal

pub unreachable-requires : goal.unreachable-requires
unreachable-requires g c =
    let d = c.directive-item.result in
    let name : c.as_bytes.result.now ≡ d.name = search rules in
    let none : names_weigh g.E.Extra.title (is_named d.name) c.loop-directive.spare.items ≡ 0 = search (rules, name) in
    one_left g.E.Extra.title c.loop-directive.spare.items c.args.spare.now.items c.args.directives.now c.loop-directive.directive-index d c.loop-directive-test.true c.directive-item.is
    (c.loop-directive.invariant.weighs (is_named d.name)) (c.requires.enough d.name) none

pub give_back-requires-clause-obey : goal.give_back-requires-clause-obey
give_back-requires-clause-obey g c =
    rw c.push_reserved-in-Err.ensures.items
    (All-push (λ e. Obeys g.B.Rulebook.taken g.B.Rulebook.said (g.E.Extra.title e) (g.E.Extra.takes e) (g.E.Extra.ruling e)) c.take.new.spare.items c.in-Err.extra c.take.ensures.obey c.in-Err.ensures.obeys)
