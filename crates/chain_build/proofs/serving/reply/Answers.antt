use Rattle.std.proofs.Common.{◌∙◌}
use Rattle.chain_meaning.specs.CallsByRun.{chain_calls}
use Rattle.chain_meaning.specs.Serving.{chain_decides}
use Rattle.chain_meaning.specs.declared.decision.Decision.TheVariants as decision
use Rattle.chain_build.specs.Giving.{decision_in}
use Rattle.chain_build.specs.Logs.{held_log}
use Rattle.chain_build.specs.Plans.{steps_in}
use Rattle.chain_build.specs.Workers.{server_in}
use Rattle.chain_build.specs.Walking.{decision_of}
use Rattle.chain_build.proofs.Served.{takes_at, told_at_once, told_by, told_starved, told_without}
use Rattle.chain_build.proofs.Walks.{tried}
use Rattle.chain_build.proofs.serving.reply.Goals as goal

pub returns-in_default-clause-tells : goal.returns-in_default-clause-tells
returns-in_default-clause-tells g c =
    told_at_once g.B.Rulebook.taken g.B.Rulebook.said c.args.plans.now c.args.held.now.serial c.args.arrived.now.datagram.now c.args.room.now.query.name c.args.beside c.fill_query.new.query
    (decision.Reply c.chain_for.new.slot) c.finish_apart.result c.tell.ensures.accepted c.requires.asks c.fill_query.ensures _ (held_log c.args.held.now.uses.items) c.in_default.ensures.none c.finish_apart.ensures

pub returns-in-Ok-Some-clause-tells : goal.returns-in-Ok-Some-clause-tells
returns-in-Ok-Some-clause-tells g c =
    let means = chain_decides (steps_in g.B.Rulebook.said c.in-Some.found.1.now) c.fill_query.new.query in
    let ended = tried means c.try_chain.new.room.walk.plugins.slot c.in-Ok-Some.field-0 c.in-Ok-Some.ended c.in-Ok-Some.ensures c.in-Ok-Some.field-0-is in
    told_at_once g.B.Rulebook.taken g.B.Rulebook.said c.args.plans.now c.args.held.now.serial c.args.arrived.now.datagram.now c.args.room.now.query.name c.args.beside c.fill_query.new.query
    (decision_of c.in-Ok-Some.ended c.try_chain.new.room.walk.plugins.slot) c.finish.result c.tell.ensures.accepted c.requires.asks c.fill_query.ensures _ (held_log c.args.held.now.uses.items)
    (λ left. c.in-Some.ensures.some left ∙ ended left) c.finish.ensures

pub returns-in-Ok-clause-tells : goal.returns-in-Ok-clause-tells
returns-in-Ok-clause-tells g c =
    told_by g.B.Rulebook.taken g.B.Rulebook.said c.args.plans.now c.args.held.now.serial c.args.arrived.now.datagram.now c.args.room.now.query.name c.args.beside c.fill_query.new.query
    (decision_in c.in-Ok.given c.run_found.new.room.walk.plugins.slot) c.finish_apart-in-Ok.result c.tell.ensures.accepted c.requires.asks c.fill_query.ensures
    (chain_calls (steps_in g.B.Rulebook.said c.in-Some.found.1.now) c.args.held.now.serial c.in-Some.found.0 c.fill_query.new.query) _ _ (c.in-Some.ensures.calls c.args.held.now.serial)
    (takes_at (chain_decides (steps_in g.B.Rulebook.said c.in-Some.found.1.now) c.fill_query.new.query) _ c.in-Some.ensures.some c.in-Ok.ensures.takes) c.finish_apart-in-Ok.ensures

pub returns-in-Err-run_found-clause-tells : goal.returns-in-Err-run_found-clause-tells
returns-in-Err-run_found-clause-tells g c =
    told_starved g.B.Rulebook.taken g.B.Rulebook.said c.args.plans.now c.args.held.now.serial c.args.arrived.now.datagram.now c.args.room.now.query.name c.args.beside c.fill_query.new.query
    (chain_calls (steps_in g.B.Rulebook.said c.in-Some.found.1.now) c.args.held.now.serial c.in-Some.found.0 c.fill_query.new.query) _ _ _ c.tell.ensures.accepted c.requires.asks c.fill_query.ensures (c.in-Some.ensures.calls c.args.held.now.serial)
    (takes_at (chain_decides (steps_in g.B.Rulebook.said c.in-Some.found.1.now) c.fill_query.new.query) _ c.in-Some.ensures.some c.in-Err-run_found.ensures.takes)

pub returns-in-Err-clause-tells : goal.returns-in-Err-clause-tells
returns-in-Err-clause-tells g c =
    told_without (server_in g.B.Rulebook.taken g.B.Rulebook.said c.args.plans.now c.args.held.now.serial) c.args.arrived.now.datagram.now _ (held_log c.args.held.now.uses.items)
