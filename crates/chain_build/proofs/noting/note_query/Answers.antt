use Rattle.std.proofs.Common.{◌≡◌, false, true, rules}
use Rattle.plain_plugins.specs.{log_line, plain_zones}
use Rattle.zone_words.specs.{is_in}
use Rattle.chain_meaning.specs.Mean.{outcome_of, query_noted}
use Rattle.chain_meaning.specs.MeanLaws.{query_nothing}
use Rattle.chain_build.specs.Giving.{decision_in}
use Rattle.chain_build.proofs.LoggedWalks.{quiet_beyond, quiet_query, quiet_starved}
use Rattle.chain_build.proofs.Walks.{gave-err}
use Rattle.chain_build.proofs.noting.note_query.Goals as goal

pub returns-in_err-line : goal.returns-in_err-line
returns-in_err-line g c =
    let v = decision_in c.args.given c.args.slot.now in
    quiet_starved (query_noted c.args.plan.now c.args.query.now v) (gave-err c.from_residual.result c.args.slot.now c.from_residual.ensures.0) (query_nothing c.args.plan.now c.args.query.now v)

pub returns : goal.returns
returns g c =
    let v = decision_in c.args.given c.args.slot.now in
    let line : c.as_bytes.result.now ≡ log_line c.args.query.now (outcome_of v) = search rules in
    let inside : is_in c.args.query.now.name (plain_zones c.args.plan.now) ≡ true = search rules in
    quiet_query c.args.plan.now c.args.query.now v c.as_bytes.result.now c.note.result inside line c.note.ensures.told c.note.ensures.counts.stays

pub returns-then-not-covers : goal.returns-then-not-covers
returns-then-not-covers g c =
    let beyond : is_in c.args.query.now.name (plain_zones c.args.plan.now) ≡ false = search rules in
    quiet_beyond c.args.plan.now c.args.query.now (decision_in c.args.given c.args.slot.now) beyond
