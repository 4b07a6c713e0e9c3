use Rattle.std.proofs.Common.{◌≡◌, rules}
use Rattle.plain_plugins.specs.{error_line}
use Rattle.chain_meaning.specs.Mean.{error_noted}
use Rattle.chain_meaning.specs.MeanLaws.{error_nothing}
use Rattle.chain_build.specs.Walking.{decision_of}
use Rattle.chain_build.proofs.LoggedWalks.{quiet_code, quiet_other, quiet_starved}
use Rattle.chain_build.proofs.Walks.{decided-err}
use Rattle.chain_build.proofs.noting.note_ended.Goals as goal

pub returns-in_err-line : goal.returns-in_err-line
returns-in_err-line g c answer =
    let v = decision_of c.args.ended answer in
    quiet_starved (error_noted c.args.query.now v) (decided-err c.from_residual.result answer c.from_residual.ensures.0) (error_nothing c.args.query.now v)

pub returns-in-Code : goal.returns-in-Code
returns-in-Code g c answer =
    let line : c.as_bytes.result.now ≡ error_line c.args.query.now c.in-Code.code c.in-Code.cause = search rules in
    quiet_code c.args.query.now c.args.ended c.in-Code.code c.in-Code.cause answer c.as_bytes.result.now c.note.result c.in-Code.is line c.note.ensures.told c.note.ensures.counts.stays

pub returns : goal.returns
returns g c answer = quiet_other c.args.query.now c.args.ended answer c.in_default.not-Code
