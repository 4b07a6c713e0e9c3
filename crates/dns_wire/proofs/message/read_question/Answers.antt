use Rattle.std.proofs.Common.{arith}
use Rattle.dns_wire.specs.Asked.{question_by}
use Rattle.dns_wire.proofs.Names.{same_end}
use Rattle.dns_wire.proofs.Reading.{fails_as}
use Rattle.dns_wire.proofs.message.read_question.Goals as goal

pub returns-in_err-middle-clause-spelt : goal.returns-in_err-middle-clause-spelt
returns-in_err-middle-clause-spelt c =
    fails_as (question_by c.read_first_name.new.name) c.in_err-middle.field-0.0 c.in_err-middle.ensures.spelt c.from_residual.result c.from_residual.ensures.1 (λ found h. ((found.0.name, h.middle), h.name))

pub returns-then-bytes-middle-lt4-clause-spelt : goal.returns-then-bytes-middle-lt4-clause-spelt
returns-then-bytes-middle-lt4-clause-spelt c = λ found h.
    let same = same_end c.args.bytes.now c.args.at c.in_ok-middle.middle h.middle c.read_first_name.new.name found.0.name c.in_ok-middle.ensures.spelt h.name in
    omega (arith, same, h.behind_is, h.inside)
