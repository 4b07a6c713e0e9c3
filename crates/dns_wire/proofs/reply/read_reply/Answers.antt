use Rattle.dns_wire.proofs.Reading.{fails}
use Rattle.dns_wire.proofs.reply.read_reply.Goals as goal

pub returns-in_err-message-clause-read : goal.returns-in_err-message-clause-read
returns-in_err-message-clause-read c = fails c.in_err-message.field-0.0 c.in_err-message.ensures.spelt c.from_residual.result c.from_residual.ensures.1 (λ m h. (m, h.message))
