use Rattle.std.proofs.Common.{◌∙◌, IfOk, subst}
use Rattle.dns_data.specs.Message.{MessageData}
use Rattle.dns_write.specs.Assembled.{message_of}
use Rattle.dns_write.specs.Writes.{Writes}
use Rattle.dns_write.proofs.Timing.{both_some, own_message, then_none, then_some}
use Rattle.dns_write.proofs.write.write_lent.Goals as goal

pub write_behind-requires-clause-tail : goal.write_behind-requires-clause-tail
write_behind-requires-clause-tail c = both_some _ c.args.tail c.whole_parts.ensures.lends (λ t. own_message (message_of c.whole_parts.result))

pub returns-clause-lent : goal.returns-clause-lent
returns-clause-lent c =
    then_some c.args.tail c.whole_parts.ensures.lent (λ t e. subst (λ (m : MessageData). IfOk c.write_behind.result (Writes m c.args.limit)) (own_message (message_of c.whole_parts.result) ∙ e) c.write_behind.ensures)

pub returns-clause-own : goal.returns-clause-own
returns-clause-own c =
    then_none c.args.tail c.whole_parts.ensures.own (λ e. subst (λ (m : MessageData). IfOk c.write_behind.result (Writes m c.args.limit)) (own_message (message_of c.whole_parts.result) ∙ e) c.write_behind.ensures)
