use Rattle.std.specs.Prelude.{IfOk}
use Rattle.dns_write.specs.Assembled.{message_of}
use Rattle.dns_write.specs.Writes.{Writes}
use Rattle.chain_build.proofs.Served.{lent_written}
use Rattle.chain_build.proofs.serving.write_whole.Goals as goal

pub returns : goal.returns
returns c =
    lent_written (λ m. IfOk c.write_lent.result (Writes m c.args.limit)) c.args.ended (message_of c.args.parts.now) c.lent_by-tail.result c.lent_by-tail.ensures c.write_lent.ensures.lent c.write_lent.ensures.own
