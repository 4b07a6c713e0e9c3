use Rattle.std.proofs.lemmas.Result.{IfOk-weaker}
use Rattle.dns_data.specs.declared.limit.TheConstants as limits
use Rattle.dns_wire.specs.Spells.{Spells}
use Rattle.dns_write.specs.Writes.{Writes}
use Rattle.forward_plugin.specs.Forward.{ask_of}
use Rattle.forward_plugin.proofs.Asks.{spelt_whole}
use Rattle.forward_plugin.proofs.ask.ask_bytes.Goals as goal

pub returns-clause-spelt : goal.returns-clause-spelt
returns-clause-spelt c =
    let ask = ask_of c.args.word c.args.query.now in
    IfOk-weaker c.write_parts.result (Writes (record ask { opt = c.opt_of.result }) limits.UDP_BYTES) (λ bytes. Spells bytes ask)
    (spelt_whole c.args.word c.args.query.now c.opt_of.result c.opt_of.ensures) c.write_parts.ensures
