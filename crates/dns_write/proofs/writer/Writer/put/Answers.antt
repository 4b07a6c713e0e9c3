use Rattle.std.proofs.Common.{ap, ◌∙◌, arith}
use Rattle.dns_write.specs.Written.{Draft, put}
use Rattle.dns_write.proofs.Ending.{put_there}
use Rattle.dns_write.proofs.writer.Writer.put.Goals as goal

pub returns : goal.returns
returns c =
    let bytes = put_there c.self.inside.out.items c.overwrite.new.out.items c.args.bytes.now c.self.inside.end c.self.invariant.0 (omega (arith, c.len.ensures, c.self.invariant.1, c.if-len-self.false)) c.overwrite.ensures in
    (λ i. record { bytes = bytes i; offsets = c.self.inside.offsets }) ∙ ap (λ (d : Draft). put d c.args.bytes.now) c.self.view_is
