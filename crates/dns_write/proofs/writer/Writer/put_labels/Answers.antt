use Rattle.dns_write.proofs.Drafts.{put_none}
use Rattle.dns_write.proofs.writer.Writer.put_labels.Goals as goal

pub returns-then-wire-eq0 : goal.returns-then-wire-eq0
returns-then-wire-eq0 c = put_none c.args.self.now c.args.wire.now c.if-wire-eq0.true
