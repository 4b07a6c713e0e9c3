use Rattle.std.proofs.Common.{◌≡◌, length, ap, ◌∙◌, arith}
use Rattle.dns_write.specs.Timed.{timed}
use Rattle.dns_write.specs.Written.{Draft, put_record}
use Rattle.dns_write.proofs.Drafts.{Grown, grown-record, taken_back}
use Rattle.dns_write.proofs.write.put_within.Goals as goal

pub returns-clause-text : goal.returns-clause-text
returns-clause-text g c =
    let r = timed (g.T.Ttls.ttl_of c.args.times.now) c.args.rr.now in
    let put : c.put_record.new.writer ≡ put_record c.args.writer.now r = c.in_ok-put_record.ensures.text in
    let grown : Grown c.args.writer.now c.put_record.new.writer _ _ = rw (← put) at (grown-record c.args.writer.now r) in
    (c.back_to.ensures ∙ taken_back c.mark-mark.result.bytes c.mark-mark.result.offsets grown c.mark-mark.ensures.bytes c.mark-mark.ensures.offsets, omega (arith, c.len.ensures, ap (λ (d : Draft). length d.bytes) put))
