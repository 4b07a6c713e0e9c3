use Rattle.std.proofs.Common.{◌<◌, length, ap, sym, ◌∙◌, arith}
use Rattle.dns_write.specs.Timed.{all_timed, timed}
use Rattle.dns_write.specs.Written.{Draft, put_record}
use Rattle.dns_write.proofs.Timing.{got_timed, length_timed}
use Rattle.dns_write.proofs.Truncating.{stops, put_records-next, proper-next}
use Rattle.dns_write.proofs.write.put_each.Goals as goal

pub returns-then-not-branch : goal.returns-then-not-branch
returns-then-not-branch g c =
    let f = g.T.Ttls.ttl_of c.args.times.now in
    let rs = all_timed f c.args.records.now in
    let i = c.loop-rr.invariant in
    let w = rw c.if-not-branch.true at c.in_ok-put_within.ensures.text in
    let low : c.loop-rr.rr-index < length c.args.records.now = omega arith in
    let inside : c.loop-rr.rr-index < length rs = omega (arith, low, length_timed f c.args.records.now) in
    let is = got_timed f c.args.records.now c.loop-rr.rr-index c.rr-item.result low c.rr-item.is in
    rw (← i.count) at (stops rs (timed f c.rr-item.result) i.text i.fits i.proper inside is c.put_within.new.writer w.0 w.1)

pub loop-rr-preserved : goal.loop-rr-preserved
loop-rr-preserved g c =
    let f = g.T.Ttls.ttl_of c.args.times.now in
    let rs = all_timed f c.args.records.now in
    let r = timed f c.rr-item.result in
    let i = c.loop-rr.invariant in
    let w = rw c.if-not-branch.false at c.in_ok-put_within.ensures.text in
    let low : c.loop-rr.rr-index < length c.args.records.now = omega arith in
    let inside : c.loop-rr.rr-index < length rs = omega (arith, low, length_timed f c.args.records.now) in
    let is = got_timed f c.args.records.now c.loop-rr.rr-index c.rr-item.result low c.rr-item.is in
    record {
      count = omega arith;
      text = w.0 ∙ ap (λ (d : Draft). put_record d r) i.text ∙ sym (put_records-next c.args.writer.now rs c.loop-rr.rr-index r inside is);
      fits = w.1;
      proper = proper-next rs c.loop-rr.rr-index r inside is i.proper c.in_ok-put_within.ensures.proper;
    }
