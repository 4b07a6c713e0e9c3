use Rattle.std.proofs.Common.{sym}
use Rattle.outside_mem.proofs.SideCalls.{told_mark}
use Rattle.outside_mem.proofs.WatchSteps.{watch_tells_more, gives_out, starved, read_step, limited, quiet_read}
use Rattle.outside_mem.proofs.watch.MemWatchWatch.read.Goals as goal

pub invariant_of-self : goal.invariant_of-self
invariant_of-self c =
    let was = c.args.self.now in
    let same = starved was.feed c.read-out.new.self c.args.name.now c.read-out.result c.read-out.ensures (sym c.if-is_starved.ensures) in
    rw same (record { tells = was.tells; quiet_reads = was.quiet_reads; quiet_notes = was.quiet_notes })

pub invariant_of-self-2 : goal.invariant_of-self-2
invariant_of-self-2 c =
    let was = c.args.self.now in
    let out = gives_out c.args.self.now.feed c.read-out.new.self c.args.name.now c.read-out.result c.read-out.ensures (sym c.if-is_starved.ensures) in
    let mark = told_mark c.read-mark.result c.tell.ensures.told c.read-mark.ensures in
    record {
      tells = watch_tells_more was.tells mark c.tell.ensures.short (read_step out);
      quiet_reads = rw (out.used, c.count_read.ensures.faults) (quiet_read was.feed _ _ c.read-out.result out.given was.quiet_reads);
      quiet_notes = rw out.used was.quiet_notes;
    }

pub returns-clause-limited : goal.returns-clause-limited
returns-clause-limited c = limited (gives_out c.args.self.now.feed c.read-out.new.self c.args.name.now c.read-out.result c.read-out.ensures (sym c.if-is_starved.ensures))
