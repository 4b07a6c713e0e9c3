use Rattle.std.proofs.Common.{sym, arith}
use Rattle.dns_server.proofs.Ended.{never, some, took}
use Rattle.dns_server.proofs.ending.end_status.Goals as goal

pub returns-then-some_failed : goal.returns-then-some_failed
returns-then-some_failed g c = (
  never g.S.Side.state c.args.dones.now (sym c.if-some_starved.ensures),
  some g.S.Side.state c.args.dones.now (sym c.if-some_failed.ensures),
  omega (arith, c.if-looking-gt0.false),
)

pub returns : goal.returns
returns g c =
    let none = never g.S.Side.state c.args.dones.now (sym c.if-some_starved.ensures) in
    (took g.S.Side.state c.args.dones.now (sym c.if-some_failed.ensures) none, omega (arith, c.if-looking-gt0.false))
