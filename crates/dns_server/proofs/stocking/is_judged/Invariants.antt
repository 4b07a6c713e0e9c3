use Rattle.std.proofs.Common.{◌≡◌, drop, map}
use Rattle.chain_meaning.specs.{named_in}
use Rattle.dns_server.proofs.stocking.is_judged.Given as goal

abbrev pub invariant-loop-judge : goal.invariant-loop-judge
invariant-loop-judge g l = named_in (map g.E.Extra.title (drop l.judge-index l.judges)) l.name ≡ named_in (map g.E.Extra.title l.judges) l.name
