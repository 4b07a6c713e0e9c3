use Rattle.std.proofs.Common.{◌+◌, sym, ◌∙◌, arith}
use Rattle.dns_wire.proofs.Parts.{root_at}
use Rattle.dns_wire.proofs.record.plain_opt_at.Goals as goal

pub returns-clause-spelt : goal.returns-clause-spelt
returns-clause-spelt c = record {
  middle = c.args.at + 1;
  owner = root_at c.args.bytes.now c.args.at (record { inside = omega arith; is = c.if-bytes-at-ne0.false });
  ends = c.in_ok-behind.ensures.found;
  kind = sym c.u16_at.ensures ∙ c.if-u16_at-ne-OPT.false;
  fields = c.opt_at.ensures;
}
