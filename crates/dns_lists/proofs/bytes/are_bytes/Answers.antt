use Rattle.std.proofs.Common.{arith}
use Rattle.dns_lists.proofs.bytes.are_bytes.Goals as goal

pub returns : goal.returns
returns c k = omega (arith, c.type_inv.items k)
