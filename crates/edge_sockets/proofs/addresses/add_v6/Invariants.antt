use Rattle.std.proofs.Common.{◌≤◌, max, vec_len}
use Rattle.edge_sockets.proofs.addresses.add_v6.Given as goal

abbrev pub invariant-loop-line : goal.invariant-loop-line
invariant-loop-line l = vec_len l.found ≤ max 32 (vec_len l.fn.found)
