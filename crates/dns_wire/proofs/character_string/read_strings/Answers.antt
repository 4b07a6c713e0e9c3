use Rattle.std.proofs.Common.{arith}
use Rattle.dns_wire.proofs.Strings.{strings_go_on, strings_end, no_strings}
use Rattle.dns_wire.proofs.character_string.read_strings.Goals as goal

pub returns-in_default-clause-spelt : goal.returns-in_default-clause-spelt
returns-in_default-clause-spelt c = no_strings c.loop-at.invariant.so_far c.loop-at-test.true c.in_default.ensures.none

pub loop-at-preserved : goal.loop-at-preserved
loop-at-preserved c = record {
  inside = c.in-Some.ensures.inside;
  so_far = rw (c.in_ok-push.ensures.ok, c.in_ok-from_slice.ensures) (strings_go_on c.loop-at.invariant.so_far c.in-Some.ensures.found c.in-Some.ensures.short c.in-Some.ensures.inside);
}

pub returns-clause-spelt : goal.returns-clause-spelt
returns-clause-spelt c = strings_end c.loop-at.invariant.so_far (omega arith)
