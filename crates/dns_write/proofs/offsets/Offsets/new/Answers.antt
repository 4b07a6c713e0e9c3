use Rattle.std.proofs.Common.{refl, sym, subst, arith}
use Rattle.std.specs.List.{AllByRecursion}
use Rattle.dns_write.specs.Offsets.{IsOffset}
use Rattle.dns_write.proofs.FirstName.{wire_of_none}
use Rattle.dns_write.proofs.offsets.Offsets.new.Goals as goal

pub invariant_of-result : goal.invariant_of-result
invariant_of-result c = record {
  wire = wire_of_none;
  few = omega arith;
  inside = omega arith;
  long = refl;
  none_far = λ _. c.new.ensures.items;
  near_are = tt;
  far_are = subst (AllByRecursion IsOffset) (sym c.new.ensures.items) tt;
}
