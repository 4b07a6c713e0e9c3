use Rattle.std.proofs.Common.{◌+◌}
use Rattle.lent_caches.proofs.Views.{is_lent, lent_logs, rest_lent}
use Rattle.lent_caches.proofs.uses.HeldCache.lend.Goals as goal

pub invariant_of-self-2 : goal.invariant_of-self-2
invariant_of-self-2 c = record { kept = rest_lent c.args.self.now.out c.args.self.now.rest c.split.new.self c.in_ok-of.ensures.left c.requires c.args.self.now.kept }

pub invariant_of-result : goal.invariant_of-result
invariant_of-result c = record { lent = is_lent c.args.self.now.rest c.in_ok-of.of c.in_ok-of.ensures.right c.args.self.now.kept.0 }

pub returns-clause-held : goal.returns-clause-held
returns-clause-held c = λ i. record {
  name = c.args.self.now.name;
  cache = c.in_ok-of.ensures.same.cache i;
  out = c.args.self.now.out + 1;
  logs = lent_logs c.args.self.now.rest.views c.split.new.self.views c.in_ok-of.ensures.left i;
}
