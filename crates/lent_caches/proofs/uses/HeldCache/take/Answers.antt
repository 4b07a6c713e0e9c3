use Rattle.std.proofs.Common.{◌-◌, ◌∙◌}
use Rattle.lent_caches.proofs.Views.{met_logs, rest_met, some_out}
use Rattle.lent_caches.proofs.uses.HeldCache.take.Goals as goal

pub overflow_sub-self : goal.overflow_sub-self
overflow_sub-self c =
    let old = c.args.self.now in
    let lent = c.args.lent in
    let eight = c.meet.ensures.same.views ∙ old.kept.0 in
    some_out old.rest.views lent.of.views c.meet.new.self.views c.meet.ensures.meets old.out old.kept.0 lent.lent.0 eight old.kept.1 lent.lent.1

pub invariant_of-self : goal.invariant_of-self
invariant_of-self c =
    let old = c.args.self.now in
    let lent = c.args.lent in
    let eight = c.meet.ensures.same.views ∙ old.kept.0 in
    record { kept = (eight, rest_met old.rest.views lent.of.views c.meet.new.self.views c.meet.ensures.meets old.out old.kept.0 lent.lent.0 eight old.kept.1 lent.lent.1) }

pub returns : goal.returns
returns c =
    let old = c.args.self.now in
    let lent = c.args.lent in
    let eight = c.meet.ensures.same.views ∙ old.kept.0 in
    λ i. record {
      name = old.name;
      cache = c.meet.ensures.same.cache i;
      out = old.out - 1;
      logs = met_logs old.rest.views lent.of.views c.meet.new.self.views c.meet.ensures.meets old.kept.0 lent.lent.0 eight lent.lent.1 i;
    }
