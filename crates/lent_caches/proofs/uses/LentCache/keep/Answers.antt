use Rattle.lent_caches.proofs.Keeping.{lent_stays}
use Rattle.lent_caches.proofs.uses.LentCache.keep.Goals as goal

pub invariant_of-self : goal.invariant_of-self
invariant_of-self g c =
    let old = c.args.self.now in
    record { lent = lent_stays old.of c.keep.new.self old.lent c.keep.ensures.same c.keep.ensures.keeps }
