use Rattle.lent_caches.proofs.Keeping.{lent_stays}
use Rattle.lent_caches.proofs.uses.LentCache.find.Goals as goal

pub invariant_of-self : goal.invariant_of-self
invariant_of-self g c =
    let old = c.args.self.now in
    record { lent = lent_stays old.of c.find.new.self old.lent c.find.ensures.same c.find.ensures.keeps }
