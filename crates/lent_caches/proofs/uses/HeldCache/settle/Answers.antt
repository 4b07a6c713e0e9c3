use Rattle.std.proofs.Common.{ℕ, subst}
use Rattle.lent_caches.specs.Judging.{is_just}
use Rattle.lent_caches.specs.Uses.{EachAt, IsHeldAt}
use Rattle.lent_caches.proofs.Views.{all_whole}
use Rattle.lent_caches.proofs.uses.HeldCache.settle.Goals as goal

pub returns : goal.returns
returns c =
    let rest = c.args.self.rest in
    all_whole rest.cache (is_just rest.cache.judge) rest.views c.args.self.kept.0 (subst (λ (n : ℕ). EachAt (IsHeldAt n) rest.views) c.requires c.args.self.kept.1) c.whole.ensures.whole
