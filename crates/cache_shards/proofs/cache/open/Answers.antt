use Rattle.std.proofs.Common.{◌∙◌, ap, refl}
use Rattle.cache_shards.proofs.cache.open.Goals as goal

pub returns-in-Ok-new-3-clause-own : goal.returns-in-Ok-new-3-clause-own
returns-in-Ok-new-3-clause-own g c =
    let e = c.in-Ok-new-3.ensures in
    let b = c.in-Ok-new-2.ensures.ok in
    record {
      own = e.own;
      start = _;
      starts = ap (λ v. v.start) e.seat;
      empty = record {
        success = ap (λ s. s.success) b ∙ c.in-Ok.ensures;
        denial = ap (λ s. s.denial) b
            ∙ c.in-Ok-new.ensures;
      };
      judge_is = refl;
    }
