use Rattle.std.proofs.Common.{[], ◌∷◌, List, map, refl, ap, ◌∙◌}
use Rattle.std.proofs.lemmas.List.{map-append}
use Rattle.ruled_lock.specs.Shuffles.{filled}
use Rattle.lent_caches.specs.declared.uses.HeldCache.{HeldCache}
use Rattle.lent_caches.specs.Held.{held_data, met_in}
use Rattle.lent_caches.proofs.Views.{none_met}
use Rattle.lent_caches.proofs.caches.Caches.make.Goals as goal

pub returns-clause-made : goal.returns-clause-made
returns-clause-made c =
    let u = c.in_ok-rest.rest in
    record {
      one = record { name = c.args.name; cache = u.cache; out = 0; logs = λ shard. filled (met_in u.views shard) };
      new = record { name_is = refl; judge_is = c.in_ok-rest.ensures.cache.0; room = c.in_ok-rest.ensures.cache.1; none_out = refl; none_back = λ shard. none_met u.views shard c.in_ok-rest.ensures.new };
      behind = ap (λ (l : List HeldCache). map held_data l) c.in_ok-push.ensures.items ∙ map-append held_data c.args.self.now.held.items (_ ∷ []);
    }
