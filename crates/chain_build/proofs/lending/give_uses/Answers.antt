use Rattle.std.proofs.Common.{◌∙◌}
use Rattle.lent_caches.specs.Held.{caches_data}
use Rattle.chain_build.specs.Lending.{lents_in}
use Rattle.chain_build.proofs.Lendings.{first_held, given_apart, others_given, others_held}
use Rattle.chain_build.proofs.lending.give_uses.Goals as goal

pub give_cache-requires-clause-held : goal.give_cache-requires-clause-held
give_cache-requires-clause-held c =
    first_held c.loop-cache.uses.items c.pop.new.self.items c.in-Some.field-0 (caches_data c.loop-cache.caches) c.in-Some.ensures.items c.loop-cache.invariant.held

pub loop-cache-preserved : goal.loop-cache-preserved
loop-cache-preserved c =
    let items = c.loop-cache.uses.items in
    let rest = c.pop.new.self.items in
    let u = c.in-Some.field-0 in
    let hs = caches_data c.loop-cache.caches in
    let after = caches_data c.give_cache.new.caches in
    let was = c.loop-cache.invariant in
    record {
      given = others_given items rest u hs c.in-Some.ensures.items was.held after c.give_cache.ensures ∙ was.given;
      held = others_held items rest u hs c.in-Some.ensures.items was.held after c.give_cache.ensures;
      apart = given_apart (lents_in u.cache) hs after c.give_cache.ensures was.apart;
    }
