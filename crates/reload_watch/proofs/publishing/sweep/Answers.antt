use Rattle.pin_table.specs.declared.views.Past.{Past}
use Rattle.std.proofs.Common.{rules, subst, sym}
use Rattle.lent_caches.specs.Held.{caches_data}
use Rattle.pin_table.specs.{plan_of}
use Rattle.reload_watch.specs.Named.{AreNamed}
use Rattle.reload_watch.proofs.Caching.{swept_served}
use Rattle.reload_watch.proofs.publishing.sweep.Goals as goal

pub returns-clause-swept : goal.returns-clause-swept
returns-clause-swept g c = (c.free_slot.result, c.free_slot.ensures.freed)

pub returns-clause-keeping : goal.returns-clause-keeping
returns-clause-keeping g c =
    let k = c.requires.keeping in
    let e = c.free_slot.ensures in
    record {
      own = search rules;
      filled = search rules;
      workers = search rules;
      some = k.some;
      few = k.few;
      joined = search rules;
      count = search rules;
      placed = e.placed;
      within = search rules;
      current = search rules;
      are = k.are;
      gathered = k.gathered;
      names = search rules;
      judges = search rules;
      spare = e.obey;
      stands = e.stands;
      places = e.places;
      home = search rules;
      caches = e.caches;
      served = swept_served c.args.table.now c.args.watcher.now (plan_of c.free_slot.new.publisher) (caches_data c.free_slot.new.caches) k e.keeps e.placed e.stands e.caches;
      named = subst (λ (q : Past _). AreNamed q.filled) (sym e.keeps.past) k.named;
      accounted = e.accounted;
    }
