use Rattle.std.proofs.Common.{ℕ, ◌+◌, length, ap, subst, rules, sym}
use Rattle.extra_stock.specs.{is_named, names_weigh}
use Rattle.pin_table.specs.declared.views.Past.{Past}
use Rattle.pin_table.specs.{plan_of}
use Rattle.reload_watch.specs.Shortage.{SaysStock, extras_at}
use Rattle.lent_caches.specs.Held.{caches_data}
use Rattle.reload_watch.specs.Named.{AreNamed}
use Rattle.reload_watch.proofs.Caching.{swept_served}
use Rattle.reload_watch.proofs.Stocked.{searched_free}
use Rattle.reload_watch.proofs.publishing.publish_next.Goals as goal

pub returns-in-Free-clause-searches : goal.returns-in-Free-clause-searches
returns-in-Free-clause-searches g c =
    searched_free (plan_of c.args.watcher.now.publisher) (plan_of c.free_slot-found.new.publisher) (plan_of c.publish_in.new.watcher.publisher) c.in-Free.slot c.publish_in.result c.in-Free.ensures.freed c.publish_in.ensures.slot

-- what was published before is as it was
pub returns-in-Free-clause-stock : goal.returns-in-Free-clause-stock
returns-in-Free-clause-stock g c =
    let title = g.E.Extra.title in
    let new = c.publish_in.new.watcher in
    subst (λ (n : ℕ). SaysStock c.args.watcher.now.workers c.args.plans.extras (λ name. names_weigh title (is_named name) new.stock.spare.items + extras_at (plan_of new.publisher).past.filled name n) c.publish_in.result)
    (ap (λ (q : Past _). length q.published) c.in-Free.ensures.keeps.past) c.publish_in.ensures.stock

-- what the watcher keeps behind the search
pub publish_in-requires-clause-keeping : goal.publish_in-requires-clause-keeping
publish_in-requires-clause-keeping g c =
    let k = c.requires.keeping in
    let e = c.free_slot-found.ensures in
    record {
      own = search rules;
      filled = search rules;
      workers = search rules;
      some = k.some;
      few = k.few;
      joined = search rules;
      count = search rules;
      placed = e.placed;
      within = search rules;
      current = search rules;
      are = k.are;
      gathered = k.gathered;
      names = search rules;
      judges = search rules;
      spare = e.obey;
      stands = e.stands;
      places = e.places;
      home = search rules;
      caches = e.caches;
      served = swept_served c.args.table.now c.args.watcher.now (plan_of c.free_slot-found.new.publisher) (caches_data c.free_slot-found.new.caches) k e.keeps e.placed e.stands e.caches;
      named = subst (λ (q : Past _). AreNamed q.filled) (sym e.keeps.past) k.named;
      accounted = e.accounted;
    }

pub returns-in-AllPinned-clause-keeping : goal.returns-in-AllPinned-clause-keeping
returns-in-AllPinned-clause-keeping g c =
    let k = c.requires.keeping in
    let e = c.free_slot-found.ensures in
    record {
      own = search rules;
      filled = search rules;
      workers = search rules;
      some = k.some;
      few = k.few;
      joined = search rules;
      count = search rules;
      placed = e.placed;
      within = search rules;
      current = search rules;
      are = k.are;
      gathered = k.gathered;
      names = search rules;
      judges = search rules;
      spare = e.obey;
      stands = e.stands;
      places = e.places;
      home = search rules;
      caches = e.caches;
      served = swept_served c.args.table.now c.args.watcher.now (plan_of c.free_slot-found.new.publisher) (caches_data c.free_slot-found.new.caches) k e.keeps e.placed e.stands e.caches;
      named = subst (λ (q : Past _). AreNamed q.filled) (sym e.keeps.past) k.named;
      accounted = e.accounted;
    }
