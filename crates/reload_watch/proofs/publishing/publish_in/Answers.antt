use Rattle.std.proofs.Common.{◌≡◌, ◌+◌, ℕ, List, ◌∷◌, map, None, inl, inr, rules, refl, sym, ap, subst, ◌∙◌, arith}
use Rattle.std.specs.Arc.{arc_value}
use Rattle.extra_stock.specs.{IsShort, first_short, is_named, names_weigh}
use Rattle.pin_table.specs.{count_of, plan_of}
use Rattle.reload_watch.specs.Shortage.{extras_at}
use Rattle.reload_watch.proofs.Counting.{last_at, none_at}
use Rattle.chain_build.specs.{PlansData}
use Rattle.chain_build.specs.Lending.{chain_names}
use Rattle.chain_build.specs.Naming.{IsOfPlans, PlansServed, plans_generation}
use Rattle.chain_build.specs.declared.naming.Naming.{Naming}
use Rattle.chain_meaning.specs.{ground_at}
use Rattle.corefile_bundle.specs.{IsGathered}
use Rattle.dns_data.specs.declared.directive.Directive.{Directive}
use Rattle.lent_caches.specs.Building.{CanLendTimes, lent_times}
use Rattle.lent_caches.specs.Held.{caches_data}
use Rattle.reload_watch.specs.NextLaws.{Keeps, next_absent, next_can, next_keeps, next_out, next_served, next_undone}
use Rattle.reload_watch.specs.Named.{AreNamed}
use Rattle.reload_watch.specs.NamedLaws.{have_caches, named-push, names_on, of_plans}
use Rattle.reload_watch.proofs.Caching.{long_last, naming_is}
use Rattle.reload_watch.proofs.Stocked.{short_less}
use Rattle.outside.specs.declared.mark.WatchMark.TheVariants.{Published}
use Rattle.outside.specs.Journals.{watch-adds-then}
use Rattle.outside.specs.WatchMarks.{AddsWatch}
use Rattle.run_meaning.specs.declared.looking.Looking.TheVariants as answer
use Rattle.run_meaning.specs.Answers.{note_marks}
use Rattle.run_meaning.specs.Messages.{look_text}
use Rattle.reload_watch.proofs.publishing.publish_in.Goals as goal

pub returns-in-Ok-build-clause-publishes : goal.returns-in-Ok-build-clause-publishes
returns-in-Ok-build-clause-publishes g c = record {
  few = search rules;
  serial_is = search rules;
  replaces = record {
    published = search rules;
    chains = c.in-Ok-build.chains.items;
    filled = search rules;
    serve = search rules;
    bundle_is = c.in-Ok-name_next.ensures.names.same.bundle;
    basis = (λ i. ground_at (c.in-Ok-name_next.ensures.names.same.default_port i) (c.in-Ok-name_next.ensures.names.same.names i)) ∙ c.requires.basis;
    are = c.in-Ok-name_next.ensures.are;
  };
  flag = c.note_line.ensures.notes.flag;
  told =
      let line : c.as_bytes.result.now ≡ look_text (answer.Published c.published-serial.result) = c.as_bytes.ensures.value ∙ c.in-Ok.ensures.ok in
      subst (λ (l : List ℕ). AddsWatch (g.W.PatternMaker.state c.args.watcher.now.watch) (g.W.PatternMaker.state c.note_line.new.watch) (Published c.published-serial.result ∷ note_marks l c.note_line.ensures.notes.flag)) line
      (watch-adds-then c.show_published.ensures.told c.note_line.ensures.notes.told);
}

pub returns-in-Err-StockShort-clause-publishes : goal.returns-in-Err-StockShort-clause-publishes
returns-in-Err-StockShort-clause-publishes g c =
    let e = c.in-Err-StockShort in
    let workers = c.args.watcher.now.workers in
    let plans = arc_value c.in-Ok-name_next.next in
    let short = rw e.field-0-is at e.ensures.short in
    let less = short_less workers plans.extras (λ n. names_weigh g.E.Extra.title (is_named n) c.args.watcher.now.stock.spare.items) e.name e.asked e.had short in
    elim c.note_look.ensures.notes.either [
      | inl w ↦ rw w.0 (refl, record { few = c.requires.few; short = less; noted = w.1 })
      | inr w ↦ rw w.0 (refl, w.1)
    ]

pub returns-in-Err-StockShort-clause-stock : goal.returns-in-Err-StockShort-clause-stock
returns-in-Err-StockShort-clause-stock g c =
    let e = c.in-Err-StockShort in
    let title = g.E.Extra.title in
    let workers = c.args.watcher.now.workers in
    let plan = plan_of c.args.watcher.now.publisher in
    let old : List ℕ → ℕ = λ n. names_weigh title (is_named n) c.args.watcher.now.stock.spare.items in
    let new : List ℕ → ℕ = λ n. names_weigh title (is_named n) c.build.new.stock.spare.items + extras_at plan.past.filled n (count_of plan) in
    let same : (n : List ℕ) → new n ≡ old n = λ n. let less = e.ensures.err (is_named n) in let none = none_at plan.past.filled n (count_of plan) c.requires.keeping.count in omega (arith, less, none) in
    let short = rw e.field-0-is at e.ensures.short in
    let extras_are = c.in-Ok-name_next.ensures.names.same.extras in
    let now = subst (λ (h : List ℕ → ℕ). IsShort workers c.args.plans.extras h e.name e.asked e.had) (λ i n. (sym (same n)) i)
    (subst (λ (l : List (List Directive)). IsShort workers l old e.name e.asked e.had) extras_are short) in
    elim c.note_look.ensures.notes.either [
      | inl w ↦ rw w.0 now
      | inr w ↦ rw w.0 tt
    ]

-- the chains that were built have what is gone of the stock
pub returns-in-Ok-build-clause-stock : goal.returns-in-Ok-build-clause-stock
returns-in-Ok-build-clause-stock g c =
    let title = g.E.Extra.title in
    let workers = c.args.watcher.now.workers in
    let plan = plan_of c.args.watcher.now.publisher in
    let filled = (plan_of c.publish.new.publisher).past.filled in
    let chains = c.in-Ok-build.chains.items in
    let extras_are = c.in-Ok-name_next.ensures.names.same.extras in
    let old : List ℕ → ℕ = λ n. names_weigh title (is_named n) c.args.watcher.now.stock.spare.items in
    let new : List ℕ → ℕ = λ n. names_weigh title (is_named n) c.build.new.stock.spare.items + extras_at filled n (count_of plan) in
    let same : (n : List ℕ) → new n ≡ old n = λ n.
    let gone = c.in-Ok-build.ensures.ok (is_named n) in
    let built = c.in-Ok-build.ensures.made.weigh (is_named n) in
    let here = ap (λ (l : List (List _)). extras_at l n (count_of plan)) c.publish.ensures.published.filled ∙ last_at plan.past.filled chains n (count_of plan) c.requires.keeping.count in
    omega (arith, gone, built, here) in
    subst (λ (h : List ℕ → ℕ). first_short workers c.args.plans.extras h ≡ None) (λ i n. (sym (same n)) i)
    (subst (λ (l : List (List Directive)). first_short workers l old ≡ None) extras_are c.in-Ok-build.ensures.short)

pub returns-in-Ok-build-clause-slot : goal.returns-in-Ok-build-clause-slot
returns-in-Ok-build-clause-slot g c = (c.in-Ok-build.chains.items, c.publish.ensures.published, c.publish.ensures.weighs)

pub returns-in-Err-StockShort-clause-slot : goal.returns-in-Err-StockShort-clause-slot
returns-in-Err-StockShort-clause-slot g c = elim c.note_look.ensures.notes.either [
  | inl w ↦ rw w.0 refl
  | inr w ↦ rw w.0 refl
]

pub name_next-requires-clause-absent : goal.name_next-requires-clause-absent
name_next-requires-clause-absent g c =
    let k = c.requires.keeping in
    let w = c.args.watcher.now in
    let p = plan_of w.publisher in
    let current = arc_value w.current in
    let held = caches_data w.caches in
    let naming : Naming = record { alloc = c.args.alloc; serial = c.published-serial.result; before = c.generation.result; seed = w.seed } in
    let is = naming_is c.args.table.now w naming k c.published-serial.ensures (subst (λ (q : PlansData). IsOfPlans q c.generation.result) c.deref.ensures c.generation.ensures) in
    next_absent p held naming is

pub name_next-requires-clause-out : goal.name_next-requires-clause-out
name_next-requires-clause-out g c =
    let k = c.requires.keeping in
    let w = c.args.watcher.now in
    let p = plan_of w.publisher in
    let current = arc_value w.current in
    let held = caches_data w.caches in
    let naming : Naming = record { alloc = c.args.alloc; serial = c.published-serial.result; before = c.generation.result; seed = w.seed } in
    let is = naming_is c.args.table.now w naming k c.published-serial.ensures (subst (λ (q : PlansData). IsOfPlans q c.generation.result) c.deref.ensures c.generation.ensures) in
    next_out p held naming is

pub build-requires-clause-can : goal.build-requires-clause-can
build-requires-clause-can g c =
    let k = c.requires.keeping in
    let w = c.args.watcher.now in
    let p = plan_of w.publisher in
    let current = arc_value w.current in
    let held = caches_data w.caches in
    let naming : Naming = record { alloc = c.args.alloc; serial = c.published-serial.result; before = c.generation.result; seed = w.seed } in
    let is = naming_is c.args.table.now w naming k c.published-serial.ensures (subst (λ (q : PlansData). IsOfPlans q c.generation.result) c.deref.ensures c.generation.ensures) in
    let next = arc_value c.in-Ok-name_next.next in
    let mid = caches_data c.name_next.new.caches in
    let named = c.in-Ok-name_next.ensures in
    subst (λ (n : ℕ). CanLendTimes n (chain_names next.chains) mid) k.workers (next_can p held naming is c.args.plans next mid named.are named.names)

pub returns-in-Ok-build-clause-keeping : goal.returns-in-Ok-build-clause-keeping
returns-in-Ok-build-clause-keeping g c =
    let k = c.requires.keeping in
    let w = c.args.watcher.now in
    let p = plan_of w.publisher in
    let current = arc_value w.current in
    let held = caches_data w.caches in
    let naming : Naming = record { alloc = c.args.alloc; serial = c.published-serial.result; before = c.generation.result; seed = w.seed } in
    let of = subst (λ (q : PlansData). IsOfPlans q c.generation.result) c.deref.ensures c.generation.ensures in
    let is = naming_is c.args.table.now w naming k c.published-serial.ensures of in
    let next = arc_value c.in-Ok-name_next.next in
    let mid = caches_data c.name_next.new.caches in
    let named = c.in-Ok-name_next.ensures in
    let chains = c.in-Ok-build.chains.items in
    let built = c.in-Ok-build.ensures in
    let pub_is = c.publish.ensures in
    let after = plan_of c.publish.new.publisher in
    let lent = built.lent ∙ ap (λ (n : ℕ). lent_times n (chain_names next.chains) mid) (sym k.workers) in
    let long = built.made.count ∙ sym k.workers in
    let names_are : c.args.plans.names ≡ map g.E.Extra.title c.build.new.stock.judges.items = search rules in
    record {
      own = search rules;
      filled = search rules;
      workers = search rules;
      some = k.some;
      few = k.few;
      joined = search rules;
      count = search rules;
      placed = search rules;
      within = search rules;
      current = record { earlier = p.past.filled; chains = chains; last_is = pub_is.published.filled; serve = built.made.by };
      are = named.are;
      gathered = subst IsGathered (sym named.names.same.bundle) c.requires.gathered;
      names = named.names.same.names ∙ names_are;
      judges = search rules;
      spare = search rules;
      stands = pub_is.stands;
      places = search rules;
      home = search rules;
      caches = next_keeps p held naming is c.args.plans next mid named.are named.names after chains (caches_data c.build.new.caches) pub_is.published built.made.by long lent;
      served = next_served p held naming is c.args.plans next mid named.are named.names after chains (caches_data c.build.new.caches) pub_is.published built.made.by long lent;
      named = subst AreNamed (sym pub_is.published.filled)
          (named-push p.past.filled current next chains (count_of p) k.named k.current (long_last c.args.table.now w k) k.count
          (names_on naming _ next (plans_generation current) (count_of p) (of_plans current naming.before of) c.published-serial.ensures named.names.names)
          (have_caches g.B.Rulebook.taken g.B.Rulebook.said naming _ next named.are named.names.names) built.made.by);
      accounted = pub_is.accounted;
    }

pub returns-in-Err-StockShort-clause-keeping : goal.returns-in-Err-StockShort-clause-keeping
returns-in-Err-StockShort-clause-keeping g c =
    let k = c.requires.keeping in
    let w = c.args.watcher.now in
    let p = plan_of w.publisher in
    let current = arc_value w.current in
    let held = caches_data w.caches in
    let naming : Naming = record { alloc = c.args.alloc; serial = c.published-serial.result; before = c.generation.result; seed = w.seed } in
    let is = naming_is c.args.table.now w naming k c.published-serial.ensures (subst (λ (q : PlansData). IsOfPlans q c.generation.result) c.deref.ensures c.generation.ensures) in
    let next = arc_value c.in-Ok-name_next.next in
    let mid = caches_data c.name_next.new.caches in
    let named = c.in-Ok-name_next.ensures in
    let back : caches_data c.let_go.new.self ≡ held = c.let_go.ensures.stays ∙ next_undone p held naming is c.args.plans next mid named.are named.names (caches_data c.build.new.caches) c.in-Err-StockShort.ensures.fails in
    record {
      own = search rules;
      filled = k.filled;
      workers = k.workers;
      some = k.some;
      few = k.few;
      joined = k.joined;
      count = k.count;
      placed = k.placed;
      within = k.within;
      current = k.current;
      are = k.are;
      gathered = k.gathered;
      names = search rules;
      judges = search rules;
      spare = search rules;
      stands = k.stands;
      places = search rules;
      home = search rules;
      caches = subst (Keeps p) (sym back) k.caches;
      served = subst (PlansServed current) (sym back) k.served;
      named = k.named;
      accounted = k.accounted;
    }

pub returns-clause-keeping : goal.returns-clause-keeping
returns-clause-keeping g c =
    let k = c.requires.keeping in
    let w = c.args.watcher.now in
    let p = plan_of w.publisher in
    let current = arc_value w.current in
    let held = caches_data w.caches in
    let naming : Naming = record { alloc = c.args.alloc; serial = c.published-serial.result; before = c.generation.result; seed = w.seed } in
    let is = naming_is c.args.table.now w naming k c.published-serial.ensures (subst (λ (q : PlansData). IsOfPlans q c.generation.result) c.deref.ensures c.generation.ensures) in
    let next = arc_value c.in-Ok-name_next.next in
    let mid = caches_data c.name_next.new.caches in
    let named = c.in-Ok-name_next.ensures in
    let back : caches_data c.let_go-in-Err-NoMemory.new.self ≡ held = c.let_go-in-Err-NoMemory.ensures.stays ∙ next_undone p held naming is c.args.plans next mid named.are named.names (caches_data c.build.new.caches) c.in-Err-NoMemory.ensures.fails in
    record {
      own = search rules;
      filled = k.filled;
      workers = k.workers;
      some = k.some;
      few = k.few;
      joined = k.joined;
      count = k.count;
      placed = k.placed;
      within = k.within;
      current = k.current;
      are = k.are;
      gathered = k.gathered;
      names = search rules;
      judges = search rules;
      spare = search rules;
      stands = k.stands;
      places = search rules;
      home = search rules;
      caches = subst (Keeps p) (sym back) k.caches;
      served = subst (PlansServed current) (sym back) k.served;
      named = k.named;
      accounted = k.accounted;
    }
