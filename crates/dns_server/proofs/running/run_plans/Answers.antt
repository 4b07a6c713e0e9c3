use Rattle.std.proofs.Common.{◌≡◌, ℕ, List, [], length, map, Err, append-nil, refl, sym, ap, subst, ◌∙◌, arith}
use Rattle.std.specs.Arc.{arc_value}
use Rattle.outside.specs.Hosts.{OpenedSide}
use Rattle.corefile_blocks.specs.declared.bundle.Bundle.{Bundle}
use Rattle.corefile_bundle.specs.{IsGathered}
use Rattle.chain_build.specs.{Builds, chain_extras}
use Rattle.chain_build.specs.Workers.{chains_lents}
use Rattle.lent_caches.specs.Held.{caches_data}
use Rattle.lent_caches.specs.Ledger.{AllHeld}
use Rattle.chain_meaning.specs.{Ground, ground_at}
use Rattle.extra_stock.specs.{in_chains, is_named, names_weigh}
use Rattle.plugin_api.specs.{Obey}
use Rattle.std.specs.Vec.{vec_capacity, vec_len}
use Rattle.pin_table.specs.{plan_of}
use Rattle.reload_watch.specs.{HasPlaces, chain_seats, chain_weighs}
use Rattle.reload_watch.specs.declared.watcher.Watcher.{Watcher}
use Rattle.dns_server.specs.declared.rooms.Rooms.{Rooms}
use Rattle.dns_server.specs.declared.sides.Place.{Place}
use Rattle.dns_server.specs.declared.status.Status.TheVariants as status
use Rattle.dns_server.specs.Opening.{OpensAll, OpensPlaces, place_of, side_count, sides_of}
use Rattle.dns_server.specs.Stocking.{count_name, data_weighs, stock_data}
use Rattle.dns_server.specs.Report.{Finishes, IsEndStatus, Left, RunData}
use Rattle.dns_server.specs.States.{run_setup, side_runs}
use Rattle.dns_server.proofs.Caching.{first_apart, first_held}
use Rattle.dns_server.proofs.Leaving.{watching}
use Rattle.dns_server.proofs.Opened.{chain_count, opened_count}
use Rattle.dns_server.proofs.Openings.{build_fails, open_fails, opened_stops, serves}
use Rattle.dns_server.proofs.Stocked.{data_is, names_map, same_data}
use Rattle.dns_server.proofs.running.run_plans.Goals as goal

pub returns-in-Err-clause-runs : goal.returns-in-Err-clause-runs
returns-in-Err-clause-runs g c = λ fresh is script reads.
    let title = g.E.Extra.title in
    let rooms = c.in-Err.ensures in
    let stock = c.new.new.stock in
    let T = Rooms g.row.H-Side.Denot g.row.H-Watch.Denot g.row.B.Denot g.row.E.Denot g.B.Rulebook g.E.Extra in
    let same : (n : List ℕ) → names_weigh title (is_named n) c.args.begun.stock.spare.items ≡ count_name n (map title stock.spare.items) =
    λ n. sym (names_map title (is_named n) stock.spare.items ∙ rooms.err (is_named n)) in
    let short = subst (λ (had : List ℕ → ℕ). Builds {T = T} (side_count c.args.setup.workers c.args.plans.ports) c.args.plans.extras had (Err c.in-Err.fault)) (λ i n. same n i) rooms.stock in
    rw c.stopped.ensures (rw c.status_of_build.ensures (build_fails T (stock_data title stock) (g.H.Host.state c.args.host.now) c.in-Err.fault is script reads short))

pub returns-in-Err-clause-extras : goal.returns-in-Err-clause-extras
returns-in-Err-clause-extras g c = λ w.
    ap (λ (d : RunData). data_weighs w d.stock) c.stopped.ensures
    ∙ same_data g.E.Extra.title c.args.begun.stock c.new.new.stock c.in-Err.ensures.judges c.in-Err.ensures.err w

pub returns-in-Err-open_places-clause-runs : goal.returns-in-Err-open_places-clause-runs
returns-in-Err-open_places-clause-runs g c = λ fresh is script reads.
    let before = g.H.Host.state c.args.host.now in
    let after = g.H.Host.state c.open_places.new.host in
    let sides = map g.H.Side.Side.state c.open_places.new.sides.items in
    let same = ap (λ (l : List Place). map place_of l) c.deref.ensures.value ∙ c.in-Ok.ensures.places in
    let fails = subst (λ (l : List OpenedSide). OpensPlaces before after l sides (Err c.in-Err-open_places.fault)) same c.in-Err-open_places.ensures.opens in
    rw c.stopped-in-Err-open_places.ensures (rw c.status_of_open.ensures (open_fails sides c.in-Err-open_places.fault is script reads c.requires.ports c.requires.few fails))

pub returns-in-Err-open_places-clause-extras : goal.returns-in-Err-open_places-clause-extras
returns-in-Err-open_places-clause-extras g c = λ w.
    let back = c.take_back.ensures in
    let rooms = c.in-Ok.ensures in
    ap (λ (d : RunData). data_weighs w d.stock) c.stopped-in-Err-open_places.ensures
    ∙ same_data g.E.Extra.title c.args.begun.stock c.take_back.new.stock (back.judges ∙ rooms.judges) (λ v. let a = back.weighs v in let b = rooms.weighs v in omega (arith, a, b)) w

pub returns-in_default-new-clause-extras : goal.returns-in_default-new-clause-extras
returns-in_default-new-clause-extras g c = λ w.
    let back = c.take_back-in_default-new.ensures in
    let rooms = c.in-Ok.ensures in
    let kept = c.in_default-new.ensures.err in
    ap (λ (d : RunData). data_weighs w d.stock) c.stopped-in_default-new.ensures
    ∙ same_data g.E.Extra.title c.args.begun.stock c.take_back-in_default-new.new.stock (back.judges ∙ rooms.judges)
    (λ v. let a = back.weighs v in let b = rooms.weighs v in let k = ap (λ (l : List _). in_chains chain_extras v l) kept in omega (arith, a, b, k)) w

-- what was lent to the first chains can be given back
pub take_back-requires-clause-held : goal.take_back-requires-clause-held
take_back-requires-clause-held g c =
    let rooms = c.in-Ok.ensures in
    first_held c.args.plans (arc_value c.in-Ok.rooms.plans) (length c.in-Ok.rooms.chains.items) (caches_data c.new.new.caches) c.in-Ok.rooms.chains.items rooms.lends rooms.chains

pub take_back-requires-clause-apart : goal.take_back-requires-clause-apart
take_back-requires-clause-apart g c =
    first_apart c.args.plans (arc_value c.in-Ok.rooms.plans) (length c.in-Ok.rooms.chains.items) (caches_data c.new.new.caches) c.in-Ok.ensures.lends

pub take_back-requires-in_default-new-clause-held : goal.take_back-requires-in_default-new-clause-held
take_back-requires-in_default-new-clause-held g c =
    let rooms = c.in-Ok.ensures in
    subst (λ (cs : List _). AllHeld (chains_lents cs) (caches_data c.new.new.caches)) (sym c.in_default-new.ensures.err)
    (first_held c.args.plans (arc_value c.in-Ok.rooms.plans) (length c.in-Ok.rooms.chains.items) (caches_data c.new.new.caches) c.in-Ok.rooms.chains.items rooms.lends rooms.chains)

pub take_back-requires-in_default-new-clause-apart : goal.take_back-requires-in_default-new-clause-apart
take_back-requires-in_default-new-clause-apart g c =
    first_apart c.args.plans (arc_value c.in-Ok.rooms.plans) (length c.in-Ok.rooms.chains.items) (caches_data c.new.new.caches) c.in-Ok.ensures.lends

pub new-requires-2-clause-count : goal.new-requires-2-clause-count
new-requires-2-clause-count g c =
    chain_count c.args.setup.workers (length c.in-Ok.rooms.chains.items) c.args.plans.ports c.in-Ok.rooms.places.items c.in-Ok.ensures.each c.in-Ok.ensures.places c.requires.workers.0 c.requires.ports c.requires.few

pub returns-in_default-new-clause-runs : goal.returns-in_default-new-clause-runs
returns-in_default-new-clause-runs g c = λ fresh is script reads.
    let before = g.H.Host.state c.args.host.now in
    let after = g.H.Host.state c.open_places.new.host in
    let sides = map g.H.Side.Side.state c.open_places.new.sides.items in
    let all = sides_of c.args.setup.workers c.args.plans.ports in
    let same = ap (λ (l : List Place). map place_of l) c.deref.ensures.value ∙ c.in-Ok.ensures.places in
    let opens = subst (λ (l : List OpenedSide). OpensAll before after l sides) same c.in_default.ensures.opens in
    rw c.stopped-in_default-new.ensures (opened_stops all [] sides status.NoMemory is script reads c.requires.ports c.requires.few (sym (append-nil all)) opens tt refl)

pub finish-finished-requires-clause-opened : goal.finish-finished-requires-clause-opened
finish-finished-requires-clause-opened g c = λ κs b.
    let before = g.H.Host.state c.args.host.now in
    let after = g.H.Host.state c.open_places.new.host in
    let rooms = c.in-Ok.ensures in
    let made = c.in-Ok-new.ensures in
    let chains = c.in-Ok.rooms.chains.items in
    let places = c.in-Ok.rooms.places.items in
    let sides = c.open_places.new.sides.items in
    let all = sides_of c.args.setup.workers c.args.plans.ports in
    let same = ap (λ (l : List Place). map place_of l) c.deref.ensures.value ∙ rooms.places in
    let opens = subst (λ (l : List OpenedSide). OpensAll before after l (map g.H.Side.Side.state sides)) same c.in_default.ensures.opens in
    let few = chain_count c.args.setup.workers (length chains) c.args.plans.ports places rooms.each rooms.places c.requires.workers.0 c.requires.ports c.requires.few in
    let count = opened_count g.H.Side.Side.state places sides all rooms.places opens.each in
    let each = rooms.each in
    let w : Watcher g.row.H-Watch.Denot g.row.B.Denot g.row.E.Denot g.B.Rulebook g.E.Extra = record {
      watch = c.saw_published.new.self;
      publisher = c.in-Ok-new.publisher;
      workers = c.len-workers.result;
      current = c.in-Ok.rooms.plans;
      stock = c.new.new.stock;
      home = c.in-Ok.rooms.home;
      caches = c.new.new.caches;
      seed = c.args.begun.seed;
      starved = 0;
    } in
    let workers : c.len-workers.result ≡ length chains = omega (arith, c.len-workers.ensures) in
    let room = rooms.room in
    let title = g.E.Extra.title in
    let judged : c.new.new.stock.judges.items ≡ c.args.begun.stock.judges.items = λ k. (rooms.judges k).items in
    let alike = rooms.lends.begins.names.same in
    let names = alike.names ∙ (ap (λ (x : Ground). x.names) c.requires.basis ∙ (λ k. map title (sym judged k))) in
    let judges = subst (λ (l : List g.row.E.Denot). Obey g.B.Rulebook.taken g.B.Rulebook.said title g.E.Extra.takes g.E.Extra.ruling l) (sym judged) c.requires.judges in
    let spare = rooms.obey in
    let seats = made.sum (λ x. chain_seats x) in
    let free = rooms.spares in
    let places' : HasPlaces (vec_len c.new.new.stock.spare) (vec_capacity c.new.new.stock.spare) (plan_of c.in-Ok-new.publisher) = omega (arith, seats, free) in
    record {
      watcher = watching c.in-Ok-new.table w chains made.own made.plan made.filled workers few
          rooms.chains rooms.are
          (subst IsGathered (sym alike.bundle) c.requires.gathered)
          names judges spare made.stands places' (rooms.none.3, rooms.none.4, let r = room.3 in omega (arith, r, each)) refl
          c.args.plans rooms.lends made.sum;
      ground_is = (λ k. ground_at (alike.default_port k) (alike.names k)) ∙ (c.requires.basis ∙ (λ k. ground_at c.args.setup.port (map title (sym judged k))));
      passes = made.passes.1;
      each = let p = made.passes.0 in omega (arith, p, each, count);
      workers = omega (arith, workers, each, count);
      fresh = opens.fresh;
      no_role = rooms.none.1;
      no_done = rooms.none.2;
      roles_room = let r = room.1 in omega (arith, r, count);
      dones_room = let r = room.2 in omega (arith, r, count);
    }

pub returns-clause-runs : goal.returns-clause-runs
returns-clause-runs g c = λ fresh is script reads.
    let before = g.H.Host.state c.args.host.now in
    let after = g.H.Host.state c.open_places.new.host in
    let side = g.H.Side.Side.state in
    let watch = g.H.Watch.PatternMaker.state in
    let setup = run_setup c.args.setup g.B.Rulebook.taken g.B.Rulebook.said (map g.E.Extra.title c.args.begun.stock.judges.items) in
    let sides = map side c.open_places.new.sides.items in
    let all = sides_of c.args.setup.workers c.args.plans.ports in
    let same = ap (λ (l : List Place). map place_of l) c.deref.ensures.value ∙ c.in-Ok.ensures.places in
    let opens = subst (λ (l : List OpenedSide). OpensAll before after l sides) same c.in_default.ensures.opens in
    let published = c.saw_published.ensures in
    let left : Left = record { sides = side_runs side c.finish-finished.result.dones.items; watch = watch c.finish-finished.result.watch; published = c.finish-finished.result.published; stock = stock_data g.E.Extra.title c.finish-finished.result.stock; starved = c.finish-finished.result.starved } in
    let titles : map g.E.Extra.title c.new.new.stock.judges.items ≡ map g.E.Extra.title c.args.begun.stock.judges.items = λ k. map g.E.Extra.title (c.in-Ok.ensures.judges k).items in
    let by : Finishes setup c.args.plans.bundle sides (watch c.saw_published.new.self) left =
    subst (λ (x : List (List ℕ) × Bundle). Finishes (run_setup c.args.setup g.B.Rulebook.taken g.B.Rulebook.said x.0) x.1 sides (watch c.saw_published.new.self) left) (λ k. (titles k, c.in-Ok.ensures.lends.begins.names.same.bundle k)) c.finish-finished.ensures.finishes in
    let stands : IsEndStatus left.sides left.starved c.end_status.result = subst (λ (l : List _). IsEndStatus (side_runs side l) left.starved c.end_status.result) c.as_slice.ensures.value c.end_status.ensures in
    serves setup before after c.end_status.result fresh (watch c.args.begun.watch) (watch c.saw_published.new.self) c.args.plans all sides left is script reads c.requires.ports c.requires.few published.told (published.counts.stays.script, published.counts.stays.refusals) refl opens by stands

pub returns-clause-extras : goal.returns-clause-extras
returns-clause-extras g c = λ w.
    let title = g.E.Extra.title in
    let rooms = c.in-Ok.ensures in
    let left = c.finish-finished.ensures.extras w in
    let built = rooms.weighs w in
    let out = c.in-Ok-new.ensures.sum (λ x. chain_weighs w x) in
    let judged : names_weigh title w c.new.new.stock.judges.items ≡ names_weigh title w c.args.begun.stock.judges.items = λ k. names_weigh title w (rooms.judges k).items in
    let before = data_is title w c.args.begun.stock in
    omega (arith, left, built, out, judged, before)
