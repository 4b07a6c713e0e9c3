use Rattle.std.proofs.Common.{◌≡◌, ◌≤◌, ◌∙◌, ℕ, List, None, sym, ap, arith, length, map, subst}
use Rattle.std.specs.List.{All}
use Rattle.std.proofs.lemmas.List.{length-map}
use Rattle.std.specs.Arc.{arc_value}
use Rattle.dns_data.specs.declared.directive.Directive.{Directive}
use Rattle.dns_data.specs.declared.limit.TheConstants as limits
use Rattle.outside.specs.Hosts.{OpenedSide}
use Rattle.extra_stock.specs.{first_short, is_named, names_weigh}
use Rattle.chain_build.specs.{ArePlans, Builds, PlansData}
use Rattle.chain_build.specs.Lending.{AreHeldBy, IsNamed, chain_names}
use Rattle.chain_build.specs.Uses.{chain_named}
use Rattle.lent_caches.specs.Building.{CanLendTimes, lent_times}
use Rattle.lent_caches.specs.Held.{caches_data}
use Rattle.dns_server.specs.Caches.{BeginsCaches}
use Rattle.dns_server.specs.Opening.{place_of, side_count, sides_of}
use Rattle.dns_server.proofs.Caching.{first_can}
use Rattle.dns_server.proofs.Opened.{sides_count}
use Rattle.dns_server.proofs.Stocked.{fault_stays}
use Rattle.dns_server.proofs.rooms.Rooms.new.Goals as goal

pub empty-requires-clause-few : goal.empty-requires-clause-few
empty-requires-clause-few g c =
    subst (λ (l : List ℕ). side_count c.args.workers l ≤ limits.WORKERS) (sym c.in_ok-plans.ensures.begins.names.same.ports) c.requires.few

pub build-requires-clause-workers : goal.build-requires-clause-workers
build-requires-clause-workers g c =
    let ports = c.in_ok-plans.ensures.begins.names.same.ports in
    let sides = ap (λ (l : List OpenedSide). length l) (c.in_ok-rooms.ensures.places ∙ ap (sides_of c.args.workers) ports) in
    let long = length-map c.in_ok-rooms.rooms.places.items place_of in
    let count = sides_count c.args.workers c.args.plans.ports in
    let found = c.len-count.ensures in
    let few = c.requires.few in
    omega (arith, found, sides, long, count, few)

pub build-requires-clause-named : goal.build-requires-clause-named
build-requires-clause-named g c =
    subst (λ (p : PlansData). All IsNamed p.chains) (sym c.in_ok-rooms.ensures.plans) c.in_ok-plans.ensures.begins.names.names.has

pub build-requires-clause-held : goal.build-requires-clause-held
build-requires-clause-held g c =
    subst (λ (p : PlansData). AreHeldBy (map chain_named p.chains) (caches_data c.name_first.new.caches)) (sym c.in_ok-rooms.ensures.plans) c.in_ok-plans.ensures.begins.names.names.reads.by

pub build-requires-clause-can : goal.build-requires-clause-can
build-requires-clause-can g c =
    let ports = c.in_ok-plans.ensures.begins.names.same.ports in
    let sides = ap (λ (l : List OpenedSide). length l) (c.in_ok-rooms.ensures.places ∙ ap (sides_of c.args.workers) ports) in
    let long = length-map c.in_ok-rooms.rooms.places.items place_of in
    let count = sides_count c.args.workers c.args.plans.ports in
    let found = c.len-count.ensures in
    let few = c.requires.few in
    let held = caches_data c.name_first.new.caches in
    subst (λ (p : PlansData). CanLendTimes c.len-count.result (chain_names p.chains) held) (sym c.in_ok-rooms.ensures.plans)
    (first_can g.B.Rulebook g.E.Extra c.args.plans c.in_ok-plans.plans c.len-count.result held c.in_ok-plans.ensures.are c.in_ok-plans.ensures.begins (omega (arith, found, sides, long, count, few)))

pub build-requires-clause-apart : goal.build-requires-clause-apart
build-requires-clause-apart g c = c.in_ok-plans.ensures.begins.names.adds.apart

pub returns-clause-places : goal.returns-clause-places
returns-clause-places g c = c.in_ok-rooms.ensures.places ∙ ap (sides_of c.args.workers) c.in_ok-plans.ensures.begins.names.same.ports

pub returns-clause-are : goal.returns-clause-are
returns-clause-are g c = subst (ArePlans g.B.Rulebook.taken g.B.Rulebook.said) (sym c.in_ok-rooms.ensures.plans) c.in_ok-plans.ensures.are

pub returns-clause-lends : goal.returns-clause-lends
returns-clause-lends g c =
    let plans = c.in_ok-rooms.ensures.plans in
    let held = caches_data c.name_first.new.caches in
    let after = caches_data c.build.new.caches in
    let many = c.in_ok-rooms-2.ensures.made.count in
    record {
      fresh = held;
      begins = subst (λ (p : PlansData). BeginsCaches c.args.plans p held) (sym plans) c.in_ok-plans.ensures.begins;
      lent = subst (λ (k : ℕ). after ≡ lent_times k (chain_names (arc_value c.in_ok-rooms.rooms.plans).chains) held) (sym many) c.in_ok-rooms-2.ensures.lent;
    }

pub returns-clause-stock : goal.returns-clause-stock
returns-clause-stock g c =
    let alike = c.in_ok-plans.ensures.begins.names.same in
    let sides = ap (λ (l : List OpenedSide). length l) (c.in_ok-rooms.ensures.places ∙ ap (sides_of c.args.workers) alike.ports) in
    let long = length-map c.in_ok-rooms.rooms.places.items place_of in
    let count = sides_count c.args.workers c.args.plans.ports in
    let found = c.len-count.ensures in
    let same : c.len-count.result ≡ side_count c.args.workers c.args.plans.ports = omega (arith, found, sides, long, count) in
    let extras : (arc_value c.in_ok-rooms.rooms.plans).extras ≡ c.args.plans.extras = ap (λ (p : PlansData). p.extras) c.in_ok-rooms.ensures.plans ∙ alike.extras in
    subst (λ (x : ℕ × List (List Directive)). first_short x.0 x.1 (λ n. names_weigh g.E.Extra.title (is_named n) c.args.stock.now.spare.items) ≡ None) (λ k. (same k, extras k)) c.in_ok-rooms-2.ensures.short

pub returns-in_err-rooms-2-clause-stock : goal.returns-in_err-rooms-2-clause-stock
returns-in_err-rooms-2-clause-stock g c =
    let alike = c.in_ok-plans.ensures.begins.names.same in
    let sides = ap (λ (l : List OpenedSide). length l) (c.in_ok-rooms.ensures.places ∙ ap (sides_of c.args.workers) alike.ports) in
    let long = length-map c.in_ok-rooms.rooms.places.items place_of in
    let count = sides_count c.args.workers c.args.plans.ports in
    let found = c.len-count.ensures in
    let same : c.len-count.result ≡ side_count c.args.workers c.args.plans.ports = omega (arith, found, sides, long, count) in
    let extras : (arc_value c.in_ok-rooms.rooms.plans).extras ≡ c.args.plans.extras = ap (λ (p : PlansData). p.extras) c.in_ok-rooms.ensures.plans ∙ alike.extras in
    let had : List ℕ → ℕ = λ n. names_weigh g.E.Extra.title (is_named n) c.args.stock.now.spare.items in
    let short = subst (λ (x : ℕ × List (List Directive)). Builds x.0 x.1 had c.build.result) (λ k. (same k, extras k)) c.build.ensures.short in
    fault_stays (side_count c.args.workers c.args.plans.ports) c.args.plans.extras had c.in_err-rooms-2.field-0.0 c.build.result c.from_residual-in_err-rooms-2.result
    c.in_err-rooms-2.was c.from_residual-in_err-rooms-2.ensures.1 short

pub returns-clause-weighs : goal.returns-clause-weighs
returns-clause-weighs g c w =
    let left = c.in_ok-rooms-2.ensures.ok w in
    let taken = c.in_ok-rooms-2.ensures.made.weigh w in
    omega (arith, left, taken)
