use Rattle.std.proofs.Common.{List, ap, arith}
use Rattle.std.specs.List.{sum_by}
use Rattle.extra_stock.specs.{asked_by, seats_in}
use Rattle.lent_caches.specs.Held.{caches_data}
use Rattle.pin_table.specs.{plan_of}
use Rattle.reload_watch.specs.AccountsLaws.{freed_accounts}
use Rattle.reload_watch.proofs.Caching.{back_held, back_keeps}
use Rattle.reload_watch.specs.Stocked.{chain_seats, chain_weighs}
use Rattle.reload_watch.proofs.Placed.{placed_freed}
use Rattle.reload_watch.proofs.Stocked.{of_extras}
use Rattle.reload_watch.proofs.publishing.free_slot.Goals as goal

pub returns-clause-placed : goal.returns-clause-placed
returns-clause-placed g c =
    placed_freed (plan_of c.args.publisher.now) c.args.home.now.items c.free_slot-found.result c.free_slot-found.new.home.items (plan_of c.free_slot-found.new.publisher) c.free_slot-found.ensures.freed c.requires.placed

-- what came home, and what stands behind it, is what stood before
pub take_back-requires-clause-room : goal.take_back-requires-clause-room
take_back-requires-clause-room g c =
    let moved = c.free_slot-found.ensures.sum (λ x. chain_seats x) (of_extras seats_in) c.requires.stands in
    let none = ap (λ (l : List _). sum_by (λ x. chain_seats x) l) c.requires.none.0 in
    let places = c.requires.places in
    omega (arith, moved, none, places)

pub returns-clause-places : goal.returns-clause-places
returns-clause-places g c =
    let moved = c.free_slot-found.ensures.sum (λ x. chain_seats x) (of_extras seats_in) c.requires.stands in
    let none = ap (λ (l : List _). sum_by (λ x. chain_seats x) l) c.requires.none.0 in
    let places = c.requires.places in
    let len = c.take_back.ensures.len in
    let capacity = c.take_back.ensures.capacity in
    omega (arith, moved, none, places, len, capacity)

pub returns-clause-weighs : goal.returns-clause-weighs
returns-clause-weighs g c w =
    let moved = c.free_slot-found.ensures.sum (λ x. chain_weighs w x) (of_extras (asked_by w)) c.requires.stands in
    let none = ap (λ (l : List _). sum_by (λ x. chain_weighs w x) l) c.requires.none.0 in
    let more = c.take_back.ensures.weighs w in
    omega (arith, moved, none, more)

-- the uses of what came home are of caches that are held
pub take_back-requires-clause-held : goal.take_back-requires-clause-held
take_back-requires-clause-held g c =
    back_held (plan_of c.args.publisher.now) (plan_of c.free_slot-found.new.publisher) c.args.home.now.items c.free_slot-found.new.home.items c.free_slot-found.result (caches_data c.args.caches.now) c.requires.none.0 c.free_slot-found.ensures.freed
    (λ f of. c.free_slot-found.ensures.sum f of c.requires.stands) (c.free_slot-found.ensures.stands c.requires.stands) c.requires.caches

pub take_back-requires-clause-apart : goal.take_back-requires-clause-apart
take_back-requires-clause-apart g c = c.requires.caches.ledger.apart

pub returns-clause-caches : goal.returns-clause-caches
returns-clause-caches g c =
    back_keeps (plan_of c.args.publisher.now) (plan_of c.free_slot-found.new.publisher) c.args.home.now.items c.free_slot-found.new.home.items c.free_slot-found.result (caches_data c.args.caches.now) c.requires.none.0 c.free_slot-found.ensures.freed
    (λ f of. c.free_slot-found.ensures.sum f of c.requires.stands) (c.free_slot-found.ensures.stands c.requires.stands) c.requires.caches (caches_data c.take_back.new.caches) c.take_back.ensures.stays c.take_back.ensures.whole

pub returns-clause-accounted : goal.returns-clause-accounted
returns-clause-accounted g c =
    freed_accounts (plan_of c.args.publisher.now) c.args.home.now.items c.free_slot-found.result c.free_slot-found.new.home.items (plan_of c.free_slot-found.new.publisher) c.requires.accounted c.free_slot-found.ensures.freed
