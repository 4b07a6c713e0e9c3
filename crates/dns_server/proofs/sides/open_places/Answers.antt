use Rattle.std.proofs.Common.{◌∙◌, ◌∷◌, List, [], Result, map, take, get_or, sym, ap, subst, arith}
use mathlib.Core.List.{map-append}
use Rattle.dns_data.specs.declared.message.Transport.TheVariants.{Udp}
use Rattle.outside.specs.Hosts.{OpenedSide, OpensSide}
use Rattle.outside.specs.States.{SideState}
use Rattle.outside.specs.declared.host.OpenFault.{OpenFault}
use Rattle.dns_server.specs.declared.sides.Place.{Place}
use Rattle.dns_server.specs.Opening.{OpensAll, place_of}
use Rattle.dns_server.proofs.Opened.{fails_at, opens_more, place_more}
use Rattle.dns_server.proofs.sides.open_places.Goals as goal

none : Place
none = record { port = 0; by = Udp; number = 0 }

pub loop-place-preserved : goal.loop-place-preserved
unfolding none
loop-place-preserved g c =
    let i = c.loop-place.invariant in
    let places = c.args.places.now in
    let at = c.loop-place.place-index in
    let state = g.H.Side.Side.state in
    let sides = c.loop-place.sides.items in
    let made = opens_more (g.H.Host.state c.args.host.now) (g.H.Host.state c.loop-place.host) (g.H.Host.state c.open_side.new.self) (map place_of (take at places)) (map state sides)
    (place_of (get_or places at none)) (state c.in_ok-side.side) i.0 c.in_ok-side.ensures in
    let more = place_more places at none (omega (arith, c.loop-place-test.true)) in
    let pushed = ap (λ (l : List _). map state l) c.push_reserved.ensures.items ∙ map-append state sides (c.in_ok-side.side ∷ []) in (
      subst (λ (x : List OpenedSide × List SideState). OpensAll (g.H.Host.state c.args.host.now) (g.H.Host.state c.open_side.new.self) x.0 x.1) (λ k. (sym more k, sym pushed k)) made,
      c.push_reserved.ensures.capacity ∙ i.1,
    )

pub returns-in_err-side : goal.returns-in_err-side
unfolding none
returns-in_err-side g c =
    let i = c.loop-place.invariant in
    let state = g.H.Side.Side.state in
    let place = place_of (get_or c.args.places.now c.loop-place.place-index none) in
    let fails = subst (λ (r : Result _ OpenFault). OpensSide state (g.H.Host.state c.loop-place.host) (g.H.Host.state c.open_side.new.self) place r) c.in_err-side.was c.open_side.ensures in
    record {
      opens = fails_at state (g.H.Host.state c.args.host.now) (g.H.Host.state c.loop-place.host) (g.H.Host.state c.open_side.new.self) c.args.places.now c.loop-place.place-index
          (map state c.loop-place.sides.items) place c.in_err-side.field-0.0 c.from_residual.result i.0 fails c.from_residual.ensures.1;
    }
