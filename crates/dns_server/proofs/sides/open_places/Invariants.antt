use Rattle.std.proofs.Common.{◌≡◌, map, take}
use Rattle.std.specs.Vec.{vec_capacity}
use Rattle.dns_server.specs.Opening.{OpensAll, place_of}
use Rattle.dns_server.proofs.sides.open_places.Given as goal

abbrev pub invariant-loop-place : goal.invariant-loop-place
invariant-loop-place g l = OpensAll (g.H.Host.state l.initial.host) (g.H.Host.state l.host) (map place_of (take l.place-index l.places)) (map g.H.Side.Side.state l.sides.items)
    × (vec_capacity l.sides ≡ vec_capacity l.initial.sides)
