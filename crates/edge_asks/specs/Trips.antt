-- The round trips to an upstream, in microseconds, and how long an answer may take by them. RFC
-- 6298, section 2; the bounds are this server's own.
use Rattle.std.specs.Prelude.{ℕ, ◌+◌, ◌-◌, ◌*◌, ◌/◌, min, max}
use Rattle.edge_asks.specs.declared.trip.Trip.{Trip}

abbrev pub first_trip : ℕ → Trip
first_trip took = record { smooth = took; spread = took / 2 }

-- how far two numbers are apart
abbrev pub apart : ℕ → ℕ → ℕ
apart a b = (a - b) + (b - a)

-- an eighth of the new one, and a quarter of how far it was from what was expected
abbrev pub next_trip : Trip → ℕ → Trip
next_trip trip took = record {
  smooth = (7 * trip.smooth + took) / 8;
  spread = (3 * trip.spread + apart trip.smooth took) / 4;
}

-- between half a second and 2 seconds
abbrev pub wait_of : Trip → ℕ
wait_of trip = min 2000000 (max 500000 (trip.smooth + 4 * trip.spread))
