-- How long an ask of an upstream may take, in microseconds, by what is known of it. This server's
-- own rule, over RFC 6298.
use Rattle.std.specs.Prelude.{ℕ, ◌+◌, ◌^◌, ◌-◌, ◌==◌, min, nat_le, true, false, Option, Some, None, if◌then◌else◌}
use Rattle.dns_data.specs.declared.message.Transport.{Transport}
use Rattle.dns_data.specs.declared.message.Transport.TheVariants.{Udp, Tcp}
use Rattle.edge_asks.specs.declared.trip.Trip.{Trip}
use Rattle.edge_asks.specs.declared.timing.Timing.{Timing}
use Rattle.edge_asks.specs.Trips.{first_trip, next_trip, wait_of}

abbrev pub new_timing : Timing
new_timing = record { trip = None; silent = false; full = 0 }

-- of one that answers: two seconds where nothing is known. Over TCP always, since a connection may
-- have to be opened, and a long reply takes several round trips.
abbrev pub usual_wait : Option Trip → Transport → ℕ
usual_wait None by = 2000000
usual_wait (Some trip) Udp = wait_of trip
usual_wait (Some trip) Tcp = 2000000

-- of one that was silent: two seconds now and then, and else a fifth of a second
abbrev pub patience_of : Timing → Transport → ℕ → ℕ
patience_of timing by now =
    if timing.silent
    then (if nat_le timing.full now then 2000000 else 200000)
    else usual_wait timing.trip by

-- behind the start of an ask that may take two seconds, none of a silent upstream may for four
abbrev pub asked : Timing → Transport → ℕ → Timing
asked timing by now = record timing {
  full =
      if patience_of timing by now == 2000000
      then min (now + 4000000) (2 ^ 64 - 1)
      else timing.full;
}

abbrev pub trip_behind : Option Trip → ℕ → Trip
trip_behind None took = first_trip took
trip_behind (Some trip) took = next_trip trip took

abbrev pub answered : Timing → ℕ → Timing
answered timing took = record timing { trip = Some (trip_behind timing.trip took); silent = false }

abbrev pub silenced : Timing → Timing
silenced timing = record timing { silent = true }
