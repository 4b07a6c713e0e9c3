-- What a worker counts, and when its count ends it. This server's own rule.
use Rattle.std.specs.Prelude.{◌≡◌, ◌<◌, ℕ, ◌+◌, true, false, Option, Some, None}
use Rattle.dns_data.specs.declared.limit.TheConstants as limits
use Rattle.query_worker.specs.declared.worker.Tally.{Tally}
use Rattle.query_worker.specs.declared.turn.Turned.{Turned}
use Rattle.query_worker.specs.declared.turn.Turned.TheVariants as turned
use Rattle.run_meaning.specs.declared.work_end.WorkEnd.{WorkEnd}
use Rattle.run_meaning.specs.declared.work_end.WorkEnd.TheVariants as ends

-- a worker that has done nothing yet
abbrev pub IsIdle : Tally → Type 0
IsIdle tally = tally ≡ record { pins = 0; seen = 0; starved = 0; failures = 0; has_starved = false }

-- behind a datagram under this serial
abbrev pub with_datagram : ℕ → Tally → Tally
with_datagram serial tally =
    record {
      pins = tally.pins + 1;
      seen = serial;
      starved = tally.starved;
      failures = 0;
      has_starved = false;
    }

-- behind a call of `recv` that gave nothing
abbrev pub with_miss : Tally → Tally
with_miss tally =
    record {
      pins = tally.pins;
      seen = tally.seen;
      starved = tally.starved;
      failures = tally.failures + 1;
      has_starved = tally.has_starved;
    }

-- behind want of memory for a datagram that was taken, and for one that wasn't
abbrev pub starved_once : Tally → Tally
starved_once tally =
    record {
      pins = tally.pins;
      seen = tally.seen;
      starved = tally.starved + 1;
      failures = tally.failures;
      has_starved = tally.has_starved;
    }

abbrev pub starved_in_row : Tally → Tally
starved_in_row tally =
    record {
      pins = tally.pins;
      seen = tally.seen;
      starved = tally.starved + 1;
      failures = tally.failures;
      has_starved = true;
    }

-- behind a turn
abbrev pub tallied : Turned → Tally → Tally
tallied (turned.Answered serial) tally = with_datagram serial tally
tallied (turned.Starved serial) tally = with_datagram serial (starved_once tally)
tallied turned.RecvFailed tally = with_miss tally
tallied turned.RecvStarved tally = with_miss (starved_in_row tally)
tallied turned.RecvEnd tally = tally

-- whether a datagram was the last one
abbrev pub DatagramEnds : ℕ → Tally → Option WorkEnd → Type 0
DatagramEnds most tally None = tally.pins < most
DatagramEnds most tally (Some ends.End) = tally.pins ≡ most
DatagramEnds most tally (Some ends.RecvFailed) = ⊥
DatagramEnds most tally (Some ends.NoMemory) = ⊥

-- whether a row of calls that gave nothing is as long as it may be
abbrev pub RowEnds : Tally → Option WorkEnd → Type 0
RowEnds tally None = tally.failures < limits.FAILURES
RowEnds tally (Some ends.End) = ⊥
RowEnds tally (Some ends.RecvFailed) =
    (tally.failures ≡ limits.FAILURES) × (tally.has_starved ≡ false)
RowEnds tally (Some ends.NoMemory) = (tally.failures ≡ limits.FAILURES) × (tally.has_starved ≡ true)

-- whether a turn was the last one, by what the worker counts behind it
abbrev pub TurnEnds : ℕ → Turned → Tally → Option WorkEnd → Type 0
TurnEnds most (turned.Answered serial) tally end = DatagramEnds most tally end
TurnEnds most (turned.Starved serial) tally end = DatagramEnds most tally end
TurnEnds most turned.RecvFailed tally end = RowEnds tally end
TurnEnds most turned.RecvStarved tally end = RowEnds tally end
TurnEnds most turned.RecvEnd tally end = end ≡ Some ends.End
