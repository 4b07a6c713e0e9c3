use Rattle.std.proofs.Common.{◌≡◌, drop}
use Rattle.extra_stock.specs.Turns.{in_turn}
use Rattle.extra_stock.proofs.seats.Seats.ask.Given as goal

abbrev pub invariant-loop-seat : goal.invariant-loop-seat
invariant-loop-seat g l = record {
  same : l.seat-items ≡ l.fn.self;
  rest : in_turn g.B.Rulebook.said (drop l.seat-index l.fn.self) l.query ≡ in_turn g.B.Rulebook.said l.fn.self l.query;
}
