use Rattle.std.proofs.Common.{◌≡◌, ◌+◌, ℕ, List, length, vec_len, vec_capacity}
use Rattle.plugin_api.specs.{Obey}
use Rattle.extra_stock.specs.Stocks.{names_weigh}
use Rattle.extra_stock.proofs.spares.give_back.Given as goal

abbrev pub invariant-loop-seat : goal.invariant-loop-seat
invariant-loop-seat g l = record {
  obey : Obey g.B.Rulebook.taken g.B.Rulebook.said g.E.Extra.title g.E.Extra.takes g.E.Extra.ruling l.spare.items;
  weighs : (w : List ℕ → ℕ) → names_weigh g.E.Extra.title w l.spare.items + names_weigh (λ d. d.name) w l.seats.items ≡ names_weigh g.E.Extra.title w l.fn.spare.items + names_weigh (λ d. d.name) w l.fn.seats.items;
  len : vec_len l.spare + length l.seats.items ≡ vec_len l.fn.spare + length l.fn.seats.items;
  capacity : vec_capacity l.spare ≡ vec_capacity l.fn.spare;
}

abbrev pub decreases-loop-seat : goal.decreases-loop-seat
decreases-loop-seat g l = length l.seats.items
