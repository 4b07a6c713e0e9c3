use Rattle.std.proofs.Common.{◌≡◌, ◌+◌, ◌≤◌, ℕ, List, length, take, vec_len, vec_capacity}
use Rattle.plugin_api.specs.{Obey}
use Rattle.extra_stock.specs.Stocks.{names_weigh}
use Rattle.extra_stock.proofs.spares.seat_block.Given as goal

abbrev pub invariant-loop-directive : goal.invariant-loop-directive
invariant-loop-directive g l = record {
  obey : Obey g.B.Rulebook.taken g.B.Rulebook.said g.E.Extra.title g.E.Extra.takes g.E.Extra.ruling l.spare.items;
  weighs : (w : List ℕ → ℕ) → names_weigh g.E.Extra.title w l.spare.items + names_weigh (λ d. d.name) w (take l.directive-index l.directives) ≡ names_weigh g.E.Extra.title w l.fn.spare.items;
  seats : l.seats.items ≡ take l.directive-index l.directives;
  len : vec_len l.spare + l.directive-index ≡ vec_len l.fn.spare;
  seated : vec_len l.seats ≡ l.directive-index;
  room : length l.directives ≤ vec_capacity l.seats;
  capacity : vec_capacity l.spare ≡ vec_capacity l.fn.spare;
}
