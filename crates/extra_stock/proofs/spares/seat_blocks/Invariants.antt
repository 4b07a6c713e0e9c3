use Rattle.std.proofs.Common.{◌≡◌, ◌+◌, ◌≤◌, ℕ, List, length, take, vec_len, vec_capacity}
use Rattle.plugin_api.specs.{Obey}
use Rattle.extra_stock.specs.Stocks.{asked_by, names_weigh, seats_in}
use Rattle.extra_stock.proofs.spares.seat_blocks.Given as goal

abbrev pub invariant-loop-block : goal.invariant-loop-block
invariant-loop-block g l = record {
  obey : Obey g.B.Rulebook.taken g.B.Rulebook.said g.E.Extra.title g.E.Extra.takes g.E.Extra.ruling l.spare.items;
  weighs : (w : List ℕ → ℕ) → names_weigh g.E.Extra.title w l.spare.items + asked_by w (take l.block-index l.blocks) ≡ names_weigh g.E.Extra.title w l.fn.spare.items;
  seats : l.seated.items ≡ take l.block-index l.blocks;
  len : vec_len l.spare + seats_in (take l.block-index l.blocks) ≡ vec_len l.fn.spare;
  seated : vec_len l.seated ≡ l.block-index;
  room : length l.blocks ≤ vec_capacity l.seated;
  capacity : vec_capacity l.spare ≡ vec_capacity l.fn.spare;
}
