use Rattle.std.proofs.Common.{◌≡◌, ◌+◌, ℕ, List, length, vec_len, vec_capacity}
use Rattle.plugin_api.specs.{Obey}
use Rattle.extra_stock.specs.Stocks.{asked_by, names_weigh, seats_in}
use Rattle.extra_stock.proofs.spares.give_blocks.Given as goal

abbrev pub invariant-loop-block : goal.invariant-loop-block
invariant-loop-block g l = record {
  obey : Obey g.B.Rulebook.taken g.B.Rulebook.said g.E.Extra.title g.E.Extra.takes g.E.Extra.ruling l.spare.items;
  weighs : (w : List ℕ → ℕ) → names_weigh g.E.Extra.title w l.spare.items + asked_by w l.blocks.items ≡ names_weigh g.E.Extra.title w l.fn.spare.items + asked_by w l.fn.blocks.items;
  len : vec_len l.spare + seats_in l.blocks.items ≡ vec_len l.fn.spare + seats_in l.fn.blocks.items;
  capacity : vec_capacity l.spare ≡ vec_capacity l.fn.spare;
  kept : vec_capacity l.blocks ≡ vec_capacity l.fn.blocks;
}

abbrev pub decreases-loop-block : goal.decreases-loop-block
decreases-loop-block g l = length l.blocks.items
