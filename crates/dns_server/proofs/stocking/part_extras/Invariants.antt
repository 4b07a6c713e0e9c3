use Rattle.std.proofs.Common.{◌≡◌, ◌+◌, ◌++◌, ℕ, List, length, map}
use Rattle.std.specs.Vec.{vec_capacity}
use Rattle.plugin_api.specs.{Obey}
use Rattle.extra_stock.specs.{names_weigh}
use Rattle.dns_server.specs.Stocking.{judge_names}
use Rattle.dns_server.proofs.stocking.part_extras.Given as goal

abbrev pub invariant-loop-extra : goal.invariant-loop-extra
invariant-loop-extra g l = record {
  all : l.fn.extras.items ≡ l.yielded ++ l.extra-iterator.rest.items;
  rest : Obey g.B.Rulebook.taken g.B.Rulebook.said g.E.Extra.title g.E.Extra.takes g.E.Extra.ruling l.extra-iterator.rest.items;
  judges : Obey g.B.Rulebook.taken g.B.Rulebook.said g.E.Extra.title g.E.Extra.takes g.E.Extra.ruling l.judges.items;
  spare : Obey g.B.Rulebook.taken g.B.Rulebook.said g.E.Extra.title g.E.Extra.takes g.E.Extra.ruling l.spare.items;
  names : map g.E.Extra.title l.judges.items ≡ judge_names (map g.E.Extra.title l.yielded);
  weigh : (w : List ℕ → ℕ) → names_weigh g.E.Extra.title w l.judges.items + names_weigh g.E.Extra.title w l.spare.items ≡ names_weigh g.E.Extra.title w l.yielded;
  count : length l.judges.items + length l.spare.items ≡ length l.yielded;
  judging : vec_capacity l.judges ≡ vec_capacity l.initial.judges;
  sparing : vec_capacity l.spare ≡ vec_capacity l.initial.spare;
}
