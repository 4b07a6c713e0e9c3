use Rattle.std.proofs.Common.{ℕ, refl, ap, inr}
use Rattle.std.specs.Prelude.{slice_set}
use Rattle.slot_lists.proofs.Chained.{front_in}
use Rattle.slot_lists.proofs.chains.Chains.unlink.Goals as goal

pub returns : goal.returns
returns c =
    let s = c.args.self.now in
    let front = c.in_front-front.result in
    inr (record {
      front = front;
      in_it = front_in s.heads.items s.nexts.items c.args.at c.args.slot front c.in_front-front.ensures.is;
      next = c.in_front-front.ensures.next;
      heads_are = refl;
      nexts_are = ap (λ (z : ℕ). slice_set s.nexts.items front z) c.next-behind.ensures;
    })
