use Rattle.std.proofs.Common.{◌≡◌, ◌<◌, ◌∙◌, ℕ, ◌+◌, List, [], ◌∷◌, ◌++◌, length, sym, ap, subst, append_assoc, arith}
use Rattle.std.proofs.lemmas.List.{length_push}
use Rattle.std.proofs.Common.{length-append}
use Rattle.chain_build.specs.declared.chain.Chain.{Chain}
use Rattle.pin_table.specs.declared.passes.Pass.{Pass}
use Rattle.pin_table.specs.{id_of, pass_of}
use Rattle.pin_table.specs.Opening.{new_pass}
use Rattle.dns_server.specs.Roles.{AreStarting, IsStarting}
use Rattle.dns_server.proofs.Starting.{PassesFrom, first_pass, other_passes, start_count, start_push}
use Rattle.dns_server.proofs.roles.push_workers.Goals as goal

pub push_reserved-requires : goal.push_reserved-requires
push_reserved-requires g c =
    let i = c.loop-side.invariant in
    let count = start_count c.args.table.now 0 c.loop-side.yielded c.loop-side.roles.items i.3 in
    let all = ap (λ (l : List _). length l) (i.0 ∙ ap (λ (l : List _). c.loop-side.yielded ++ l) c.in-Some.ensures.steps.0) in
    let parts = length-append c.loop-side.yielded (c.in-Some.side ∷ c.next.new.self.rest.items) in
    omega (arith, count, all, parts, i.4, c.requires.room)

pub loop-side-preserved : goal.loop-side-preserved
loop-side-preserved g c =
    let table = c.args.table.now in
    let i = c.loop-side.invariant in
    let passes = c.loop-side.passes.items in
    let n = length c.loop-side.yielded in
    let w = c.new-worker.result in
    let steps = c.in-Some.ensures.steps.0 in
    let cut = i.0 ∙ ap (λ (l : List _). c.loop-side.yielded ++ l) steps in
    let rest = ap (λ (l : List _). length l) steps in
    let many : length passes ≡ length c.next.new.self.rest.items + 1 = omega (arith, i.1, rest) in
    let some : 0 < length passes = omega (arith, many) in
    let first = first_pass (id_of table) n passes c.remove-pass.result some i.2 in
    let made = c.new-worker.ensures in
    let is_first = made.pass ∙ c.remove-pass.ensures.value in
    let is : IsStarting table n c.in-Some.side w = record {
      side_is = made.side;
      own = subst (λ (p : Pass _). p.seat.table_id ≡ id_of table) (sym is_first) first.0;
      pass_is = subst (λ (p : Pass _). pass_of p ≡ new_pass n 1) (sym is_first) first.1;
      idle = made.idle;
    } in
    let left = c.remove-pass.ensures.items in (
      cut ∙ sym (append_assoc c.loop-side.yielded (c.in-Some.side ∷ []) c.next.new.self.rest.items),
      omega (arith, c.remove-pass.ensures.len, many),
      subst (λ (x : ℕ × List (Pass (Chain g.row.B.Denot g.row.E.Denot g.B.Rulebook g.E.Extra))). PassesFrom (id_of table) x.0 x.1) (λ k. (sym (length_push c.loop-side.yielded c.in-Some.side) k, sym left k)) (other_passes (id_of table) n passes some i.2),
      subst (AreStarting table 0 (c.loop-side.yielded ++ c.in-Some.side ∷ [])) (sym c.push_reserved.ensures.items) (start_push table 0 c.loop-side.yielded c.loop-side.roles.items c.in-Some.side w i.3 (subst (λ (k : ℕ). IsStarting table k c.in-Some.side w) (omega arith) is)),
      c.push_reserved.ensures.capacity ∙ i.4,
      c.remove-pass.ensures.capacity ∙ i.5,
    )
