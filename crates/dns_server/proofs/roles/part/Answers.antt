use Rattle.std.proofs.Common.{◌≡◌, ◌∙◌, ℕ, ◌+◌, List, [], ◌∷◌, ◌++◌, length, refl, sym, ap, subst, append_assoc, append-nil, arith}
use Rattle.std.proofs.lemmas.List.{length_push}
use Rattle.dns_server.specs.declared.report.Done.{Done}
use Rattle.dns_server.specs.declared.roles.Role.{Role}
use Rattle.dns_server.specs.declared.roles.Role.TheVariants.{Work}
use Rattle.dns_server.specs.Each.{Each3}
use Rattle.dns_server.specs.Roles.{AreWorking, IsPart}
use Rattle.dns_server.proofs.Each.{each3_push, no_items}
use Rattle.dns_server.proofs.roles.part.Goals as goal

pub loop-role-preserved : goal.loop-role-preserved
loop-role-preserved g c =
    let i = c.loop-role.invariant in
    let w = c.in-Work.worker in
    let done : Done _ = record { side = w.side; end = c.in-Some-end.end; pins = w.tally.pins; seen = w.tally.seen; starved = w.tally.starved } in
    let cut = i.0 ∙ ap (λ (l : List _). c.loop-role.yielded ++ l) c.in-Some.ensures.steps.0 in
    let others = subst AreWorking c.in-Some.ensures.steps.0 i.2 in
    let is : IsPart c.in-Some.role done w.pass = subst (λ (r : Role g.row.S.Denot g.row.W.Denot g.row.B.Denot g.row.E.Denot g.B.Rulebook g.E.Extra). IsPart r done w.pass) (sym (c.in-Work.is ∙ ap (λ (e : _). Work w e) c.in-Some-end.is)) (refl, refl) in
    let passes = c.push_reserved.ensures.items in
    let dones = c.push_reserved-in-loop-role.ensures.items in
    let more = length_push c.loop-role.yielded c.in-Some.role in (
      cut ∙ sym (append_assoc c.loop-role.yielded (c.in-Some.role ∷ []) c.next.new.self.rest.items),
      subst (λ (x : List _ × List _). Each3 IsPart (c.loop-role.yielded ++ c.in-Some.role ∷ []) x.0 x.1) (λ k. (sym dones k, sym passes k))
          (each3_push IsPart c.loop-role.yielded c.loop-role.dones.items c.loop-role.passes.items c.in-Some.role done w.pass i.1 is),
      others.1,
      c.push_reserved-in-loop-role.ensures.capacity ∙ i.3,
      c.push_reserved.ensures.capacity ∙ i.4,
      ap (λ (l : List _). length l) dones ∙ length_push c.loop-role.dones.items done ∙ ap (λ (n : ℕ). n + 1) i.5 ∙ sym more,
      ap (λ (l : List _). length l) passes ∙ length_push c.loop-role.passes.items w.pass ∙ ap (λ (n : ℕ). n + 1) i.6 ∙ sym more,
    )

pub returns : goal.returns
returns g c =
    let i = c.loop-role.invariant in
    let none = no_items c.loop-role.role-iterator.rest.items (omega (arith, c.in-None.ensures.steps)) in
    let all : c.args.roles.items ≡ c.loop-role.yielded = i.0 ∙ (ap (λ (l : List _). c.loop-role.yielded ++ l) none ∙ append-nil c.loop-role.yielded) in
    subst (λ (l : List _). Each3 IsPart l c.loop-role.dones.items c.loop-role.passes.items) (sym all) i.1
