use Rattle.std.proofs.Common.{◌≡◌, [], ◌∷◌, ◌++◌, Some, sym, ◌∙◌, subst, length, rules}
use Rattle.std.proofs.lemmas.List.Elements.{All-pop}
use Rattle.pin_table.specs.{id_of}
use Rattle.pin_soak.specs.Roles.{IsRole, AreHome}
use Rattle.pin_soak.proofs.Home.{home_push}
use Rattle.pin_soak.proofs.soaking.parts_of.Goals as goal

pub loop-role-preserved : goal.loop-role-preserved
loop-role-preserved c =
    let table = c.args.table.now in
    let i = c.loop-role.invariant in
    let t = All-pop (IsRole table) c.loop-role.roles.items c.pop.new.self.items (Some c.in-Some.role) c.in-Some.ensures.items i.0 in
    let w = subst (IsRole table) c.in-Work.is t.1 in
    let here : c.in-Work.worker.number ≡ length c.loop-role.passes.items = search rules in
    let more : c.push.new.self.items ≡ c.loop-role.passes.items ++ c.in-Work.worker.pass ∷ [] = search rules in
    (t.0, subst (AreHome (id_of table)) (sym more) (home_push (id_of table) c.loop-role.passes.items c.in-Work.worker.pass i.1 w.own (w.number ∙ here) w.idle w.kept))

pub returns-in-Keep-clause-keeper : goal.returns-in-Keep-clause-keeper
returns-in-Keep-clause-keeper c =
    let table = c.args.table.now in
    let i = c.loop-role.invariant in
    let t = All-pop (IsRole table) c.loop-role.roles.items c.pop.new.self.items (Some c.in-Some.role) c.in-Some.ensures.items i.0 in
    subst (IsRole table) c.in-Keep.is t.1
