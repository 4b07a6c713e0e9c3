use Rattle.std.proofs.Common.{◌≡◌, ◌∙◌, ℕ, List, length, take, drop, ◌++◌, sym, ap, subst, arith}
use Rattle.std.specs.List.{AllZip}
use Rattle.dns_server.specs.Roles.{Becomes, task_of}
use Rattle.dns_server.proofs.Each.{written_back, zip_of}
use Rattle.dns_server.proofs.roles.act_all.Goals as goal

pub returns : goal.returns
returns g c =
    let a = c.act_each.ensures in
    let xs = c.args.roles.now.items in
    let ns = c.act_each.new.roles in
    let v = c.as_mut_slice.ensures.value in
    let B = Becomes g.S.Side.state g.W.PatternMaker.state (task_of c.args.shared.now) in
    let long : length ns ≡ length xs = a.0 ∙ ap (λ (l : List _). length l) v in
    let n : c.args.roles.now.len ≡ length xs = omega arith in
    let e : take c.args.roles.now.len (ns ++ drop (length ns) xs) ≡ ns = ap (λ (k : ℕ). take k (ns ++ drop (length ns) xs)) n ∙ written_back ns xs long in
    subst (AllZip B xs) (sym e) (subst (λ (l : List _). AllZip B l ns) v (zip_of B c.as_mut_slice.result.now ns a.0 a.1))
