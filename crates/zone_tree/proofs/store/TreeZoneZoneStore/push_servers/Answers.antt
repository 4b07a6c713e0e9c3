use Rattle.std.proofs.Common.{◌++◌, ◌∙◌, ap, sym, arith}
use Rattle.std.proofs.lemmas.List.{append-nil}
use Rattle.std.proofs.lemmas.Result.{on_ok_weaker}
use Rattle.zone_lookup.specs.Zone.{set_at}
use Rattle.zone_lookup.specs.ZoneAnswer.{with_hosts}
use Rattle.zone_lookup.proofs.Chaining.{no_hosts}
use Rattle.zone_tree.specs.Sets.{picked}
use Rattle.zone_tree.proofs.Shapes.{inside}
use Rattle.zone_tree.proofs.Filling.{no_set, numbered_none, numbered_some}
use Rattle.zone_tree.proofs.Glue.{served, hosts_known, known_apart, rest_is}
use Rattle.zone_tree.proofs.store.TreeZoneZoneStore.push_servers.Goals as goal

pub returns-in_default-clause-authority : goal.returns-in_default-clause-authority
returns-in_default-clause-authority c =
    let tree = c.self.inside.tree in
    let missing = numbered_none tree.table tree.top tree.zone.origin c.self.invariant.tree_is.top c.in_default.is in
    let none = no_set tree.table tree.zone tree.zone.origin 2 c.self.invariant.tree_is.names missing in
    sym (append-nil c.args.authority.now) ∙ ap (λ rs. c.args.authority.now ++ rs) (sym none ∙ ap (λ zone. set_at zone zone.origin 2) c.self.view_is)

pub index-requires : goal.index-requires
index-requires c =
    let tree = c.self.inside.tree in
    let named = numbered_some tree.table tree.top c.in-Some.number tree.zone.origin c.self.invariant.tree_is.top c.in-Some.is in
    let lt = inside tree.table c.in-Some.number tree.zone.origin named in
    omega (arith, lt, c.self.invariant.tree_is.sets.as_many)

pub returns-in_default-clause-additional : goal.returns-in_default-clause-additional
returns-in_default-clause-additional c =
    let tree = c.self.inside.tree in
    let missing = numbered_none tree.table tree.top tree.zone.origin c.self.invariant.tree_is.top c.in_default.is in
    let none = sym (ap (λ zone. set_at zone zone.origin 2) c.self.view_is) ∙ no_set tree.table tree.zone tree.zone.origin 2 c.self.invariant.tree_is.names missing in
    sym (no_hosts c.args.self.now c.args.answer.now c.args.additional.now) ∙ ap (with_hosts c.args.self.now c.args.answer.now c.args.additional.now) (sym none)

pub index-requires-2 : goal.index-requires-2
index-requires-2 c =
    let tree = c.self.inside.tree in
    let named = numbered_some tree.table tree.top c.in-Some.number tree.zone.origin c.self.invariant.tree_is.top c.in-Some.is in
    let lt = inside tree.table c.in-Some.number tree.zone.origin named in
    omega (arith, lt, c.self.invariant.tree_is.hosts.as_many)

pub returns-in_default-index-clause-authority : goal.returns-in_default-index-clause-authority
returns-in_default-index-clause-authority c =
    let tree = c.self.inside.tree in
    let named = numbered_some tree.table tree.top c.in-Some.number tree.zone.origin c.self.invariant.tree_is.top c.in-Some.is in
    let is = served tree tree.zone.origin c.in-Some.number c.index.result.now _ _ c.args.authority.now c.copy_kind.new.out c.self.invariant.tree_is named c.index.ensures c.as_slice-records.ensures c.as_slice.ensures c.in_ok-copy_kind.ensures.ok in
    on_ok_weaker c.push_hosts.result (λ e. is ∙ ap (λ zone. c.args.authority.now ++ set_at zone zone.origin 2) c.self.view_is) c.push_hosts.ensures

pub returns-in_default-index-clause-additional : goal.returns-in_default-index-clause-additional
returns-in_default-index-clause-additional c =
    let tree = c.self.inside.tree in
    let named = numbered_some tree.table tree.top c.in-Some.number tree.zone.origin c.self.invariant.tree_is.top c.in-Some.is in
    let is = served tree tree.zone.origin c.in-Some.number c.index.result.now _ _ c.args.authority.now c.copy_kind.new.out c.self.invariant.tree_is named c.index.ensures c.as_slice-records.ensures c.as_slice.ensures c.in_ok-copy_kind.ensures.ok
    ∙ ap (λ zone. c.args.authority.now ++ set_at zone zone.origin 2) c.self.view_is in
    let rest = rest_is c.args.authority.now (set_at c.args.self.now c.args.self.now.origin 2) c.as_slice-in_default-index.result.now c.len-start.result c.len-start.ensures (c.as_slice-in_default-index.ensures ∙ is) in
    on_ok_weaker c.push_hosts.result (λ e. e ∙ ap (with_hosts c.args.self.now c.args.answer.now c.args.additional.now) rest) c.push_hosts.ensures

pub returns-then-branch-clause-authority : goal.returns-then-branch-clause-authority
returns-then-branch-clause-authority c =
    let tree = c.self.inside.tree in
    let named = numbered_some tree.table tree.top c.in-Some.number tree.zone.origin c.self.invariant.tree_is.top c.in-Some.is in
    let is = served tree tree.zone.origin c.in-Some.number c.index.result.now _ _ c.args.authority.now c.copy_kind.new.out c.self.invariant.tree_is named c.index.ensures c.as_slice-records.ensures c.as_slice.ensures c.in_ok-copy_kind.ensures.ok in
    is ∙ ap (λ zone. c.args.authority.now ++ set_at zone zone.origin 2) c.self.view_is

pub returns-then-branch-clause-additional : goal.returns-then-branch-clause-additional
returns-then-branch-clause-additional c =
    let tree = c.self.inside.tree in
    let named = numbered_some tree.table tree.top c.in-Some.number tree.zone.origin c.self.invariant.tree_is.top c.in-Some.is in
    let known = (λ j. picked (c.as_slice-records.ensures j) (c.as_slice-2.ensures j))
    ∙ hosts_known tree tree.zone.origin c.in-Some.number c.index-2.result.now c.in-Some-index.hosts c.self.invariant.tree_is named c.index-2.ensures c.in-Some-index.is in
    let apart = rw c.if-branch.true at c.in_ok-copy_apart.ensures in
    known_apart tree.zone c.args.answer.now c.args.additional.now (set_at tree.zone tree.zone.origin 2) _ c.copy_apart.new.out known apart.0 apart.1 apart.2
    ∙ ap (λ zone. with_hosts zone c.args.answer.now c.args.additional.now (set_at zone zone.origin 2)) c.self.view_is

pub returns-clause-authority : goal.returns-clause-authority
returns-clause-authority c =
    let tree = c.self.inside.tree in
    let named = numbered_some tree.table tree.top c.in-Some.number tree.zone.origin c.self.invariant.tree_is.top c.in-Some.is in
    let is = served tree tree.zone.origin c.in-Some.number c.index.result.now _ _ c.args.authority.now c.copy_kind.new.out c.self.invariant.tree_is named c.index.ensures c.as_slice-records.ensures c.as_slice.ensures c.in_ok-copy_kind.ensures.ok
    ∙ ap (λ zone. c.args.authority.now ++ set_at zone zone.origin 2) c.self.view_is in
    on_ok_weaker c.push_hosts-2.result (λ e. is) c.push_hosts-2.ensures

pub returns-clause-additional : goal.returns-clause-additional
returns-clause-additional c =
    let tree = c.self.inside.tree in
    let named = numbered_some tree.table tree.top c.in-Some.number tree.zone.origin c.self.invariant.tree_is.top c.in-Some.is in
    let is = served tree tree.zone.origin c.in-Some.number c.index.result.now _ _ c.args.authority.now c.copy_kind.new.out c.self.invariant.tree_is named c.index.ensures c.as_slice-records.ensures c.as_slice.ensures c.in_ok-copy_kind.ensures.ok
    ∙ ap (λ zone. c.args.authority.now ++ set_at zone zone.origin 2) c.self.view_is in
    let rest = rest_is c.args.authority.now (set_at c.args.self.now c.args.self.now.origin 2) c.as_slice-3.result.now c.len-start.result c.len-start.ensures (c.as_slice-3.ensures ∙ is) in
    let same = rw c.if-branch.false at c.in_ok-copy_apart.ensures in
    on_ok_weaker c.push_hosts-2.result (λ e. e ∙ (λ j. with_hosts c.args.self.now c.args.answer.now (same j) (rest j))) c.push_hosts-2.ensures
