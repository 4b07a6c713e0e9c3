use Rattle.std.proofs.Common.{◌++◌, ◌∙◌, [], ap, sym, subst, arith}
use Rattle.std.specs.Prelude.{IfSome}
use Rattle.zone_lookup.specs.Ready.{StandsBehind}
use Rattle.zone_lookup.specs.Zone.{cut_of, set_at}
use Rattle.zone_lookup.specs.ZoneAnswer.{Refers, sought, with_hosts}
use Rattle.zone_lookup.specs.declared.find.Reached.TheVariants as reached
use Rattle.zone_lookup.proofs.Chaining.{steps_found, refers_found, refers_by_cut, refers_lent, begins_with}
use Rattle.zone_tree.specs.Ready.{IsReferralAt}
use Rattle.zone_tree.specs.Sets.{picked}
use Rattle.zone_tree.proofs.Shapes.{inside}
use Rattle.zone_tree.proofs.Cutting.{steps_nothing, no_cut_by, cut_is_at, cut_by, longest_inside}
use Rattle.zone_tree.proofs.Glue.{served, hosts_known, referral_kept, referral_of, referral_known, refers_in}
use Rattle.zone_tree.proofs.store.TreeZoneZoneStore.refer_or_find.Goals as goal

pub returns-in_default : goal.returns-in_default
returns-in_default c =
    let tree = c.self.inside.tree in
    subst (λ zone. Refers zone (sought zone c.args.name.now c.args.kind) (reached.Found c.nothing.result) c.args.slot.now) c.self.view_is
    (refers_found tree.zone c.args.name.now c.args.kind c.nothing.result [] c.args.slot.now
    (steps_nothing tree.table tree.zone c.args.name.now c.args.kind c.nothing.result [] c.self.invariant.tree_is.names c.in_default.ensures.none c.nothing.ensures.absent c.nothing.ensures.target) c.requires.clear)

pub index-requires : goal.index-requires
index-requires c = let lt = longest_inside c.self.inside.tree.table c.args.name.now c.in-Some.encloser c.in-Some.ensures.found in omega (arith, lt, c.self.invariant.tree_is.cuts.as_many)

pub returns-in_default-index : goal.returns-in_default-index
returns-in_default-index c =
    let tree = c.self.inside.tree in
    let clear = c.slot.view_is ∙ c.requires.clear in
    let none_yet = ap (λ a. a.answer) clear in
    let at = cut_is_at tree c.args.name.now c.in-Some.encloser c.index.result.now c.self.invariant.tree_is c.in-Some.ensures.found c.index.ensures in
    let none = no_cut_by tree.table (cut_of tree.zone c.args.name.now) c.index.result.now at c.in_default-index.is in
    let finds = rw none_yet at c.in_ok-find.ensures in
    refers_in tree.zone c.args.self.now c.args.name.now c.args.kind (reached.Found c.in_ok-find.find) _ c.self.view_is
    (refers_found tree.zone c.args.name.now c.args.kind c.in_ok-find.find c.find.new.out _ (steps_found tree.zone c.args.name.now c.args.kind c.in_ok-find.find [] c.find.new.out none finds)
    (begins_with _ c.find.new.out clear))

pub index-requires-2 : goal.index-requires-2
index-requires-2 c =
    let tree = c.self.inside.tree in
    let at = cut_is_at tree c.args.name.now c.in-Some.encloser c.index.result.now c.self.invariant.tree_is c.in-Some.ensures.found c.index.ensures in
    let cut = cut_by tree.table (cut_of tree.zone c.args.name.now) c.index.result.now c.in-Some-index.cut at c.in-Some-index.is in
    let lt = inside tree.table c.in-Some-index.cut cut.name cut.named in
    omega (arith, lt, c.self.invariant.referrals_are.as_many)

pub returns-in-Some-index-2 : goal.returns-in-Some-index-2
returns-in-Some-index-2 c =
    let tree = c.self.inside.tree in
    let at = cut_is_at tree c.args.name.now c.in-Some.encloser c.index.result.now c.self.invariant.tree_is c.in-Some.ensures.found c.index.ensures in
    let cut = cut_by tree.table (cut_of tree.zone c.args.name.now) c.index.result.now c.in-Some-index.cut at c.in-Some-index.is in
    let lt = inside tree.table c.in-Some-index.cut cut.name cut.named in
    let kept = referral_kept tree c.self.inside.referrals.items c.in-Some-index.cut c.index-2.result.now c.self.invariant.referrals_are lt c.index-2.ensures in
    let at_cut = subst (λ o. IfSome o (λ t. IsReferralAt tree c.in-Some-index.cut t.value)) c.in-Some-index-2.is kept in
    let stands = subst (StandsBehind tree.zone [] (set_at tree.zone cut.name 2)) (sym c.deref.ensures) (at_cut cut.name cut.named) in
    refers_in tree.zone c.args.self.now c.args.name.now c.args.kind _ _ c.self.view_is
    (refers_lent tree.zone c.args.name.now cut.name c.args.kind c.deref.result c.args.slot.now cut.is c.requires.clear stands)

pub index-requires-3 : goal.index-requires-3
index-requires-3 c =
    let tree = c.self.inside.tree in
    let at = cut_is_at tree c.args.name.now c.in-Some.encloser c.index.result.now c.self.invariant.tree_is c.in-Some.ensures.found c.index.ensures in
    let cut = cut_by tree.table (cut_of tree.zone c.args.name.now) c.index.result.now c.in-Some-index.cut at c.in-Some-index.is in
    let lt = inside tree.table c.in-Some-index.cut cut.name cut.named in
    omega (arith, lt, c.self.invariant.tree_is.sets.as_many)

pub index-requires-4 : goal.index-requires-4
index-requires-4 c =
    let tree = c.self.inside.tree in
    let at = cut_is_at tree c.args.name.now c.in-Some.encloser c.index.result.now c.self.invariant.tree_is c.in-Some.ensures.found c.index.ensures in
    let cut = cut_by tree.table (cut_of tree.zone c.args.name.now) c.index.result.now c.in-Some-index.cut at c.in-Some-index.is in
    let lt = inside tree.table c.in-Some-index.cut cut.name cut.named in
    omega (arith, lt, c.self.invariant.tree_is.hosts.as_many)

pub returns-in_default-index-3 : goal.returns-in_default-index-3
returns-in_default-index-3 c =
    let tree = c.self.inside.tree in
    let clear = c.slot.view_is ∙ c.requires.clear in
    let at = cut_is_at tree c.args.name.now c.in-Some.encloser c.index.result.now c.self.invariant.tree_is c.in-Some.ensures.found c.index.ensures in
    let cut = cut_by tree.table (cut_of tree.zone c.args.name.now) c.index.result.now c.in-Some-index.cut at c.in-Some-index.is in
    let servers = served tree cut.name c.in-Some-index.cut c.index-3.result.now _ _ c.slot.inside.authority c.copy_kind.new.out c.self.invariant.tree_is cut.named c.index-3.ensures c.as_slice-records.ensures c.as_slice-set.ensures c.in_ok-copy_kind.ensures.ok in
    let add = c.in_ok-push_hosts.ensures ∙ (λ j. with_hosts (sym c.self.view_is j) [] c.slot.inside.additional (c.as_slice-servers.ensures j)) in
    refers_in tree.zone c.args.self.now c.args.name.now c.args.kind reached.Cut _ c.self.view_is
    (refers_by_cut tree.zone c.args.name.now cut.name c.args.kind _ cut.is (referral_of tree.zone _ (set_at tree.zone cut.name 2) c.copy_kind.new.out c.push_hosts.new.out clear servers add))

pub returns : goal.returns
returns c =
    let tree = c.self.inside.tree in
    let clear = c.slot.view_is ∙ c.requires.clear in
    let at = cut_is_at tree c.args.name.now c.in-Some.encloser c.index.result.now c.self.invariant.tree_is c.in-Some.ensures.found c.index.ensures in
    let cut = cut_by tree.table (cut_of tree.zone c.args.name.now) c.index.result.now c.in-Some-index.cut at c.in-Some-index.is in
    let servers = served tree cut.name c.in-Some-index.cut c.index-3.result.now _ _ c.slot.inside.authority c.copy_kind.new.out c.self.invariant.tree_is cut.named c.index-3.ensures c.as_slice-records.ensures c.as_slice-set.ensures c.in_ok-copy_kind.ensures.ok in
    let known = hosts_known tree cut.name c.in-Some-index.cut c.index-4.result.now c.in-Some-index-3.hosts c.self.invariant.tree_is cut.named c.index-4.ensures c.in-Some-index-3.is in
    let add = c.in_ok-copy_numbers.ensures ∙ (λ j. c.slot.inside.additional ++ picked (c.as_slice-records.ensures j) (c.as_slice.ensures j)) in
    refers_in tree.zone c.args.self.now c.args.name.now c.args.kind reached.Cut _ c.self.view_is
    (refers_by_cut tree.zone c.args.name.now cut.name c.args.kind _ cut.is
    (referral_known tree.zone _ (set_at tree.zone cut.name 2) (picked tree.zone.records c.in-Some-index-3.hosts) c.copy_kind.new.out c.copy_numbers.new.out clear servers add known))
