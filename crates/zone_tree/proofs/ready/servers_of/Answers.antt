use Rattle.std.proofs.Common.{subst}
use Rattle.std.specs.Prelude.{IfSome}
use Rattle.zone_tree.specs.Ready.{IsReferralAt}
use Rattle.zone_tree.proofs.Shapes.{inside}
use Rattle.zone_tree.proofs.Filling.{numbered_some}
use Rattle.zone_tree.proofs.Glue.{ready_from, referral_tail}
use Rattle.zone_tree.proofs.ready.servers_of.Goals as goal

pub sections_at-requires-clause-inside : goal.sections_at-requires-clause-inside
sections_at-requires-clause-inside c =
    let tree = c.args.tree.now in
    inside tree.table c.in-Some.top tree.zone.origin (numbered_some tree.table tree.top c.in-Some.top tree.zone.origin c.requires.top c.in-Some.is)

pub returns : goal.returns
returns c =
    let tree = c.args.tree.now in
    let named = numbered_some tree.table tree.top c.in-Some.top tree.zone.origin c.requires.top c.in-Some.is in
    let sections = subst (λ o. IfSome o (λ s. IsReferralAt tree c.in-Some.top (record { authority = s.0; additional = s.1 }))) c.in-Some-2.is c.in_ok-servers.ensures in
    ready_from tree c.in-Some.top c.in_ok-new.field-0
    (referral_tail tree c.in-Some.top _ _ _ _ c.in_ok-new.field-0 sections c.as_slice.ensures c.as_slice-2.ensures c.in_ok-new.ensures) named
