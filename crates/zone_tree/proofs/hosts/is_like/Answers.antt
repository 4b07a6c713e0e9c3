use Rattle.std.proofs.Common.{◌≡◌, sym, ◌∙◌}
use Rattle.dns_names.specs.Name.{is_same}
use Rattle.zone_lookup.specs.Zone.{is_of}
use Rattle.zone_tree.proofs.Glue.{unlike}
use Rattle.zone_tree.proofs.hosts.is_like.Goals as goal

pub returns-then-not-same : goal.returns-then-not-same
returns-then-not-same c =
    let owners : is_same c.other.inside.owner c.entry.inside.owner ≡ is_same c.args.other.now.owner c.args.entry.now.owner = (λ j. is_same (c.other.view_is j).owner (c.entry.view_is j).owner) in
    unlike c.args.other.now c.args.entry.now (sym owners ∙ sym c.same.ensures.test ∙ c.if-not-same.true)

pub returns : goal.returns
returns c = c.is_of.ensures ∙ (λ j. is_of (c.entry.view_is j).owner (c.type_of-kind.ensures j) c.args.other.now)
