use Rattle.std.proofs.Common.{[], sym, ap, ◌∙◌, arith}
use Rattle.std.proofs.Common.{subst, Some}
use Rattle.std.proofs.lemmas.Option.{slice_get-get_or}
use Rattle.dns_names.specs.Name.{IsLabel}
use Rattle.dns_names.specs.NameLaws.{proper}
use Rattle.dns_names.proofs.NameWalks.{rest_of, has_room, more_here, label_here, is_label}
use Rattle.dns_names.proofs.name.Name.label.Goals as goal

pub first_label-requires : goal.first_label-requires
first_label-requires c =
    let r = rest_of c.self.inside.wire c.as_slice.result.now c.behind.result.now c.args.self.now c.args.index (omega arith) c.self.view_is c.as_slice.ensures c.behind.ensures in
    has_room c.args.self.now c.args.index c.behind.result.now r (more_here _ _ _ r c.requires)

pub returns-clause-value : goal.returns-clause-value
returns-clause-value c =
    let r = rest_of c.self.inside.wire c.as_slice.result.now c.behind.result.now c.args.self.now c.args.index (omega arith) c.self.view_is c.as_slice.ensures c.behind.ensures in
    let is = label_here c.args.self.now c.args.index c.behind.result.now c.first_label.result.now r (more_here _ _ _ r c.requires) c.first_label.ensures in
    slice_get-get_or c.args.self.now c.args.index [] c.requires ∙ ap Some (sym is)

pub returns-clause-label : goal.returns-clause-label
returns-clause-label c =
    let r = rest_of c.self.inside.wire c.as_slice.result.now c.behind.result.now c.args.self.now c.args.index (omega arith) c.self.view_is c.as_slice.ensures c.behind.ensures in
    let is = label_here c.args.self.now c.args.index c.behind.result.now c.first_label.result.now r (more_here _ _ _ r c.requires) c.first_label.ensures in
    subst IsLabel (sym is) (is_label c.args.self.now c.args.index (proper c.self.inside.wire c.args.self.now c.self.invariant c.self.view_is) c.requires)
