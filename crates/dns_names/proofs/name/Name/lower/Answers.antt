use Rattle.std.proofs.Common.{ap, ◌∙◌}
use Rattle.std.proofs.Common.{map}
use Rattle.std.specs.Char.{to_ascii_lowercase}
use Rattle.dns_names.specs.NameLaws.{lowered_wire}
use Rattle.dns_names.proofs.name.Name.lower.Goals as goal

pub invariant_of-result : goal.invariant_of-result
invariant_of-result c =
    let is = c.make_lower.ensures ∙ ap (map to_ascii_lowercase) c.in_ok-wire.ensures.value in
    (lowered_wire c.self.inside.wire _ c.args.self.now c.self.invariant c.self.view_is is).right

pub returns : goal.returns
returns c =
    let is = c.make_lower.ensures ∙ ap (map to_ascii_lowercase) c.in_ok-wire.ensures.value in
    (lowered_wire c.self.inside.wire _ c.args.self.now c.self.invariant c.self.view_is is).view
