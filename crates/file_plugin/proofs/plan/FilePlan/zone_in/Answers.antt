use Rattle.std.proofs.Common.{◌∙◌, List, sym, ap, subst}
use Rattle.std.specs.List.{Contains}
use Rattle.file_plugin.specs.Zones.{FileData, Served}
use Rattle.file_plugin.proofs.Taking.{taken_is}
use Rattle.file_plugin.proofs.plan.FilePlan.zone_in.Goals as goal

pub returns-then-are_equal : goal.returns-then-are_equal
returns-then-are_equal c =
    let found = c.in_ok-found.found.now in
    let stands = subst (λ (zones : List Served). Contains zones found) c.zones.ensures c.in_ok-found.ensures.0 in
    let same = ap (λ (plan : FileData). plan.text) (sym c.self.view_is) ∙ sym c.as_slice.ensures ∙ c.are_equal.ensures.0 c.if-are_equal.true in
    taken_is c.args.self.now found c.args.text.now c.args.origin.now stands c.in_ok-found.ensures.1 same
