use Rattle.std.proofs.Common.{ap, ◌∙◌, arith}
use Rattle.std.specs.List.{list_any}
use Rattle.zone_lookup.specs.Zone.{is_at, is_of}
use Rattle.zone_lookup.proofs.PlainList.{has_any, has_of}
use Rattle.zone_lookup.proofs.plain.PlainZoneZoneStore.has.Goals as goal

pub returns-then-kind-eq-ANY : goal.returns-then-kind-eq-ANY
returns-then-kind-eq-ANY c =
    c.owns_any.ensures ∙ ap (list_any (is_at c.args.name.now)) c.as_slice-records.ensures ∙ has_any c.args.self.now.zone c.args.name.now c.args.kind (omega arith)

pub returns : goal.returns
returns c =
    c.stands_in.ensures ∙ ap (list_any (is_of c.args.name.now c.args.kind)) c.as_slice-records.ensures ∙ has_of c.args.self.now.zone c.args.name.now c.args.kind (λ e. omega (arith, e))
