use Rattle.dns_names.specs.NameLaws.{same_case}
use Rattle.dns_names.specs.WithinLaws.{decides_same}
use Rattle.chain_trail.proofs.picking.is_same.Goals as goal

pub returns : goal.returns
returns c =
    let both = same_case c.args.name.now c.args.labels.now c.as_wire-name.ensures.proper.each c.as_wire-labels.ensures.proper.each in
    let test = rw (c.as_wire-name.ensures.value, c.as_wire-labels.ensures.value) at c.eq_ignore_ascii_case.ensures.test in
    decides_same c.args.name.now c.args.labels.now _ (λ t. both.0 (test.0 t), λ h. test.1 (both.1 h))
