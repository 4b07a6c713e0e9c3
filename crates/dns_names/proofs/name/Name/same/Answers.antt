use Rattle.dns_names.specs.WithinLaws.{decides_same}
use Rattle.dns_names.proofs.NameWalks.{same_wires}
use Rattle.dns_names.proofs.name.Name.same.Goals as goal

pub returns-clause-same : goal.returns-clause-same
returns-clause-same c =
    let e = same_wires c.self.inside.wire c.other.inside.wire c.args.self.now c.args.other.now c.self.invariant c.self.view_is c.other.invariant c.other.view_is in (
      λ t. e.0 (rw (← c.as_slice.ensures, ← c.as_slice-2.ensures) (c.same_letters.ensures.0 t)),
      λ h. c.same_letters.ensures.1 (rw (c.as_slice.ensures, c.as_slice-2.ensures) (e.1 h)),
    )

pub returns-clause-test : goal.returns-clause-test
returns-clause-test c = decides_same c.args.self.now c.args.other.now _ (returns-clause-same c)
