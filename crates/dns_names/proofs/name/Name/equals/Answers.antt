use Rattle.std.proofs.Common.{refl}
use Rattle.std.proofs.lemmas.Bool.Decides.{same_from_decides, Decides-eqb}
use Rattle.std.proofs.lemmas.Slice.Eq.{slice_eq-Decides}
use Rattle.dns_names.proofs.NameWalks.{same_name}
use Rattle.dns_names.proofs.name.Name.equals.Goals as goal

pub returns-clause-test : goal.returns-clause-test
returns-clause-test c =
    let e = same_name c.eq.result c.as_slice.result.now c.as_slice-2.result.now c.self.inside.wire c.other.inside.wire c.args.self.now c.args.other.now c.self.invariant c.self.view_is c.other.invariant c.other.view_is c.as_slice.ensures c.as_slice-2.ensures c.eq.ensures in
    same_from_decides _ _ e (slice_eq-Decides (λ a b. slice_eq-Decides Decides-eqb a b _ refl) c.args.self.now c.args.other.now _ refl)
