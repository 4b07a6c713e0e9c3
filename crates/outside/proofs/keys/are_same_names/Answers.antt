use Rattle.std.proofs.Common.{◌∙◌, refl, sym, ap}
use Rattle.std.proofs.lemmas.Bool.Decides.{same_from_decides, Decides-eqb}
use Rattle.std.proofs.lemmas.Slice.Eq.{slice_eq-Decides}
use Rattle.dns_names.specs.Name.{spelled}
use Rattle.dns_names.specs.NameLaws.{same_spelling}
use Rattle.outside.proofs.keys.are_same_names.Goals as goal

pub returns : goal.returns
returns c =
    let a = c.args.a.now in
    let b = c.args.b.now in
    let first = c.as_wire.ensures.value in
    let second = c.as_wire-2.ensures.value in
    let e = c.are_equal.ensures in
    same_from_decides _ _
    ((λ t. same_spelling a b (sym first ∙ (e.0 t ∙ second))), (λ s. e.1 (first ∙ (ap spelled s ∙ sym second))))
    (slice_eq-Decides (λ x y. slice_eq-Decides Decides-eqb x y _ refl) a b _ refl)
