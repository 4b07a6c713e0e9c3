use Rattle.std.proofs.Common.{refl}
use Rattle.std.proofs.lemmas.Bool.Decides.{same_from_decides, Decides-eqb}
use Rattle.std.proofs.lemmas.Slice.Eq.{slice_eq-Decides}
use Rattle.rewrite_plugin.proofs.text.is_text.Goals as goal

pub returns : goal.returns
returns c = same_from_decides _ _ c.are_equal.ensures (slice_eq-Decides Decides-eqb c.args.text.now c.args.other.now _ refl)
