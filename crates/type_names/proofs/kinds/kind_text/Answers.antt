use Rattle.std.proofs.Common.{ap, ◌∙◌}
use Rattle.std.proofs.lemmas.Result.{IfOk-weaker}
use Rattle.type_names.proofs.PrintedKinds.{reads_back}
use Rattle.type_names.specs.Kinds.{kind_of_text}
use Rattle.type_names.proofs.kinds.kind_text.Goals as goal

pub returns-clause-read : goal.returns-clause-read
returns-clause-read c = IfOk-weaker c.printed.result _ _ (λ text is. ap kind_of_text is ∙ reads_back c.args.kind c.ranges.kind.fits) c.printed.ensures
