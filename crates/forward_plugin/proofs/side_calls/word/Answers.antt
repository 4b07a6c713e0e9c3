use Rattle.std.proofs.Common.{[], ◌∷◌, refl}
use Rattle.outside.specs.declared.entry.InnerMark.TheVariants as inner
use Rattle.forward_plugin.specs.Forward.{take_word}
use Rattle.forward_plugin.proofs.CallLaws.{lost}
use Rattle.forward_plugin.proofs.side_calls.word.Goals as goal

pub returns-in_err-keep : goal.returns-in_err-keep
returns-in_err-keep g c =
    lost take_word (inner.Word c.word-word.result ∷ []) c.from_residual.ensures.0 c.word-word.ensures.told c.word-word.ensures.counts refl refl
