use Rattle.std.proofs.Common.{◌∙◌, ap, take}
use Rattle.template_plugin.specs.Pieces.{is_space}
use Rattle.corefile_words.specs.LinesLaws.{take_before}
use Rattle.template_plugin.proofs.piece_read.first_word.Goals as goal

pub returns-clause-word : goal.returns-clause-word
returns-clause-word c =
    c.split_at.ensures.front ∙ ap (λ n. take n c.args.text.now) c.word_size.ensures.value ∙ take_before is_space c.args.text.now
