use Rattle.std.proofs.Common.{◌∷◌, ◌∙◌, ap, sym, take, drop}
use Rattle.hosts_plugin.specs.Listings.{is_blank, words_in}
use Rattle.corefile_words.specs.LinesLaws.{take_before}
use Rattle.hosts_plugin.proofs.Cuts.{words_first}
use Rattle.hosts_plugin.proofs.words.first_word.Goals as goal

pub returns-clause-words : goal.returns-clause-words
returns-clause-words c =
    let line = c.args.line.now in
    let size = c.word_size.ensures.value in
    let front = c.split_at.ensures.front ∙ ap (λ n. take n line) size ∙ take_before is_blank line in
    let back = c.split_at.ensures.back ∙ ap (λ n. drop n line) size in
    words_first line c.requires ∙ sym (λ i. front i ∷ words_in (back i))
