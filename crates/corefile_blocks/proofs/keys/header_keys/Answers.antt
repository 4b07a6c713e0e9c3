use Rattle.std.proofs.Common.{ap, ◌∙◌}
use Rattle.corefile_blocks.specs.Keys.{add_keys, pieces_of}
use Rattle.corefile_blocks.proofs.KeyLemmas.{word_read}
use Rattle.corefile_blocks.proofs.keys.header_keys.Goals as goal

pub loop-word-preserved : goal.loop-word-preserved
loop-word-preserved c =
    word_read c.args.port c.args.line c.loop-word.header c.add_pieces.new.header c.loop-word.rest.now c.in-Some.behind.now c.in-Some.word.now c.in-Some.ensures.cases.0
    (c.in_ok-add_pieces.ensures ∙ ap (λ text. add_keys c.args.port c.args.line c.loop-word.header (pieces_of text)) (c.as_bytes.ensures.value ∙ c.as_str.ensures))
    ∙ c.loop-word.invariant
