use Rattle.std.proofs.Common.{◌+◌, arith, rules}
use Rattle.corefile_words.specs.Words.{ReadsWords}
use Rattle.corefile_words.proofs.BadLines.{text_of, at_break}
use Rattle.corefile_words.proofs.Numbers.{at_start, at_end, words_are}
use Rattle.corefile_words.proofs.reading.read_words.Goals as goal

pub loop-rest-init : goal.loop-rest-init
loop-rest-init c =
    record { says = at_start c.args.env.now c.args.bytes.now c.new-lines.result c.new-lines.ensures; few = omega arith }

pub returns-in_err-words-clause-not_text : goal.returns-in_err-words-clause-not_text
returns-in_err-words-clause-not_text c =
    let reads : ReadsWords c.args.bytes.now c.args.env.now c.from_residual.result = search rules in
    λ line e. at_break c.args.env.now c.args.bytes.now line c.from_residual.result reads e

pub returns-clause-reads : goal.returns-clause-reads
returns-clause-reads c =
    at_end c.args.env.now (c.loop-rest.number + 1) c.args.bytes.now c.loop-rest.rest.now c.loop-rest.lines c.loop-rest.invariant.says (omega arith)

pub returns-clause-utf8 : goal.returns-clause-utf8
returns-clause-utf8 c = text_of c.args.env.now c.args.bytes.now c.loop-rest.lines (returns-clause-reads c)

pub returns-clause-words : goal.returns-clause-words
returns-clause-words c = words_are c.args.env.now c.args.bytes.now c.loop-rest.lines (returns-clause-reads c)
