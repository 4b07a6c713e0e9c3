use Rattle.std.proofs.Common.{◌∙◌, ap, sym, arith}
use Rattle.std.proofs.lemmas.List.{nil_from_length}
use Rattle.upstream_words.specs.Upstreams.{words_in}
use Rattle.upstream_words.proofs.Cuts.{no_words, words_blank}
use Rattle.upstream_words.proofs.servers.next_word.Goals as goal

pub loop-byte-preserved : goal.loop-byte-preserved
loop-byte-preserved c = record {
  words = sym (words_blank c.in-Some.byte.now c.in-Some.others.now (sym c.is_blank.ensures ∙ c.if-is_blank.true)) ∙ ap words_in (sym c.in-Some.ensures.cases.0) ∙ c.loop-byte.invariant.words;
  shorter = omega (arith, c.in-Some.ensures.cases.1, c.loop-byte.invariant.shorter);
}

pub returns-clause-words : goal.returns-clause-words
returns-clause-words c = sym c.loop-byte.invariant.words ∙ ap words_in (nil_from_length c.loop-byte.rest.now c.in_default.ensures.cases) ∙ no_words

pub returns-clause-shorter : goal.returns-clause-shorter
returns-clause-shorter c = sym c.loop-byte.invariant.words ∙ ap words_in (nil_from_length c.loop-byte.rest.now c.in_default.ensures.cases) ∙ no_words
