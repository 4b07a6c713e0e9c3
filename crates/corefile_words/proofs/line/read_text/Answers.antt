use Rattle.std.proofs.Common.{◌+◌, drop, sym, ap, subst, ◌∙◌}
use Rattle.std.proofs.lemmas.List.{take_rest, nil_from_length}
use Rattle.std.specs.Str.{IsUtf8}
use Rattle.corefile_words.specs.declared.fault.WordsFault.TheVariants.{OpenQuote, QuoteTail}
use Rattle.corefile_words.specs.Words.{ends_word, join, words_from}
use Rattle.corefile_words.proofs.Steps.{after_blank, at_comment, at_open, at_tail, after_quoted, after_plain, goes_on, no_more, at_fault}
use Rattle.corefile_words.proofs.Texts.{utf8_after_blank, utf8_after_quote, utf8_quoted, utf8_after_quoted, utf8_plain, utf8_after_plain}
use Rattle.corefile_words.proofs.line.read_text.Goals as goal

pub loop-byte-preserved-then-is_blank : goal.loop-byte-preserved-then-is_blank
loop-byte-preserved-then-is_blank c =
    let is = c.in-Some.ensures.cases.0 in
    let blank = sym c.is_blank.ensures ∙ c.if-is_blank.true in
    record {
      says = ap (join c.loop-byte.words) (sym (after_blank c.args.env.now c.args.number c.in-Some.byte.now c.loop-byte.rest.now c.in-Some.behind.now is blank)) ∙ c.loop-byte.invariant.says;
      utf8 = utf8_after_blank c.in-Some.byte.now c.loop-byte.rest.now c.in-Some.behind.now is c.loop-byte.invariant.utf8 blank;
    }

pub returns-then-byte-eq35 : goal.returns-then-byte-eq35
returns-then-byte-eq35 c =
    no_more c.args.env.now c.args.number c.args.line.now c.loop-byte.rest.now c.loop-byte.words c.requires c.loop-byte.invariant.says
    (at_comment c.args.env.now c.args.number c.in-Some.byte.now c.loop-byte.rest.now c.in-Some.behind.now c.in-Some.ensures.cases.0
    (sym c.is_blank.ensures ∙ c.if-is_blank.false) c.if-byte-eq35.true)

pub returns-in_default-quoted_size : goal.returns-in_default-quoted_size
returns-in_default-quoted_size c =
    at_fault c.args.env.now c.args.number c.args.line.now c.loop-byte.rest.now c.loop-byte.words (OpenQuote c.args.number) c.requires c.loop-byte.invariant.says
    (at_open c.args.env.now c.args.number c.in-Some.byte.now c.loop-byte.rest.now c.in-Some.behind.now c.in-Some.ensures.cases.0
    (sym c.is_blank.ensures ∙ c.if-is_blank.false) c.if-byte-eq35.false c.if-byte-eq34.true
    (sym c.quoted_size.ensures.value ∙ c.in_default-quoted_size.is))

pub returns-then-not-ends_word : goal.returns-then-not-ends_word
returns-then-not-ends_word c =
    let rest = take_rest c.in-Some.behind.now (c.in-Some-quoted_size.size + 1) in
    at_fault c.args.env.now c.args.number c.args.line.now c.loop-byte.rest.now c.loop-byte.words (QuoteTail c.args.number) c.requires c.loop-byte.invariant.says
    (at_tail c.args.env.now c.args.number c.in-Some.byte.now c.loop-byte.rest.now c.in-Some.behind.now c.in-Some-quoted_size.size c.in-Some.ensures.cases.0
    (sym c.is_blank.ensures ∙ c.if-is_blank.false) c.if-byte-eq35.false c.if-byte-eq34.true (sym c.in-Some-quoted_size.ensures.value)
    (sym (ap ends_word rest) ∙ sym c.ends_word.ensures ∙ c.if-not-ends_word.true))

pub push_quoted-requires : goal.push_quoted-requires
push_quoted-requires c =
    let text = utf8_after_quote c.in-Some.byte.now c.loop-byte.rest.now c.in-Some.behind.now c.in-Some.ensures.cases.0 c.loop-byte.invariant.utf8 c.if-byte-eq34.true in
    utf8_quoted c.in-Some.behind.now c.in-Some-quoted_size.size text c.in-Some-quoted_size.ensures.inside c.in-Some-quoted_size.ensures.quote

pub loop-byte-preserved-then-byte-eq34 : goal.loop-byte-preserved-then-byte-eq34
loop-byte-preserved-then-byte-eq34 c =
    let rest = take_rest c.in-Some.behind.now (c.in-Some-quoted_size.size + 1) in
    let text = utf8_after_quote c.in-Some.byte.now c.loop-byte.rest.now c.in-Some.behind.now c.in-Some.ensures.cases.0 c.loop-byte.invariant.utf8 c.if-byte-eq34.true in
    let step = after_quoted c.args.env.now c.args.number c.in-Some.byte.now c.loop-byte.rest.now c.in-Some.behind.now c.in-Some-quoted_size.size c.in-Some.ensures.cases.0
    (sym c.is_blank.ensures ∙ c.if-is_blank.false) c.if-byte-eq35.false c.if-byte-eq34.true (sym c.in-Some-quoted_size.ensures.value)
    (sym (ap ends_word rest) ∙ sym c.ends_word.ensures ∙ c.if-not-ends_word.false) in
    record {
      says = rw rest (goes_on c.args.env.now c.args.number c.args.line.now c.loop-byte.rest.now (drop (c.in-Some-quoted_size.size + 1) c.in-Some.behind.now) c.loop-byte.words c.push_quoted.new.words _ c.loop-byte.invariant.says
          c.in_ok-push_quoted.ensures step);
      utf8 = subst IsUtf8 (sym rest)
          (utf8_after_quoted c.in-Some.behind.now c.in-Some-quoted_size.size text c.in-Some-quoted_size.ensures.inside c.in-Some-quoted_size.ensures.quote);
    }

pub push_plain-requires : goal.push_plain-requires
push_plain-requires c =
    utf8_plain c.in-Some.byte.now c.loop-byte.rest.now c.in-Some.behind.now c.plain_size-size.result c.in-Some.ensures.cases.0 c.loop-byte.invariant.utf8 c.plain_size-size.ensures.value

pub loop-byte-preserved : goal.loop-byte-preserved
loop-byte-preserved c =
    let rest = take_rest c.in-Some.behind.now c.plain_size-size.result in
    let step = after_plain c.args.env.now c.args.number c.in-Some.byte.now c.loop-byte.rest.now c.in-Some.behind.now c.plain_size-size.result c.in-Some.ensures.cases.0
    (sym c.is_blank.ensures ∙ c.if-is_blank.false) c.if-byte-eq35.false c.if-byte-eq34.false c.plain_size-size.ensures.value in
    record {
      says = rw rest (goes_on c.args.env.now c.args.number c.args.line.now c.loop-byte.rest.now (drop c.plain_size-size.result c.in-Some.behind.now) c.loop-byte.words c.push_plain.new.words _ c.loop-byte.invariant.says
          c.in_ok-push_plain.ensures step);
      utf8 = subst IsUtf8 (sym rest)
          (utf8_after_plain c.in-Some.byte.now c.loop-byte.rest.now c.in-Some.behind.now c.plain_size-size.result c.in-Some.ensures.cases.0 c.loop-byte.invariant.utf8 c.plain_size-size.ensures.value);
    }

pub returns : goal.returns
returns c =
    no_more c.args.env.now c.args.number c.args.line.now c.loop-byte.rest.now c.loop-byte.words c.requires c.loop-byte.invariant.says
    (ap (words_from c.args.env.now c.args.number 0) (nil_from_length c.loop-byte.rest.now c.in_default.ensures.cases))
