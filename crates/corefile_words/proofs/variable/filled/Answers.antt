use Rattle.std.proofs.Common.{◌≡◌, ℕ, ◌+◌, List, ◌++◌, length, get_or, sym, ap, subst, ◌∙◌}
use Rattle.std.proofs.lemmas.List.{take_rest}
use Rattle.std.proofs.lemmas.Result.{IfOk-at_ok}
use Rattle.std.specs.Str.{IsUtf8}
use Rattle.std.specs.String.{string_vec}
use Rattle.corefile_words.specs.Variables.{IsClosedAt}
use Rattle.corefile_words.proofs.Texts.{utf8_put}
use Rattle.corefile_words.proofs.Variables.{puts_value, all_filled}
use Rattle.corefile_words.proofs.variable.filled.Goals as goal

pub loop-byte-preserved-in-Some-variable_at : goal.loop-byte-preserved-in-Some-variable_at
loop-byte-preserved-in-Some-variable_at c =
    let is = c.in-Some.ensures.cases.0 in
    let variable = c.in-Some-variable_at.ensures in
    let items = c.in_ok-extend_from_slice.ensures.items in
    let value = c.as_bytes.ensures.value in
    let after = take_rest c.in-Some.behind.now (length c.in-Some-variable_at.name.now + 2) in
    let made = items ∙ ap (λ (l : List ℕ). c.loop-byte.text.items ++ l) value in
    record {
      says = puts_value c.args.env.now c.in-Some.byte.now c.loop-byte.text.items c.extend_from_slice.new.self.items c.loop-byte.rest.now c.in-Some.behind.now _
          c.args.word.now c.in-Some-variable_at.name.now c.loop-byte.invariant.says is (sym variable.value)
          (made ∙ ap (λ (l : List ℕ). c.loop-byte.text.items ++ l) c.value_of.ensures) after;
      utf8 = subst IsUtf8 (λ i. sym made i ++ sym after i)
          (utf8_put c.loop-byte.text.items c.value_of.result.now c.in-Some.byte.now c.in-Some.behind.now (length c.in-Some-variable_at.name.now)
          (subst (λ (l : List ℕ). IsUtf8 (c.loop-byte.text.items ++ l)) is c.loop-byte.invariant.utf8) c.value_of.utf8
          (sym (ap (λ (l : List ℕ). get_or l 0 0) is) ∙ variable.opened)
          (subst (λ (l : List ℕ). IsClosedAt l (length c.in-Some-variable_at.name.now + 2)) is variable.closed));
    }

pub returns : goal.returns
returns c =
    let bytes = IfOk-at_ok (λ t. string_vec t ≡ c.loop-byte.text) c.unwrap.ensures c.from_utf8.ensures.ok in
    c.of.ensures ∙ ap (λ v. v.items) bytes
    ∙ all_filled c.args.env.now c.loop-byte.text.items c.loop-byte.rest.now c.args.word.now c.loop-byte.invariant.says c.in_default.ensures.cases
