use Rattle.std.proofs.Common.{◌≡◌, true, List, ℕ, ◌∷◌, ◌++◌, eqb, sym, ap, subst, ◌∙◌, arith, refl}
use Rattle.std.proofs.lemmas.Bool.{eq-eqb}
use Rattle.std.specs.Str.{IsUtf8}
use Rattle.corefile_words.specs.Lines.{begins_with, without_before}
use Rattle.corefile_words.proofs.Texts.{utf8_without}
use Rattle.corefile_words.proofs.quoted.unescaped.Goals as goal

without-step : (byte : ℕ) (rest bytes : List ℕ) → rest ≡ byte ∷ bytes → byte ≡ 92 → begins_with 34 bytes ≡ true → without_before 92 34 rest ≡ without_before 92 34 bytes
without-step byte rest bytes is e q =
    let slash : eqb byte 92 ≡ true = eq-eqb byte 92 e in ap (without_before 92 34) is ∙ rw (slash, q) refl

pub loop-byte-preserved : goal.loop-byte-preserved
loop-byte-preserved c =
    let is = c.in-Some.ensures.cases.0 in
    let step = without-step c.in-Some.byte.now c.loop-byte.rest.now c.in-Some.behind.now is c.if-byte-ne92.false (sym c.begins_quote.ensures ∙ c.if-not-begins_quote.false) in
    record {
      says = ap (λ (l : List ℕ). c.loop-byte.text.items ++ l) (sym step) ∙ c.loop-byte.invariant.says;
      utf8 = utf8_without c.loop-byte.text.items c.in-Some.byte.now c.in-Some.behind.now
          (subst (λ (l : List ℕ). IsUtf8 (c.loop-byte.text.items ++ l)) is c.loop-byte.invariant.utf8) (omega arith);
    }
