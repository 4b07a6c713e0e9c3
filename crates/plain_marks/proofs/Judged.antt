-- What a try of an upstream means, part by part.
use Rattle.std.proofs.Common.{◌≡◌, ◌-◌, ℕ, zero, suc, true, false, List, Option, Some, None, arith, refl, sym, ap, ◌∙◌}
use Rattle.std.specs.Prelude.{is_some}
use Rattle.dns_data.specs.Message.{AnswerData}
use Rattle.dns_data.specs.declared.message.Transport.{Transport}
use Rattle.dns_data.specs.declared.query.Query.{Query}
use Rattle.outside.specs.declared.datagram.Outcome.{Outcome}
use Rattle.outside.specs.declared.datagram.Upstream.{Upstream}
use Rattle.outside.specs.declared.mark.Mark.{Mark}
use Rattle.outside.specs.Meanings.{Meaning, Done, onward}
use Rattle.forward_plugin.specs.Forward.{ask_bytes, judge, judge_by, most_more, take_ask, take_more, take_word, try_of}
use Rattle.forward_plugin.specs.Replies.{agreed_in, is_got}

module _ (word : ℕ) (q : Query) (came : Outcome) (answer : Option AnswerData) (is : answer ≡ agreed_in word q came) where
  -- no further datagram is looked for
  pub judge-last : (most : ℕ) → most ≡ 0 → (left : List Mark) → judge most word q came left ≡ Done answer left
  unfolding judge
  judge-last zero z left = ap (λ a. Done a left) (sym is)
  judge-last (suc most) z left = absurd cc

  pub judge-ends : (most : ℕ) → is_got came ≡ false → (left : List Mark) → judge most word q came left ≡ Done answer left
  unfolding judge
  judge-ends zero other left = ap (λ a. Done a left) (sym is)
  judge-ends (suc most) other left = ap (λ a. judge_by a (is_got came) (onward (take_more left) (judge most word q)) left) (sym is) ∙ by_answer answer
    where
      by_answer : (a : Option AnswerData) → judge_by a (is_got came) (onward (take_more left) (judge most word q)) left ≡ Done a left
      by_answer (Some a) = refl
      by_answer None = ap (λ g. judge_by None g (onward (take_more left) (judge most word q)) left) other

  pub judge-agreed : (most : ℕ) → is_some answer ≡ true → (left : List Mark) → judge most word q came left ≡ Done answer left
  unfolding judge
  judge-agreed zero some left = ap (λ a. Done a left) (sym is)
  judge-agreed (suc most) some left = ap (λ a. judge_by a (is_got came) (onward (take_more left) (judge most word q)) left) (sym is) ∙ by_answer answer some
    where
      by_answer : (a : Option AnswerData) → is_some a ≡ true → judge_by a (is_got came) (onward (take_more left) (judge most word q)) left ≡ Done a left
      by_answer (Some a) e = refl
      by_answer None e = absurd cc

  -- a further one is
  pub judge-goes : (most : ℕ) → (most ≡ 0 → ⊥) → is_some answer ≡ false → is_got came ≡ true → (left : List Mark) → judge most word q came left ≡ onward (take_more left) (judge (most - 1) word q)
  unfolding judge
  judge-goes zero some none got left = absurd (some refl)
  judge-goes (suc most) some none got left =
      let less : most ≡ suc most - 1 = omega arith in
      ap (λ a. judge_by a (is_got came) (onward (take_more left) (judge most word q)) left) (sym is) ∙ by_answer answer none
      ∙ ap (λ n. onward (take_more left) (judge n word q)) less
    where
      by_answer : (a : Option AnswerData) → is_some a ≡ false → judge_by a (is_got came) (onward (take_more left) (judge most word q)) left ≡ onward (take_more left) (judge most word q)
      by_answer (Some a) e = absurd cc
      by_answer None e = ap (λ g. judge_by None g (onward (take_more left) (judge most word q)) left) got

-- what comes behind the word of a try
abbrev pub behind_word : Upstream → Transport → Query → ℕ → List Mark → Meaning (Option AnswerData)
behind_word to by q word left = onward (take_ask to by (ask_bytes word q) left) (judge (most_more by) word q)

pub try_as : (to : Upstream) (by : Transport) (q : Query) (marks : List Mark) → try_of to by q marks ≡ onward (take_word marks) (behind_word to by q)
unfolding try_of
try_as to by q marks = refl
