-- What a plugin said, and what that is of a chain.
use Rattle.std.proofs.Common.{◌≡◌, ℕ, List, Option, Some, None, Ok, refl, sym, ap, subst, ◌∙◌}
use Rattle.dns_data.specs.Message.{AnswerData}
use Rattle.dns_data.specs.declared.query.Query.{Query}
use Rattle.outside.specs.Meanings.{Meaning, Done, onward}
use Rattle.outside.specs.declared.mark.Mark.{Mark}
use Rattle.chain_meaning.specs.declared.decision.Decision.{Decision}
use Rattle.forward_plugin.specs.{ForwardData, forward_means}
use Rattle.chain_meaning.specs.Mean.{answer_of, forward_answered}
use Rattle.chain_meaning.specs.Steps.{Answerer, Forward}
use Rattle.chain_trail.specs.Says.{decided_say, decision_say, pass_say}
use Rattle.chain_trail.specs.Trail.{Follows, Trailed, answered, bare, behind_lines, reached, trailed_onward}
use Rattle.chain_trail.specs.declared.reached.StepName.{StepName}
use Rattle.chain_build.specs.Compiled.{back_answerer}
use Rattle.chain_build.specs.declared.block_chain.BackAnswerer.{BackAnswerer}
use Rattle.chain_build.specs.declared.block_chain.BackAnswerer.TheVariants as behind
use Rattle.chain_build.specs.Walking.{Answered, decision_of}
use Rattle.chain_build.specs.declared.ended.Ended.{Ended}

-- a plugin left a decision in the slot, or goes on
pub some-said : (plugin : Answerer) (q : Query) (old new : AnswerData) {r : Option Ended} (e : Ended) {v : Decision} → Answered plugin q old new (Ok r) → r ≡ Some e → v ≡ decision_of e new
    → (left : List Mark) → answer_of plugin q left ≡ Done (Some v) left
some-said plugin q old new e answered is same left =
    let says : (marks : List Mark) → answer_of plugin q marks ≡ Done (Some (decision_of e new)) marks = subst (λ o. Answered plugin q old new (Ok o)) is answered in
    says left ∙ ap (λ d. Done (Some d) left) (sym same)

pub none-said : (plugin : Answerer) (q : Query) (old new : AnswerData) {r : Option Ended} → Answered plugin q old new (Ok r) → r ≡ None → (left : List Mark) → answer_of plugin q left ≡ Done None left
none-said plugin q old new answered is left =
    let both : (new ≡ old) × ((marks : List Mark) → answer_of plugin q marks ≡ Done None marks) = subst (λ o. Answered plugin q old new (Ok o)) is answered in
    both.1 left

-- what `forward` answers
pub forward-is : (plans : List ForwardData) (q : Query) (marks : List Mark) → answer_of (Forward plans) q marks ≡ onward (forward_means plans q marks) forward_answered
unfolding answer_of
forward-is plans q marks = refl

-- one that said something decides, and where it goes on the rest does
module _ (n : StepName) (rest : Follows) (plugin : Answerer) (q : Query) {said : Option Decision} (answers : (left : List Mark) → answer_of plugin q left ≡ Done said left) where
  pub says : (v : Decision) (say : List ℕ) → said ≡ Some v → say ≡ decided_say plugin v → (marks : List Mark)
      → trailed_onward (bare (answer_of plugin q marks)) (answered n rest plugin q) ≡ record { lines = reached n say; means = Done v marks }
  says v say is same marks =
      ap (λ x. trailed_onward (bare x) (answered n rest plugin q)) (answers marks) ∙ ap (λ o. answered n rest plugin q o marks) is
      ∙ ap (decided-at v marks) (sym same)
    where
      decided-at : Decision → List Mark → List ℕ → Trailed Decision
      decided-at w left text = record { lines = reached n text; means = Done w left }

  pub goes-on : said ≡ None → (marks : List Mark) → trailed_onward (bare (answer_of plugin q marks)) (answered n rest plugin q) ≡ behind_lines (reached n pass_say) (rest q marks)
  goes-on is marks = ap (λ x. trailed_onward (bare x) (answered n rest plugin q)) (answers marks) ∙ ap (λ o. answered n rest plugin q o marks) is

-- what is said of a plugin behind a cache that decided so
pub back-say : (plugin : BackAnswerer) (v : Decision) → decision_say v ≡ decided_say (back_answerer plugin) v
back-say (behind.Template plans) v = refl
back-say (behind.Hosts plan) v = refl
back-say (behind.File plans) v = refl
back-say (behind.Forward plans) v = refl
back-say behind.Whoami v = refl
