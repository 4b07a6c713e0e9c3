-- What reading a directive answers, by its words and by what became of its patterns.
use Rattle.std.proofs.Common.{◌≡◌, ◌∙◌, ℕ, suc, ◌+◌, List, [], ◌∷◌, length, Option, Ok, Err, refl, sym, ap, subst, arith, inl, inr}
use Rattle.std.proofs.lemmas.List.{append-nil}
use Rattle.dns_data.specs.declared.directive.Directive.{Directive}
use Rattle.outside.specs.{WatchState, with_refusals}
use Rattle.pattern_judging.specs.Tasks.{IsWell, Refuses, Task, at_line, refusals_behind, sequel}
use Rattle.pattern_judging.specs.TasksLaws.{fault-plain, fault_behind, refuses_first, well-plain, well_behind}
use Rattle.plugin_api.specs.declared.fault.DirectiveFault.{DirectiveFault}
use Rattle.plugin_api.specs.declared.fault.DirectiveFault.TheVariants as fault
use Rattle.rewrite_plugin.specs.Shapes.{Written}
use Rattle.rewrite_plugin.specs.declared.words.PatternAt.{PatternAt}
use Rattle.rewrite_plugin.specs.Judging.{ReadsRewrite, patterns_task, rewrite_task}
use Rattle.rewrite_plugin.specs.Reading.{fault_of, patterns_of, rewrite_fault, texts_of}
use Rattle.rewrite_plugin.specs.Made.{IsMade, rule_patterns}
use Rattle.rewrite_plugin.specs.Rewrite.{if_read, written_of}
use Rattle.rewrite_plugin.specs.Words.{reading_of}
use Rattle.rewrite_plugin.proofs.Patterns.{patterns_are}
use Rattle.rewrite_plugin.proofs.Faults.{words_are_plain}

-- a refusal is what reading answers
answers_by : (number : ℕ) (d : Directive) (last : Option (List ℕ)) (refused : DirectiveFault) → Refuses (rewrite_task number d) last refused → ReadsRewrite number d last (Err refused)
answers_by number d last fault.NoMemory h = tt
answers_by number d last (fault.TooMany what n) (inl e) = absurd cc
answers_by number d last (fault.TooMany what n) (inr h) = h
answers_by number d last (fault.Why line why) (inl e) = absurd cc
answers_by number d last (fault.Why line why) (inr h) = h

-- what stands behind the patterns of a directive, which has none
abbrev end_task : ℕ → Directive → Task DirectiveFault
end_task number d = record {
  number = number + length (patterns_of d);
  patterns = [];
  fault = λ judgement. fault_of (reading_of d).end;
}

abbrev with_texts : ℕ → Directive → List (List ℕ) → Task DirectiveFault
with_texts number d texts = record {
  number = number;
  patterns = texts;
  fault = λ judgement. rewrite_fault judgement number d;
}

module _ (number : ℕ) (d : Directive) where
  abbrev front : Task DirectiveFault
  front = patterns_task number (reading_of d).patterns

  both : sequel front (end_task number d) ≡ rewrite_task number d
  both = ap (with_texts number d) (append-nil (patterns_of d))

  -- a pattern is refused, or there are too many
  pub stopped : (last : Option (List ℕ)) (refused : DirectiveFault) → Refuses front last refused → ReadsRewrite number d last (Err refused)
  stopped last refused h = answers_by number d last refused (subst (λ (t : Task DirectiveFault). Refuses t last refused) both (refuses_first front (end_task number d) last refused h))

  -- the words are refused behind patterns that are all made
  pub faulty : (last : Option (List ℕ)) (refused : DirectiveFault) → IsWell front → (reading_of d).end ≡ Err refused → ReadsRewrite number d last (Err refused)
  faulty last refused well e =
      let end = fault-plain at_line (end_task number d) last refused (λ judgement. ap fault_of e) in
      answers_by number d last refused
      (subst (λ (t : Task DirectiveFault). Refuses t last refused) both (inr (fault_behind at_line front (end_task number d) (omega arith) well last refused end)))

  -- nothing is refused
  pub good : (w : Written) → IsWell front → (reading_of d).end ≡ Ok w → IsWell (rewrite_task number d)
  good w well e = subst IsWell both (well_behind at_line front (end_task number d) (omega arith) well (well-plain (end_task number d) refl (λ judgement. ap fault_of e)))

-- a maker isn't asked for a fault of words
pub maker_stays : (d : Directive) (refused : DirectiveFault) (state : WatchState) → (reading_of d).end ≡ Err refused → state ≡ with_refusals state (refusals_behind refused state.refusals)
maker_stays d refused state e = ap (λ (n : ℕ). with_refusals state n) (sym (words_are_plain d refused e state.refusals))

-- by the patterns that are found
pub stopped_at : (number : ℕ) (d : Directive) (found : List PatternAt) (last : Option (List ℕ)) (refused : DirectiveFault) → found ≡ (reading_of d).patterns
    → Refuses (patterns_task number found) last refused → ReadsRewrite number d last (Err refused)
stopped_at number d found last refused e h = stopped number d last refused (subst (λ (l : List PatternAt). Refuses (patterns_task number l) last refused) e h)

pub faulty_at : (number : ℕ) (d : Directive) (found : List PatternAt) (last : Option (List ℕ)) (refused : DirectiveFault) → found ≡ (reading_of d).patterns → IsWell (patterns_task number found)
    → (reading_of d).end ≡ Err refused → ReadsRewrite number d last (Err refused)
faulty_at number d found last refused e well h = faulty number d last refused (subst (λ (l : List PatternAt). IsWell (patterns_task number l)) e well) h

pub good_at : (number : ℕ) (d : Directive) (found : List PatternAt) (w : Written) → found ≡ (reading_of d).patterns → IsWell (patterns_task number found) → (reading_of d).end ≡ Ok w → IsWell (rewrite_task number d)
good_at number d found w e well h = good number d w (subst (λ (l : List PatternAt). IsWell (patterns_task number l)) e well) h

texts_long : (patterns : List PatternAt) → length (texts_of patterns) ≡ length patterns
texts_long [] = refl
texts_long (p ∷ patterns) = ap suc (texts_long patterns)

-- what the plan has was made of the directive
pub is_made : (d : Directive) (found : List PatternAt) (w : Written) (many : ℕ) → found ≡ (reading_of d).patterns → many ≡ length found → (reading_of d).end ≡ Ok w → IsMade d w many
unfolding written_of
is_made d found w many e f h = record {
  read = ap if_read h;
  patterns = f ∙ ap length e ∙ sym (texts_long (reading_of d).patterns);
}

-- the patterns that are made are those of the rule
pub are_its : (d : Directive) (found : List PatternAt) (w : Written) (finders : List (List ℕ)) → found ≡ (reading_of d).patterns → finders ≡ texts_of found → (reading_of d).end ≡ Ok w
    → finders ≡ rule_patterns w.rule
are_its d found w finders e f h = f ∙ ap texts_of e ∙ patterns_are d w h
