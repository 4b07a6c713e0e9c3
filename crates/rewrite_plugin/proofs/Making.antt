-- Patterns that are made one after another, and the first fault.
use Rattle.std.proofs.Common.{◌≡◌, ◌∙◌, ◌<◌, ◌≤◌, ◌⊎◌, ℕ, ◌+◌, List, [], ◌∷◌, ◌++◌, Option, refl, sym, arith, inr, append_assoc}
use Rattle.std.proofs.lemmas.List.{append-nil}
use Rattle.dns_data.specs.declared.limit.Limit.TheVariants as limit
use Rattle.dns_data.specs.declared.limit.TheConstants as limits
use Rattle.outside.specs.{IsPatternText}
use Rattle.pattern_judging.specs.Tasks.{Carries, IsRefused, IsWell, Refuses, Task, at_line, pattern_task}
use Rattle.pattern_judging.specs.TasksLaws.{carries-behind, carries-on, carries-same, pattern_judged, pattern_past, pattern_well, refuses_by, refuses_first, well-plain}
use Rattle.plugin_api.specs.declared.fault.DirectiveFault.{DirectiveFault}
use Rattle.plugin_api.specs.declared.fault.DirectiveFault.TheVariants as fault
use Rattle.rewrite_plugin.specs.declared.words.PatternAt.{PatternAt}
use Rattle.rewrite_plugin.specs.Judging.{patterns_task}
use Rattle.rewrite_plugin.specs.Reading.{texts_of}

-- some patterns are made, and these are left
pub record MakesOn (before : ℕ) (all : List PatternAt) (number : ℕ) (made : List (List ℕ)) (rest : List PatternAt) : Type 0 where
  pub texts : texts_of all ≡ made ++ texts_of rest
  pub carries : Carries at_line (patterns_task number rest) (patterns_task before all)

pub begins : (before : ℕ) (all : List PatternAt) → MakesOn before all before [] all
begins before all = record { texts = refl; carries = carries-same at_line (patterns_task before all) }

pub all_made : (before : ℕ) (all : List PatternAt) (number : ℕ) (made : List (List ℕ)) → MakesOn before all number made [] → (made ≡ texts_of all) × IsWell (patterns_task before all)
all_made before all number made on = (sym (on.texts ∙ append-nil made), on.carries.well (well-plain (patterns_task number []) refl (λ judgement. refl)))

module _ (before : ℕ) (all : List PatternAt) (number : ℕ) (made : List (List ℕ)) (p : PatternAt) (rest : List PatternAt) (on : MakesOn before all number made (p ∷ rest)) where
  abbrev next : Task DirectiveFault
  next = pattern_task p.line number p.text

  abbrev others : Task DirectiveFault
  others = patterns_task (number + 1) rest

  -- one that is made
  pub makes : number < limits.PATTERNS → IsPatternText p.text → MakesOn before all (number + 1) (made ++ p.text ∷ []) rest
  makes h good = record {
    texts = on.texts ∙ sym (append_assoc made (p.text ∷ []) (texts_of rest));
    carries = carries-on at_line others (patterns_task number (p ∷ rest)) (patterns_task before all)
        (carries-behind at_line next others (omega arith) (pattern_well p.line number p.text h good)) on.carries;
  }

  stops : (last : Option (List ℕ)) (refused : DirectiveFault) → Refuses next last refused → Refuses (patterns_task before all) last refused
  stops last refused h = refuses_by (patterns_task number (p ∷ rest)) (patterns_task before all) last refused on.carries (refuses_first next others last refused h)

  pub too_many : (last : Option (List ℕ)) → limits.PATTERNS ≤ number → Refuses (patterns_task before all) last (fault.TooMany limit.Patterns (limits.PATTERNS + 1))
  too_many last h = stops last (fault.TooMany limit.Patterns (limits.PATTERNS + 1)) (inr (pattern_past p.line number p.text last h))

  pub refuses : (last : Option (List ℕ)) (refused : DirectiveFault) → number < limits.PATTERNS → (refused ≡ fault.NoMemory) ⊎ IsRefused p.line p.text last refused
      → Refuses (patterns_task before all) last refused
  refuses last refused h r = stops last refused (pattern_judged p.line number p.text last refused h r)
