-- Patterns that are made one after another, and the first fault.
use Rattle.std.proofs.Common.{◌≡◌, ◌∙◌, ◌<◌, ◌≤◌, ℕ, suc, ◌+◌, Bool, true, false, List, [], ◌∷◌, ◌++◌, length, Option, Some, None, Err, refl, sym, ap, arith, inl, inr, append_assoc}
use Rattle.std.specs.Prelude.{if◌then◌else◌}
use Rattle.std.specs.List.{AllByRecursion}
use Rattle.std.proofs.lemmas.List.{append-nil}
use Rattle.dns_data.specs.declared.directive.Line.{Line}
use Rattle.dns_data.specs.declared.limit.Limit.TheVariants as limit
use Rattle.dns_data.specs.declared.limit.TheConstants as limits
use Rattle.outside.specs.{IsPatternOf, IsPatternText, WatchState}
use Rattle.pattern_judging.specs.Tasks.{IsWell, Judgement, Refuses, Task, at_line, pattern_task, sequel}
use Rattle.pattern_judging.specs.TasksLaws.{carries-behind, fault-plain, free_behind, pattern_free, pattern_past, pattern_text, refuses_by, refuses_first}
use Rattle.plugin_api.specs.{PlanData, fault_at}
use Rattle.plugin_api.specs.declared.fault.DirectiveFault.{DirectiveFault}
use Rattle.plugin_api.specs.declared.fault.DirectiveFault.TheVariants as fault
use Rattle.plugin_api.specs.declared.fault.DirectiveWhy.{DirectiveWhy}
use Rattle.regex.specs.declared.string.regex.Regex.{Regex}
use Rattle.template_plugin.specs.declared.options.Earlier.{Earlier}
use Rattle.template_plugin.specs.Judging.{AreOf, Passes, ReadsTemplate, lines_task, match_task, template_task, words_task}
use Rattle.template_plugin.specs.Reading.{behind_line, behind_patterns, is_match, opened, seen_with, template_fault, words_why}
use Rattle.template_plugin.specs.Words.{line_patterns, patterns_of}

pub as_many : (texts : List (List ℕ)) (patterns : List Regex) → AreOf texts patterns → length patterns ≡ length texts
as_many [] [] h = refl
as_many [] (p ∷ ps) h = absurd h
as_many (t ∷ ts) [] h = absurd h
as_many (t ∷ ts) (p ∷ ps) h = ap suc (as_many ts ps h.1)

pub good_of : (texts : List (List ℕ)) (patterns : List Regex) → AreOf texts patterns → AllByRecursion IsPatternText texts
good_of [] [] h = tt
good_of [] (p ∷ ps) h = absurd h
good_of (t ∷ ts) [] h = absurd h
good_of (t ∷ ts) (p ∷ ps) h = (pattern_text t p h.0, good_of ts ps h.1)

are_append : (ts us : List (List ℕ)) (ps qs : List Regex) → AreOf ts ps → AreOf us qs → AreOf (ts ++ us) (ps ++ qs)
are_append [] us [] qs h k = k
are_append [] us (p ∷ ps) qs h k = absurd h
are_append (t ∷ ts) us [] qs h k = absurd h
are_append (t ∷ ts) us (p ∷ ps) qs h k = (h.0, are_append ts us ps qs h.1 k)

-- where all are made, all is well
well_of : (task : Task DirectiveFault) (before after : List Regex) → Passes task before after → IsWell task
well_of task before after p = record { good = good_of task.patterns p.made p.are; free = p.free }

module _ (front back : Task DirectiveFault) (before middle : List Regex) (next : back.number ≡ front.number + length front.patterns) (f : Passes front before middle) where
  -- behind a first task without a fault, a fault of the second one is one of both
  pub refuses_later : (last : Option (List ℕ)) (refused : DirectiveFault) → Refuses back last refused → Refuses (sequel front back) last refused
  refuses_later last refused h = refuses_by back (sequel front back) last refused (carries-behind at_line front back next (well_of front before middle f)) h

  -- and both pass, where the second one does
  pub passes_later : (after : List Regex) → Passes back middle after → Passes (sequel front back) before after
  passes_later after p = record {
    made = f.made ++ p.made;
    stand = p.stand ∙ ap (λ l. l ++ p.made) f.stand ∙ append_assoc before f.made p.made;
    are = are_append front.patterns back.patterns f.made p.made f.are p.are;
    free = free_behind at_line front back next (well_of front before middle f) p.free;
  }

-- what is left of a task, and the maker, which refused nothing so far
pub record ReadsOn (whole rest : Task DirectiveFault) (before now : List Regex) (old new : WatchState) : Type 0 where
  pub passes : (after : List Regex) → Passes rest now after → Passes whole before after
  pub refuses : (last : Option (List ℕ)) (refused : DirectiveFault) → Refuses rest last refused → Refuses whole last refused
  pub state : new ≡ old

pub begins : (whole : Task DirectiveFault) (before : List Regex) (state : WatchState) → ReadsOn whole whole before before state state
begins whole before state = record { passes = λ after p. p; refuses = λ last refused h. h; state = refl }

pub goes_on : (whole front back : Task DirectiveFault) (before now middle : List Regex) (old new newer : WatchState) → back.number ≡ front.number + length front.patterns
    → ReadsOn whole (sequel front back) before now old new → Passes front now middle → newer ≡ new → ReadsOn whole back before middle old newer
goes_on whole front back before now middle old new newer next on f same = record {
  passes = λ after p. on.passes after (passes_later front back now middle next f after p);
  refuses = λ last refused h. on.refuses last refused (refuses_later front back now middle next f last refused h);
  state = same ∙ on.state;
}

-- nothing is left
pub nothing : (task : Task DirectiveFault) (now : List Regex) → task.patterns ≡ [] → ((judgement : Judgement) → task.fault judgement ≡ None) → Passes task now now
nothing task now e free = record {
  made = [];
  stand = sym (append-nil now);
  are = rw e tt;
  free = λ judgement h. free judgement;
}

-- a pattern is made
pub word_made : (line number : ℕ) (word : List ℕ) (now : List Regex) (p : Regex) → number < limits.PATTERNS → IsPatternOf word p → Passes (pattern_task line number word) now (now ++ p ∷ [])
word_made line number word now p h of = record {
  made = p ∷ [];
  stand = refl;
  are = (of, tt);
  free = pattern_free line number word h;
}

-- or there are too many
pub word_past : (line number : ℕ) (word : List ℕ) (last : Option (List ℕ)) → limits.PATTERNS ≤ number
    → Refuses (pattern_task line number word) last (fault.TooMany limit.Patterns (limits.PATTERNS + 1))
word_past line number word last h = inr (pattern_past line number word last h)

-- one word or more behind `match`
pub same_task : (line number : ℕ) (words : List (List ℕ)) → 0 < length words → words_task line number words ≡ match_task line number words
same_task line number [] h = absurd (omega (arith, h))
same_task line number (w ∷ ws) h = refl

-- the words of a directive, without its lines
abbrev head_task : ℕ → PlanData → Task DirectiveFault
head_task patterns plan = record {
  number = patterns;
  patterns = [];
  fault = λ judgement. fault_at plan.directive.line (words_why plan.zones plan.directive.args);
}

head_passes : (patterns : ℕ) (plan : PlanData) (now : List Regex) → words_why plan.zones plan.directive.args ≡ None → Passes (head_task patterns plan) now now
head_passes patterns plan now e = record {
  made = [];
  stand = sym (append-nil now);
  are = tt;
  free = λ judgement h. ap (fault_at plan.directive.line) e;
}

reads_err : (patterns : ℕ) (plan : PlanData) (last : Option (List ℕ)) (refused : DirectiveFault) → Refuses (template_task patterns plan) last refused → ReadsTemplate patterns plan last (Err refused)
reads_err patterns plan last fault.NoMemory h = tt
reads_err patterns plan last (fault.TooMany what number) (inl e) = absurd cc
reads_err patterns plan last (fault.TooMany what number) (inr h) = h
reads_err patterns plan last (fault.Why line why) (inl e) = absurd cc
reads_err patterns plan last (fault.Why line why) (inr h) = h

-- a directive with a fault in its lines
pub read_err : (patterns : ℕ) (plan : PlanData) (last : Option (List ℕ)) (refused : DirectiveFault) → words_why plan.zones plan.directive.args ≡ None
    → Refuses (lines_task (behind_patterns patterns) plan.directive.body) last refused → ReadsTemplate patterns plan last (Err refused)
unfolding template_fault
read_err patterns plan last refused e h =
    reads_err patterns plan last refused
    (refuses_later (head_task patterns plan) (lines_task (behind_patterns patterns) plan.directive.body) [] [] (omega arith) (head_passes patterns plan [] e) last refused h)

-- one with a fault in its words
pub read_why : (patterns : ℕ) (plan : PlanData) (last : Option (List ℕ)) (why : DirectiveWhy) → words_why plan.zones plan.directive.args ≡ Some why
    → ReadsTemplate patterns plan last (Err (fault.Why plan.directive.line why))
unfolding template_fault
read_why patterns plan last why e =
    reads_err patterns plan last (fault.Why plan.directive.line why)
    (refuses_first (head_task patterns plan) (lines_task (behind_patterns patterns) plan.directive.body) last (fault.Why plan.directive.line why)
    (inr (fault-plain at_line (head_task patterns plan) last (fault.Why plan.directive.line why) (λ judgement. ap (fault_at plan.directive.line) e))))

-- one without a fault
pub read_ok : (patterns : ℕ) (plan : PlanData) (after : List Regex) → words_why plan.zones plan.directive.args ≡ None
    → Passes (lines_task (behind_patterns patterns) plan.directive.body) [] after → IsWell (template_task patterns plan)
unfolding template_fault
read_ok patterns plan after e p =
    let all = passes_later (head_task patterns plan) (lines_task (behind_patterns patterns) plan.directive.body) [] [] (omega arith) (head_passes patterns plan [] e) after p in
    record { good = good_of (patterns_of plan.directive.body) p.made p.are; free = all.free }

-- no line is left
pub no_lines : (before : Earlier) (lines : List Line) (now : List Regex) → length lines ≡ 0 → Passes (lines_task before lines) now now
no_lines before [] now e = nothing (lines_task before []) now refl (λ judgement. refl)
no_lines before (l ∷ lines) now e = absurd (omega (arith, e))

abbrev with_patterns : Earlier → List (List ℕ) → Earlier
with_patterns before words = record { seen = before.seen; patterns = before.patterns + length words }

abbrev with_option : Earlier → List ℕ → Earlier
with_option before word = record { seen = seen_with before.seen (opened word); patterns = before.patterns }

patterns_by : (b : Bool) (before : Earlier) (word : List ℕ) (words : List (List ℕ))
    → (if b then with_patterns before words else with_option before word).patterns
    ≡ before.patterns + length (if b then words else [])
patterns_by true before word words = refl
patterns_by false before word words = omega arith

-- a line's patterns are counted behind it
pub patterns_behind : (before : Earlier) (words : List (List ℕ)) → (behind_line before words).patterns ≡ before.patterns + length (line_patterns words)
patterns_behind before [] = omega arith
patterns_behind before (word ∷ words) = patterns_by (is_match word) before word words
