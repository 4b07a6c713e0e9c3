-- Laws of what the text of a pattern finds, for those who search with a `Pattern` of it.
use Rattle.std.proofs.Common.{◌≡◌, ℕ, zero, suc, ◌+◌, ◌*◌, ◌<◌, ◌≤◌, Bool, true, false, List, length, get_or, Option, Some, None, IsSomeAnd, option_map, refl, sym, ap, subst, ⊎_elim, ◌∙◌, arith, chars, string_bytes}
use Rattle.std.specs.Prelude.{nat_lt, option_and_then, if◌then◌else◌}
use Rattle.std.proofs.lemmas.Bool.{cases_lt, le-ltb, lt-ltb}
use Rattle.std.proofs.lemmas.List.{length-map}
use Rattle.std.proofs.lemmas.Option.{none-some}
use Rattle.regex_hir.specs.Re.{Re}
use Rattle.regex_hir.specs.Find.{Match, find_str}
use Rattle.regex_hir.specs.Meaning.{meaning}
use Rattle.regex_hir.proofs.OptionLemmas.{option_cases}
use Rattle.regex_vm.specs.Found.{span}
use Rattle.regex_syntax.specs.Captures.{SameCaptures}
use Rattle.regex_syntax.specs.Grammar.{Names, group_count as groups_of, read}
use Rattle.regex_syntax.specs.Brackets.{Nested}
use Rattle.regex_syntax.specs.Verdict.{Reads, default_config}
use Rattle.regex_syntax.proofs.CapturesLemmas.{alike_sym}
use Rattle.regex.specs.Strings.{IsReadFromSource, group_count, regex_config, regex_names, regex_pattern, regex_source}
use Rattle.regex.specs.Writes.{both, group_of}
use Rattle.regex.specs.declared.string.regex.Regex.{Regex}
use Rattle.regex.proofs.ForCallers.{span_alike, found_alike}
use Rattle.pattern.specs.Searches.{HasGroups, scratch_group}
use Rattle.pattern.specs.Texts.{Finding, finding_in, finding_of, found_in, group_span, number_in}
use Rattle.pattern.specs.declared.scratch.Scratch.{Scratch}

-- the regex is what the grammar reads in the text
pub record IsOfText (r : Regex) (text : List ℕ) : Type 0 where
  pub source : regex_source r ≡ text
  pub config : regex_config r ≡ default_config
  pub read : IsReadFromSource r

-- what the text finds has the groups that the scratch keeps, and the regex's names
pub record IsKept (r : Regex) (s : Scratch) (text hay : List ℕ) : Type 0 where
  pub found : Finding
  pub is : finding_of text hay ≡ Some found
  pub spans : (n : ℕ) → scratch_group s n ≡ found.span n
  pub numbers : found.number ≡ number_in (regex_names r)

-- what is said of what is read of the text
abbrev Said : Regex → Nested Re × Names → Type 0
Said r x = (x.0.depth ≤ default_config.nest_limit) × SameCaptures (regex_pattern r) x.0.value × (regex_names r ≡ x.1) × (groups_of (regex_pattern r) ≤ length (regex_names r))

said_by : (r : Regex) (text : List ℕ) → IsOfText r text → IsSomeAnd (read default_config (chars text)) (λ (re, found). Said r (re, found))
unfolding Reads
said_by r text of =
    subst (λ t. Reads default_config t r.pattern.program.hir (regex_names r)) of.source
    (subst (λ c. Reads c (regex_source r) r.pattern.program.hir (regex_names r)) of.config of.read)

module _ (r : Regex) (hay : List ℕ) (small : (k : ℕ) → get_or hay k 0 < 256) where
  none_there : (x : Nested Re × Names) → SameCaptures (regex_pattern r) x.0.value → find_str (regex_pattern r) hay 0 ≡ None → found_in hay x ≡ None
  none_there x same e = ⊎_elim
      (λ nothing. ap (option_map (finding_in x.1)) nothing)
      (λ found. let own = found_alike (alike_sym same) hay small true 0 found.0 found.1 in absurd (none-some own.0 (sym e ∙ own.1)))
      (option_cases (find_str x.0.value hay 0))

  none_by : (o : Option (Nested Re × Names)) → IsSomeAnd o (λ (re, found). Said r (re, found)) → find_str (regex_pattern r) hay 0 ≡ None → option_and_then (found_in hay) o ≡ None
  none_by None said e = absurd said
  none_by (Some x) said e = none_there x said.1 e

  count_is : (x : Nested Re × Names) → regex_names r ≡ x.1 → group_count r ≡ length x.1
  count_is x e = omega (arith, ap length e, length-map r.pattern.names.items (option_map string_bytes), r.pattern.names.ok)

  later : (s : Scratch) (m n : Match) (names : Names) (k : ℕ) → group_count r ≡ length names → HasGroups (group_count r) m s → group_of n (suc k) ≡ group_of m (suc k)
      → scratch_group s (suc k) ≡ (if nat_lt (suc k) (length names) then group_of n (suc k) else None)
  later s m n names k count has same = ⊎_elim
      (λ (below : suc k < length names).
      has.each (suc k) (omega arith) (omega (arith, below, count)) ∙ sym same ∙ sym (ap (λ (b : Bool). if b then group_of n (suc k) else None) (lt-ltb (suc k) (length names) below)))
      (λ (above : length names ≤ suc k).
      has.none (suc k) (omega (arith, above, count)) ∙ sym (ap (λ (b : Bool). if b then group_of n (suc k) else None) (le-ltb (suc k) (length names) above)))
      (cases_lt (suc k) (length names))

  spans_by : (s : Scratch) (m n : Match) (names : Names) → group_count r ≡ length names → HasGroups (group_count r) m s → Some (span m) ≡ Some (span n)
      → ((k : ℕ) → group_of n k ≡ group_of m k) → (k : ℕ) → scratch_group s k ≡ group_span names n k
  spans_by s m n names count has whole same zero = has.whole ∙ whole
  spans_by s m n names count has whole same (suc k) = later s m n names k count has (same (suc k))

  some_by : (s : Scratch) (m : Match) (text : List ℕ) (o : Option (Nested Re × Names)) → read default_config (chars text) ≡ o → IsSomeAnd o (λ (re, found). Said r (re, found))
      → find_str (regex_pattern r) hay 0 ≡ Some m → HasGroups (group_count r) m s → IsKept r s text hay
  unfolding finding_of
  some_by s m text None reads said e has = absurd said
  some_by s m text (Some x) reads said e has =
      let n = found_alike said.1 hay small true 0 m e in
      let whole = sym (ap (option_map span) e) ∙ span_alike said.1 hay small true 0 ∙ ap (option_map span) n.1 in
      record {
        found = finding_in x.1 n.0;
        is = ap (option_and_then (found_in hay)) reads ∙ ap (option_map (finding_in x.1)) n.1;
        spans = spans_by s m n.0 x.1 (count_is x said.2) has whole (λ k. ap (λ f. both (f (2 * k)) (f (2 * k + 1))) n.2);
        numbers = ap number_in (sym said.2);
      }

  -- where the regex has no match, its text finds nothing
  pub finding-none : (text : List ℕ) → IsOfText r text → find_str (regex_pattern r) hay 0 ≡ None → finding_of text hay ≡ None
  unfolding finding_of
  finding-none text of e = none_by (read default_config (chars text)) (said_by r text of) e

  -- where it has one, its text finds that
  pub finding-some : (s : Scratch) (m : Match) (text : List ℕ) → IsOfText r text → find_str (regex_pattern r) hay 0 ≡ Some m → HasGroups (group_count r) m s → IsKept r s text hay
  finding-some s m text of e has = some_by s m text (read default_config (chars text)) refl (said_by r text of) e has
