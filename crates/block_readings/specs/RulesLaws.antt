-- The rule of a directive `rewrite` is read from its words, and from no number of a line.
use Rattle.std.proofs.Common.{◌≡◌, ◌∙◌, ℕ, ◌+◌, zero, suc, Bool, true, false, List, [], ◌∷◌, Option, Some, None, Result, Ok, Err, refl, sym, ap, if◌then◌else◌}
use Rattle.std.specs.Prelude.{map, codes, option_map}
use Rattle.dns_data.specs.Message.{AnswerData}
use Rattle.dns_data.specs.declared.directive.Directive.{Directive}
use Rattle.dns_data.specs.declared.directive.Line.{Line}
use Rattle.dns_data.specs.declared.query.Query.{Query}
use Rattle.plugin_api.specs.{is_word}
use Rattle.plugin_api.specs.declared.fault.DirectiveFault.{DirectiveFault}
use Rattle.type_names.specs.{kind_of_text}
use Rattle.rewrite_plugin.specs.Shapes.{Matcher, Rule, Written}
use Rattle.rewrite_plugin.specs.declared.matching.Matching.{Matching}
use Rattle.rewrite_plugin.specs.declared.plan_data.Changed.{Changed}
use Rattle.rewrite_plugin.specs.declared.rule.Answering.TheVariants as answering
use Rattle.rewrite_plugin.specs.declared.rule.Rule.TheVariants as rule
use Rattle.rewrite_plugin.specs.declared.steps.Step.{Step}
use Rattle.rewrite_plugin.specs.Rewrite.{applied_by, behind_rule, changed_behind, changed_by, if_read, restored, restored_by, written_at, written_of}
use Rattle.rewrite_plugin.specs.Rules.{unchanged}
use Rattle.rewrite_plugin.specs.Words.{Reading, alone, answering_in, answers_in, body_in, both, behind_flow, end_map, ends_with, first_in, goes_on, in_front, is_empty, last_end, line_in, lines_in, matcher_of, one, reading_of, renaming_by, renaming_in, renaming_of, renaming_to, replacing_in, replacing_to, rule_in, rule_of, seconds_in, sought_in, ttl_by, ttl_in, ttl_of, ttl_to, type_end, type_of, type_to, with_answers, without_body, written}
use Rattle.block_readings.specs.Readings.{bare, bare_line}

-- what words read as, where they have no fault
abbrev pub as_read : {A : Type 0} → Result A DirectiveFault → Option A
as_read (Ok value) = Some value
as_read (Err fault) = None

abbrev read_by : {A : Type 0} → Reading A → Option A
read_by reading = as_read reading.end

mapped : {A B : Type 0} (f : A → B) (r : Result A DirectiveFault) → as_read (end_map f r) ≡ option_map f (as_read r)
mapped f (Ok value) = refl
mapped f (Err fault) = refl

map_as : {A B : Type 0} (f : A → B) (r s : Result A DirectiveFault) → as_read r ≡ as_read s → as_read (end_map f r) ≡ as_read (end_map f s)
map_as f r s same = mapped f r ∙ ap (option_map f) same ∙ sym (mapped f s)

if_as : {A : Type 0} (t : Bool) (x y a b : Reading A) → read_by x ≡ read_by a → read_by y ≡ read_by b
    → read_by (if t then x else y) ≡ read_by (if t then a else b)
if_as true x y a b p q = p
if_as false x y a b p q = q

last_as : {A : Type 0} (l k : ℕ) (value : A) (words : List (List ℕ)) → as_read (last_end l value words) ≡ as_read (last_end k value words)
last_as l k value [] = refl
last_as l k value (word ∷ words) = refl

replacing_to_as : (l k : ℕ) (pattern : List ℕ) (words : List (List ℕ)) → read_by (replacing_to l pattern words) ≡ read_by (replacing_to k pattern words)
replacing_to_as l k pattern [] = refl
replacing_to_as l k pattern (to ∷ words) = last_as l k _ words

replacing_as : (l k : ℕ) (words : List (List ℕ)) → read_by (replacing_in l words) ≡ read_by (replacing_in k words)
replacing_as l k [] = refl
replacing_as l k (word ∷ words) = replacing_to_as l k word words

answering_as : (l k : ℕ) (words : List (List ℕ)) → read_by (answering_in l words) ≡ read_by (answering_in k words)
answering_as l k [] = refl
answering_as l k (word ∷ words) =
    if_as (is_word word (codes "auto")) _ _ _ _ (last_as l k answering.Auto words)
    (if_as (is_word word (codes "name")) _ _ _ _ (map_as answering.Name _ _ (replacing_as l k words))
    (if_as (is_word word (codes "value")) _ _ _ _ (map_as answering.Value _ _ (replacing_as l k words)) refl))

answers_as : (l k : ℕ) (words : List (List ℕ)) → read_by (answers_in l words) ≡ read_by (answers_in k words)
answers_as l k [] = refl
answers_as l k (word ∷ words) = if_as (is_word word (codes "answer")) _ _ _ _ (map_as one _ _ (answering_as l k words)) refl

renaming_to_as : (l k : ℕ) (by : Matching) (from : List ℕ) (words : List (List ℕ)) → read_by (renaming_to l by from words) ≡ read_by (renaming_to k by from words)
renaming_to_as l k by from [] = refl
renaming_to_as l k by from (to ∷ words) = map_as (renaming_of by from to) _ _ (answers_as l k words)

renaming_by_as : (l k : ℕ) (by : Matching) (words : List (List ℕ)) → read_by (renaming_by l by words) ≡ read_by (renaming_by k by words)
renaming_by_as l k by [] = refl
renaming_by_as l k by (from ∷ words) = if_as (is_empty from) _ _ _ _ refl (renaming_to_as l k by from words)

renaming_as : (l k : ℕ) (words : List (List ℕ)) → read_by (renaming_in l words) ≡ read_by (renaming_in k words)
renaming_as l k words = renaming_by_as l k (sought_in words).by (sought_in words).words

ttl_of_as : (l k : ℕ) (from : Matcher) (seconds : Option ℕ) (words : List (List ℕ)) → read_by (ttl_of l from seconds words) ≡ read_by (ttl_of k from seconds words)
ttl_of_as l k from None words = refl
ttl_of_as l k from (Some seconds) words = last_as l k (rule.Ttl from seconds) words

ttl_to_as : (l k : ℕ) (from : Matcher) (words : List (List ℕ)) → read_by (ttl_to l from words) ≡ read_by (ttl_to k from words)
ttl_to_as l k from [] = refl
ttl_to_as l k from (word ∷ words) = ttl_of_as l k from (seconds_in word) words

ttl_by_as : (l k : ℕ) (by : Matching) (words : List (List ℕ)) → read_by (ttl_by l by words) ≡ read_by (ttl_by k by words)
ttl_by_as l k by [] = refl
ttl_by_as l k by (name ∷ words) = if_as (is_empty name) _ _ _ _ refl (ttl_to_as l k (matcher_of by name) words)

ttl_as : (l k : ℕ) (words : List (List ℕ)) → read_by (ttl_in l words) ≡ read_by (ttl_in k words)
ttl_as l k words = ttl_by_as l k (sought_in words).by (sought_in words).words

type_of_as : (l k from : ℕ) (to : Option ℕ) (words : List (List ℕ)) → as_read (type_of l from to words) ≡ as_read (type_of k from to words)
type_of_as l k from None words = refl
type_of_as l k from (Some to) words = last_as l k (rule.Type from to) words

type_to_as : (l k : ℕ) (from : Option ℕ) (words : List (List ℕ)) → as_read (type_to l from words) ≡ as_read (type_to k from words)
type_to_as l k None words = refl
type_to_as l k (Some from) [] = refl
type_to_as l k (Some from) (word ∷ words) = type_of_as l k from (kind_of_text word) words

if_end : {A : Type 0} (t : Bool) (x y a b : Result A DirectiveFault) → as_read x ≡ as_read a → as_read y ≡ as_read b
    → as_read (if t then x else y) ≡ as_read (if t then a else b)
if_end true x y a b p q = p
if_end false x y a b p q = q

type_end_as : (l k : ℕ) (words : List (List ℕ)) → as_read (type_end l words) ≡ as_read (type_end k words)
type_end_as l k [] = refl
type_end_as l k (word ∷ words) = if_end (is_empty word) _ _ _ _ refl (type_to_as l k (kind_of_text word) words)

rule_as : (l k : ℕ) (words : List (List ℕ)) → read_by (rule_in l words) ≡ read_by (rule_in k words)
rule_as l k [] = refl
rule_as l k (word ∷ words) =
    if_as (is_word word (codes "name")) _ _ _ _ (map_as rule.Name _ _ (renaming_as l k words))
    (if_as (is_word word (codes "type")) _ _ _ _ (type_end_as l k words)
    (if_as (is_word word (codes "ttl")) _ _ _ _ (ttl_as l k words) refl))

line_as : (l k : ℕ) (words : List (List ℕ)) → read_by (line_in l words) ≡ read_by (line_in k words)
line_as l k [] = refl
line_as l k (word ∷ words) =
    if_as (is_word word (codes "answer")) _ _ _ _ (answering_as l k words)
    (if_as (is_word word (codes "name")) _ _ _ _ refl refl)

-- what two readings make, where both have no fault
abbrev both_read : {A B C : Type 0} → (A → B → C) → Option A → Option B → Option C
both_read f None other = None
both_read f (Some value) other = option_map (f value) other

ended : {A B C : Type 0} (f : A → B → C) (r : Result A DirectiveFault) (s : Result B DirectiveFault) → as_read (ends_with f r s) ≡ both_read f (as_read r) (as_read s)
ended f (Ok value) s = mapped (f value) s
ended f (Err fault) s = refl

both_as : {A B C : Type 0} (f : A → B → C) (r a : Reading A) (s b : Reading B) → read_by r ≡ read_by a → read_by s ≡ read_by b → read_by (both f r s) ≡ read_by (both f a b)
both_as f r a s b p q = ended f r.end s.end ∙ (λ i. both_read f (p i) (q i)) ∙ sym (ended f a.end b.end)

lines_as : (lines : List Line) → read_by (lines_in (map bare_line lines)) ≡ read_by (lines_in lines)
lines_as [] = refl
lines_as (line ∷ lines) =
    both_as in_front (line_in 0 line.words) (line_in line.number line.words) (lines_in (map bare_line lines)) (lines_in lines) (line_as 0 line.number line.words) (lines_as lines)

first_as : (l k : ℕ) (words : List (List ℕ)) → read_by (first_in l words) ≡ read_by (first_in k words)
first_as l k [] = refl
first_as l k (word ∷ words) =
    if_as (is_word word (codes "name")) _ _ _ _ (renaming_as l k words)
    (if_as (is_word word (codes "answer")) _ _ _ _ refl refl)

body_as : (l k : ℕ) (lines : List Line) → read_by (body_in l (map bare_line lines)) ≡ read_by (body_in k lines)
body_as l k [] = refl
body_as l k (line ∷ lines) =
    both_as with_answers (first_in 0 line.words) (first_in line.number line.words) (lines_in (map bare_line lines)) (lines_in lines) (first_as 0 line.number line.words) (lines_as lines)

-- a rule of words has no body
abbrev bodiless : List Line → Option Rule → Option Rule
bodiless [] o = o
bodiless (line ∷ lines) o = None

without_as : (l : ℕ) (lines : List Line) (r : Result Rule DirectiveFault) → as_read (without_body l lines r) ≡ bodiless lines (as_read r)
without_as l [] (Ok value) = refl
without_as l [] (Err fault) = refl
without_as l (line ∷ lines) (Ok value) = refl
without_as l (line ∷ lines) (Err fault) = refl

bodiless_stays : (lines : List Line) (o : Option Rule) → bodiless (map bare_line lines) o ≡ bodiless lines o
bodiless_stays [] o = refl
bodiless_stays (line ∷ lines) o = refl

alone_as : (l k : ℕ) (lines : List Line) (r s : Reading Rule) → read_by r ≡ read_by s → read_by (alone l (map bare_line lines) r) ≡ read_by (alone k lines s)
alone_as l k lines r s same =
    without_as l (map bare_line lines) r.end ∙ bodiless_stays lines (as_read r.end) ∙ ap (bodiless lines) same
    ∙ sym (without_as k lines s.end)

rule_of_as : (l k : ℕ) (words : List (List ℕ)) (lines : List Line) → read_by (rule_of l words (map bare_line lines)) ≡ read_by (rule_of k words lines)
rule_of_as l k [] lines = body_as l k lines
rule_of_as l k (word ∷ words) lines = alone_as l k lines (rule_in l (word ∷ words)) (rule_in k (word ∷ words)) (rule_as l k (word ∷ words))

as_if : (r : Result Written DirectiveFault) → if_read r ≡ as_read r
as_if (Ok value) = refl
as_if (Err fault) = refl

-- the rule of a directive
pub written_stays : (d : Directive) → written_of (bare d) ≡ written_of d
unfolding written_of reading_of
written_stays d =
    as_if (reading_of (bare d)).end
    ∙ map_as (written (goes_on d.args)) (rule_of 0 (behind_flow d.args) (map bare_line d.body)).end (rule_of d.line (behind_flow d.args) d.body).end
    (rule_of_as 0 d.line (behind_flow d.args) d.body) ∙ sym (as_if (reading_of d).end)

behind_stays : (number : ℕ) (ds : List Directive) (before : Changed) → changed_behind number (map bare ds) before ≡ changed_behind number ds before
behind_stays number [] before = refl
behind_stays number (d ∷ ds) before = λ i.
    behind_rule (λ after. behind_stays (number + 1) ds after i) number (written_stays d i) before
    (applied_by before.query (written_stays d i))

-- what rules make of a query, and of the answer behind them
pub changed_stays : (ds : List Directive) (q : Query) → changed_by (map bare ds) q ≡ changed_by ds q
unfolding changed_by
changed_stays ds q = behind_stays 0 ds (unchanged q)

written_at_stays : (ds : List Directive) (number : ℕ) → written_at (map bare ds) number ≡ written_at ds number
written_at_stays [] number = refl
written_at_stays (d ∷ ds) zero = written_stays d
written_at_stays (d ∷ ds) (suc number) = written_at_stays ds number

pub restored_stays : (ds : List Directive) (steps : List Step) (a : AnswerData) → restored (map bare ds) steps a ≡ restored ds steps a
restored_stays ds [] a = refl
restored_stays ds (step ∷ steps) a =
    restored_stays ds steps (restored_by (written_at (map bare ds) step.rule) step a)
    ∙ (λ i. restored ds steps (restored_by (written_at_stays ds step.rule i) step a))
