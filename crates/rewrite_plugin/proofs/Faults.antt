-- A fault of words is none of a pattern, so that no maker is asked for it.
use Rattle.std.proofs.Common.{◌≡◌, ◌∙◌, ℕ, Bool, true, false, List, [], ◌∷◌, codes, Option, Some, None, Result, Ok, Err, refl, sym, ap}
use Rattle.std.specs.Prelude.{if◌then◌else◌}
use Rattle.dns_data.specs.declared.directive.Directive.{Directive}
use Rattle.dns_data.specs.declared.directive.Line.{Line}
use Rattle.plugin_api.specs.{is_word}
use Rattle.plugin_api.specs.declared.fault.DirectiveFault.{DirectiveFault}
use Rattle.plugin_api.specs.declared.fault.DirectiveFault.TheVariants as fault
use Rattle.plugin_api.specs.declared.fault.DirectiveWhy.TheVariants as why
use Rattle.type_names.specs.{kind_of_text}
use Rattle.rewrite_plugin.specs.Shapes.{Matcher, Rule}
use Rattle.rewrite_plugin.specs.declared.matching.Matching.{Matching}
use Rattle.rewrite_plugin.specs.declared.rule.Answering.TheVariants as answering
use Rattle.rewrite_plugin.specs.declared.rule.Rule.TheVariants as rule
use Rattle.pattern_judging.specs.Tasks.{refusals_behind}
use Rattle.rewrite_plugin.specs.Words.{Reading, answering_in, answers_in, behind_flow, body_in, end_map, ends_with, first_in, goes_on, in_front, is_empty, last_end, line_in, lines_in, matcher_of, one, reading_of, renaming_by, renaming_in, renaming_of, renaming_to, replacing_in, rule_in, rule_of, seconds_in, sought_in, ttl_by, ttl_of, ttl_to, type_end, type_of, type_to, with_answers, without_body, written}

-- what is refused is no pattern
abbrev Plain : {A : Type 0} → Result A DirectiveFault → Type 0
Plain e = (refused : DirectiveFault) → e ≡ Err refused → (n : ℕ) → refusals_behind refused n ≡ n

err_plain : {A : Type 0} (g : DirectiveFault) → ((n : ℕ) → refusals_behind g n ≡ n) → Plain {A = A} (Err g)
err_plain g h refused e n = let same : g ≡ refused = cc in ap (λ (f : DirectiveFault). refusals_behind f n) (sym same) ∙ h n

ok_plain : {A : Type 0} (value : A) → Plain (Ok value)
ok_plain value refused e n = absurd cc

args_plain : {A : Type 0} (line : ℕ) → Plain {A = A} (Err (fault.Why line why.Args))
args_plain line = err_plain (fault.Why line why.Args) (λ n. refl)

option_plain : {A : Type 0} (line : ℕ) → Plain {A = A} (Err (fault.Why line why.Option))
option_plain line = err_plain (fault.Why line why.Option) (λ n. refl)

kind_plain : {A : Type 0} (line : ℕ) → Plain {A = A} (Err (fault.Why line why.Kind))
kind_plain line = err_plain (fault.Why line why.Kind) (λ n. refl)

map_plain : {A B : Type 0} (g : A → B) (e : Result A DirectiveFault) → Plain e → Plain (end_map g e)
map_plain g (Ok a) h refused e n = absurd cc
map_plain g (Err f) h refused e n = let same : f ≡ refused = cc in h refused (ap Err same) n

both_plain : {A B C : Type 0} (c : A → B → C) (e : Result A DirectiveFault) (h : Result B DirectiveFault) → Plain e → Plain h → Plain (ends_with c e h)
both_plain c (Err f) h p q refused e n = let same : f ≡ refused = cc in p refused (ap Err same) n
both_plain c (Ok a) h p q refused e n = map_plain (c a) h q refused e n

last_plain : {A : Type 0} (line : ℕ) (value : A) (words : List (List ℕ)) → Plain (last_end line value words)
last_plain line value [] = ok_plain value
last_plain line value (word ∷ words) = args_plain line

abbrev IsPlain : {A : Type 0} → Reading A → Type 0
IsPlain reading = Plain reading.end

if_plain : {A : Type 0} (b : Bool) (r s : Reading A) → IsPlain r → IsPlain s → IsPlain (if b then r else s)
if_plain true r s h k = h
if_plain false r s h k = k

if_end_plain : {A : Type 0} (b : Bool) (e f : Result A DirectiveFault) → Plain e → Plain f → Plain (if b then e else f)
if_end_plain true e f h k = h
if_end_plain false e f h k = k

replacing_plain : (line : ℕ) (words : List (List ℕ)) → IsPlain (replacing_in line words)
replacing_plain line [] refused e n = args_plain line refused e n
replacing_plain line (pattern ∷ []) refused e n = args_plain line refused e n
replacing_plain line (pattern ∷ to ∷ []) refused e n = absurd cc
replacing_plain line (pattern ∷ to ∷ word ∷ words) refused e n = args_plain line refused e n

answering_plain : (line : ℕ) (words : List (List ℕ)) → IsPlain (answering_in line words)
answering_plain line [] = args_plain line
answering_plain line (word ∷ words) =
    if_plain (is_word word (codes "auto")) _ _ (last_plain line answering.Auto words)
    (if_plain (is_word word (codes "name")) _ _ (map_plain answering.Name (replacing_in line words).end (replacing_plain line words))
    (if_plain (is_word word (codes "value")) _ _ (map_plain answering.Value (replacing_in line words).end (replacing_plain line words)) (option_plain line)))

answers_plain : (line : ℕ) (words : List (List ℕ)) → IsPlain (answers_in line words)
answers_plain line [] = ok_plain []
answers_plain line (word ∷ words) =
    if_plain (is_word word (codes "answer")) _ _ (map_plain one (answering_in line words).end (answering_plain line words)) (args_plain line)

renaming_to_plain : (line : ℕ) (by : Matching) (from : List ℕ) (words : List (List ℕ)) → IsPlain (renaming_to line by from words)
renaming_to_plain line by from [] = args_plain line
renaming_to_plain line by from (to ∷ words) = map_plain (renaming_of by from to) (answers_in line words).end (answers_plain line words)

renaming_by_plain : (line : ℕ) (by : Matching) (words : List (List ℕ)) → IsPlain (renaming_by line by words)
renaming_by_plain line by [] = args_plain line
renaming_by_plain line by (from ∷ words) = if_plain (is_empty from) _ _ (args_plain line) (renaming_to_plain line by from words)

ttl_of_plain : (line : ℕ) (from : Matcher) (seconds : Option ℕ) (words : List (List ℕ)) → IsPlain (ttl_of line from seconds words)
ttl_of_plain line from None words = err_plain (fault.Why line why.Number) (λ n. refl)
ttl_of_plain line from (Some n) words = last_plain line (rule.Ttl from n) words

ttl_to_plain : (line : ℕ) (from : Matcher) (words : List (List ℕ)) → IsPlain (ttl_to line from words)
ttl_to_plain line from [] = args_plain line
ttl_to_plain line from (word ∷ words) = ttl_of_plain line from (seconds_in word) words

ttl_plain : (line : ℕ) (by : Matching) (words : List (List ℕ)) → IsPlain (ttl_by line by words)
ttl_plain line by [] = args_plain line
ttl_plain line by (name ∷ words) = if_plain (is_empty name) _ _ (args_plain line) (ttl_to_plain line (matcher_of by name) words)

type_of_plain : (line from : ℕ) (to : Option ℕ) (words : List (List ℕ)) → Plain (type_of line from to words)
type_of_plain line from None words = kind_plain line
type_of_plain line from (Some to) words = last_plain line (rule.Type from to) words

type_to_plain : (line : ℕ) (from : Option ℕ) (words : List (List ℕ)) → Plain (type_to line from words)
type_to_plain line None words = kind_plain line
type_to_plain line (Some from) [] = args_plain line
type_to_plain line (Some from) (word ∷ words) = type_of_plain line from (kind_of_text word) words

type_plain : (line : ℕ) (words : List (List ℕ)) → Plain (type_end line words)
type_plain line [] = args_plain line
type_plain line (word ∷ words) = if_end_plain (is_empty word) _ _ (args_plain line) (type_to_plain line (kind_of_text word) words)

rule_plain : (line : ℕ) (words : List (List ℕ)) → IsPlain (rule_in line words)
rule_plain line [] = args_plain line
rule_plain line (word ∷ words) =
    if_plain (is_word word (codes "name")) _ _ (map_plain rule.Name (renaming_in line words).end (renaming_by_plain line (sought_in words).by (sought_in words).words))
    (if_plain (is_word word (codes "type")) _ _ (type_plain line words)
    (if_plain (is_word word (codes "ttl")) _ _ (ttl_plain line (sought_in words).by (sought_in words).words) (option_plain line)))

line_plain : (line : ℕ) (words : List (List ℕ)) → IsPlain (line_in line words)
line_plain line [] = option_plain line
line_plain line (word ∷ words) =
    if_plain (is_word word (codes "answer")) _ _ (answering_plain line words)
    (if_plain (is_word word (codes "name")) _ _ (args_plain line) (option_plain line))

lines_plain : (lines : List Line) → IsPlain (lines_in lines)
lines_plain [] = ok_plain []
lines_plain (line ∷ lines) =
    both_plain in_front (line_in line.number line.words).end (lines_in lines).end (line_plain line.number line.words) (lines_plain lines)

first_plain : (line : ℕ) (words : List (List ℕ)) → IsPlain (first_in line words)
first_plain line [] = option_plain line
first_plain line (word ∷ words) =
    if_plain (is_word word (codes "name")) _ _ (renaming_by_plain line (sought_in words).by (sought_in words).words)
    (if_plain (is_word word (codes "answer")) _ _ (args_plain line) (option_plain line))

body_plain : (number : ℕ) (lines : List Line) → IsPlain (body_in number lines)
body_plain number [] = args_plain number
body_plain number (line ∷ lines) =
    both_plain with_answers (first_in line.number line.words).end (lines_in lines).end (first_plain line.number line.words) (lines_plain lines)

without_plain : (number : ℕ) (lines : List Line) (e : Result Rule DirectiveFault) → Plain e → Plain (without_body number lines e)
without_plain number lines (Err f) h = h
without_plain number [] (Ok value) h = h
without_plain number (line ∷ lines) (Ok value) h = args_plain number

rule_of_plain : (number : ℕ) (words : List (List ℕ)) (lines : List Line) → IsPlain (rule_of number words lines)
rule_of_plain number [] lines = body_plain number lines
rule_of_plain number (word ∷ words) lines = without_plain number lines (rule_in number (word ∷ words)).end (rule_plain number (word ∷ words))

pub words_are_plain : (d : Directive) (refused : DirectiveFault) → (reading_of d).end ≡ Err refused → (n : ℕ) → refusals_behind refused n ≡ n
unfolding reading_of
words_are_plain d = map_plain (written (goes_on d.args)) (rule_of d.line (behind_flow d.args) d.body).end (rule_of_plain d.line (behind_flow d.args) d.body)
