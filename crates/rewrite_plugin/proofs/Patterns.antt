-- The patterns that are found in the words of a directive without a fault are those of its rule.
use Rattle.std.proofs.Common.{◌≡◌, ◌∙◌, ℕ, Bool, true, false, List, [], ◌∷◌, ◌++◌, codes, Option, Some, None, Result, Ok, Err, refl, sym, ap, append_assoc}
use Rattle.std.specs.Prelude.{if◌then◌else◌}
use Rattle.std.proofs.lemmas.List.{append-nil, map-append}
use Rattle.dns_data.specs.declared.directive.Directive.{Directive}
use Rattle.dns_data.specs.declared.directive.Line.{Line}
use Rattle.plugin_api.specs.{is_word}
use Rattle.plugin_api.specs.declared.fault.DirectiveFault.{DirectiveFault}
use Rattle.plugin_api.specs.declared.fault.DirectiveFault.TheVariants as fault
use Rattle.plugin_api.specs.declared.fault.DirectiveWhy.{DirectiveWhy}
use Rattle.plugin_api.specs.declared.fault.DirectiveWhy.TheVariants as why
use Rattle.type_names.specs.{kind_of_text}
use Rattle.rewrite_plugin.specs.Shapes.{Answering, Matcher, Renaming, Rule, Written}
use Rattle.rewrite_plugin.specs.declared.matching.Matching.{Matching}
use Rattle.rewrite_plugin.specs.declared.matching.Matching.TheVariants as matching
use Rattle.rewrite_plugin.specs.declared.rule.Answering.TheVariants as answering
use Rattle.rewrite_plugin.specs.declared.rule.Rule.TheVariants as rule
use Rattle.rewrite_plugin.specs.declared.words.PatternAt.{PatternAt}
use Rattle.rewrite_plugin.specs.Made.{answering_patterns, answers_patterns, renaming_patterns, rule_patterns}
use Rattle.rewrite_plugin.specs.Reading.{texts_of}
use Rattle.rewrite_plugin.specs.Rules.{matcher_patterns}
use Rattle.rewrite_plugin.specs.Words.{Reading, answering_in, answers_in, behind_flow, behind_patterns, body_in, end_map, ends_with, first_in, goes_on, in_front, is_empty, last, line_in, lines_in, made_of, matcher_of, one, patterns_by, patterns_if, reading_of, refused, renaming_by, renaming_in, renaming_of, renaming_to, replacing_in, rule_in, rule_of, seconds_in, sought_in, ttl_by, ttl_of, ttl_to, type_in, type_of, type_to, with_answers, without_body, written}

-- where words read as something, the patterns in front are those of it
abbrev Are : {A : Type 0} → (A → List (List ℕ)) → Reading A → Type 0
Are {A} f reading = (value : A) → reading.end ≡ Ok value → texts_of reading.patterns ≡ f value

-- what a result is made of
record MadeOf {A B : Type 0} (g : A → B) (e : Result A DirectiveFault) (value : B) : Type 0 where
  from : A
  is : e ≡ Ok from
  gives : g from ≡ value

made_from : {A B : Type 0} (g : A → B) (e : Result A DirectiveFault) (value : B) → end_map g e ≡ Ok value → MadeOf g e value
made_from g (Ok a) value h = record { from = a; is = refl; gives = cc }
made_from g (Err f) value h = absurd cc

refused_are : {A : Type 0} (f : A → List (List ℕ)) (line : ℕ) (why : DirectiveWhy) → Are f (refused line why)
refused_are f line why value e = absurd cc

if_are : {A : Type 0} (f : A → List (List ℕ)) (b : Bool) (r s : Reading A) → Are f r → Are f s → Are f (if b then r else s)
if_are f true r s h k = h
if_are f false r s h k = k

made_are : {A B : Type 0} (f : B → List (List ℕ)) (g : A → B) (r : Reading A) → Are (λ a. f (g a)) r → Are f (made_of g r)
made_are f g r h value e = let m = made_from g r.end value e in h m.from m.is ∙ ap f m.gives

last_are : {A : Type 0} (f : A → List (List ℕ)) (line : ℕ) (value : A) (words : List (List ℕ)) → f value ≡ [] → Are f (last line value words)
last_are f line value [] none other e = let same : value ≡ other = cc in sym none ∙ ap f same
last_are f line value (word ∷ words) none other e = absurd cc

replacing_are : (line : ℕ) (words : List (List ℕ)) → Are (λ r. r.pattern ∷ []) (replacing_in line words)
replacing_are line [] value e = absurd cc
replacing_are line (pattern ∷ []) value e = absurd cc
replacing_are line (pattern ∷ to ∷ []) value e = cc
replacing_are line (pattern ∷ to ∷ word ∷ words) value e = absurd cc

answering_are : (line : ℕ) (words : List (List ℕ)) → Are answering_patterns (answering_in line words)
answering_are line [] = refused_are answering_patterns line why.Args
answering_are line (word ∷ words) =
    if_are answering_patterns (is_word word (codes "auto")) _ _ (last_are answering_patterns line answering.Auto words refl)
    (if_are answering_patterns (is_word word (codes "name")) _ _ (made_are answering_patterns answering.Name (replacing_in line words) (replacing_are line words))
    (if_are answering_patterns (is_word word (codes "value")) _ _ (made_are answering_patterns answering.Value (replacing_in line words) (replacing_are line words))
    (refused_are answering_patterns line why.Option)))

answers_are : (line : ℕ) (words : List (List ℕ)) → Are answers_patterns (answers_in line words)
answers_are line [] value e = let same : [] ≡ value = cc in ap answers_patterns same
answers_are line (word ∷ words) value e =
    if_are answers_patterns (is_word word (codes "answer")) (made_of one (answering_in line words)) (refused line why.Args)
    (made_are answers_patterns one (answering_in line words) (λ value e. answering_are line words value e ∙ sym (append-nil (answering_patterns value))))
    (refused_are answers_patterns line why.Args) value e

sought_are : (by : Matching) (line : ℕ) (word : List ℕ) → texts_of (patterns_if by line word) ≡ matcher_patterns (matcher_of by word)
sought_are matching.Exact line word = refl
sought_are matching.Prefix line word = refl
sought_are matching.Suffix line word = refl
sought_are matching.Substring line word = refl
sought_are matching.Regex line word = refl

texts-append : (a b : List PatternAt) → texts_of (a ++ b) ≡ texts_of a ++ texts_of b
texts-append a b = map-append (λ (p : PatternAt). p.text) a b

behind_are : {A : Type 0} (f : A → List (List ℕ)) (by : Matching) (line : ℕ) (word : List ℕ) (r : Reading A)
    → ((value : A) → r.end ≡ Ok value → f value ≡ matcher_patterns (matcher_of by word) ++ texts_of r.patterns) → Are f (behind_patterns (patterns_if by line word) r)
behind_are f by line word r h value e =
    texts-append (patterns_if by line word) r.patterns ∙ ap (λ (l : List (List ℕ)). l ++ texts_of r.patterns) (sought_are by line word) ∙ sym (h value e)

renaming_to_are : (line : ℕ) (by : Matching) (from : List ℕ) (words : List (List ℕ)) (value : Renaming) → (renaming_to line by from words).end ≡ Ok value
    → renaming_patterns value ≡ matcher_patterns (matcher_of by from) ++ texts_of (renaming_to line by from words).patterns
renaming_to_are line by from [] value e = absurd cc
renaming_to_are line by from (to ∷ words) value e =
    let m = made_from (renaming_of by from to) (answers_in line words).end value e in
    ap renaming_patterns (sym m.gives) ∙ ap (λ (l : List (List ℕ)). matcher_patterns (matcher_of by from) ++ l) (sym (answers_are line words m.from m.is))

renaming_by_are : (line : ℕ) (by : Matching) (words : List (List ℕ)) → Are renaming_patterns (renaming_by line by words)
renaming_by_are line by [] = refused_are renaming_patterns line why.Args
renaming_by_are line by (from ∷ words) =
    if_are renaming_patterns (is_empty from) _ _ (refused_are renaming_patterns line why.Args)
    (behind_are renaming_patterns by line from (renaming_to line by from words) (renaming_to_are line by from words))

renaming_are : (line : ℕ) (words : List (List ℕ)) → Are renaming_patterns (renaming_in line words)
renaming_are line words = renaming_by_are line (sought_in words).by (sought_in words).words

ttl_of_are : (line : ℕ) (from : Matcher) (seconds : Option ℕ) (words : List (List ℕ)) (value : Rule) → (ttl_of line from seconds words).end ≡ Ok value
    → rule_patterns value ≡ matcher_patterns from ++ texts_of (ttl_of line from seconds words).patterns
ttl_of_are line from None words value e = absurd cc
ttl_of_are line from (Some n) [] value e = let same : rule.Ttl from n ≡ value = cc in ap rule_patterns (sym same) ∙ sym (append-nil (matcher_patterns from))
ttl_of_are line from (Some n) (word ∷ words) value e = absurd cc

ttl_to_are : (line : ℕ) (from : Matcher) (words : List (List ℕ)) (value : Rule) → (ttl_to line from words).end ≡ Ok value
    → rule_patterns value ≡ matcher_patterns from ++ texts_of (ttl_to line from words).patterns
ttl_to_are line from [] value e = absurd cc
ttl_to_are line from (word ∷ words) value e = ttl_of_are line from (seconds_in word) words value e

ttl_are : (line : ℕ) (by : Matching) (words : List (List ℕ)) → Are rule_patterns (ttl_by line by words)
ttl_are line by [] = refused_are rule_patterns line why.Args
ttl_are line by (name ∷ words) =
    if_are rule_patterns (is_empty name) _ _ (refused_are rule_patterns line why.Args)
    (behind_are rule_patterns by line name (ttl_to line (matcher_of by name) words) (ttl_to_are line (matcher_of by name) words))

-- a rule of types has none
abbrev NoneAre : Result Rule DirectiveFault → Type 0
NoneAre e = (value : Rule) → e ≡ Ok value → [] ≡ rule_patterns value

if_none : (b : Bool) (e f : Result Rule DirectiveFault) → NoneAre e → NoneAre f → NoneAre (if b then e else f)
if_none true e f h k = h
if_none false e f h k = k

type_of_are : (line from : ℕ) (to : Option ℕ) (words : List (List ℕ)) → NoneAre (type_of line from to words)
type_of_are line from None words value e = absurd cc
type_of_are line from (Some to) [] value e = let same : rule.Type from to ≡ value = cc in ap rule_patterns same
type_of_are line from (Some to) (word ∷ words) value e = absurd cc

type_to_are : (line : ℕ) (from : Option ℕ) (words : List (List ℕ)) → NoneAre (type_to line from words)
type_to_are line None words value e = absurd cc
type_to_are line (Some from) [] value e = absurd cc
type_to_are line (Some from) (word ∷ words) value e = type_of_are line from (kind_of_text word) words value e

err_none : (f : DirectiveFault) → NoneAre (Err f)
err_none f value e = absurd cc

type_are : (line : ℕ) (words : List (List ℕ)) → Are rule_patterns (type_in line words)
type_are line [] value e = absurd cc
type_are line (word ∷ words) value e =
    if_none (is_empty word) (Err (fault.Why line why.Args)) (type_to line (kind_of_text word) words) (err_none (fault.Why line why.Args)) (type_to_are line (kind_of_text word) words) value e

rule_are : (line : ℕ) (words : List (List ℕ)) → Are rule_patterns (rule_in line words)
rule_are line [] = refused_are rule_patterns line why.Args
rule_are line (word ∷ words) =
    if_are rule_patterns (is_word word (codes "name")) _ _ (made_are rule_patterns rule.Name (renaming_in line words) (renaming_are line words))
    (if_are rule_patterns (is_word word (codes "type")) _ _ (type_are line words)
    (if_are rule_patterns (is_word word (codes "ttl")) _ _ (ttl_are line (sought_in words).by (sought_in words).words)
    (refused_are rule_patterns line why.Option)))

line_are : (line : ℕ) (words : List (List ℕ)) → Are answering_patterns (line_in line words)
line_are line [] = refused_are answering_patterns line why.Option
line_are line (word ∷ words) =
    if_are answering_patterns (is_word word (codes "answer")) _ _ (answering_are line words)
    (if_are answering_patterns (is_word word (codes "name")) _ _ (refused_are answering_patterns line why.Args)
    (refused_are answering_patterns line why.Option))

both_by : {A B C : Type 0} (f : A → List (List ℕ)) (g : B → List (List ℕ)) (k : C → List (List ℕ)) (c : A → B → C) (ps qs : List PatternAt) (e : Result A DirectiveFault) (h : Result B DirectiveFault)
    → ((a : A) → e ≡ Ok a → texts_of ps ≡ f a) → ((b : B) → h ≡ Ok b → texts_of qs ≡ g b) → ((a : A) (b : B) → f a ++ g b ≡ k (c a b))
    → (value : C) → ends_with c e h ≡ Ok value → texts_of (ps ++ patterns_by e qs) ≡ k value
both_by f g k c ps qs (Err x) h p q same value e = absurd cc
both_by f g k c ps qs (Ok a) (Err x) p q same value e = absurd cc
both_by f g k c ps qs (Ok a) (Ok b) p q same value e =
    let is : c a b ≡ value = cc in
    texts-append ps qs ∙ ap (λ (l : List (List ℕ)). l ++ texts_of qs) (p a refl) ∙ ap (λ (l : List (List ℕ)). f a ++ l) (q b refl) ∙ same a b ∙ ap k is

lines_are : (lines : List Line) → Are answers_patterns (lines_in lines)
lines_are [] value e = let same : [] ≡ value = cc in ap answers_patterns same
lines_are (line ∷ lines) value e =
    both_by answering_patterns answers_patterns answers_patterns in_front (line_in line.number line.words).patterns (lines_in lines).patterns
    (line_in line.number line.words).end (lines_in lines).end (line_are line.number line.words) (lines_are lines) (λ a b. refl) value e

first_are : (line : ℕ) (words : List (List ℕ)) → Are renaming_patterns (first_in line words)
first_are line [] = refused_are renaming_patterns line why.Option
first_are line (word ∷ words) =
    if_are renaming_patterns (is_word word (codes "name")) _ _ (renaming_are line words)
    (if_are renaming_patterns (is_word word (codes "answer")) _ _ (refused_are renaming_patterns line why.Args)
    (refused_are renaming_patterns line why.Option))

answers-append : (a b : List Answering) → answers_patterns (a ++ b) ≡ answers_patterns a ++ answers_patterns b
answers-append [] b = refl
answers-append (x ∷ a) b = ap (λ (l : List (List ℕ)). answering_patterns x ++ l) (answers-append a b) ∙ sym (append_assoc (answering_patterns x) (answers_patterns a) (answers_patterns b))

more_are : (r : Renaming) (more : List Answering) → renaming_patterns r ++ answers_patterns more ≡ rule_patterns (with_answers r more)
more_are r more =
    append_assoc (matcher_patterns r.from) (answers_patterns r.answers) (answers_patterns more)
    ∙ ap (λ (l : List (List ℕ)). matcher_patterns r.from ++ l) (sym (answers-append r.answers more))

body_are : (number : ℕ) (lines : List Line) → Are rule_patterns (body_in number lines)
body_are number [] = refused_are rule_patterns number why.Args
body_are number (line ∷ lines) =
    both_by renaming_patterns answers_patterns rule_patterns with_answers (first_in line.number line.words).patterns (lines_in lines).patterns
    (first_in line.number line.words).end (lines_in lines).end (first_are line.number line.words) (lines_are lines) more_are

alone_by : (number : ℕ) (lines : List Line) (ps : List PatternAt) (e : Result Rule DirectiveFault) → ((a : Rule) → e ≡ Ok a → texts_of ps ≡ rule_patterns a)
    → (value : Rule) → without_body number lines e ≡ Ok value → texts_of ps ≡ rule_patterns value
alone_by number lines ps (Err x) h value e = absurd cc
alone_by number [] ps (Ok a) h value e = h value e
alone_by number (line ∷ lines) ps (Ok a) h value e = absurd cc

rule_of_are : (number : ℕ) (words : List (List ℕ)) (lines : List Line) → Are rule_patterns (rule_of number words lines)
rule_of_are number [] lines = body_are number lines
rule_of_are number (word ∷ words) lines = alone_by number lines (rule_in number (word ∷ words)).patterns (rule_in number (word ∷ words)).end (rule_are number (word ∷ words))

pub patterns_are : (d : Directive) (w : Written) → (reading_of d).end ≡ Ok w → texts_of (reading_of d).patterns ≡ rule_patterns w.rule
unfolding reading_of
patterns_are d = made_are (λ (w : Written). rule_patterns w.rule) (written (goes_on d.args)) (rule_of d.line (behind_flow d.args) d.body) (rule_of_are d.line (behind_flow d.args) d.body)
