-- The keys of the blocks of a bundle: each block has one, and none stands twice.
use Rattle.std.proofs.Common.{◌≡◌, ◌≢◌, ◌⊎◌, inl, inr, ℕ, zero, suc, ◌+◌, ◌<◌, Bool, true, false, List, [], ◌∷◌, ◌++◌, map, length, Option, Some, None, Result, Ok, Err, refl, sym, ap, ◌∙◌, subst, arith, append_assoc}
use Rattle.std.specs.Prelude.{◌==◌, ◌&&◌, ◌||◌, nat_le, option_map, is_some, unwrap_or, if◌then◌else◌}
use Rattle.std.specs.List.{flat_map, list_any}
use Rattle.std.proofs.lemmas.Bool.Decides.{Decides-eqb, nat_tests}
use Rattle.std.proofs.lemmas.Slice.Eq.{slice_eq-Decides}
use Rattle.std.proofs.lemmas.List.{append-nil}
use Rattle.std.proofs.lemmas.List.Folds.{list_any-append}
use Rattle.std.proofs.lemmas.List.Concat.{flat_map-cons}
use Rattle.corefile_words.specs.{words_of}
use Rattle.corefile_words.specs.declared.word.Word.{Word}
use Rattle.corefile_words.specs.declared.word.WordLine.{WordLine}
use Rattle.corefile_words.specs.declared.fault.WordsFault.{WordsFault}
use Rattle.corefile_blocks.specs.declared.bundle.Bundle.{Bundle}
use Rattle.corefile_blocks.specs.declared.fault.BlockWhy.{BlockWhy}
use Rattle.corefile_blocks.specs.declared.fault.CorefileFault.{CorefileFault}
use Rattle.corefile_blocks.specs.declared.fault.CorefileFault.TheVariants as fault
use Rattle.corefile_blocks.specs.declared.place.LineForm.{LineForm}
use Rattle.corefile_blocks.specs.declared.place.LineForm.TheVariants as form
use Rattle.corefile_blocks.specs.declared.place.Place.{Place}
use Rattle.corefile_blocks.specs.declared.shared.Snippet.{Snippet}
use Rattle.corefile_blocks.specs.Blocks.{EndedData, Reading, Step, add_body_line, add_directive, add_with_body, all_of, at_line, begin_block, begin_snippet, beginning, blocks_of, directive, directive_count, end_fault, file_of, header, if_good, import, import_by, import_file, import_name, import_words, naming, on_last, read, read_lines, reading_of, snippet_of, step, step_by, step_then, unless_double, with_body_line, with_directive}
use Rattle.corefile_blocks.specs.Keys.{HeaderData, add_keys, all_pieces, double_behind, double_key, header_keys, keys_of, no_keys, or_no_key, same_key}
use Rattle.corefile_blocks.specs.LineForms.{form_at, opened}
use Rattle.corefile_blocks.specs.PlacedLines.{PlacedLine, own_lines}
use Rattle.dns_data.specs.declared.block.Block.{Block}
use Rattle.dns_data.specs.declared.block.BlockKey.{BlockKey}
use Rattle.dns_data.specs.declared.directive.Directive.{Directive}
use Rattle.dns_data.specs.declared.limit.TheConstants as limits
use Rattle.dns_data.specs.{same_labels}

-- each of these blocks has a key
abbrev pub AreKeyed : List Block → Type 0
AreKeyed [] = Unit {0}
AreKeyed (block ∷ blocks) = (0 < length block.keys) × AreKeyed blocks

both : {R : Type 0} (b : Bool) → (b ≡ true → R) → (b ≡ false → R) → R
both true t f = t refl
both false t f = f refl

keyed_push : (blocks : List Block) (block : Block) → AreKeyed blocks → 0 < length block.keys → AreKeyed (blocks ++ block ∷ [])
keyed_push [] block keyed has = (has, tt)
keyed_push (b ∷ blocks) block keyed has = (keyed.0, keyed_push blocks block keyed.1 has)

keyed_last : (f : Block → Block) → ((b : Block) → (f b).keys ≡ b.keys) → (blocks : List Block) → AreKeyed blocks → AreKeyed (on_last f blocks)
keyed_last f same [] keyed = tt
keyed_last f same (b ∷ []) keyed = (subst (λ (ks : List BlockKey). 0 < length ks) (sym (same b)) keyed.0, tt)
keyed_last f same (b ∷ second ∷ blocks) keyed = (keyed.0, keyed_last f same (second ∷ blocks) keyed.1)

-- a header without a fault has a key
some_key : (keys : List BlockKey) (why : Option BlockWhy) → (or_no_key keys why).fault ≡ None → 0 < length (or_no_key keys why).keys
some_key [] None none = absurd cc
some_key [] (Some f) none = absurd cc
some_key (k ∷ keys) why none = omega arith

header_keyed : (port line : ℕ) (words : List Word) → (header_keys port line words).fault ≡ None → 0 < length (header_keys port line words).keys
unfolding header_keys
header_keyed port line words none = some_key (add_keys port line no_keys (all_pieces words)).keys (add_keys port line no_keys (all_pieces words)).fault none

-- what a line makes of the blocks
abbrev Keeps : Reading → Step → Type 0
Keeps reading s = s.fault ≡ None → AreKeyed reading.blocks → AreKeyed s.reading.blocks

by_words : (reading : Reading) (line : PlacedLine) (r : Result (List WordLine) WordsFault) → Keeps reading (import_words reading line r)
by_words reading line (Ok lines) none keyed = keyed
by_words reading line (Err broken) none keyed = keyed

by_file : (bundle : Bundle) (reading : Reading) (line : PlacedLine) (o : Option (List ℕ)) → Keeps reading (import_file bundle reading line o)
by_file bundle reading line None none keyed = keyed
by_file bundle reading line (Some bytes) none keyed = by_words reading line (words_of bundle.env bytes) none keyed

by_snippet : (bundle : Bundle) (reading : Reading) (line : PlacedLine) (o : Option Snippet) → Keeps reading (import_by bundle reading line o)
by_snippet bundle reading line None none keyed = by_file bundle (naming reading (import_name line.line.words)) line (file_of (import_name line.line.words) bundle.files) none keyed
by_snippet bundle reading line (Some snippet) none keyed = keyed

by_if : (reading : Reading) (b : Bool) (s t : Step) → Keeps reading s → Keeps reading t → Keeps reading (if b then s else t)
by_if reading true s t one other = one
by_if reading false s t one other = other

by_name : (reading : Reading) (line : ℕ) (o : Option (List ℕ)) → Keeps reading (begin_snippet reading line o)
by_name reading line None none keyed = keyed
by_name reading line (Some []) none keyed = keyed
by_name reading line (Some (byte ∷ name)) none keyed =
    by_if reading (is_some (snippet_of (byte ∷ name) reading.snippets)) _ _ (λ n k. k) (λ n k. k) none keyed

no_fault : {A B : Type 0} (f : A → B) (o : Option A) → option_map f o ≡ None → o ≡ None
no_fault f None e = refl
no_fault f (Some x) e = absurd cc

by_header : (reading : Reading) (port line : ℕ) (words : List Word) → Keeps reading (header reading port line words)
by_header reading port line words =
    by_if reading (nat_le limits.BLOCKS (length reading.blocks)) _ _ (λ n k. k)
    (λ n k. keyed_push reading.blocks (record { keys = (header_keys port line words).keys; directives = [] }) k (header_keyed port line words (no_fault (fault.Block line) (header_keys port line words).fault n)))

by_directive : (reading : Reading) (place : Place) (d : Directive) → Keeps reading (add_directive reading place d)
by_directive reading place d =
    by_if reading (nat_le limits.DIRECTIVES (directive_count reading.blocks)) _ _ (λ n k. k) (λ n k. keyed_last (with_directive d) (λ b. refl) reading.blocks k)

by_form : (bundle : Bundle) (port : ℕ) (reading : Reading) (line : PlacedLine) (f : LineForm) → Keeps reading (step_by bundle port reading line f)
by_form bundle port reading line (form.Refused why) none keyed = keyed
by_form bundle port reading line form.Import none keyed =
    by_if reading (nat_le limits.IMPORT_DEPTH line.depth) _ _ (λ n k. k) (by_snippet bundle reading line (snippet_of (import_name line.line.words) reading.snippets)) none keyed
by_form bundle port reading line form.SnippetHeader none keyed = by_name reading line.number (Rattle.corefile_blocks.specs.LineForms.snippet_name line.line.words) none keyed
by_form bundle port reading line (form.SnippetLine nested) none keyed = keyed
by_form bundle port reading line form.SnippetEnd none keyed = keyed
by_form bundle port reading line form.Header none keyed = by_header reading port line.number (unwrap_or (opened line.line.words) []) none keyed
by_form bundle port reading line form.BlockEnd none keyed = keyed
by_form bundle port reading line form.Directive none keyed = by_directive reading reading.place (directive line.number line.line.words) none keyed
by_form bundle port reading line form.DirectiveHeader none keyed = by_directive reading _ (directive line.number (unwrap_or (opened line.line.words) [])) none keyed
by_form bundle port reading line form.BodyLine none keyed = keyed_last (with_body_line _) (λ b. refl) reading.blocks keyed
by_form bundle port reading line form.BodyEnd none keyed = keyed

step_keyed : (bundle : Bundle) (port : ℕ) (reading : Reading) (line : PlacedLine) → Keeps reading (step bundle port reading line)
unfolding step
step_keyed bundle port reading line = by_form bundle port reading line (form_at reading.place line.line.words)

-- lines that were read without a fault
abbrev IfRead : EndedData → Type 0
IfRead ended = ended.fault ≡ None → AreKeyed ended.blocks

by_step : (s : Step) (behind : Reading → List PlacedLine → EndedData) (o : Option CorefileFault) → (o ≡ None → IfRead (behind s.reading s.put)) → IfRead (step_then s behind o)
by_step s behind None on = on refl
by_step s behind (Some f) on = λ e. absurd cc

read_keyed : (left : ℕ) (bundle : Bundle) (port : ℕ) (reading : Reading) (lines : List PlacedLine) → AreKeyed reading.blocks → IfRead (read left bundle port reading lines)
unfolding read
read_keyed left bundle port reading [] keyed = λ none. keyed
read_keyed zero bundle port reading (line ∷ lines) keyed = λ none. keyed
read_keyed (suc left) bundle port reading (line ∷ lines) keyed =
    by_step (step bundle port reading line) (λ r put. read left bundle port r (put ++ lines)) (step bundle port reading line).fault
    (λ e. read_keyed left bundle port (step bundle port reading line).reading ((step bundle port reading line).put ++ lines) (step_keyed bundle port reading line e keyed))

by_lines : (bundle : Bundle) (port : ℕ) (r : Result (List WordLine) WordsFault) → IfRead (read_lines bundle port r)
by_lines bundle port (Err broken) = λ e. absurd cc
by_lines bundle port (Ok lines) = read_keyed limits.LINES bundle port beginning (own_lines lines) tt

same_Ok : {A B : Type 0} (x y : A) → ◌≡◌ {A = Result A B} (Ok x) (Ok y) → x ≡ y
same_Ok x y e = cc

-- the blocks of a bundle
pub record AreOfBundle (blocks : List Block) : Type 0 where
  pub keyed : AreKeyed blocks
  pub once : double_behind [] (keys_of blocks) ≡ None

by_fault : (ended : EndedData) (blocks : List Block) → IfRead ended → double_behind [] (keys_of ended.blocks) ≡ None → (o : Option CorefileFault) → ended.fault ≡ o → if_good ended.blocks o ≡ Ok blocks → AreOfBundle blocks
by_fault ended blocks keyed once None none is =
    let same : ended.blocks ≡ blocks = same_Ok ended.blocks blocks is in
    subst AreOfBundle same (record { keyed = keyed none; once = once })
by_fault ended blocks keyed once (Some f) some is = absurd cc

by_double : (ended : EndedData) (blocks : List Block) → IfRead ended → (o : Option ℕ) → double_behind [] (keys_of ended.blocks) ≡ o → unless_double ended o ≡ Ok blocks → AreOfBundle blocks
by_double ended blocks keyed (Some line) double is = absurd cc
by_double ended blocks keyed None double is = by_fault ended blocks keyed double ended.fault refl is

pub of_bundle : (bundle : Bundle) (port : ℕ) (blocks : List Block) → blocks_of bundle port ≡ Ok blocks → AreOfBundle blocks
unfolding blocks_of reading_of double_key
of_bundle bundle port blocks is =
    by_double (read_lines bundle port (words_of bundle.env bundle.conf)) blocks (by_lines bundle port (words_of bundle.env bundle.conf)) (double_behind [] (keys_of (read_lines bundle port (words_of bundle.env bundle.conf)).blocks)) refl is
