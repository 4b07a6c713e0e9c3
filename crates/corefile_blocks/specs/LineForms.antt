-- What a line of words is, by the place where it stands: the Corefile's grammar, docs/COREFILE.md.
-- Bytes by number: 40 `(`, 41 `)`.
use Rattle.std.specs.Prelude.{ℕ, zero, suc, ◌+◌, ◌-◌, ◌==◌, nat_eq, nat_lt, Bool, false, ◌&&◌, List}
use Rattle.std.specs.Prelude.{[], ◌∷◌, length, codes, slice_index, slice_range, Option, Some, None}
use Rattle.std.specs.Prelude.{option_map, if◌then◌else◌}
use Rattle.std.specs.List.{list_any}
use Rattle.std.specs.Cmp.Lexicographic.{pointwise}
use Rattle.corefile_words.specs.declared.word.Word.{Word}
use Rattle.corefile_blocks.specs.declared.fault.BlockWhy.TheVariants as why
use Rattle.corefile_blocks.specs.declared.place.Place.{Place}
use Rattle.corefile_blocks.specs.declared.place.Place.TheVariants as place
use Rattle.corefile_blocks.specs.declared.place.LineForm.{LineForm}
use Rattle.corefile_blocks.specs.declared.place.LineForm.TheVariants as form

-- whether two texts are equal byte for byte
abbrev pub same_text : List ℕ → List ℕ → Bool
same_text a b = pointwise nat_eq a b

-- a `{` that isn't quoted
abbrev pub is_open : Word → Bool
is_open word = word.brace && same_text word.text (codes "{")

-- a `}` that isn't quoted
abbrev pub is_close : Word → Bool
is_close word = word.brace && same_text word.text (codes "}")

-- whether a brace is among the words
abbrev pub has_brace : List Word → Bool
has_brace words = list_any (λ word. word.brace) words

-- the words before a `{` that ends the line
abbrev pub opened : List Word → Option (List Word)
opened [] = None
opened (word ∷ []) = if is_open word then Some [] else None
opened (word ∷ second ∷ words) = option_map (λ front. word ∷ front) (opened (second ∷ words))

-- a `}` alone
abbrev pub closes : List Word → Bool
closes [] = false
closes (word ∷ []) = is_close word
closes (word ∷ second ∷ words) = false

-- what stands between a `(` and a `)`
abbrev pub in_parentheses : List ℕ → Option (List ℕ)
in_parentheses text =
    if nat_lt 1 (length text) && slice_index text 0 == 40
    && slice_index text (length text - 1) == 41
    then Some (slice_range text 1 (length text - 1)) else None

-- the name of the snippet that a line `(NAME) {` begins
abbrev pub snippet_name : List Word → Option (List ℕ)
snippet_name [] = None
snippet_name (word ∷ []) = None
snippet_name (word ∷ brace ∷ []) = if is_open brace then in_parentheses word.text else None
snippet_name (word ∷ brace ∷ third ∷ words) = None

-- whether the first word is `import`, quoted or not
abbrev pub begins_import : List Word → Bool
begins_import [] = false
begins_import (word ∷ words) = same_text word.text (codes "import")

-- a line that begins with `import`: exactly one word stands behind it, which is no brace
abbrev pub import_form : List Word → LineForm
import_form [] = form.Refused why.ImportArgs
import_form (word ∷ []) = form.Refused why.ImportArgs
import_form (word ∷ name ∷ []) = if name.brace then form.Refused why.ImportArgs else form.Import
import_form (word ∷ name ∷ third ∷ words) = form.Refused why.ImportArgs

-- the line, where none of its words is a brace
abbrev pub unless_brace : List Word → LineForm → LineForm
unless_brace words line = if has_brace words then form.Refused why.StrayBrace else line

-- a line at the top that is neither a snippet's first nor an import, by the words before its `{`
abbrev pub header_form : List Word → Option (List Word) → LineForm
header_form words None = unless_brace words (form.Refused why.Outside)
header_form words (Some keys) = unless_brace keys form.Header

-- a line at the top
abbrev pub outer_form : List Word → Option (List ℕ) → LineForm
outer_form words (Some name) = form.SnippetHeader
outer_form words None =
    if begins_import words then import_form words else header_form words (opened words)

-- a directive's line, by the words before its `{`
abbrev pub directive_form : List Word → Option (List Word) → LineForm
directive_form words None = unless_brace words form.Directive
directive_form words (Some []) = form.Refused why.StrayBrace
directive_form words (Some (name ∷ args)) = unless_brace (name ∷ args) form.DirectiveHeader

-- a line in a block
abbrev pub block_form : List Word → LineForm
block_form words =
    if begins_import words then import_form words
    else if closes words then form.BlockEnd
    else directive_form words (opened words)

-- a line in the body of a directive that doesn't end it
abbrev pub inner_form : List Word → Option (List Word) → LineForm
inner_form words None = unless_brace words form.BodyLine
inner_form words (Some front) = form.Refused why.DeepBrace

-- a line in the body of a directive
abbrev pub body_form : List Word → LineForm
body_form words = if closes words then form.BodyEnd else inner_form words (opened words)

-- a `}` alone in a snippet, in which so many `{` are open besides its own
abbrev pub closing_form : ℕ → LineForm
closing_form zero = form.SnippetEnd
closing_form (suc nested) = form.SnippetLine nested

-- a line of a snippet that is no `}` alone
abbrev pub kept_form : ℕ → Option (List Word) → LineForm
kept_form nested None = form.SnippetLine nested
kept_form nested (Some front) = form.SnippetLine (nested + 1)

-- a line of a snippet
abbrev pub snippet_form : ℕ → List Word → LineForm
snippet_form nested words =
    if closes words then closing_form nested else kept_form nested (opened words)

-- how many `{` are open in a snippet besides its own
abbrev pub nesting : Place → ℕ
nesting place.Top = 0
nesting (place.Block line) = 0
nesting (place.Body block line) = 0
nesting (place.Snippet line nested) = nested

-- how many are open behind a line
abbrev pub nesting_behind : LineForm → ℕ
nesting_behind (form.SnippetLine nested) = nested
nesting_behind (form.Refused why) = 0
nesting_behind form.Import = 0
nesting_behind form.SnippetHeader = 0
nesting_behind form.SnippetEnd = 0
nesting_behind form.Header = 0
nesting_behind form.BlockEnd = 0
nesting_behind form.Directive = 0
nesting_behind form.DirectiveHeader = 0
nesting_behind form.BodyLine = 0
nesting_behind form.BodyEnd = 0

-- what a line is, by the place where it stands
unfoldable pub form_at : Place → List Word → LineForm
form_at place.Top words = outer_form words (snippet_name words)
form_at (place.Block line) words = block_form words
form_at (place.Body block line) words = body_form words
form_at (place.Snippet line nested) words = snippet_form nested words
