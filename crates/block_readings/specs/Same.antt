-- Whether two blocks read the same, as a test. This server's own rule.
use Rattle.std.specs.Prelude.{ℕ, ◌==◌, ◌&&◌, nat_eq, Bool, true, false, List, Option, Some, None}
use Rattle.std.specs.Cmp.Lexicographic.{pointwise}
use Rattle.std.specs.List.{list_all}
use Rattle.corefile_blocks.specs.Blocks.{file_of}
use Rattle.dns_data.specs.{same_labels}
use Rattle.dns_data.specs.declared.block.Block.{Block}
use Rattle.dns_data.specs.declared.block.BlockKey.{BlockKey}
use Rattle.dns_data.specs.declared.directive.Directive.{Directive}
use Rattle.dns_data.specs.declared.directive.Line.{Line}
use Rattle.dns_data.specs.declared.file.FileText.{FileText}
use Rattle.block_readings.specs.Readings.{names_in}

abbrev pub same_word : List ℕ → List ℕ → Bool
same_word a b = pointwise nat_eq a b

abbrev pub same_words : List (List ℕ) → List (List ℕ) → Bool
same_words a b = pointwise same_word a b

-- of lines, directives and keys all but the numbers of lines
abbrev pub same_line : Line → Line → Bool
same_line a b = same_words a.words b.words

abbrev pub same_lines : List Line → List Line → Bool
same_lines a b = pointwise same_line a b

abbrev pub same_directive : Directive → Directive → Bool
same_directive a b = same_word a.name b.name && same_words a.args b.args && same_lines a.body b.body

abbrev pub same_key : BlockKey → BlockKey → Bool
same_key a b = same_labels a.zone b.zone && a.port == b.port

abbrev pub same_block : Block → Block → Bool
same_block a b =
    pointwise same_key a.keys b.keys && pointwise same_directive a.directives b.directives

-- what two bundles have under a name
abbrev pub same_bytes : Option (List ℕ) → Option (List ℕ) → Bool
same_bytes None None = true
same_bytes (Some a) (Some b) = same_word a b
same_bytes a b = false

abbrev pub finds_same : List FileText → List FileText → List ℕ → Bool
finds_same files others name = same_bytes (file_of name files) (file_of name others)

abbrev pub find_same : List FileText → List FileText → List (List ℕ) → Bool
find_same files others names = list_all (finds_same files others) names

-- the block in the one bundle and that in the other
abbrev pub reads_same : List FileText → Block → List FileText → Block → Bool
reads_same files a others b = same_block a b && find_same files others (names_in a.directives)
