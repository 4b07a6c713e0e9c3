-- The text of each refusal, as an operator sees it. This server's own rule.
use Rattle.std.specs.Prelude.{ℕ, List, ◌++◌, codes}
use Rattle.std.specs.Fmt.{decimal}
use Rattle.corefile_words.specs.declared.fault.WordsFault.{WordsFault}
use Rattle.corefile_words.specs.declared.fault.WordsFault.TheVariants as words
use Rattle.dns_data.specs.declared.limit.Limit.{Limit}
use Rattle.dns_data.specs.{limit_text}
use Rattle.corefile_blocks.specs.{why_text}
use Rattle.corefile_blocks.specs.declared.fault.CorefileFault.{CorefileFault}
use Rattle.corefile_blocks.specs.declared.fault.CorefileFault.TheVariants as fault
use Rattle.plugin_api.specs.{directive_text}
use Rattle.zone_file.specs.{zone_text}
use Rattle.chain_meaning.specs.declared.refusal.Refusal.{Refusal}
use Rattle.chain_meaning.specs.declared.refusal.Refusal.TheVariants as refusal

-- a fault at a line of the Corefile
abbrev pub at_line : ℕ → List ℕ → List ℕ
at_line line what = codes "corefile line " ++ decimal line ++ what

abbrev pub words_text : WordsFault → List ℕ
words_text (words.NotText line) = at_line line (codes ": not UTF-8")
words_text (words.OpenQuote line) = at_line line (codes ": open quote")
words_text (words.QuoteTail line) = at_line line (codes ": text after quote")
words_text words.NoMemory = codes "out of memory"

abbrev pub too_many_text : Limit → ℕ → List ℕ
too_many_text what number = codes "too many " ++ limit_text what ++ codes ": " ++ decimal number

-- a fault of the Corefile's language
abbrev pub corefile_text : CorefileFault → List ℕ
corefile_text (fault.Words broken) = words_text broken
corefile_text (fault.Block line why) = at_line line (codes ": block: ") ++ why_text why
corefile_text (fault.NoSnippet line) = at_line line (codes ": no snippet or file")
corefile_text (fault.ImportLoop line) = at_line line (codes ": import too deep")
corefile_text (fault.DoubleKey line) = at_line line (codes ": zone and port given twice")
corefile_text (fault.TooMany what number) = too_many_text what number
corefile_text fault.NoMemory = codes "out of memory"

-- the text of a refusal
abbrev pub refusal_text : Refusal → List ℕ
refusal_text refusal.NoCorefile = codes "no corefile"
refusal_text (refusal.Corefile fault) = corefile_text fault
refusal_text (refusal.Unknown line) = at_line line (codes ": unknown directive")
refusal_text (refusal.Directive line why) =
    at_line line (codes ": directive: " ++ directive_text why)
refusal_text (refusal.Zone line at why) =
    at_line line (codes ": zone file line " ++ (decimal at ++ (codes ": " ++ zone_text why)))
refusal_text (refusal.TooMany what number) = too_many_text what number
