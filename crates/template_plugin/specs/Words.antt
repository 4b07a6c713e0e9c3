-- The words of `template`: a class and a type, zones, and lines with patterns, texts and options.
-- This server's own rule, in the manner of CoreDNS.
use Rattle.std.specs.Prelude.{ℕ, List, [], ◌∷◌, ◌++◌, codes, Option, Some, None}
use Rattle.std.specs.Prelude.{unwrap_or, if◌then◌else◌}
use Rattle.dns_data.specs.declared.directive.Line.{Line}
use Rattle.dns_data.specs.declared.kind.TheConstants as kinds
use Rattle.dns_data.specs.declared.rcode.TheConstants as rcodes
use Rattle.plugin_api.specs.{PlanData, is_word}
use Rattle.type_names.specs.{kind_of_text, rcode_of_text}
use Rattle.zone_words.specs.{zones_or}
use Rattle.template_plugin.specs.declared.piece.Piece.{Piece}
use Rattle.template_plugin.specs.Pieces.{pieces_of}

-- the type that stands behind the class
abbrev pub kind_in : List (List ℕ) → Option ℕ
kind_in [] = None
kind_in (class ∷ []) = None
kind_in (class ∷ kind ∷ zones) = kind_of_text kind

-- the type of a directive that was read
abbrev pub kind_of : List (List ℕ) → ℕ
kind_of args = unwrap_or (kind_in args) kinds.ANY

-- the zones that stand behind class and type, or else those of the block
abbrev pub zones_in : List (List (List ℕ)) → List (List ℕ) → Option (List (List (List ℕ)))
zones_in zones [] = Some zones
zones_in zones (class ∷ []) = Some zones
zones_in zones (class ∷ kind ∷ words) = zones_or zones words

abbrev pub plan_zones : PlanData → List (List (List ℕ))
plan_zones plan = unwrap_or (zones_in plan.zones plan.directive.args) []

-- the words behind the first, where that is this one
abbrev pub words_after : List ℕ → List (List ℕ) → List (List ℕ)
words_after option [] = []
words_after option (word ∷ words) = if is_word word option then words else []

-- the words of all lines that begin with an option, in the order of the text
abbrev pub all_words : List ℕ → List Line → List (List ℕ)
all_words option [] = []
all_words option (line ∷ lines) = words_after option line.words ++ all_words option lines

-- the patterns of a line
abbrev pub line_patterns : List (List ℕ) → List (List ℕ)
line_patterns words = words_after (codes "match") words

-- the patterns of a body
abbrev pub patterns_of : List Line → List (List ℕ)
patterns_of lines = all_words (codes "match") lines

-- the texts of a section
abbrev pub texts_of : List ℕ → List Line → List (List ℕ)
texts_of section lines = all_words section lines

abbrev pub named_rcode : List ℕ → ℕ
named_rcode word = unwrap_or (rcode_of_text word) rcodes.NOERROR

abbrev pub rcode_by : List (List ℕ) → ℕ
rcode_by [] = rcodes.NOERROR
rcode_by (word ∷ words) = named_rcode word

-- the RCODE of an answer
abbrev pub rcode_of : List Line → ℕ
rcode_of lines = rcode_by (all_words (codes "rcode") lines)

-- the pieces of a text of a directive that was read
abbrev pub text_pieces : List ℕ → List Piece
text_pieces text = unwrap_or (pieces_of text) []
