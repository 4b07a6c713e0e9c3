-- The options of a directive, which stand in the lines of its body, and `fallthrough` among them.
-- This server's own rule, in the manner of CoreDNS.
use Rattle.std.specs.Prelude.{ℕ, Bool, List, [], ◌∷◌, codes, Option, Some, None}
use Rattle.std.specs.Prelude.{is_some, unwrap_or, if◌then◌else◌}
use Rattle.std.specs.Option.{option_or}
use Rattle.dns_data.specs.declared.directive.Line.{Line}
use Rattle.plugin_api.specs.Plans.{is_word}
use Rattle.plugin_api.specs.declared.fault.DirectiveWhy.{DirectiveWhy}
use Rattle.plugin_api.specs.declared.fault.DirectiveWhy.TheVariants as why
use Rattle.zone_words.specs.{zones_or}

-- the words behind the first, where that is this one
abbrev pub words_behind : List ℕ → List (List ℕ) → Option (List (List ℕ))
words_behind option [] = None
words_behind option (word ∷ words) = if is_word word option then Some words else None

-- the words of the first line that begins with an option
abbrev pub option_in : List ℕ → List Line → Option (List (List ℕ))
option_in option [] = None
option_in option (line ∷ lines) =
    option_or (words_behind option line.words) (option_in option lines)

-- a fault, unless the word is good
abbrev pub unless : Bool → DirectiveWhy → Option DirectiveWhy
unless good why = if good then None else Some why

-- no word may stand
abbrev pub empty_why : List (List ℕ) → Option DirectiveWhy
empty_why [] = None
empty_why (word ∷ words) = Some why.Args

-- an option stands once
abbrev pub once : Bool → Option DirectiveWhy → Option DirectiveWhy
once seen other = if seen then Some why.Args else other

-- the root alone, in which every name is
abbrev pub every_zone : List (List (List ℕ))
every_zone = [] ∷ []

-- zones stand behind `fallthrough`, or none
abbrev pub fallthrough_why : List (List ℕ) → Option DirectiveWhy
fallthrough_why words = unless (is_some (zones_or every_zone words)) why.Zone

abbrev pub fallthrough_by : Option (List (List ℕ)) → List (List (List ℕ))
fallthrough_by None = []
fallthrough_by (Some words) = unwrap_or (zones_or every_zone words) []

-- the zones in which names go on for which there is no answer: none without `fallthrough`, all
-- where that names none
abbrev pub fallthrough_of : List Line → List (List (List ℕ))
fallthrough_of lines = fallthrough_by (option_in (codes "fallthrough") lines)
