-- The words of `file`: the name of a zone file, the zones that are read from it, and a line with
-- `fallthrough`. This server's own rule, in the manner of CoreDNS.
use Rattle.std.specs.Prelude.{◌≡◌, ℕ, ◌+◌, Bool, true, false, List, [], ◌∷◌, map, codes}
use Rattle.std.specs.Prelude.{Option, Some, None, is_some, option_map, unwrap_or}
use Rattle.std.specs.Prelude.{Result, Ok, Err, if◌then◌else◌}
use Rattle.std.specs.List.{list_any}
use Rattle.std.specs.Option.{option_or}
use Rattle.dns_data.specs.declared.directive.Directive.{Directive}
use Rattle.dns_data.specs.declared.directive.Line.{Line}
use Rattle.dns_data.specs.declared.limit.Limit.TheVariants as limit
use Rattle.dns_data.specs.declared.limit.TheConstants as limits
use Rattle.dns_data.specs.declared.zone.Zone.{Zone}
use Rattle.plugin_api.specs.{fallthrough_why, fault_at, once, words_behind}
use Rattle.plugin_api.specs.declared.fault.DirectiveFault.{DirectiveFault}
use Rattle.plugin_api.specs.declared.fault.DirectiveFault.TheVariants as directive
use Rattle.plugin_api.specs.declared.fault.DirectiveWhy.{DirectiveWhy}
use Rattle.plugin_api.specs.declared.fault.DirectiveWhy.TheVariants as why
use Rattle.zone_file.specs.declared.fault.ZoneFault.{ZoneFault}
use Rattle.zone_file.specs.declared.fault.ZoneFault.TheVariants as zone_fault
use Rattle.zone_file.specs.Zones.{Agrees}
use Rattle.dns_data.specs.{is_same}
use Rattle.file_plugin.specs.declared.fault.FileFault.{FileFault}
use Rattle.file_plugin.specs.declared.fault.FileFault.TheVariants as fault
use Rattle.file_plugin.specs.Zones.{FileData, Served, origins_of, origins_or, read_from}
use Rattle.file_plugin.specs.Zones.{served_of, served_with, zones_from}

-- why the words don't fit: there is no file, or one behind it is no zone
abbrev pub words_why : List (List (List ℕ)) → List (List ℕ) → Option DirectiveWhy
words_why zones [] = Some why.Args
words_why zones (file ∷ words) =
    if is_some (origins_or zones (file ∷ words)) then None else Some why.Zone

-- why a line doesn't fit by the words behind `fallthrough`, which stands in no other line before
abbrev pub line_by : Bool → Option (List (List ℕ)) → Option DirectiveWhy
line_by seen None = Some why.Option
line_by seen (Some words) = once seen (fallthrough_why words)

abbrev pub line_why : Bool → List (List ℕ) → Option DirectiveWhy
line_why seen words = line_by seen (words_behind (codes "fallthrough") words)

-- the fault of the first line that doesn't fit, at that line; a line that fits has `fallthrough`
abbrev pub lines_fault : Bool → List Line → Option DirectiveFault
lines_fault seen [] = None
lines_fault seen (line ∷ lines) =
    option_or (fault_at line.number (line_why seen line.words)) (lines_fault true lines)

-- whether a plan has a zone of this origin
abbrev pub has_zone : List (List ℕ) → FileData → Bool
has_zone origin plan = list_any (λ served. is_same served.zone.origin origin) (served_of plan)

-- whether a plan before has a zone of one of these origins
abbrev pub some_has : List FileData → List (List (List ℕ)) → Bool
some_has before origins = list_any (λ origin. list_any (has_zone origin) before) origins

abbrev pub double_why : List FileData → List (List (List ℕ)) → Option DirectiveWhy
double_why before origins = if some_has before origins then Some why.DoubleZone else None

-- the fault of a zone file, told at the line of the directive
abbrev pub told_at : ℕ → ZoneFault → FileFault
told_at line (zone_fault.Bad at why) = fault.Zone line at why
told_at line zone_fault.TooMany =
    fault.Directive (directive.TooMany limit.ZoneRecords (limits.ZONE_RECORDS + 1))
told_at line zone_fault.NoMemory = fault.Directive directive.NoMemory

abbrev pub refusal_in : {A : Type 0} → ℕ → Result A ZoneFault → Option FileFault
refusal_in line (Ok zones) = None
refusal_in line (Err refused) = Some (told_at line refused)

-- the fault of a file: it is missing, or refused for the first of these origins that refuses it
abbrev pub text_fault : ℕ → List (List (List ℕ)) → Option (List ℕ) → Option FileFault
text_fault line origins None = Some (fault.Directive (directive.Why line why.NoFile))
text_fault line origins (Some text) = refusal_in line (zones_from text [] origins)

-- the fault of the directive itself: of its words, of its body, and then a zone that a plan before
-- has
abbrev pub directive_fault : List FileData → Directive → List (List (List ℕ))
    → Option DirectiveFault
directive_fault before d zones =
    option_or (option_or (fault_at d.line (words_why zones d.args)) (lines_fault false d.body))
    (fault_at d.line (double_why before (origins_of zones d.args)))

-- the first fault of a directive behind these plans, by what its file has
unfoldable pub file_fault : List FileData → Directive → List (List (List ℕ)) → Option (List ℕ)
    → Option FileFault
file_fault before d zones file =
    option_or (option_map fault.Directive (directive_fault before d zones))
    (text_fault d.line (origins_of zones d.args) file)

-- what a directive's plan is read from
abbrev pub data_of : Directive → List (List (List ℕ)) → Option (List ℕ) → FileData
data_of d zones file = record { directive = d; zones = zones; text = unwrap_or file [] }

-- reading a directive gives its plan, or its first fault. Want of memory is always allowed.
abbrev pub ReadsFile : List FileData → Directive → List (List (List ℕ)) → Option (List ℕ)
    → Result FileData FileFault → Type 0
ReadsFile before d zones file (Ok plan) =
    (file_fault before d zones file ≡ None) × (plan ≡ data_of d zones file)
ReadsFile before d zones file (Err (fault.Directive directive.NoMemory)) = Unit {0}
ReadsFile before d zones file (Err refused) = file_fault before d zones file ≡ Some refused

-- the origins that words give, or why they don't fit
abbrev pub ReadsWords : List (List (List ℕ)) → List (List ℕ)
    → Result (List (List (List ℕ))) DirectiveWhy → Type 0
ReadsWords zones words (Ok origins) =
    (words_why zones words ≡ None) × (origins_of zones words ≡ origins)
ReadsWords zones words (Err why) = words_why zones words ≡ Some why

-- these are the zones of these origins in a text, each with these zones in which names go on
pub record AreRead (text : List ℕ) (origins fall : List (List (List ℕ))) (served : List Served)
    : Type 0 where
  pub zones : List Zone
  pub read : zones_from text [] origins ≡ Ok zones
  pub are : served ≡ map (served_with fall) zones

-- the zone of an origin in a text, with these zones in which names go on, or why it is refused
abbrev pub ReadsOne : List ℕ → List (List ℕ) → List (List (List ℕ)) → Result Served ZoneFault
    → Type 0
ReadsOne text origin fall (Ok served) =
    (read_from text origin ≡ Ok served.zone) × (served ≡ served_with fall served.zone)
ReadsOne text origin fall (Err refused) = Agrees (read_from text origin) (Err refused)

-- the same of all, by a reader which may refuse the text instead
abbrev pub ReadsZones : List ℕ → List (List (List ℕ)) → List (List (List ℕ))
    → Result (List Served) ZoneFault → Type 0
ReadsZones text origins fall (Ok served) = AreRead text origins fall served
ReadsZones text origins fall (Err refused) = Agrees (zones_from text [] origins) (Err refused)

-- and of one that tells the fault at the line of the directive
abbrev pub ReadsText : ℕ → List ℕ → List (List (List ℕ)) → List (List (List ℕ))
    → Result (List Served) FileFault → Type 0
ReadsText line text origins fall (Ok served) = AreRead text origins fall served
ReadsText line text origins fall (Err (fault.Directive directive.NoMemory)) = Unit {0}
ReadsText line text origins fall (Err refused) =
    refusal_in line (zones_from text [] origins) ≡ Some refused
