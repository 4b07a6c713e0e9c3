-- The zones of `file` directives, which of them answers (RFC 1034, section 4.3.2), and where a name
-- goes on that it doesn't have. The choice and `fallthrough` are this server's own rules, in the
-- manner of CoreDNS.
use Rattle.std.specs.Prelude.{◌≡◌, ℕ, ◌==◌, nat_lt, Bool, ◌&&◌, List, [], ◌∷◌, ◌++◌, length, map}
use Rattle.std.specs.Prelude.{Option, Some, None, unwrap_or, Result, Ok, Err, if◌then◌else◌}
use Rattle.dns_data.specs.{is_within}
use Rattle.dns_data.specs.Message.{AnswerData, no_answer}
use Rattle.dns_data.specs.declared.directive.Directive.{Directive}
use Rattle.dns_data.specs.declared.query.Query.{Query}
use Rattle.dns_data.specs.declared.rcode.TheConstants as rcodes
use Rattle.dns_data.specs.declared.zone.Zone.{Zone}
use Rattle.dns_write.specs.{with_tail}
use Rattle.plugin_api.specs.{fallthrough_of}
use Rattle.zone_file.specs.declared.fault.ZoneFault.{ZoneFault}
use Rattle.zone_file.specs.Zones.{and_then, as_zone, zone_of}
use Rattle.zone_lookup.specs.{zone_answer}
use Rattle.zone_words.specs.{is_in, zones_or}
use Rattle.file_plugin.specs.declared.choice.FileSay.{FileSay}
use Rattle.file_plugin.specs.declared.choice.FileSay.TheVariants as say

-- what a plan was read from: the directive, the zones of its block, and the bytes of its file
pub record FileData : Type 0 where
  pub directive : Directive
  pub zones : List (List (List ℕ))
  pub text : List ℕ

-- the zones that the words behind the file name, or else those of the block
abbrev pub origins_or : List (List (List ℕ)) → List (List ℕ) → Option (List (List (List ℕ)))
origins_or zones [] = None
origins_or zones (file ∷ words) = zones_or zones words

abbrev pub origins_of : List (List (List ℕ)) → List (List ℕ) → List (List (List ℕ))
origins_of zones words = unwrap_or (origins_or zones words) []

-- the zone of an origin that a text spells, or its first refusal
abbrev pub read_from : List ℕ → List (List ℕ) → Result Zone ZoneFault
read_from text origin = as_zone origin (zone_of text origin)

-- zones, and behind them that of each further origin, read from the text in turn, or the first
-- refusal
abbrev pub zones_from : List ℕ → List Zone → List (List (List ℕ)) → Result (List Zone) ZoneFault
zones_from text before [] = Ok before
zones_from text before (origin ∷ origins) =
    and_then (λ zone. zones_from text (before ++ zone ∷ []) origins) (read_from text origin)

-- the zones, where none was refused
abbrev pub read_well : Result (List Zone) ZoneFault → List Zone
read_well (Ok zones) = zones
read_well (Err refused) = []

-- the zones of a plan
unfoldable pub file_zones : FileData → List Zone
file_zones plan =
    read_well (zones_from plan.text [] (origins_of plan.zones plan.directive.args))

-- a zone as it serves: with the zones in which names go on that it doesn't have
pub record Served : Type 0 where
  pub zone : Zone
  pub fallthrough : List (List (List ℕ))

abbrev pub served_with : List (List (List ℕ)) → Zone → Served
served_with fallthrough zone = record { zone = zone; fallthrough = fallthrough }

-- the zones of a plan, as they serve
abbrev pub served_of : FileData → List Served
served_of plan = map (served_with (fallthrough_of plan.directive.body)) (file_zones plan)

-- the zone with the longer origin; the one before, where they are as long
abbrev pub longer_of : Option Served → Served → Served
longer_of None served = served
longer_of (Some before) served =
    if nat_lt (length before.zone.origin) (length served.zone.origin) then served else before

-- the same, where the name is within the zone
abbrev pub longer_for : List (List ℕ) → Option Served → Served → Option Served
longer_for name before served =
    if is_within name served.zone.origin then Some (longer_of before served) else before

-- the zone with the longest origin that has the name, of one that stands before and of these
abbrev pub longest : List (List ℕ) → Option Served → List Served → Option Served
longest name before [] = before
longest name before (served ∷ others) = longest name (longer_for name before served) others

-- the same of the zones of plans
abbrev pub longest_of : List (List ℕ) → Option Served → List FileData → Option Served
longest_of name before [] = before
longest_of name before (plan ∷ plans) =
    longest_of name (longest name before (served_of plan)) plans

-- whether an answer says that the name that was asked for doesn't exist: NXDOMAIN, with no CNAME
-- that leads to another name
abbrev pub denies : AnswerData → Bool
denies a = a.rcode == rcodes.NXDOMAIN && length a.answer == 0

-- whether a name goes on for which the zone has this answer
abbrev pub goes_on : Served → List (List ℕ) → AnswerData → Bool
goes_on served name a = denies a && is_in name served.fallthrough

-- the answer, where the name doesn't go on
abbrev pub answer_or_on : Served → List (List ℕ) → AnswerData → Option AnswerData
answer_or_on served name a = if goes_on served name a then None else Some a

-- what is said where this zone was chosen
abbrev pub answer_from : Query → Option Served → Option AnswerData
answer_from q None = None
answer_from q (Some served) = answer_or_on served q.name (zone_answer served.zone q.name q.kind)

-- what the plans of a block say of a query: the answer of the zone with the longest origin that has
-- the name. Where none has, the query goes on, and so it does where that zone's answer is that the
-- name doesn't exist, and the `fallthrough` of its directive covers the name.
unfoldable pub file_say : List FileData → Query → Option AnswerData
file_say plans q = answer_from q (longest_of q.name None plans)

-- what was said, with the answer in a slot, or the answer but for the records that are lent to it
abbrev pub Says : FileSay → Option AnswerData → AnswerData → Type 0
Says say.Reply said slot = said ≡ Some slot
Says (say.Lent tail) said slot = said ≡ Some (with_tail slot tail.now)
Says say.Next said slot = (said ≡ None) × (slot ≡ no_answer)
