-- Which answers a cache keeps, and for how long (RFC 2308, sections 5 and 7).
use Rattle.std.specs.Prelude.{ℕ, ◌==◌, ◌&&◌, ◌||◌, not, Bool, true, false, List, [], ◌∷◌, ◌++◌, min, max, Option}
use Rattle.std.specs.Prelude.{Some, None, if◌then◌else◌}
use Rattle.dns_data.specs.Record.{RecordData}
use Rattle.dns_data.specs.declared.record.Rdata.{Rdata}
use Rattle.dns_data.specs.declared.record.Rdata.TheVariants as rdata
use Rattle.dns_data.specs.declared.rcode.TheConstants as rcodes
use Rattle.dns_data.specs.Message.{AnswerData}
use Rattle.outside.specs.declared.entry.Class.{Class}
use Rattle.outside.specs.declared.entry.Class.TheVariants as class
use Rattle.plugin_api.specs.{PlanData}
use Rattle.cache_rules.specs.Rules.{ClassData, SettingsData}
use Rattle.cache_rules.specs.Settings.{settings_of}
use Rattle.cache_rules.specs.declared.classes.Lived.{Lived}

abbrev pub is_empty : List RecordData → Bool
is_empty [] = true
is_empty (r ∷ records) = false

-- the least of a number and of the TTLs of records
abbrev pub least_ttl : ℕ → List RecordData → ℕ
least_ttl least [] = least
least_ttl least (r ∷ records) = least_ttl (min least r.ttl) records

-- the records of an answer, in the order of its sections
abbrev pub all_records : AnswerData → List RecordData
all_records a = a.answer ++ (a.authority ++ a.additional)

-- the lifetime that the first SOA record tells: the less of its TTL and its MINIMUM
abbrev pub soa_of : Rdata → Option ℕ
soa_of (rdata.Soa soa) = Some soa.minimum
soa_of other = None

abbrev pub soa_or : ℕ → Option ℕ → Option ℕ → Option ℕ
soa_or ttl None rest = rest
soa_or ttl (Some minimum) rest = Some (min ttl minimum)

abbrev pub soa_life : List RecordData → Option ℕ
soa_life [] = None
soa_life (r ∷ records) = soa_or r.ttl (soa_of r.rdata) (soa_life records)

-- a lifetime within the bounds of a class
abbrev pub bounded : ClassData → ℕ → ℕ
bounded rules life = min rules.most (max rules.least life)

-- the class with a lifetime, where the class is kept and the lifetime isn't 0
abbrev pub kept_for : Bool → Class → ℕ → Option Lived
kept_for enabled class life =
    if enabled && not (life == 0) then Some (record { class = class; life = life }) else None

abbrev pub success_of : SettingsData → AnswerData → Option Lived
success_of s a =
    kept_for s.success.enabled class.Success
    (bounded s.success (least_ttl 2147483647 (all_records a)))

abbrev pub denied : SettingsData → Option ℕ → Option Lived
denied s None = None
denied s (Some life) = kept_for s.denial.enabled class.Denial (bounded s.denial life)

-- a denial is an NXDOMAIN, or a NOERROR without an answer, with an SOA in authority
abbrev pub is_denial : AnswerData → Bool
is_denial a = a.rcode == rcodes.NXDOMAIN || (a.rcode == rcodes.NOERROR && is_empty a.answer)

-- the class and the lifetime of an answer, where it is kept
abbrev pub class_by : SettingsData → AnswerData → Option Lived
class_by s a =
    if a.tc then None
    else (if is_denial a then denied s (soa_life a.authority)
    else (if a.rcode == rcodes.NOERROR then success_of s a
    else (if a.rcode == rcodes.SERVFAIL then kept_for true class.Servfail s.servfail
    else None)))

-- by a directive
abbrev pub class_of : PlanData → AnswerData → Option Lived
class_of plan a = class_by (settings_of plan.directive) a
