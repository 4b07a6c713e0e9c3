-- An answer as a hit gives it: its TTLs are what is left of the entry's lifetime. This server's own
-- rule (RFC 1035, section 3.2.1, for TTLs).
use Rattle.std.specs.Prelude.{ℕ, ◌-◌, ◌/◌, List, map, if◌then◌else◌}
use Rattle.dns_data.specs.Record.{RecordData, owned_by}
use Rattle.dns_data.specs.Message.{AnswerData}
use Rattle.outside.specs.{EntryData}
use Rattle.plugin_api.specs.{PlanData}
use Rattle.cache_rules.specs.Settings.{settings_of}

-- the whole seconds that are left; a clock that was set back leaves the whole lifetime
abbrev pub seconds_left : ℕ → ℕ → ℕ → ℕ
seconds_left born life now = life - (now - born) / 1000

abbrev pub with_ttl : ℕ → List RecordData → List RecordData
with_ttl ttl records = map (λ r. owned_by r.owner ttl r) records

abbrev pub with_ttls : ℕ → AnswerData → AnswerData
with_ttls ttl a = record a {
  answer = with_ttl ttl a.answer;
  authority = with_ttl ttl a.authority;
  additional = with_ttl ttl a.additional;
}

abbrev pub aged : PlanData → EntryData → ℕ → AnswerData
aged plan entry now =
    if (settings_of plan.directive).keepttl then entry.answer
    else with_ttls (seconds_left entry.born entry.life now) entry.answer
