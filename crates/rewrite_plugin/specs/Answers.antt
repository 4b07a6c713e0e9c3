-- What the rules that were applied to a query do to an answer. This server's own rule, in the
-- manner of CoreDNS.
use Rattle.std.specs.Prelude.{ℕ, List, [], ◌∷◌, map, Option, Some, None}
use Rattle.std.specs.Prelude.{if◌then◌else◌}
use Rattle.dns_data.specs.{RecordData, owned_by}
use Rattle.dns_data.specs.Message.{AnswerData}
use Rattle.dns_data.specs.declared.record.Rdata.{Rdata}
use Rattle.dns_data.specs.declared.record.Rdata.TheVariants as rdata
use Rattle.dns_data.specs.{is_same}
use Rattle.rewrite_plugin.specs.Shapes.{Answering, Replacing, Rule}
use Rattle.rewrite_plugin.specs.declared.steps.Step.{Step}
use Rattle.rewrite_plugin.specs.declared.rule.Answering.TheVariants as answering
use Rattle.rewrite_plugin.specs.declared.rule.Matcher.TheVariants as matcher
use Rattle.rewrite_plugin.specs.declared.rule.Rule.TheVariants as rule
use Rattle.rewrite_plugin.specs.Rules.{renamed}

-- a record with another owner
abbrev pub with_owner : RecordData → List (List ℕ) → RecordData
with_owner r owner = owned_by owner r.ttl r

-- a record with another TTL
abbrev pub with_ttl : ℕ → RecordData → RecordData
with_ttl ttl r = owned_by r.owner ttl r

-- a record with other data
abbrev pub with_data : RecordData → Rdata → RecordData
with_data r data' = record { owner = r.owner; class = r.class; ttl = r.ttl; rdata = data' }

-- the name that a pattern makes of another one
abbrev pub replaced_name : Replacing → List (List ℕ) → Option (List (List ℕ))
replaced_name r name = renamed (matcher.Regex r.pattern) r.to name

-- data with another name, where there is one
abbrev pub data_with : (List (List ℕ) → Rdata) → Option (List (List ℕ)) → Option Rdata
data_with make None = None
data_with make (Some name) = Some (make name)

-- the data of CNAME, NS, PTR, MX and SRV records with the name that a pattern makes of theirs
abbrev pub replaced_data : Replacing → Rdata → Option Rdata
replaced_data r (rdata.Cname name) = data_with rdata.Cname (replaced_name r name)
replaced_data r (rdata.Ns name) = data_with rdata.Ns (replaced_name r name)
replaced_data r (rdata.Ptr name) = data_with rdata.Ptr (replaced_name r name)
replaced_data r (rdata.Mx preference name) =
    data_with (rdata.Mx preference) (replaced_name r name)
replaced_data r (rdata.Srv priority weight port name) =
    data_with (rdata.Srv priority weight port) (replaced_name r name)
replaced_data r other = None

-- the owner that a rule gives a record; none, where it leaves it
abbrev pub auto_owner : Step → List (List ℕ) → Option (List (List ℕ))
auto_owner step owner =
    if is_same owner step.after then Some step.before else None

abbrev pub owned_or : RecordData → Option (List (List ℕ)) → RecordData
owned_or r None = r
owned_or r (Some owner) = with_owner r owner

abbrev pub data_or : RecordData → Option Rdata → RecordData
data_or r None = r
data_or r (Some data') = with_data r data'

-- what a rule's `answer` does to a record
abbrev pub record_restored : Answering → Step → RecordData → RecordData
record_restored answering.Auto step r = owned_or r (auto_owner step r.owner)
record_restored (answering.Name replacing) step r = owned_or r (replaced_name replacing r.owner)
record_restored (answering.Value replacing) step r = data_or r (replaced_data replacing r.rdata)

-- what it does to the three sections of an answer
abbrev pub sections_restored : Answering → Step → AnswerData → AnswerData
sections_restored answering step a = record a {
  answer = map (record_restored answering step) a.answer;
  authority = map (record_restored answering step) a.authority;
  additional = map (record_restored answering step) a.additional;
}

-- what the `answer`s of a rule do, in the order of the text
abbrev pub all_restored : List Answering → Step → AnswerData → AnswerData
all_restored [] step a = a
all_restored (answering ∷ answers) step a =
    all_restored answers step (sections_restored answering step a)

-- what a rule does that was applied: the records of the answer section get the TTL of `ttl`
abbrev pub rule_restored : Rule → Step → AnswerData → AnswerData
rule_restored (rule.Name renaming) step a = all_restored renaming.answers step a
rule_restored (rule.Type from to) step a = a
rule_restored (rule.Ttl from seconds) step a =
    record a { answer = map (with_ttl seconds) a.answer }
