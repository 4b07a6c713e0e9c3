-- What is given by a chain that may have a cache, whose hits lend their entries.
use Rattle.std.specs.Prelude.{ℕ, Option, Some, None, Result, Ok, Err, if◌then◌else◌}
use Rattle.std.specs.Arc.{arc_value}
use Rattle.dns_lists.specs.declared.memory.NoMemory.{NoMemory}
use Rattle.dns_data.specs.Message.{AnswerData, MessageData}
use Rattle.dns_write.specs.{message_at}
use Rattle.outside.specs.{EntryData}
use Rattle.cache_rules.specs.{aged, seconds_left}
use Rattle.cache_rules.specs.Settings.{settings_of}
use Rattle.plugin_api.specs.{PlanData}
use Rattle.chain_meaning.specs.declared.decision.Decision.{Decision}
use Rattle.chain_meaning.specs.declared.decision.Decision.TheVariants as decision
use Rattle.chain_build.specs.Walking.{decision_of}
use Rattle.chain_build.specs.declared.given.Given.{Given}
use Rattle.chain_build.specs.declared.given.Given.TheVariants as given
use Rattle.chain_build.specs.declared.given.Hit.{Hit}

-- the entry of a hit, and its answer, aged to the moment
abbrev pub hit_entry : Hit → EntryData
hit_entry hit = arc_value hit.kept

abbrev pub hit_answer : Hit → AnswerData
hit_answer hit = aged hit.plan.now (hit_entry hit) hit.moment

-- the decision of a chain that gave so, with this answer in the slot
abbrev pub decision_in : Given → AnswerData → Decision
decision_in (given.Ended ended) answer = decision_of ended answer
decision_in (given.Hit hit) answer = decision.Reply (hit_answer hit)

abbrev pub gave : Result Given NoMemory → AnswerData → Result Decision NoMemory
gave (Ok g) answer = Ok (decision_in g answer)
gave (Err e) answer = Err e

-- the TTL that all records of an entry have at a moment; none where each has its own
abbrev pub ttl_at : PlanData → EntryData → ℕ → Option ℕ
ttl_at plan entry moment =
    if (settings_of plan.directive).keepttl then None
    else Some (seconds_left entry.born entry.life moment)

-- a message whose records have this TTL, where there is one
abbrev pub message_by : Option ℕ → MessageData → MessageData
message_by None message = message
message_by (Some ttl) message = message_at ttl message
