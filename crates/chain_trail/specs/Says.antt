-- What is said of a step that a query reached, by what the step decided. This server's own rule.
use Rattle.std.specs.Prelude.{ℕ, nat_eq, List, [], ◌∷◌, ◌++◌, codes}
use Rattle.std.specs.Prelude.{if◌then◌else◌}
use Rattle.dns_data.specs.declared.query.Query.{Query}
use Rattle.dns_data.specs.declared.rcode.TheConstants as rcodes
use Rattle.dns_names.specs.{name_text}
use Rattle.plugin_api.specs.declared.verdict.Cause.{Cause}
use Rattle.plugin_api.specs.declared.verdict.Cause.TheVariants as cause
use Rattle.rewrite_plugin.specs.declared.plan_data.Changed.{Changed}
use Rattle.rewrite_plugin.specs.declared.steps.Step.{Step as Applied}
use Rattle.type_names.specs.{kind_text}
use Rattle.chain_meaning.specs.Steps.{Answerer, Acl}
use Rattle.chain_meaning.specs.declared.decision.Decision.{Decision}
use Rattle.chain_meaning.specs.declared.decision.Decision.TheVariants as decision

-- a step that goes on to the next one
abbrev pub pass_say : List ℕ
pass_say = codes "pass"

-- why a plugin ended the chain with a code
abbrev pub cause_say : Cause → List ℕ
cause_say cause.NoMatch = codes "no match"
cause_say cause.NotRecord = codes "not a record"
cause_say cause.UnknownHost = codes "unknown"
cause_say cause.AllUpstreams = codes "all failed"
cause_say other = codes "code"

abbrev pub decision_say : Decision → List ℕ
decision_say (decision.Reply a) = codes "reply"
decision_say (decision.Code code cause) = cause_say cause
decision_say decision.Drop = codes "drop"

-- acl blocks by REFUSED, and filters by a reply without records
abbrev pub acl_say : Decision → List ℕ
acl_say (decision.Reply a) =
    if nat_eq a.rcode rcodes.REFUSED then codes "block" else codes "filter"
acl_say (decision.Code code cause) = cause_say cause
acl_say decision.Drop = codes "drop"

-- what a plugin says that decides
abbrev pub decided_say : Answerer → Decision → List ℕ
decided_say (Acl plans) v = acl_say v
decided_say plugin v = decision_say v

-- the type and the name of a query behind the rules of `rewrite`
abbrev pub query_say : Query → List ℕ
query_say q = codes "rewritten " ++ (kind_text q.kind ++ (codes " " ++ name_text q.name))

abbrev pub applied_say : List Applied → Query → List ℕ
applied_say [] q = pass_say
applied_say (step ∷ steps) q = query_say q

-- what `rewrite` says: that no rule was applied, or the query behind the rules
abbrev pub rewrite_say : Changed → List ℕ
rewrite_say changed = applied_say changed.steps changed.query
