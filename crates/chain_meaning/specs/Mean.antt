-- What a list of steps means for a query and the marks of a side. Each step is a rule over the
-- rest, which is the meaning of the steps behind it. This server's own rule, in the manner of
-- CoreDNS.
use Rattle.std.specs.Prelude.{ℕ, nat_eq, false, List, [], ◌∷◌, Option, Some, None}
use Rattle.std.specs.Prelude.{option_map, if◌then◌else◌}
use Rattle.std.specs.Cmp.Lexicographic.{pointwise}
use Rattle.dns_data.specs.Message.{AnswerData}
use Rattle.dns_data.specs.declared.directive.Directive.{Directive}
use Rattle.dns_data.specs.declared.query.Query.{Query}
use Rattle.dns_data.specs.declared.rcode.TheConstants as rcodes
use Rattle.outside.specs.Meanings.{Meaning, Done, More, Off, onward}
use Rattle.outside.specs.declared.mark.Mark.{Mark}
use Rattle.outside.specs.declared.mark.Mark.TheVariants.{Noted}
use Rattle.acl_plugin.specs.{acl_say}
use Rattle.file_plugin.specs.{file_say}
use Rattle.forward_plugin.specs.{Said as ForwardSaid, forward_means}
use Rattle.forward_plugin.specs.Forward as forward
use Rattle.hosts_plugin.specs.{hosts_say}
use Rattle.hosts_plugin.specs.{Said as HostsSaid}
use Rattle.hosts_plugin.specs.Hosts as hosts
use Rattle.acl_plugin.specs.declared.plan.AclSay.{AclSay}
use Rattle.acl_plugin.specs.declared.plan.AclSay.TheVariants as acl
use Rattle.plain_plugins.specs.{any_of, error_line, is_any, log_line, plain_zones, whoami_of}
use Rattle.plain_plugins.specs.declared.lines.LogOutcome.{LogOutcome}
use Rattle.plain_plugins.specs.declared.lines.LogOutcome.TheVariants as outcome
use Rattle.plugin_api.specs.{PlanData}
use Rattle.plugin_api.specs.declared.verdict.Cause.TheVariants as cause
use Rattle.plugin_api.specs.declared.verdict.Code.{Code}
use Rattle.plugin_api.specs.declared.verdict.Code.TheVariants as code
use Rattle.rewrite_plugin.specs.{changed_by, restored}
use Rattle.rewrite_plugin.specs.declared.plan_data.Changed.{Changed}
use Rattle.template_plugin.specs.{template_say}
use Rattle.template_plugin.specs.{Said as TemplateSaid}
use Rattle.template_plugin.specs.Template as template
use Rattle.zone_words.specs.{is_in}
use Rattle.chain_meaning.specs.declared.decision.Decision.{Decision}
use Rattle.chain_meaning.specs.declared.decision.Decision.TheVariants as decision
use Rattle.chain_meaning.specs.Steps.{Answerer, Acl, Any, Template, Hosts, File, Forward, Whoami}
use Rattle.chain_meaning.specs.Caching.{cache_means}
use Rattle.chain_meaning.specs.Steps.{Step, Errors, Log, Dns64, Cache, Rewrite, Answers, Others}
use Rattle.chain_meaning.specs.Translating.{dns64_means}

-- an RCODE without records
abbrev pub nothing : ℕ → AnswerData
nothing rcode = record {
  rcode = rcode;
  aa = false;
  ra = false;
  tc = false;
  answer = [];
  authority = [];
  additional = [];
}

-- a decision stands once exactly this line was noted, whether it went out or not
abbrev pub take_note : List ℕ → Decision → List Mark → Meaning Decision
take_note line v [] = More
take_note line v (Noted other out ∷ left) = if pointwise nat_eq line other then Done v left else Off
take_note line v (mark ∷ left) = Off

-- errors: behind a code its line
abbrev pub error_noted : Query → Decision → List Mark → Meaning Decision
error_noted q (decision.Code code cause) left =
    take_note (error_line q code cause) (decision.Code code cause) left
error_noted q (decision.Reply a) left = Done (decision.Reply a) left
error_noted q decision.Drop left = Done decision.Drop left

-- the RCODE of a code
abbrev pub number : Code → ℕ
number code.FormErr = rcodes.FORMERR
number code.ServFail = rcodes.SERVFAIL
number code.NotImp = rcodes.NOTIMP
number code.Refused = rcodes.REFUSED

-- how a query ended, as `log` notes it
abbrev pub outcome_of : Decision → LogOutcome
outcome_of (decision.Reply a) = outcome.Rcode a.rcode
outcome_of (decision.Code code cause) = outcome.Rcode (number code)
outcome_of decision.Drop = outcome.Dropped

-- log: behind a query for a name in its zones its line
abbrev pub query_noted : PlanData → Query → Decision → List Mark → Meaning Decision
query_noted plan q v left =
    if is_in q.name (plain_zones plan) then take_note (log_line q (outcome_of v)) v left
    else Done v left

-- acl: what is said, where it doesn't go on
abbrev pub acl_answer : AclSay → Option Decision
acl_answer acl.GoOn = None
acl_answer acl.Block = Some (decision.Reply (nothing rcodes.REFUSED))
acl_answer acl.Filter = Some (decision.Reply (nothing rcodes.NOERROR))
acl_answer acl.Drop = Some decision.Drop

-- any: a query for all types is answered
abbrev pub any_answer : Query → Option Decision
any_answer q = if is_any q then Some (decision.Reply (any_of q)) else None

-- hosts: an unknown name ends with SERVFAIL
abbrev pub hosts_answer : HostsSaid → Option Decision
hosts_answer (hosts.reply answer) = Some (decision.Reply answer)
hosts_answer hosts.next = None
hosts_answer hosts.unknown = Some (decision.Code code.ServFail cause.UnknownHost)

-- template: a name that no pattern matches ends with SERVFAIL, and so does a text that is no record
abbrev pub template_answer : TemplateSaid → Option Decision
template_answer (template.reply answer) = Some (decision.Reply answer)
template_answer template.next = None
template_answer template.no_match = Some (decision.Code code.ServFail cause.NoMatch)
template_answer template.not_record = Some (decision.Code code.ServFail cause.NotRecord)

-- forward: where no upstream answers, the query ends with SERVFAIL
abbrev pub forward_answer : ForwardSaid → Option Decision
forward_answer (forward.reply answer) = Some (decision.Reply answer)
forward_answer forward.next = None
forward_answer forward.all_failed = Some (decision.Code code.ServFail cause.AllUpstreams)

abbrev pub forward_answered : ForwardSaid → List Mark → Meaning (Option Decision)
forward_answered said left = Done (forward_answer said) left

-- what a plugin answers, by the marks that it takes; None: it goes on
unfoldable pub answer_of : Answerer → Query → List Mark → Meaning (Option Decision)
answer_of (Acl plans) q marks = Done (acl_answer (acl_say plans q)) marks
answer_of Any q marks = Done (any_answer q) marks
answer_of (Template plans) q marks = Done (template_answer (template_say plans q)) marks
answer_of (Hosts plan) q marks = Done (hosts_answer (hosts_say plan q)) marks
answer_of (File plans) q marks = Done (option_map decision.Reply (file_say plans q)) marks
answer_of (Forward plans) q marks = onward (forward_means plans q marks) forward_answered
answer_of Whoami q marks = Done (Some (decision.Reply (whoami_of q))) marks

-- where a plugin goes on, the rest decides
abbrev pub or_rest : (Query → List Mark → Meaning Decision) → Query → Option Decision → List Mark
    → Meaning Decision
or_rest rest q (Some v) left = Done v left
or_rest rest q None left = rest q left

-- rewrite: a reply of the rest is restored by the rules that were applied
abbrev pub restored_in : List Directive → Changed → Decision → Decision
restored_in ds changed (decision.Reply a) = decision.Reply (restored ds changed.steps a)
restored_in ds changed (decision.Code code cause) = decision.Code code cause
restored_in ds changed decision.Drop = decision.Drop

abbrev pub reply_restored : List Directive → Changed → Decision → List Mark → Meaning Decision
reply_restored ds changed v left = Done (restored_in ds changed v) left

-- the rest decides for the query behind the rules
abbrev pub rewritten : (Query → List Mark → Meaning Decision) → List Directive → Changed
    → List Mark → Meaning Decision
rewritten rest ds changed marks = onward (rest changed.query marks) (reply_restored ds changed)

-- the rule of each step
unfoldable pub rule : Step → (Query → List Mark → Meaning Decision) → Query → List Mark
    → Meaning Decision
rule Errors rest q marks = onward (rest q marks) (error_noted q)
rule (Log plan) rest q marks = onward (rest q marks) (query_noted plan q)
rule (Dns64 d) rest q marks = dns64_means rest d q marks
rule (Cache plan) rest q marks = cache_means rest plan q marks
rule (Rewrite ds) rest q marks = rewritten rest ds (changed_by ds q) marks
rule (Answers plugin) rest q marks = onward (answer_of plugin q marks) (or_rest rest q)
rule (Others says) rest q marks = or_rest rest q (says q) marks

-- the end of the chain is SERVFAIL
unfoldable pub mean : List Step → Query → List Mark → Meaning Decision
mean [] q marks = Done (decision.Code code.ServFail cause.EndOfChain) marks
mean (step ∷ steps) q marks = rule step (mean steps) q marks
