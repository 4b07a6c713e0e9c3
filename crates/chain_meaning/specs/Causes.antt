-- Why a decision is SERVFAIL: the causes that the steps of a chain have for it, for the query as
-- the rules of `rewrite` change it on its way, and the marks that each step takes. This server's
-- own rule.
use Rattle.std.specs.Prelude.{◌≡◌, true, List, [], ◌∷◌, Option, Some, None, option_map}
use Rattle.acl_plugin.specs.{acl_say}
use Rattle.dns_data.specs.declared.block.Block.{Block}
use Rattle.dns_data.specs.declared.class.TheConstants as classes
use Rattle.dns_data.specs.declared.directive.Directive.{Directive}
use Rattle.dns_data.specs.declared.query.Query.{Query}
use Rattle.dns_data.specs.declared.rcode.TheConstants as rcodes
use Rattle.dns_wire.specs.declared.asked.Asked.{Asked}
use Rattle.file_plugin.specs.{file_say}
use Rattle.forward_plugin.specs.{Said as ForwardSaid, forward_means}
use Rattle.forward_plugin.specs.Forward as forward
use Rattle.hosts_plugin.specs.{Said as HostsSaid, hosts_say}
use Rattle.hosts_plugin.specs.Hosts as hosts
use Rattle.outside.specs.Meanings.{Meaning, Done, More, Off}
use Rattle.outside.specs.declared.datagram.Datagram.{Datagram}
use Rattle.outside.specs.declared.mark.Mark.{Mark}
use Rattle.plugin_api.specs.declared.verdict.Cause.TheVariants as cause
use Rattle.plugin_api.specs.declared.verdict.Code.TheVariants as code
use Rattle.rewrite_plugin.specs.{changed_by}
use Rattle.rewrite_plugin.specs.declared.plan_data.Changed.{Changed}
use Rattle.template_plugin.specs.{Said as TemplateSaid, template_say}
use Rattle.template_plugin.specs.Template as template
use Rattle.chain_meaning.specs.declared.decision.Decision.{Decision}
use Rattle.chain_meaning.specs.declared.decision.Decision.TheVariants as decision
use Rattle.chain_meaning.specs.Mean.{acl_answer, any_answer, mean, number, restored_in}
use Rattle.chain_meaning.specs.Serving.{block_of, is_known_version, query_of}
use Rattle.chain_meaning.specs.Steps.{Answerer, Acl, Any, Template, Hosts, File, Forward, Whoami}
use Rattle.chain_meaning.specs.CacheCauses.{cache_cause}
use Rattle.chain_meaning.specs.Steps.{Step, Errors, Log, Dns64, Cache, Rewrite, Answers, Others}
use Rattle.chain_meaning.specs.TranslatingCauses.{dns64_cause}

-- the RCODE of a decision is SERVFAIL
abbrev pub IsServFail : Decision → Type 0
IsServFail (decision.Reply a) = a.rcode ≡ rcodes.SERVFAIL
IsServFail (decision.Code c cause) = number c ≡ rcodes.SERVFAIL
IsServFail decision.Drop = ⊥

-- a plugin that never answers so: the rest has the cause, where it goes on
abbrev pub rest_alone : Option Decision → Type 0 → Decision → Type 0
rest_alone None rest v = rest
rest_alone (Some answer) rest v = ⊥

-- template: an answer with `rcode SERVFAIL`, no pattern that matches, or a text that is no record
abbrev pub template_cause : TemplateSaid → Type 0 → Decision → Type 0
template_cause (template.reply a) rest v = (v ≡ decision.Reply a) × (a.rcode ≡ rcodes.SERVFAIL)
template_cause template.next rest v = rest
template_cause template.no_match rest v = v ≡ decision.Code code.ServFail cause.NoMatch
template_cause template.not_record rest v = v ≡ decision.Code code.ServFail cause.NotRecord

-- hosts: an unknown name
abbrev pub hosts_cause : HostsSaid → Type 0 → Decision → Type 0
hosts_cause (hosts.reply a) rest v = ⊥
hosts_cause hosts.next rest v = rest
hosts_cause hosts.unknown rest v = v ≡ decision.Code code.ServFail cause.UnknownHost

-- forward: the reply that agreed had it, or no upstream answered, by the marks that it takes
abbrev pub forward_cause : Meaning ForwardSaid → (List Mark → Type 0) → Decision → Type 0
forward_cause (Done (forward.reply a) left) rest v =
    (v ≡ decision.Reply a) × (a.rcode ≡ rcodes.SERVFAIL)
forward_cause (Done forward.next left) rest v = rest left
forward_cause (Done forward.all_failed left) rest v =
    v ≡ decision.Code code.ServFail cause.AllUpstreams
forward_cause More rest v = ⊥
forward_cause Off rest v = ⊥

-- a plugin that answers, by what it says of the query; where it goes on, the rest has the cause, by
-- the marks that are left
abbrev pub answer_cause : Answerer → Query → List Mark → (List Mark → Type 0) → Decision
    → Type 0
answer_cause (Acl plans) q marks rest v = rest_alone (acl_answer (acl_say plans q)) (rest marks) v
answer_cause Any q marks rest v = rest_alone (any_answer q) (rest marks) v
answer_cause (Template plans) q marks rest v =
    template_cause (template_say plans q) (rest marks) v
answer_cause (Hosts plan) q marks rest v = hosts_cause (hosts_say plan q) (rest marks) v
answer_cause (File plans) q marks rest v =
    rest_alone (option_map decision.Reply (file_say plans q)) (rest marks) v
answer_cause (Forward plans) q marks rest v = forward_cause (forward_means plans q marks) rest v
answer_cause Whoami q marks rest v = ⊥

-- an extra, by what it says of the query
abbrev pub others_cause : Option Decision → Type 0 → Decision → Type 0
others_cause None rest v = rest
others_cause (Some answer) rest v = (v ≡ answer) × IsServFail answer

-- rewrite: the rest has the cause of a decision, which is restored
pub record IsRestored (ds : List Directive) (changed : Changed) (P : Decision → Type 0)
    (v : Decision) : Type 0 where
  pub rest : Decision
  pub cause : P rest
  pub is : v ≡ restored_in ds changed rest

-- the cause of a decision for a query by marks: step by step, for the query as the rules change it.
-- At the end of the chain it is the end.
abbrev pub HasCause : List Step → Query → List Mark → Decision → Type 0
HasCause [] q marks v = v ≡ decision.Code code.ServFail cause.EndOfChain
HasCause (Errors ∷ steps) q marks v = HasCause steps q marks v
HasCause (Log plan ∷ steps) q marks v = HasCause steps q marks v
HasCause (Dns64 d ∷ steps) q marks v =
    dns64_cause (λ p left w. HasCause steps p left w) d q marks v (mean steps q marks)
HasCause (Cache plan ∷ steps) q marks v =
    cache_cause (λ left v. HasCause steps q left v) plan q v marks
HasCause (Rewrite ds ∷ steps) q marks v =
    IsRestored ds (changed_by ds q) (HasCause steps (changed_by ds q).query marks) v
HasCause (Answers plugin ∷ steps) q marks v =
    answer_cause plugin q marks (λ left. HasCause steps q left v) v
HasCause (Others says ∷ steps) q marks v = others_cause (says q) (HasCause steps q marks v) v

-- a chain without a step refuses
abbrev pub chain_cause : List Step → Query → List Mark → Decision → Type 0
chain_cause [] q marks v = ⊥
chain_cause (step ∷ steps) q marks v = HasCause (step ∷ steps) q marks v

-- a name without a block is refused
abbrev pub block_cause : (Block → List Step) → Option Block → Query → List Mark → Decision
    → Type 0
block_cause steps None q marks v = ⊥
block_cause steps (Some block) q marks v = chain_cause (steps block) q marks v

-- the cause of a decision for what a datagram asks of blocks, whose chains have these steps: that
-- of the query's block has it; another version of EDNS and another class are never SERVFAIL
pub record AskedCause (steps : Block → List Step) (blocks : List Block) (d : Datagram)
    (asked : Asked) (marks : List Mark) (v : Decision) : Type 0 where
  pub version : is_known_version asked.opt ≡ true
  pub class : asked.question.class ≡ classes.IN
  pub cause : block_cause steps (block_of blocks (query_of d asked)) (query_of d asked) marks v
