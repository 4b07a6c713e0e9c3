-- Why an answer is SERVFAIL: a decision has that RCODE exactly where the chain has a cause for it. And the steps of a block's chain are this server's own.
use Rattle.std.proofs.Common.{◌≡◌, ℕ, Bool, true, false, List, [], ◌∷◌, Option, Some, None, refl, sym, subst, ◌∙◌, ◌++◌, arith, if◌then◌else◌}
use Rattle.std.specs.Cmp.Lexicographic.{pointwise}
use Rattle.std.specs.Prelude.{◌↔◌, ◌==◌, cond, nat_eq, option_map}
use Rattle.std.proofs.lemmas.Bool.{eqb-true}
use Rattle.acl_plugin.specs.{acl_say}
use Rattle.acl_plugin.specs.declared.plan.AclSay.{AclSay}
use Rattle.acl_plugin.specs.declared.plan.AclSay.TheVariants as acl
use Rattle.dns_data.specs.Message.{AnswerData}
use Rattle.dns_data.specs.declared.block.Block.{Block}
use Rattle.dns_data.specs.declared.class.TheConstants as classes
use Rattle.dns_wire.specs.declared.asked.Asked.{Asked}
use Rattle.outside.specs.declared.datagram.Datagram.{Datagram}
use Rattle.dns_data.specs.declared.directive.Directive.{Directive}
use Rattle.dns_data.specs.declared.file.FileText.{FileText}
use Rattle.dns_data.specs.declared.query.Query.{Query}
use Rattle.dns_data.specs.declared.kind.TheConstants as kinds
use Rattle.dns_data.specs.declared.rcode.TheConstants as rcodes
use Rattle.dns_data.specs.declared.zone.Zone.{Zone}
use Rattle.file_plugin.specs.{FileData}
use Rattle.file_plugin.specs.SayingLaws.{file_said}
use Rattle.file_plugin.specs.Zones.{file_say}
use Rattle.forward_plugin.specs.{ForwardData, Said as ForwardSaid, forward_means}
use Rattle.forward_plugin.specs.Forward as forward
use Rattle.hosts_plugin.specs.{HostsData, Said as HostsSaid}
use Rattle.hosts_plugin.specs.Hosts as hosts
use Rattle.hosts_plugin.specs.Hosts.{address_said, address_say, hosts_say, listed_at, listed_for, name_said, name_say, plan_listings, plan_zones}
use Rattle.plugin_api.specs.{PlanData, Sayings, fallthrough_of}
use Rattle.hosts_plugin.specs.declared.listing.Listing.{Listing}
use Rattle.hosts_plugin.specs.Options.{has_no_reverse}
use Rattle.zone_lookup.specs.Zone.{cut_of}
use Rattle.zone_lookup.specs.ZoneAnswer.{answer_under, own_answer, positive, referral, whole_chain, zone_answer}
use Rattle.zone_words.specs.{is_in}
use Rattle.outside.specs.Meanings.{Meaning, Done, More, Off, onward}
use Rattle.outside.specs.declared.mark.Mark.{Mark}
use Rattle.outside.specs.declared.mark.Mark.TheVariants as mark
use Rattle.plain_plugins.specs.{error_line, is_any, log_line, plain_zones}
use Rattle.plain_plugins.specs.Any.{any_of}
use Rattle.plain_plugins.specs.Whoami.{whoami_of}
use Rattle.plugin_api.specs.declared.ranks.Rank.TheVariants as rank
use Rattle.rewrite_plugin.specs.Shapes.{Answering, Rule, Written}
use Rattle.rewrite_plugin.specs.{changed_by, restored}
use Rattle.rewrite_plugin.specs.Answers.{all_restored, rule_restored, sections_restored}
use Rattle.rewrite_plugin.specs.Rewrite.{restored_by, written_at}
use Rattle.rewrite_plugin.specs.declared.plan_data.Changed.{Changed}
use Rattle.rewrite_plugin.specs.declared.steps.Step.{Step as Applied}
use Rattle.rewrite_plugin.specs.declared.rule.Rule.TheVariants as kind
use Rattle.template_plugin.specs.{template_say}
use Rattle.template_plugin.specs.{Said as TemplateSaid}
use Rattle.template_plugin.specs.Template as template
use Rattle.chain_meaning.specs.declared.decision.Decision.{Decision}
use Rattle.chain_meaning.specs.declared.decision.Decision.TheVariants as decision
use Rattle.chain_meaning.specs.Causes.{AskedCause, HasCause, IsServFail, answer_cause, block_cause, chain_cause, forward_cause, hosts_cause, others_cause, rest_alone, template_cause}
use Rattle.chain_meaning.specs.CacheCauseLaws.{cache_fails, cache_gives}
use Rattle.chain_meaning.specs.GivesLaws.{Gives, GivesAt, gives_as, gives_from, gives_if, gives_onward, if_same}
use Rattle.chain_meaning.specs.TranslatingCauseLaws.{dns64_fails, dns64_gives}
use Rattle.chain_meaning.specs.Serving.{asked_decides, block_decides, block_of, chain_decides, class_decides, is_known_version, query_of, refused}
use Rattle.chain_meaning.specs.Mean.{acl_answer, answer_of, any_answer, error_noted, forward_answered, hosts_answer, mean, nothing, or_rest, outcome_of, query_noted, reply_restored, restored_in, rule, take_note, template_answer}
use Rattle.chain_meaning.specs.Steps.{Answerer, Acl, Any, Template, Hosts, File, Forward, Whoami, Step, Errors, Log, Dns64, Cache, Rewrite, Answers, Others}
use Rattle.chain_meaning.specs.Steps.{acl_steps, back_steps, cache_plan, cache_steps, context_of, dns64_in, dns64_steps, extra_steps, extras_of, file_plans, file_steps, forward_plans, forward_steps, front_steps, hosts_plans, hosts_steps, key_zones, log_steps, plans_of, rewrite_steps, some_has, steps_of, template_steps}

-- a decision has a cause where it is SERVFAIL
abbrev IsCaused : List Step → Query → List Mark → Decision → Type 0
IsCaused steps q marks v = IsServFail v → HasCause steps q marks v

-- a decision that stands once a line was noted
note_gives : (P : Decision → Type 0) (line : List ℕ) (v : Decision) → P v → (left : List Mark) → Gives P (take_note line v left)
note_gives P line v p [] = tt
note_gives P line v p (mark.Noted other out ∷ left) = if_same P (pointwise nat_eq line other) v left p
note_gives P line v p (mark.Got d ∷ left) = tt
note_gives P line v p (mark.RecvEnd ∷ left) = tt
note_gives P line v p (mark.RecvFailed ∷ left) = tt
note_gives P line v p (mark.Now t ∷ left) = tt
note_gives P line v p (mark.Inner m ∷ left) = tt
note_gives P line v p (mark.Sent b out ∷ left) = tt
note_gives P line v p (mark.Pinned n ∷ left) = tt
note_gives P line v p (mark.Unpinned n ∷ left) = tt
note_gives P line v p (mark.Looked k t e ∷ left) = tt
note_gives P line v p (mark.Put k e kept ∷ left) = tt

errors_give : (P : Decision → Type 0) (q : Query) (v : Decision) → P v → (left : List Mark) → Gives P (error_noted q v left)
errors_give P q (decision.Code c cause) p left = note_gives P (error_line q c cause) (decision.Code c cause) p left
errors_give P q (decision.Reply a) p left = p
errors_give P q decision.Drop p left = p

if_noted : (P : Decision → Type 0) (t : Bool) (line : List ℕ) (v : Decision) → P v → (left : List Mark) → Gives P (if t then take_note line v left else Done v left)
if_noted P true line v p left = note_gives P line v p left
if_noted P false line v p left = p

-- a rule that restores an answer leaves its RCODE
all_rcode : (answers : List Answering) (step : Applied) (a : AnswerData) → (all_restored answers step a).rcode ≡ a.rcode
all_rcode [] step a = refl
all_rcode (answering ∷ answers) step a = all_rcode answers step (sections_restored answering step a)

rule_rcode : (r : Rule) (step : Applied) (a : AnswerData) → (rule_restored r step a).rcode ≡ a.rcode
rule_rcode (kind.Name renaming) step a = all_rcode renaming.answers step a
rule_rcode (kind.Type from to) step a = refl
rule_rcode (kind.Ttl from seconds) step a = refl

by_rcode : (w : Option Written) (step : Applied) (a : AnswerData) → (restored_by w step a).rcode ≡ a.rcode
by_rcode None step a = refl
by_rcode (Some written) step a = rule_rcode written.rule step a

restored_rcode : (ds : List Directive) (steps : List Applied) (a : AnswerData) → (restored ds steps a).rcode ≡ a.rcode
restored_rcode ds [] a = refl
restored_rcode ds (step ∷ steps) a = restored_rcode ds steps (restored_by (written_at ds step.rule) step a) ∙ by_rcode (written_at ds step.rule) step a

restored_fails : (ds : List Directive) (changed : Changed) (v : Decision) → IsServFail v → IsServFail (restored_in ds changed v)
restored_fails ds changed (decision.Reply a) fails = restored_rcode ds changed.steps a ∙ fails
restored_fails ds changed (decision.Code c cause) fails = fails
restored_fails ds changed decision.Drop fails = fails

unrestored_fails : (ds : List Directive) (changed : Changed) (v : Decision) → IsServFail (restored_in ds changed v) → IsServFail v
unrestored_fails ds changed (decision.Reply a) fails = sym (restored_rcode ds changed.steps a) ∙ fails
unrestored_fails ds changed (decision.Code c cause) fails = fails
unrestored_fails ds changed decision.Drop fails = fails

-- what a plugin answers has its cause where it is SERVFAIL, and where it goes on the rest's is the cause
abbrev Answered : ((List Mark → Type 0) → Decision → Type 0) → (List Mark → Decision → Type 0) → Option Decision → List Mark → Type 0
Answered cause rest None left = (v : Decision) → rest left v → cause (λ marks. rest marks v) v
Answered cause rest (Some v) left = IsServFail v → cause (λ marks. rest marks v) v

-- a plugin that never answers with SERVFAIL
abbrev NeverFails : Option Decision → Type 0
NeverFails None = Unit {0}
NeverFails (Some v) = IsServFail v → ⊥

alone_answered : (rest : List Mark → Decision → Type 0) (marks : List Mark) (o : Option Decision) → NeverFails o → Answered (λ below. rest_alone o (below marks)) rest o marks
alone_answered rest marks None never = λ v h. h
alone_answered rest marks (Some v) never = never

acl_never : (said : AclSay) → NeverFails (acl_answer said)
acl_never acl.GoOn = tt
acl_never acl.Block = λ fails. absurd (omega (arith, fails))
acl_never acl.Filter = λ fails. absurd (omega (arith, fails))
acl_never acl.Drop = λ fails. fails

if_never : (t : Bool) (v : Decision) → (IsServFail v → ⊥) → NeverFails (if t then Some v else None)
if_never true v never = never
if_never false v never = tt

-- hosts answers with NOERROR
abbrev IsWell : HostsSaid → Type 0
IsWell (hosts.reply a) = a.rcode ≡ rcodes.NOERROR
IsWell hosts.next = Unit {0}
IsWell hosts.unknown = Unit {0}

if_well : (t : Bool) (a b : HostsSaid) → IsWell a → IsWell b → IsWell (if t then a else b)
if_well true a b p q = p
if_well false a b p q = q

names_well : (plan : HostsData) (q : Query) (ls : List Listing) → IsWell (name_said plan q ls)
names_well plan q [] = if_well (is_in q.name (fallthrough_of plan.directive.body)) hosts.next hosts.unknown tt tt
names_well plan q (l ∷ ls) = refl

addresses_well : (plan : HostsData) (q : Query) (ls : List Listing) → IsWell (address_said plan q ls)
addresses_well plan q [] = tt
addresses_well plan q (l ∷ ls) = refl

hosts_well : (plan : HostsData) (q : Query) → IsWell (hosts_say plan q)
unfolding hosts_say
hosts_well plan q =
    let pointers = if_well (has_no_reverse plan.directive.body) hosts.next (address_said plan q (listed_at q.name (plan_listings plan))) tt (addresses_well plan q (listed_at q.name (plan_listings plan))) in
    let names = if_well (is_in q.name (plan_zones plan)) (name_say plan q) hosts.next (names_well plan q (listed_for q.name (plan_listings plan))) tt in
    if_well (q.kind == kinds.PTR) (address_say plan q) (if is_in q.name (plan_zones plan) then name_say plan q else hosts.next) pointers names

hosts_answered : (rest : List Mark → Decision → Type 0) (marks : List Mark) (said : HostsSaid) → IsWell said → Answered (λ below. hosts_cause said (below marks)) rest (hosts_answer said) marks
hosts_answered rest marks (hosts.reply a) well = λ fails. absurd (omega (arith, fails, well))
hosts_answered rest marks hosts.next well = λ v h. h
hosts_answered rest marks hosts.unknown well = λ fails. refl

-- a zone answers with NOERROR or NXDOMAIN
absent_well : (absent : Bool) → cond absent rcodes.NXDOMAIN rcodes.NOERROR ≡ rcodes.SERVFAIL → ⊥
absent_well true fails = absurd (omega (arith, fails))
absent_well false fails = absurd (omega (arith, fails))

under_well : (zone : Zone) (name : List (List ℕ)) (kind : ℕ) (cut : Option (List (List ℕ))) → (answer_under zone name kind cut).rcode ≡ rcodes.SERVFAIL → ⊥
unfolding answer_under own_answer positive referral
under_well zone name kind (Some cut) fails = absurd (omega (arith, fails))
under_well zone name kind None fails = absent_well (whole_chain zone name kind).absent fails

zone_well : (zone : Zone) (name : List (List ℕ)) (kind : ℕ) → (zone_answer zone name kind).rcode ≡ rcodes.SERVFAIL → ⊥
unfolding zone_answer
zone_well zone name kind fails = under_well zone name kind (cut_of zone name) fails

file_never : (plans : List FileData) (q : Query) → NeverFails (option_map decision.Reply (file_say plans q))
file_never plans q = file_said (λ (o : Option AnswerData). NeverFails (option_map decision.Reply o)) plans q tt (λ zone fails. zone_well zone q.name q.kind fails)

-- templates fail by their `rcode`, or with a cause
template_answered : (rest : List Mark → Decision → Type 0) (marks : List Mark) (said : TemplateSaid) → Answered (λ below. template_cause said (below marks)) rest (template_answer said) marks
template_answered rest marks (template.reply a) = λ fails. (refl, fails)
template_answered rest marks template.next = λ v h. h
template_answered rest marks template.no_match = λ fails. refl
template_answered rest marks template.not_record = λ fails. refl

-- upstreams fail by what they reply, or none of them answers
forward_caused : (rest : List Mark → Decision → Type 0) (m : Meaning ForwardSaid) → GivesAt (Answered (forward_cause m) rest) (onward m forward_answered)
forward_caused rest (Done (forward.reply a) left) = λ fails. (refl, fails)
forward_caused rest (Done forward.next left) = λ v h. h
forward_caused rest (Done forward.all_failed left) = λ fails. refl
forward_caused rest More = tt
forward_caused rest Off = tt

others_answered : (rest : List Mark → Decision → Type 0) (marks : List Mark) (o : Option Decision) → Answered (λ below. others_cause o (below marks)) rest o marks
others_answered rest marks None = λ v h. h
others_answered rest marks (Some v) = λ fails. (refl, fails)

answers_give : (plugin : Answerer) (rest : List Mark → Decision → Type 0) (q : Query) (marks : List Mark) → GivesAt (Answered (answer_cause plugin q marks) rest) (answer_of plugin q marks)
unfolding answer_of any_of whoami_of
answers_give (Acl plans) rest q marks = alone_answered rest marks (acl_answer (acl_say plans q)) (acl_never (acl_say plans q))
answers_give Any rest q marks = alone_answered rest marks (any_answer q) (if_never (is_any q) (decision.Reply (any_of q)) (λ fails. absurd (omega (arith, fails))))
answers_give (Template plans) rest q marks = template_answered rest marks (template_say plans q)
answers_give (Hosts plan) rest q marks = hosts_answered rest marks (hosts_say plan q) (hosts_well plan q)
answers_give (File plans) rest q marks = alone_answered rest marks (option_map decision.Reply (file_say plans q)) (file_never plans q)
answers_give (Forward plans) rest q marks = forward_caused rest (forward_means plans q marks)
answers_give Whoami rest q marks = λ fails. absurd (omega (arith, fails))

-- where a plugin goes on, the rest decides
rest_gives : (cause : (List Mark → Type 0) → Decision → Type 0) (below : List Mark → Decision → Type 0) (rest : Query → List Mark → Meaning Decision) (q : Query)
    → ((marks : List Mark) → Gives (λ v. IsServFail v → below marks v) (rest q marks)) → (o : Option Decision) (left : List Mark) → Answered cause below o left
    → Gives (λ v. IsServFail v → cause (λ marks. below marks v) v) (or_rest rest q o left)
rest_gives cause below rest q gives (Some v) left is = is
rest_gives cause below rest q gives None left is =
    gives_as (λ v. IsServFail v → below left v) (λ v. IsServFail v → cause (λ marks. below marks v) v) (λ v h fails. is v (h fails)) (rest q left) (gives left)

rule_gives : (step : Step) (steps : List Step) → ((q : Query) (marks : List Mark) → Gives (IsCaused steps q marks) (mean steps q marks)) → (q : Query) (marks : List Mark)
    → Gives (IsCaused (step ∷ steps) q marks) (rule step (mean steps) q marks)
unfolding rule
rule_gives Errors steps gives q marks =
    gives_onward (IsCaused steps q marks) (IsCaused (Errors ∷ steps) q marks) (mean steps q marks) (error_noted q) (gives q marks) (errors_give (IsCaused (Errors ∷ steps) q marks) q)
rule_gives (Log plan) steps gives q marks =
    gives_onward (IsCaused steps q marks) (IsCaused (Log plan ∷ steps) q marks) (mean steps q marks) (query_noted plan q) (gives q marks)
    (λ v is left. if_noted (IsCaused (Log plan ∷ steps) q marks) (is_in q.name (plain_zones plan)) (log_line q (outcome_of v)) v is left)
rule_gives (Dns64 d) steps gives q marks = dns64_gives (λ p left w. HasCause steps p left w) (mean steps) d q gives marks
rule_gives (Cache plan) steps gives q marks = cache_gives (λ left v. HasCause steps q left v) (mean steps) plan q (gives q) marks
rule_gives (Rewrite ds) steps gives q marks =
    let changed = changed_by ds q in
    gives_onward (IsCaused steps changed.query marks) (IsCaused (Rewrite ds ∷ steps) q marks) (mean steps changed.query marks) (reply_restored ds changed) (gives changed.query marks)
    (λ v is left fails. record { rest = v; cause = is (unrestored_fails ds changed v fails); is = refl })
rule_gives (Answers plugin) steps gives q marks =
    gives_from (Answered (answer_cause plugin q marks) (HasCause steps q)) (IsCaused (Answers plugin ∷ steps) q marks) (answer_of plugin q marks) (or_rest (mean steps) q) (answers_give plugin (HasCause steps q) q marks)
    (rest_gives (answer_cause plugin q marks) (HasCause steps q) (mean steps) q (gives q))
rule_gives (Others says) steps gives q marks =
    rest_gives (λ below. others_cause (says q) (below marks)) (HasCause steps q) (mean steps) q (gives q) (says q) marks (others_answered (HasCause steps q) marks (says q))

mean_gives : (steps : List Step) (q : Query) (marks : List Mark) → Gives (IsCaused steps q marks) (mean steps q marks)
unfolding mean
mean_gives [] q marks = λ fails. refl
mean_gives (step ∷ steps) q marks = rule_gives step steps (mean_gives steps) q marks

-- and a decision that has a cause is SERVFAIL
alone_fails : (o : Option Decision) (rest : Type 0) (v : Decision) → (rest → IsServFail v) → rest_alone o rest v → IsServFail v
alone_fails None rest v fails h = fails h
alone_fails (Some answer) rest v fails h = absurd h

template_fails : (said : TemplateSaid) (rest : Type 0) (v : Decision) → (rest → IsServFail v) → template_cause said rest v → IsServFail v
template_fails (template.reply a) rest v fails h = subst IsServFail (sym h.0) h.1
template_fails template.next rest v fails h = fails h
template_fails template.no_match rest v fails h = subst IsServFail (sym h) refl
template_fails template.not_record rest v fails h = subst IsServFail (sym h) refl

hosts_fails : (said : HostsSaid) (rest : Type 0) (v : Decision) → (rest → IsServFail v) → hosts_cause said rest v → IsServFail v
hosts_fails (hosts.reply a) rest v fails h = absurd h
hosts_fails hosts.next rest v fails h = fails h
hosts_fails hosts.unknown rest v fails h = subst IsServFail (sym h) refl

others_fails : (o : Option Decision) (rest : Type 0) (v : Decision) → (rest → IsServFail v) → others_cause o rest v → IsServFail v
others_fails None rest v fails h = fails h
others_fails (Some answer) rest v fails h = subst IsServFail (sym h.0) h.1

forward_fails : (m : Meaning ForwardSaid) (rest : List Mark → Type 0) (v : Decision) → ((left : List Mark) → rest left → IsServFail v) → forward_cause m rest v → IsServFail v
forward_fails (Done (forward.reply a) left) rest v fails h = subst IsServFail (sym h.0) h.1
forward_fails (Done forward.next left) rest v fails h = fails left h
forward_fails (Done forward.all_failed left) rest v fails h = subst IsServFail (sym h) refl
forward_fails More rest v fails h = absurd h
forward_fails Off rest v fails h = absurd h

answer_fails : (plugin : Answerer) (q : Query) (marks : List Mark) (rest : List Mark → Type 0) (v : Decision) → ((left : List Mark) → rest left → IsServFail v) → answer_cause plugin q marks rest v → IsServFail v
answer_fails (Acl plans) q marks rest v fails h = alone_fails (acl_answer (acl_say plans q)) (rest marks) v (fails marks) h
answer_fails Any q marks rest v fails h = alone_fails (any_answer q) (rest marks) v (fails marks) h
answer_fails (Template plans) q marks rest v fails h = template_fails (template_say plans q) (rest marks) v (fails marks) h
answer_fails (Hosts plan) q marks rest v fails h = hosts_fails (hosts_say plan q) (rest marks) v (fails marks) h
answer_fails (File plans) q marks rest v fails h = alone_fails (option_map decision.Reply (file_say plans q)) (rest marks) v (fails marks) h
answer_fails (Forward plans) q marks rest v fails h = forward_fails (forward_means plans q marks) rest v fails h
answer_fails Whoami q marks rest v fails h = absurd h

cause_fails : (steps : List Step) (q : Query) (marks : List Mark) (v : Decision) → HasCause steps q marks v → IsServFail v
cause_fails [] q marks v h = subst IsServFail (sym h) refl
cause_fails (Errors ∷ steps) q marks v h = cause_fails steps q marks v h
cause_fails (Log plan ∷ steps) q marks v h = cause_fails steps q marks v h
cause_fails (Dns64 d ∷ steps) q marks v h = dns64_fails (λ p left w. HasCause steps p left w) d q marks v (λ p left w. cause_fails steps p left w) (mean steps q marks) h
cause_fails (Cache plan ∷ steps) q marks v h = cache_fails (λ left v. HasCause steps q left v) plan q v (λ left v. cause_fails steps q left v) marks h
cause_fails (Rewrite ds ∷ steps) q marks v h =
    subst IsServFail (sym h.is) (restored_fails ds (changed_by ds q) h.rest (cause_fails steps (changed_by ds q).query marks h.rest h.cause))
cause_fails (Answers plugin ∷ steps) q marks v h = answer_fails plugin q marks (λ left. HasCause steps q left v) v (λ left. cause_fails steps q left v) h
cause_fails (Others says ∷ steps) q marks v h = others_fails (says q) (HasCause steps q marks v) v (cause_fails steps q marks v) h

-- a decision of a chain is SERVFAIL exactly where the chain has a cause for it
pub servfail_cause : (steps : List Step) (q : Query) (marks left : List Mark) (v : Decision) → mean steps q marks ≡ Done v left → IsServFail v ↔ HasCause steps q marks v
servfail_cause steps q marks left v is = (subst (Gives (IsCaused steps q marks)) is (mean_gives steps q marks), cause_fails steps q marks v)

-- and so is one for what a datagram asks
chain_gives : (steps : List Step) (q : Query) (marks : List Mark) → Gives (λ v. IsServFail v → chain_cause steps q marks v) (chain_decides steps q marks)
chain_gives [] q marks = λ fails. absurd (omega (arith, fails))
chain_gives (step ∷ steps) q marks = mean_gives (step ∷ steps) q marks

block_gives : (steps : Block → List Step) (block : Option Block) (q : Query) (marks : List Mark) → Gives (λ v. IsServFail v → block_cause steps block q marks v) (block_decides steps block q marks)
block_gives steps None q marks = λ fails. absurd (omega (arith, fails))
block_gives steps (Some block) q marks = chain_gives (steps block) q marks

asked_gives : (steps : Block → List Step) (blocks : List Block) (d : Datagram) (asked : Asked) (marks : List Mark) → Gives (λ v. IsServFail v → AskedCause steps blocks d asked marks v) (asked_decides steps blocks d asked marks)
asked_gives steps blocks d asked marks =
    let q = query_of d asked in
    let class = asked.question.class in
    let P : Decision → Type 0 = λ v. IsServFail v → AskedCause steps blocks d asked marks v in
    gives_if P (is_known_version asked.opt) (class_decides class steps blocks q marks) (Done (decision.Reply (nothing rcodes.NOERROR)) marks)
    (λ known. gives_if P (nat_eq class classes.IN) (block_decides steps (block_of blocks q) q marks) (Done refused marks)
    (λ own. gives_as (λ v. IsServFail v → block_cause steps (block_of blocks q) q marks v) P (λ v h fails. record { version = known; class = eqb-true class classes.IN own; cause = h fails })
    (block_decides steps (block_of blocks q) q marks) (block_gives steps (block_of blocks q) q marks))
    (λ fails. absurd (omega (arith, fails))))
    (λ fails. absurd (omega (arith, fails)))

chain_fails : (steps : List Step) (q : Query) (marks : List Mark) (v : Decision) → chain_cause steps q marks v → IsServFail v
chain_fails [] q marks v h = absurd h
chain_fails (step ∷ steps) q marks v h = cause_fails (step ∷ steps) q marks v h

block_fails : (steps : Block → List Step) (block : Option Block) (q : Query) (marks : List Mark) (v : Decision) → block_cause steps block q marks v → IsServFail v
block_fails steps None q marks v h = absurd h
block_fails steps (Some block) q marks v h = chain_fails (steps block) q marks v h

pub asked_cause : (steps : Block → List Step) (blocks : List Block) (d : Datagram) (asked : Asked) (marks left : List Mark) (v : Decision) → asked_decides steps blocks d asked marks ≡ Done v left
    → IsServFail v ↔ AskedCause steps blocks d asked marks v
asked_cause steps blocks d asked marks left v is =
    (subst (Gives (λ v. IsServFail v → AskedCause steps blocks d asked marks v)) is (asked_gives steps blocks d asked marks), λ h. block_fails steps (block_of blocks (query_of d asked)) (query_of d asked) marks v h.cause)

-- no step is an extra's
abbrev pub IsOwn : Step → Type 0
IsOwn (Others says) = ⊥
IsOwn Errors = Unit {0}
IsOwn (Log plan) = Unit {0}
IsOwn (Dns64 d) = Unit {0}
IsOwn (Cache plan) = Unit {0}
IsOwn (Rewrite ds) = Unit {0}
IsOwn (Answers plugin) = Unit {0}

abbrev pub AreOwn : List Step → Type 0
AreOwn [] = Unit {0}
AreOwn (step ∷ steps) = IsOwn step × AreOwn steps

own_append : (front back : List Step) → AreOwn front → AreOwn back → AreOwn (front ++ back)
own_append [] back p q = q
own_append (step ∷ front) back p q = (p.0, own_append front back p.1 q)

own_if : (t : Bool) (steps : List Step) → AreOwn steps → AreOwn (if t then steps else [])
own_if true steps p = p
own_if false steps p = tt

own_logs : (plans : List PlanData) → AreOwn (log_steps plans)
own_logs [] = tt
own_logs (plan ∷ plans) = (tt, own_logs plans)

own_dns64 : (o : Option Directive) → AreOwn (dns64_steps o)
own_dns64 None = tt
own_dns64 (Some d) = (tt, tt)

own_acls : (plans : List PlanData) → AreOwn (acl_steps plans)
own_acls [] = tt
own_acls (plan ∷ plans) = (tt, tt)

own_cache : (plan : Option PlanData) → AreOwn (cache_steps plan)
own_cache None = tt
own_cache (Some plan) = (tt, tt)

own_rewrites : (ds : List Directive) → AreOwn (rewrite_steps ds)
own_rewrites [] = tt
own_rewrites (d ∷ ds) = (tt, tt)

own_templates : (plans : List PlanData) → AreOwn (template_steps plans)
own_templates [] = tt
own_templates (plan ∷ plans) = (tt, tt)

own_hosts : (plans : List HostsData) → AreOwn (hosts_steps plans)
own_hosts [] = tt
own_hosts (plan ∷ plans) = (tt, own_hosts plans)

own_forwards : (plans : List ForwardData) → AreOwn (forward_steps plans)
own_forwards [] = tt
own_forwards (plan ∷ plans) = (tt, tt)

own_files : (plans : List FileData) → AreOwn (file_steps plans)
own_files [] = tt
own_files (plan ∷ plans) = (tt, tt)

-- the steps of a block's chain without extras are this server's own
pub own_steps : (said : Sayings) (files : List FileText) (block : Block) → extras_of block.directives ≡ [] → AreOwn (steps_of said files block)
unfolding steps_of
own_steps said files block none =
    let ds = block.directives in
    let zones = key_zones block in
    let context = context_of files block in
    own_append (front_steps zones ds) (extra_steps said (extras_of ds) ++ (cache_steps (cache_plan zones ds) ++ back_steps context ds))
    (own_append _ _ (own_if (some_has rank.Errors ds) (Errors ∷ []) (tt, tt))
    (own_append _ _ (own_logs (plans_of rank.Log zones ds))
    (own_append _ _ (own_dns64 (dns64_in ds))
    (own_append _ _ (own_acls (plans_of rank.Acl zones ds))
    (own_if (some_has rank.Any ds) (Answers Any ∷ []) (tt, tt))))))
    (own_append _ _ (subst (λ es. AreOwn (extra_steps said es)) (sym none) tt)
    (own_append _ _ (own_cache (cache_plan zones ds))
    (own_append _ _ (own_rewrites _)
    (own_append _ _ (own_templates (plans_of rank.Template zones ds))
    (own_append _ _ (own_hosts (hosts_plans context ds))
    (own_append _ _ (own_files (file_plans context ds))
    (own_append _ _ (own_forwards (forward_plans context ds))
    (own_if (some_has rank.Whoami ds) (Answers Whoami ∷ []) (tt, tt)))))))))
