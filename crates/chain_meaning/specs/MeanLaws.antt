-- Laws of the meaning, for those who run a chain: an equation for each step, that without a mark no
-- meaning is off and a decision leaves nothing, and that all extras of a block may be one step.
use Rattle.std.proofs.Common.{◌≡◌, ◌∙◌, ℕ, Bool, true, false, List, [], ◌∷◌, ◌++◌, Option, Some, None, refl, if◌then◌else◌}
use Rattle.std.specs.Option.{option_or}
use Rattle.dns_data.specs.declared.directive.Directive.{Directive}
use Rattle.dns_data.specs.declared.query.Query.{Query}
use Rattle.forward_plugin.specs.{forward_means}
use Rattle.forward_plugin.specs.Laws.{forward_nothing}
use Rattle.outside.specs.Meanings.{Meaning, Done, Starved, onward}
use Rattle.outside.specs.TakingLaws.{starved_onward}
use Rattle.outside.specs.declared.mark.Mark.{Mark}
use Rattle.plain_plugins.specs.{log_line, plain_zones}
use Rattle.plugin_api.specs.{PlanData, Sayings}
use Rattle.plugin_api.specs.declared.verdict.Cause.TheVariants as cause
use Rattle.plugin_api.specs.declared.verdict.Code.TheVariants as code
use Rattle.rewrite_plugin.specs.{changed_by}
use Rattle.zone_words.specs.{is_in}
use Rattle.cache_rules.specs.{cache_zones}
use Rattle.chain_meaning.specs.declared.decision.Decision.{Decision}
use Rattle.chain_meaning.specs.declared.decision.Decision.TheVariants as decision
use Rattle.chain_meaning.specs.Caching.{cache_means, cached}
use Rattle.chain_meaning.specs.Mean.{answer_of, error_noted, forward_answered, mean, or_rest, outcome_of, query_noted, reply_restored, rewritten, rule, take_note}
use Rattle.chain_meaning.specs.Translating.{dns64_means}
use Rattle.chain_meaning.specs.TranslatingNothingLaws.{dns64_nothing}
use Rattle.chain_meaning.specs.Steps.{Answerer, Acl, Any, Template, Hosts, File, Forward, Whoami, Step, Errors, Log, Dns64, Cache, Rewrite, Answers, Others, extra_says, extra_steps}

pub mean-end : (q : Query) (marks : List Mark) → mean [] q marks ≡ Done (decision.Code code.ServFail cause.EndOfChain) marks
unfolding mean
mean-end q marks = refl

pub mean-step : (step : Step) (steps : List Step) (q : Query) (marks : List Mark) → mean (step ∷ steps) q marks ≡ rule step (mean steps) q marks
unfolding mean
mean-step step steps q marks = refl

pub rule-errors : (rest : Query → List Mark → Meaning Decision) (q : Query) (marks : List Mark) → rule Errors rest q marks ≡ onward (rest q marks) (error_noted q)
unfolding rule
rule-errors rest q marks = refl

pub rule-log : (plan : PlanData) (rest : Query → List Mark → Meaning Decision) (q : Query) (marks : List Mark)
    → rule (Log plan) rest q marks ≡ onward (rest q marks) (query_noted plan q)
unfolding rule
rule-log plan rest q marks = refl

pub rule-dns64 : (d : Directive) (rest : Query → List Mark → Meaning Decision) (q : Query) (marks : List Mark) → rule (Dns64 d) rest q marks ≡ dns64_means rest d q marks
unfolding rule
rule-dns64 d rest q marks = refl

pub rule-cache : (plan : PlanData) (rest : Query → List Mark → Meaning Decision) (q : Query) (marks : List Mark)
    → rule (Cache plan) rest q marks ≡ cache_means rest plan q marks
unfolding rule
rule-cache plan rest q marks = refl

pub rule-rewrite : (ds : List Directive) (rest : Query → List Mark → Meaning Decision) (q : Query) (marks : List Mark)
    → rule (Rewrite ds) rest q marks ≡ rewritten rest ds (changed_by ds q) marks
unfolding rule
rule-rewrite ds rest q marks = refl

pub rule-answers : (plugin : Answerer) (rest : Query → List Mark → Meaning Decision) (q : Query) (marks : List Mark)
    → rule (Answers plugin) rest q marks ≡ onward (answer_of plugin q marks) (or_rest rest q)
unfolding rule
rule-answers plugin rest q marks = refl

pub rule-others : (says : Query → Option Decision) (rest : Query → List Mark → Meaning Decision) (q : Query) (marks : List Mark)
    → rule (Others says) rest q marks ≡ or_rest rest q (says q) marks
unfolding rule
rule-others says rest q marks = refl

pub error_nothing : (q : Query) (v : Decision) → Starved (error_noted q v [])
error_nothing q (decision.Reply a) = refl
error_nothing q (decision.Code code cause) = tt
error_nothing q decision.Drop = refl

note_nothing : (line : List ℕ) (v : Decision) (t : Bool) → Starved (if t then take_note line v [] else Done v [])
note_nothing line v true = tt
note_nothing line v false = refl

pub query_nothing : (plan : PlanData) (q : Query) (v : Decision) → Starved (query_noted plan q v [])
query_nothing plan q v = note_nothing (log_line q (outcome_of v)) v (is_in q.name (plain_zones plan))

-- a plugin that takes marks has a row of its own
pub answer_nothing : (plugin : Answerer) (q : Query) → Starved (answer_of plugin q [])
unfolding answer_of
answer_nothing (Forward plans) q =
    starved_onward (forward_means plans q []) forward_answered (forward_nothing plans q) (λ said. refl)
answer_nothing (Acl plans) q = refl
answer_nothing Any q = refl
answer_nothing (Template plans) q = refl
answer_nothing (Hosts plan) q = refl
answer_nothing (File plans) q = refl
answer_nothing Whoami q = refl

pub or_rest_nothing : (rest : Query → List Mark → Meaning Decision) (q : Query) → Starved (rest q []) → (v : Option Decision) → Starved (or_rest rest q v [])
or_rest_nothing rest q none (Some v) = refl
or_rest_nothing rest q none None = none

cache_nothing : (rest : Query → List Mark → Meaning Decision) (plan : PlanData) (q : Query) → Starved (rest q []) → (within : Bool) → Starved (if within then cached rest plan q [] else rest q [])
cache_nothing rest plan q none true = tt
cache_nothing rest plan q none false = none

rule_nothing : (step : Step) (rest : Query → List Mark → Meaning Decision) (q : Query) → ((other : Query) → Starved (rest other [])) → Starved (rule step rest q [])
unfolding rule
rule_nothing Errors rest q none = starved_onward (rest q []) (error_noted q) (none q) (error_nothing q)
rule_nothing (Log plan) rest q none = starved_onward (rest q []) (query_noted plan q) (none q) (query_nothing plan q)
rule_nothing (Dns64 d) rest q none = dns64_nothing rest d q none
rule_nothing (Cache plan) rest q none = cache_nothing rest plan q (none q) (is_in q.name (cache_zones plan))
rule_nothing (Rewrite ds) rest q none = starved_onward (rest (changed_by ds q).query []) (reply_restored ds (changed_by ds q)) (none (changed_by ds q).query) (λ v. refl)
rule_nothing (Answers plugin) rest q none = starved_onward (answer_of plugin q []) (or_rest rest q) (answer_nothing plugin q) (or_rest_nothing rest q (none q))
rule_nothing (Others says) rest q none = or_rest_nothing rest q (none q) (says q)

pub mean_nothing : (steps : List Step) (q : Query) → Starved (mean steps q [])
unfolding mean
mean_nothing [] q = refl
mean_nothing (step ∷ steps) q = rule_nothing step (mean steps) q (mean_nothing steps)

-- what several extras decide, each in turn
abbrev pub extras_say : Sayings → List Directive → Query → Option Decision
extras_say said [] q = None
extras_say said (d ∷ ds) q = option_or (extra_says said d q) (extras_say said ds q)

or_both : (rest : Query → List Mark → Meaning Decision) (says : Query → Option Decision) (q : Query) (o : Option Decision) (marks : List Mark)
    → or_rest rest q (option_or o (says q)) marks ≡ or_rest (λ p. or_rest rest p (says p)) q o marks
or_both rest says q (Some v) marks = refl
or_both rest says q None marks = refl

-- one step for all extras of a block is as good as one for each
pub together : (said : Sayings) (ds : List Directive) (back : List Step) → mean (Others (extras_say said ds) ∷ back) ≡ mean (extra_steps said ds ++ back)
unfolding mean rule
together said [] back = refl
together said (d ∷ ds) back =
    (λ i q marks. or_both (mean back) (extras_say said ds) q (extra_says said d q) marks i)
    ∙ (λ i q marks. or_rest (together said ds back i) q (extra_says said d q) marks)

pub behind_front : (a b front : List Step) → mean a ≡ mean b → mean (front ++ a) ≡ mean (front ++ b)
unfolding mean
behind_front a b [] same = same
behind_front a b (step ∷ front) same = λ i q marks. rule step (behind_front a b front same i) q marks

pub mean-extras : (said : Sayings) (ds : List Directive) (front back : List Step) (q : Query) (marks : List Mark)
    → mean (front ++ (Others (extras_say said ds) ∷ back)) q marks ≡ mean (front ++ (extra_steps said ds ++ back)) q marks
mean-extras said ds front back q marks =
    λ i. behind_front (Others (extras_say said ds) ∷ back) (extra_steps said ds ++ back) front (together said ds back) i q marks
