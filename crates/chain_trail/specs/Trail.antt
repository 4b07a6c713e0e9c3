-- How a chain decides a query: a line for each step that is reached, in that order, beside what the
-- chain means. A step that runs the rest twice has the lines of both. This server's own rule.
use Rattle.std.specs.Prelude.{ℕ, List, [], ◌∷◌, ◌++◌, codes, Option, Some, None, if◌then◌else◌}
use Rattle.cache_rules.specs.{aged, cache_zones, key_of}
use Rattle.dns_data.specs.declared.directive.Directive.{Directive}
use Rattle.dns_data.specs.declared.query.Query.{Query}
use Rattle.dns64_plugin.specs.{a_query, ptr_query, translates}
use Rattle.outside.specs.{EntryData}
use Rattle.outside.specs.Meanings.{Meaning, Done, More, Off}
use Rattle.outside.specs.declared.mark.Mark.{Mark}
use Rattle.plugin_api.specs.{PlanData}
use Rattle.plugin_api.specs.declared.verdict.Cause.TheVariants as cause
use Rattle.plugin_api.specs.declared.verdict.Code.TheVariants as code
use Rattle.rewrite_plugin.specs.{changed_by}
use Rattle.rewrite_plugin.specs.declared.plan_data.Changed.{Changed}
use Rattle.zone_words.specs.{is_in}
use Rattle.chain_meaning.specs.Caching.{inners_in, kept_with, take_looked, take_now, taken}
use Rattle.chain_meaning.specs.Mean.{answer_of, error_noted, query_noted, reply_restored}
use Rattle.chain_meaning.specs.Steps.{Answerer, Step, Errors, Log, Dns64, Cache, Rewrite}
use Rattle.chain_meaning.specs.Steps.{Answers, Others}
use Rattle.chain_meaning.specs.Translating.{bound_of, combined_in, pointed_in}
use Rattle.chain_meaning.specs.declared.decision.Decision.{Decision}
use Rattle.chain_meaning.specs.declared.decision.Decision.TheVariants as decision
use Rattle.chain_trail.specs.Says.{decided_say, decision_say, pass_say, rewrite_say}
use Rattle.chain_trail.specs.declared.reached.Reached.{Reached}
use Rattle.chain_trail.specs.declared.reached.StepName.{StepName}

-- lines, and what is meant
pub record Trailed (A : Type 0) : Type 0 where
  pub lines : List Reached
  pub means : Meaning A

module _ {A : Type 0} where
  abbrev pub bare : Meaning A → Trailed A
  bare means = record { lines = []; means = means }

  abbrev pub behind_lines : List Reached → Trailed A → Trailed A
  behind_lines lines t = record { lines = lines ++ t.lines; means = t.means }

module _ {A B : Type 0} where
  abbrev pub by_meaning : List Reached → Meaning A → (A → List Mark → Trailed B) → Trailed B
  by_meaning lines (Done v left) next = behind_lines lines (next v left)
  by_meaning lines More next = record { lines = lines; means = More }
  by_meaning lines Off next = record { lines = lines; means = Off }

  -- what is meant behind an answer, with its lines
  abbrev pub trailed_onward : Trailed A → (A → List Mark → Trailed B) → Trailed B
  trailed_onward t next = by_meaning t.lines t.means next

  -- the same where what follows reaches no step
  abbrev pub trailed_then : Trailed A → (A → List Mark → Meaning B) → Trailed B
  trailed_then t next = trailed_onward t (λ v left. bare (next v left))

abbrev pub reached : StepName → List ℕ → List Reached
reached n say = record { line = n.line; name = n.name; say = say } ∷ []

-- what a chain means from one of its steps on, with its lines
abbrev pub Follows : Type 0
Follows = Query → List Mark → Trailed Decision

module _ (n : StepName) (rest : Follows) where
  -- a step that goes on, whatever it makes of what the rest decides
  abbrev pub passes : Query → List Mark → (Decision → List Mark → Meaning Decision)
      → Trailed Decision
  passes q marks next = behind_lines (reached n pass_say) (trailed_then (rest q marks) next)

  -- a plugin that answers, or goes on
  abbrev pub answered : Answerer → Query → Option Decision → List Mark → Trailed Decision
  answered plugin q (Some v) left =
      record { lines = reached n (decided_say plugin v); means = Done v left }
  answered plugin q None left = behind_lines (reached n pass_say) (rest q left)

  abbrev pub others_answered : Query → Option Decision → List Mark → Trailed Decision
  others_answered q (Some v) left =
      record { lines = reached n (decision_say v); means = Done v left }
  others_answered q None left = behind_lines (reached n pass_say) (rest q left)

  -- a hit decides; a miss goes on
  abbrev pub found_by : PlanData → Query → ℕ → Option EntryData → List Mark → Trailed Decision
  found_by plan q moment (Some entry) left =
      record {
        lines = reached n (codes "hit");
        means = Done (decision.Reply (aged plan entry moment)) left;
      }
  found_by plan q moment None left =
      behind_lines (reached n (codes "miss"))
      (trailed_then (rest q left)
      (λ v end. kept_with plan q moment (inners_in (taken left end)) v end))

  abbrev pub cached_by : PlanData → Query → List Mark → Trailed Decision
  cached_by plan q marks =
      trailed_onward (bare (take_now marks))
      (λ moment left. trailed_onward (bare (take_looked (key_of q) moment left))
      (found_by plan q moment))

  abbrev pub cache_by : PlanData → Query → List Mark → Trailed Decision
  cache_by plan q marks =
      if is_in q.name (cache_zones plan) then cached_by plan q marks
      else behind_lines (reached n pass_say) (rest q marks)

  abbrev pub rewritten_by : List Directive → Changed → List Mark → Trailed Decision
  rewritten_by ds changed marks =
      behind_lines (reached n (rewrite_say changed))
      (trailed_then (rest changed.query marks) (reply_restored ds changed))

  -- `dns64`: the rest runs once, or twice
  abbrev pub second_by : Directive → Query → Decision → Option ℕ → List Mark → Trailed Decision
  second_by d q v None left = bare (Done v left)
  second_by d q v (Some bound) left =
      trailed_then (rest (a_query q) left) (λ w more. Done (combined_in d bound w) more)

  abbrev pub pointed_by : Query → Option Query → List Mark → Trailed Decision
  pointed_by q None marks = rest q marks
  pointed_by q (Some inner) marks =
      trailed_then (rest inner marks) (λ v left. Done (pointed_in q inner v) left)

  abbrev pub translated_by : Directive → Query → List Mark → Trailed Decision
  translated_by d q marks =
      if translates d q
      then trailed_onward (rest q marks) (λ v left. second_by d q v (bound_of v) left)
      else pointed_by q (ptr_query d q) marks

-- the rule of each step, with its lines
unfoldable pub trailed_rule : Step → StepName → Follows → Follows
trailed_rule Errors n rest q marks = passes n rest q marks (error_noted q)
trailed_rule (Log plan) n rest q marks = passes n rest q marks (query_noted plan q)
trailed_rule (Dns64 d) n rest q marks =
    behind_lines (reached n pass_say) (translated_by n rest d q marks)
trailed_rule (Cache plan) n rest q marks = cache_by n rest plan q marks
trailed_rule (Rewrite ds) n rest q marks = rewritten_by n rest ds (changed_by ds q) marks
trailed_rule (Answers plugin) n rest q marks =
    trailed_onward (bare (answer_of plugin q marks)) (answered n rest plugin q)
trailed_rule (Others says) n rest q marks = others_answered n rest q (says q) marks

-- behind the last step
abbrev pub end_name : StepName
end_name = record { line = 0; name = codes "end of chain" }

-- the first of the names, and those behind it
abbrev pub head_name : List StepName → StepName
head_name [] = end_name
head_name (n ∷ ns) = n

abbrev pub tail_names : List StepName → List StepName
tail_names [] = []
tail_names (n ∷ ns) = ns

-- what steps of these names mean, with their lines; the end of the chain is SERVFAIL
unfoldable pub traced : List Step → List StepName → Follows
traced [] ns q marks =
    record {
      lines = reached end_name [];
      means = Done (decision.Code code.ServFail cause.EndOfChain) marks;
    }
traced (step ∷ steps) ns q marks =
    trailed_rule step (head_name ns) (traced steps (tail_names ns)) q marks
