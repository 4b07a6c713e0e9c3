-- What the directives `rewrite` of a block do, in the order of the text: to a query, and to the
-- answer that the query behind them gets. This server's own rule, in the manner of CoreDNS.
use Rattle.std.specs.Prelude.{ℕ, ◌+◌, Bool, true, List, [], ◌∷◌, Option, Some, None, Result, Ok}
use Rattle.std.specs.Prelude.{Err}
use Rattle.std.specs.Prelude.{slice_get, option_and_then, if◌then◌else◌}
use Rattle.dns_data.specs.Message.{AnswerData}
use Rattle.dns_data.specs.declared.directive.Directive.{Directive}
use Rattle.dns_data.specs.declared.query.Query.{Query}
use Rattle.plugin_api.specs.declared.fault.DirectiveFault.{DirectiveFault}
use Rattle.rewrite_plugin.specs.Shapes.{Written}
use Rattle.rewrite_plugin.specs.declared.plan_data.Changed.{Changed}
use Rattle.rewrite_plugin.specs.declared.steps.Step.{Step}
use Rattle.rewrite_plugin.specs.Answers.{rule_restored}
use Rattle.rewrite_plugin.specs.Rules.{applied, stepped, unchanged}
use Rattle.rewrite_plugin.specs.Words.{reading_of}

-- the rule of a directive, where it has no fault
abbrev pub if_read : Result Written DirectiveFault → Option Written
if_read (Ok written) = Some written
if_read (Err fault) = None

unfoldable pub written_of : Directive → Option Written
written_of d = if_read (reading_of d).end

-- the query behind a rule; none, where the rule doesn't match
abbrev pub applied_by : Query → Option Written → Option Query
applied_by q None = None
applied_by q (Some written) = applied written.rule q

-- whether the next rule is tried behind one that was applied
abbrev pub goes_on_by : Option Written → Bool
goes_on_by None = true
goes_on_by (Some written) = written.goes_on

-- behind a rule of this number: one that doesn't match leaves the query to the next one, and one
-- that is applied ends, or goes on with `continue`
abbrev pub behind_rule : (Changed → Changed) → ℕ → Option Written → Changed → Option Query
    → Changed
behind_rule next number written before None = next before
behind_rule next number written before (Some q) =
    if goes_on_by written then next (stepped number before q) else stepped number before q

-- the rules in the order of the text, of which the first has this number, on the query as it stands
abbrev pub changed_behind : ℕ → List Directive → Changed → Changed
changed_behind number [] before = before
changed_behind number (d ∷ ds) before =
    behind_rule (λ after. changed_behind (number + 1) ds after) number (written_of d) before
    (applied_by before.query (written_of d))

-- what the rules make of a query: the query behind them, and those that were applied
unfoldable pub changed_by : List Directive → Query → Changed
changed_by ds q = changed_behind 0 ds (unchanged q)

-- what the rule of a number does to an answer
abbrev pub restored_by : Option Written → Step → AnswerData → AnswerData
restored_by None step a = a
restored_by (Some written) step a = rule_restored written.rule step a

abbrev pub written_at : List Directive → ℕ → Option Written
written_at ds number = option_and_then written_of (slice_get ds number)

-- what the rules that were applied do to an answer, in the order in which they were
abbrev pub restored : List Directive → List Step → AnswerData → AnswerData
restored ds [] a = a
restored ds (step ∷ steps) a = restored ds steps (restored_by (written_at ds step.rule) step a)
