-- Extras that take every directive, and pass every query.
use Rattle.std.specs.Prelude.{ℕ, Bool, true, List, []}
use Rattle.dns_data.specs.declared.directive.Directive.{Directive}
use Rattle.dns_data.specs.declared.query.Query.{Query}
use Rattle.plugin_api.specs.declared.extra.Extra as extra
use Rattle.plugin_api.specs.declared.rulebook.Rulebook as rulebook
use Rattle.plugin_api.specs.declared.verdict.Verdict.{Verdict}
use Rattle.plugin_api.specs.declared.verdict.Verdict.TheVariants as verdict
use Rattle.extra_stock.specs.declared.passing.Passing.{Passing}
use Rattle.extra_stock.specs.declared.passing.PassingBook.{PassingBook}

abbrev pub all_taken : List ℕ → Directive → Bool
all_taken name d = true

abbrev pub all_pass : List ℕ → Directive → Query → Verdict
all_pass name d q = verdict.Pass

-- what the types mean
abbrev pub passing_book : rulebook.Ghosts PassingBook
passing_book = record { taken = all_taken; said = all_pass }

abbrev pub passing_extra : extra.Ghosts Passing
passing_extra = record {
  title = λ e. [];
  takes = λ e. all_taken [];
  ruling = λ e. all_pass [];
  setting = λ e. e.setting;
}
