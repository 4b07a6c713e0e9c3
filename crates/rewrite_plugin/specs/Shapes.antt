-- Rules as contracts see them: a pattern is its text, whether it is only read or made too.
use Rattle.std.specs.Prelude.{ℕ, List}
use Rattle.rewrite_plugin.specs.declared.rule.Answering as answering
use Rattle.rewrite_plugin.specs.declared.rule.Matcher as matcher
use Rattle.rewrite_plugin.specs.declared.rule.Renaming as renaming
use Rattle.rewrite_plugin.specs.declared.rule.Replacing as replacing
use Rattle.rewrite_plugin.specs.declared.rule.Rule as rule
use Rattle.rewrite_plugin.specs.declared.rule.Written as written

abbrev pub Matcher : Type 0
Matcher = matcher.Matcher (List ℕ)

abbrev pub Replacing : Type 0
Replacing = replacing.Replacing (List ℕ)

abbrev pub Answering : Type 0
Answering = answering.Answering (List ℕ)

abbrev pub Renaming : Type 0
Renaming = renaming.Renaming (List ℕ)

abbrev pub Rule : Type 0
Rule = rule.Rule (List ℕ)

abbrev pub Written : Type 0
Written = written.Written (List ℕ)
