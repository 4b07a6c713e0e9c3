-- What the chain of a block decides of a query, with a line for each step that is reached. This
-- server's own rule.
use Rattle.std.specs.Prelude.{List, [], ◌∷◌}
use Rattle.outside.specs.Meanings.{Done}
use Rattle.chain_meaning.specs.Serving.{refused}
use Rattle.chain_meaning.specs.Steps.{Step}
use Rattle.chain_trail.specs.Trail.{Follows, bare, traced}
use Rattle.chain_trail.specs.declared.reached.StepName.{StepName}

-- one without a step refuses, and reaches none
abbrev pub chain_traced : List Step → List StepName → Follows
chain_traced [] ns q marks = bare (Done refused marks)
chain_traced (step ∷ steps) ns q marks = traced (step ∷ steps) ns q marks
