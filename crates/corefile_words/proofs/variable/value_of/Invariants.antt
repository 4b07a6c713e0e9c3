use Rattle.std.proofs.Common.{◌≡◌, drop}
use Rattle.corefile_words.specs.Variables.{value_of}
use Rattle.corefile_words.proofs.variable.value_of.Given as goal

abbrev pub invariant-loop-pair : goal.invariant-loop-pair
invariant-loop-pair l = value_of (drop l.pair-index l.env) l.name ≡ value_of l.env l.name
