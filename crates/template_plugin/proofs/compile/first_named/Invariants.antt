use Rattle.std.proofs.Common.{◌≡◌, ◌+◌, length, option_map}
use Rattle.regex.specs.Names.{names_of}
use Rattle.pattern.specs.Texts.{number_in}
use Rattle.template_plugin.proofs.compile.first_named.Given as goal

abbrev pub invariant-loop-group : goal.invariant-loop-group
invariant-loop-group l = record {
  is : option_map (λ n. l.number + n) (number_in (names_of l.rest) l.name) ≡ number_in (names_of l.names) l.name;
  size : l.number + length l.rest ≡ length l.names;
}

abbrev pub decreases-loop-group : goal.decreases-loop-group
decreases-loop-group l = length l.rest
