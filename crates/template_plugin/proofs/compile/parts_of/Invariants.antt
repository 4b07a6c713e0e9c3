use Rattle.std.proofs.Common.{◌≡◌, ◌++◌, length, map, option_map}
use Rattle.template_plugin.specs.Parts.{compiled, numbers_of}
use Rattle.template_plugin.proofs.compile.parts_of.Given as goal

abbrev pub invariant-loop-piece : goal.invariant-loop-piece
invariant-loop-piece l =
    l.parts ++ map (compiled (numbers_of (option_map (λ p. p.now) l.pattern))) l.rest
    ≡ map (compiled (numbers_of (option_map (λ p. p.now) l.pattern))) l.pieces

abbrev pub decreases-loop-piece : goal.decreases-loop-piece
decreases-loop-piece l = length l.rest
