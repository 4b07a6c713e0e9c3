use Rattle.std.proofs.Common.{◌≡◌, ◌++◌, map, length}
use Rattle.chain_build.proofs.places.key_zones.Given as goal

abbrev pub invariant-loop-key : goal.invariant-loop-key
invariant-loop-key l = l.zones ++ map (λ key. key.zone) l.rest ≡ map (λ key. key.zone) l.fn.keys

abbrev pub decreases-loop-key : goal.decreases-loop-key
decreases-loop-key l = length l.rest
