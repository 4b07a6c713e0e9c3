use Rattle.std.proofs.Common.{◌≡◌, length}
use Rattle.corefile_blocks.specs.Keys.{add_keys, all_pieces, no_keys}
use Rattle.corefile_blocks.proofs.keys.header_keys.Given as goal

abbrev pub invariant-loop-word : goal.invariant-loop-word
invariant-loop-word l =
    add_keys l.port l.line l.header (all_pieces l.rest) ≡ add_keys l.port l.line no_keys (all_pieces l.words)

abbrev pub decreases-loop-word : goal.decreases-loop-word
decreases-loop-word l = length l.rest
