use Rattle.std.proofs.Common.{◌∙◌, ◌+◌, arith}
use Rattle.std.proofs.lemmas.List.{take_rest}
use Rattle.corefile_blocks.proofs.KeyLemmas.{at_comma, no_comma, one_piece}
use Rattle.corefile_blocks.proofs.keys.first_piece.Goals as goal

pub loop-at-preserved : goal.loop-at-preserved
loop-at-preserved c = c.loop-at.invariant ∙ no_comma c.args.text.now c.loop-at.at (omega arith) c.if-byte-eq44.false

pub returns-then-byte-eq44-clause-pieces : goal.returns-then-byte-eq44-clause-pieces
returns-then-byte-eq44-clause-pieces c =
    at_comma c.args.text.now _ c.loop-at.at (omega arith) c.if-byte-eq44.true (take_rest c.args.text.now (c.loop-at.at + 1)) c.loop-at.invariant

pub returns-clause-pieces : goal.returns-clause-pieces
returns-clause-pieces c = one_piece c.args.text.now _ c.loop-at.at (omega arith) c.loop-at.invariant (take_rest c.args.text.now _)
