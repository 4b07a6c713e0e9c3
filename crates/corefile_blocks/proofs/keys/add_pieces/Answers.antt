use Rattle.std.proofs.Common.{sym, ap, ◌∙◌}
use Rattle.corefile_blocks.specs.Keys.{add_keys}
use Rattle.corefile_blocks.proofs.KeyLemmas.{no_pieces}
use Rattle.corefile_blocks.proofs.keys.add_pieces.Goals as goal

pub returns : goal.returns
returns c =
    sym (ap (add_keys c.args.port c.args.line c.loop-rest.header) (no_pieces c.loop-rest.rest.now c.loop-rest-test.false)) ∙ c.loop-rest.invariant
