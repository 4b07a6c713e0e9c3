use Rattle.std.proofs.Common.{ap, ◌∙◌}
use Rattle.corefile_blocks.specs.PlacedLines.{stream_of}
use Rattle.corefile_blocks.proofs.LineLemmas.{stream_push}
use Rattle.corefile_blocks.proofs.stack.put.Goals as goal

pub returns : goal.returns
returns c = ap stream_of c.in_ok-push.ensures.ok ∙ stream_push c.args.frames.now _
