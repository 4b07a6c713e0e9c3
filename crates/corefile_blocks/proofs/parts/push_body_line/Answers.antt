use Rattle.std.proofs.Common.{ap}
use Rattle.corefile_blocks.specs.Blocks.{with_body_line}
use Rattle.corefile_blocks.proofs.LineLemmas.{put_back}
use Rattle.corefile_blocks.proofs.parts.push_body_line.Goals as goal

pub returns : goal.returns
returns c =
    put_back (with_body_line c.args.line) c.args.blocks.now c.pop.new.self c.push.new.self c.in-Some.block
    (record { keys = c.in-Some.block.keys; directives = c.push_line.new.directives }) c.in-Some.ensures
    (ap (λ directives. record { keys = c.in-Some.block.keys; directives = directives }) c.in_ok-push_line.ensures) c.in_ok-push.ensures.ok
