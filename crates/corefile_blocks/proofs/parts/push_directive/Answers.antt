use Rattle.std.proofs.Common.{ap}
use Rattle.corefile_blocks.specs.Blocks.{with_directive}
use Rattle.corefile_blocks.proofs.LineLemmas.{put_back}
use Rattle.corefile_blocks.proofs.parts.push_directive.Goals as goal

pub returns : goal.returns
returns c =
    put_back (with_directive c.args.directive) c.args.blocks.now c.pop.new.self c.push-2.new.self c.in-Some.block
    (record { keys = c.in-Some.block.keys; directives = c.push.new.self }) c.in-Some.ensures
    (ap (λ directives. record { keys = c.in-Some.block.keys; directives = directives }) c.in_ok-push.ensures.ok) c.in_ok-push-2.ensures.ok
