use Rattle.std.proofs.Common.{ap}
use Rattle.corefile_blocks.specs.Blocks.{with_line}
use Rattle.corefile_blocks.proofs.LineLemmas.{put_back}
use Rattle.corefile_blocks.proofs.parts.push_line.Goals as goal

pub returns : goal.returns
returns c =
    put_back (with_line c.args.line) c.args.directives.now c.pop.new.self c.push-2.new.self c.in-Some.directive
    (record { name = c.in-Some.directive.name; args = c.in-Some.directive.args; body = c.push.new.self; line = c.in-Some.directive.line }) c.in-Some.ensures
    (ap (λ body. record { name = c.in-Some.directive.name; args = c.in-Some.directive.args; body = body; line = c.in-Some.directive.line }) c.in_ok-push.ensures.ok)
    c.in_ok-push-2.ensures.ok
