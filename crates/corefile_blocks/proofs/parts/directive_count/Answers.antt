use Rattle.std.proofs.Common.{◌∙◌}
use Rattle.corefile_blocks.proofs.LineLemmas.{last_count}
use Rattle.corefile_blocks.proofs.parts.directive_count.Goals as goal

pub returns-in-Some : goal.returns-in-Some
returns-in-Some c =
    c.len.ensures ∙ last_count c.args.blocks.now c.in-Some.field-0-1.now c.in-Some.block.now c.in-Some.ensures.cases.0
