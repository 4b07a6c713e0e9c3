use Rattle.std.proofs.Common.{◌∙◌, ◌++◌, ap, sym, map, reverse}
use Rattle.corefile_blocks.proofs.LineLemmas.{map-reverse}
use Rattle.corefile_blocks.proofs.shared.LineList.of.Goals as goal

pub returns : goal.returns
returns c =
    ap (map (λ line. line.value)) c.reverse.ensures.items ∙ map-reverse (λ line. line.value) c.loop-line.items.items
    ∙ ap (λ lines. lines ++ reverse (map (λ line. line.value) c.loop-line.items.items)) (sym c.in_default.ensures.0) ∙ c.loop-line.invariant
