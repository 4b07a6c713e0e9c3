use Rattle.std.proofs.Common.{◌≡◌, ◌++◌, ◌∷◌, [], ◌∙◌, List, ap, arith, length, length-take, subst, sym, take}
use Rattle.std.proofs.lemmas.List.{take_more}
use Rattle.std.proofs.lemmas.Option.{get_or_from_slice_get}
use Rattle.dns_data.specs.declared.block.Block.{Block}
use Rattle.plugin_api.specs.Index.{IsIndexOf}
use Rattle.plugin_api.proofs.Indexing.{index_more, index_none}
use Rattle.plugin_api.proofs.index.BlockIndex.new.Goals as goal

pub loop-number-init : goal.loop-number-init
loop-number-init c = index_none _ c.in_ok-new.ensures

pub loop-number-preserved : goal.loop-number-preserved
loop-number-preserved c =
    let blocks = c.args.blocks.now in
    let n = c.loop-number.number in
    let block = c.at.result.now in
    let inside = c.loop-number-test.true in
    let more = take_more blocks n block (omega (arith, inside, c.len-number-end.ensures)) ∙ ap (λ (b : Block). take n blocks ++ b ∷ []) (get_or_from_slice_get blocks n block block c.at.ensures) in
    let long : length (take n blocks) ≡ n = omega (arith, length-take n blocks, inside, c.len-number-end.ensures) in
    let added = rw c.as_slice-in-loop-number.ensures at c.in_ok-index.ensures in
    subst (λ (bs : List Block). IsIndexOf c.in_ok-index.index bs) (sym more) (index_more c.loop-number.index c.in_ok-index.index (take n blocks) block n c.loop-number.invariant added long)
