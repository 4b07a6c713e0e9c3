use Rattle.std.proofs.Common.{◌++◌, ◌∷◌, [], ◌∙◌, List, ap, subst, sym, take}
use Rattle.std.proofs.lemmas.List.{take_more}
use Rattle.dns_data.specs.declared.block.BlockKey.{BlockKey}
use Rattle.plugin_api.specs.Index.{AddsKeys}
use Rattle.plugin_api.proofs.Indexing.{adds_more, adds_none}
use Rattle.plugin_api.proofs.index.BlockIndex.with_keys.Goals as goal

pub loop-key-init : goal.loop-key-init
loop-key-init c = adds_none c.args.self c.args.block

pub loop-key-preserved : goal.loop-key-preserved
loop-key-preserved c =
    let keys = c.args.keys.now in
    let i = c.loop-key.key-index in
    let more = take_more keys i c.key-item.result c.loop-key-test.true ∙ ap (λ (k : BlockKey). take i keys ++ k ∷ []) (sym c.key-item.is) in
    subst (λ (ks : List BlockKey). AddsKeys c.args.self c.in_ok-index.index ks c.args.block) (sym more)
    (adds_more c.args.self c.loop-key.index c.in_ok-index.index (take i keys) c.key-item.result c.args.block c.loop-key.invariant c.in_ok-index.ensures)
