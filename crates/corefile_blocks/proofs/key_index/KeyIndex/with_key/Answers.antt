use Rattle.std.proofs.Common.{◌<◌, ◌++◌, [], ◌∷◌, List, Some, length, ◌∙◌, sym, ap, arith}
use Rattle.std.specs.Prelude.{slice_set}
use Rattle.std.proofs.lemmas.Option.{slice_get-get_or}
use Rattle.dns_data.specs.declared.block.BlockKey.{BlockKey}
use Rattle.corefile_blocks.proofs.IndexLemmas.{index_more}
use Rattle.corefile_blocks.proofs.key_index.KeyIndex.with_key.Goals as goal

pub returns : goal.returns
returns c =
    let places = c.self.inside.places.items in
    let place = c.place_of-place.result in
    let within : place < length places = omega (arith, c.place_of-place.ensures.inside, ap length c.self.view_is) in
    let old = slice_get-get_or places place c.index_mut.result.now within ∙ ap Some (sym c.index_mut.ensures.value) in
    let pushed = c.in_ok-push.ensures.ok ∙ ap (λ (k : BlockKey). c.index_mut.result.now ++ k ∷ []) c.in_ok-copy.ensures in
    index_more c.args.self places _ place c.index_mut.result.now c.args.key.now c.self.view_is c.place_of-place.ensures.place c.place_of-place.ensures.inside old
    (ap (λ (set : List BlockKey). slice_set places place set) pushed)
