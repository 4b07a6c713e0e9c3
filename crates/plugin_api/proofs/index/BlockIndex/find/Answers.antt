use Rattle.std.proofs.Common.{◌<◌, ◌∙◌, Some, ap, arith, length, sym}
use Rattle.std.proofs.lemmas.Option.{slice_get-get_or}
use Rattle.std.specs.Prelude.{slice_get}
use Rattle.plugin_api.specs.Index.{IndexData, block_in}
use Rattle.plugin_api.specs.KeyLaws.{longest_end, longest_here}
use Rattle.plugin_api.specs.Laws.{index_picks}
use Rattle.plugin_api.proofs.Indexing.{root_serves}
use Rattle.plugin_api.proofs.index.BlockIndex.find.Goals as goal

pub returns-in-Some : goal.returns-in-Some
returns-in-Some c = λ blocks is.
    sym (longest_here (block_in c.args.self.now c.args.port) c.loop-block.rest _ (sym c.in-Some.ensures)) ∙ c.loop-block.invariant ∙ index_picks c.args.self.now blocks c.args.port c.args.name.now is

pub returns-in_default-next : goal.returns-in_default-next
returns-in_default-next c = λ blocks is.
    sym (longest_end (block_in c.args.self.now c.args.port) c.loop-block.rest c.in_default-next.ensures.value (sym c.in_default.ensures)) ∙ c.loop-block.invariant
    ∙ index_picks c.args.self.now blocks c.args.port c.args.name.now is

pub index-requires : goal.index-requires
index-requires c = omega (arith, c.self.invariant.0, ap length (c.self.invariant.1 c.if-self.true))

pub returns-then-self : goal.returns-then-self
returns-then-self c = λ blocks is.
    let index = c.args.self.now in
    let first = c.index.result.now in
    let zones = ap (λ (d : IndexData). d.zones) (sym c.self.view_is) ∙ c.self.invariant.1 c.if-self.true in
    let some : 0 < length c.self.inside.services.items = omega (arith, c.self.invariant.0, ap length (c.self.invariant.1 c.if-self.true)) in
    let item = ap (λ (d : IndexData). slice_get d.services 0) (sym c.self.view_is) ∙ slice_get-get_or c.self.inside.services.items 0 first some ∙ ap Some (sym c.index.ensures) in
    let on = rw c.as_slice.ensures at c.service_on.ensures in
    on ∙ sym (root_serves index c.args.port first zones item c.args.name.now) ∙ index_picks index blocks c.args.port c.args.name.now is
