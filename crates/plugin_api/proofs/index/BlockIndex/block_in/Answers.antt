use Rattle.std.proofs.Common.{◌≡◌, ◌∙◌, Some, ap, arith, subst, sym}
use Rattle.std.proofs.lemmas.Option.{slice_get-get_or}
use Rattle.plugin_api.specs.Index.{IndexData, block_in}
use Rattle.name_table.specs.NumberLaws.{named_within}
use Rattle.plugin_api.proofs.Indexing.{block_is, block_none}
use Rattle.plugin_api.proofs.index.BlockIndex.block_in.Goals as goal

pub returns-in_err-number : goal.returns-in_err-number
returns-in_err-number c =
    subst (λ (d : IndexData). c.from_residual.result ≡ block_in d c.args.port c.args.zone.now) c.self.view_is (c.from_residual.ensures ∙ sym (block_none _ c.args.port c.args.zone.now c.in_err-number.ensures.none))

pub index-requires : goal.index-requires
index-requires c = let inside = named_within c.self.inside.zones c.args.zone.now c.in_ok-number.number c.in_ok-number.ensures.found.is in omega (arith, inside, c.self.invariant.0)

pub returns : goal.returns
returns c =
    let inside = named_within c.self.inside.zones c.args.zone.now c.in_ok-number.number c.in_ok-number.ensures.found.is in
    let item = slice_get-get_or c.self.inside.services.items c.in_ok-number.number c.index.result.now (omega (arith, inside, c.self.invariant.0)) ∙ ap Some (sym c.index.ensures) in
    let on = rw c.as_slice.ensures at c.service_on.ensures in
    subst (λ (d : IndexData). c.service_on.result ≡ block_in d c.args.port c.args.zone.now) c.self.view_is
    (on ∙ sym (block_is _ c.args.port c.args.zone.now c.in_ok-number.number c.index.result.now c.in_ok-number.ensures.found item))
