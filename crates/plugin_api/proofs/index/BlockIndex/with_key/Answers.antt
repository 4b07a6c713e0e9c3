use Rattle.std.proofs.Common.{◌<◌, ◌∙◌, List, Some, ap, arith, length, sym}
use Rattle.std.specs.Prelude.{slice_set}
use Rattle.std.proofs.lemmas.Option.{slice_get-get_or}
use Rattle.plugin_api.specs.declared.services.Service.{Service}
use Rattle.name_table.specs.NumberLaws.{named_within}
use Rattle.plugin_api.proofs.Indexing.{new_zone, there}
use Rattle.plugin_api.proofs.index.BlockIndex.with_key.Goals as goal

pub index_mut-requires : goal.index_mut-requires
index_mut-requires c =
    let found = rw c.labels.ensures at c.in-Some.ensures.found in
    let inside = named_within c.self.inside.zones c.args.key.now.zone c.in-Some.number found.is in
    omega (arith, inside, c.self.invariant.0)

pub returns-in_default : goal.returns-in_default
returns-in_default c =
    let none = rw c.labels.ensures at c.in_default.ensures.none in
    let zones = rw c.in_ok-copy.ensures at c.in_ok-push-2.ensures.ok in
    let services = rw c.in_ok-one_service.ensures at c.in_ok-push.ensures.items in
    new_zone c.self.inside.zones _ c.self.inside.services.items _ c.args.self c.args.key.now c.args.block c.self.view_is none c.self.invariant.0 zones services

pub returns : goal.returns
returns c =
    let found = rw c.labels.ensures at c.in-Some.ensures.found in
    let inside = named_within c.self.inside.zones c.args.key.now.zone c.in-Some.number found.is in
    let within : c.in-Some.number < length c.self.inside.services.items = omega (arith, inside, c.self.invariant.0) in
    let old = slice_get-get_or c.self.inside.services.items c.in-Some.number c.index_mut.result.now within ∙ ap Some (sym c.index_mut.ensures.value) in
    let services = ap (λ (s : List Service). slice_set c.self.inside.services.items c.in-Some.number s) c.in_ok-push-3.ensures.ok in
    there c.self.inside.zones c.self.inside.services.items _ c.args.self c.in-Some.number c.index_mut.result.now c.args.key.now c.args.block c.self.view_is found within old services
