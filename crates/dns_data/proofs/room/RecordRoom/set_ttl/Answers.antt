use Rattle.std.proofs.Common.{◌≡◌, ◌<◌, Some, slice_get, slice_set, get_or, ap, sym, ◌∙◌, arith, length, take}
use Rattle.std.proofs.Math.Seq.{take-set-lt}
use Rattle.std.proofs.lemmas.List.{length-take, get_or-take}
use Rattle.std.proofs.lemmas.Option.{get_or_from_slice_get}
use Rattle.dns_data.specs.Record.{RecordData, owned_by}
use Rattle.dns_data.proofs.room.RecordRoom.set_ttl.Goals as goal

pub returns : goal.returns
returns c =
    let items = c.self.inside.items.items in
    let n = c.self.inside.count in
    let x = c.index_mut.result.now in
    let f : RecordData → RecordData = λ e. owned_by e.owner c.args.ttl e in
    let inside : c.args.index < n = omega (arith, c.requires.index, ap length c.self.view_is, length-take n items) in
    λ (r : RecordData) (at : slice_get c.args.self.now c.args.index ≡ Some r).
    let is : x ≡ r = c.index_mut.ensures.value ∙ sym (get_or-take n items c.args.index x inside) ∙ (λ i. get_or (c.self.view_is i) c.args.index x) ∙ get_or_from_slice_get c.args.self.now c.args.index r x at in
    (λ i. take n (slice_set items c.args.index (f (c.behind-self.view_is i)))) ∙ take-set-lt n items c.args.index (f x) inside ∙ (λ i. slice_set (c.self.view_is i) c.args.index (f x)) ∙ ap (λ (e : RecordData). slice_set c.args.self.now c.args.index (f e)) is
