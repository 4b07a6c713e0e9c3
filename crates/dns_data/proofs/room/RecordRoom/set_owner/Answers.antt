use Rattle.std.proofs.Common.{◌≡◌, ◌<◌, Some, slice_get, slice_set, get_or, ap, sym, ◌∙◌, arith, length}
use Rattle.std.proofs.Math.Seq.{take-set-lt}
use Rattle.std.proofs.lemmas.List.{length-take, get_or-take}
use Rattle.std.proofs.lemmas.Option.{get_or_from_slice_get}
use Rattle.std.proofs.lemmas.Result.{on_ok_weaker}
use Rattle.dns_data.specs.Record.{RecordData, owned_by}
use Rattle.dns_data.proofs.room.RecordRoom.set_owner.Goals as goal

pub returns : goal.returns
returns c =
    let items = c.self.inside.items.items in
    let n = c.self.inside.count in
    let x = c.index_mut.result.now in
    let f : RecordData → RecordData = λ e. owned_by c.args.owner.now e.ttl e in
    let inside : c.args.index < n = omega (arith, c.requires, ap length c.self.view_is, length-take n items) in
    on_ok_weaker c.set_owner.result (λ (p : c.set_owner.new.self ≡ f x) (r : RecordData) (at : slice_get c.args.self.now c.args.index ≡ Some r).
    let is : x ≡ r = c.index_mut.ensures.value ∙ sym (get_or-take n items c.args.index x inside) ∙ (λ i. get_or (c.self.view_is i) c.args.index x) ∙ get_or_from_slice_get c.args.self.now c.args.index r x at in
    take-set-lt n items c.args.index c.set_owner.new.self inside ∙ (λ i. slice_set (c.self.view_is i) c.args.index (p i)) ∙ ap (λ (e : RecordData). slice_set c.args.self.now c.args.index (f e)) is)
    c.set_owner.ensures.ok
