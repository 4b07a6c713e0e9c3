use Rattle.std.proofs.Common.{◌≡◌, ◌<◌, length, sym, ap, ◌∙◌, arith}
use Rattle.std.proofs.lemmas.Result.{on_ok_weaker}
use Rattle.dns_names.specs.Name.{spelled, labels_of}
use Rattle.dns_names.specs.NameLaws.{is_wire, view_of}
use Rattle.dns_write.specs.Written.{Draft, put_pointer, earliest}
use Rattle.dns_write.proofs.Writing.{points_at_once}
use Rattle.dns_write.proofs.writer.Writer.put_name.Goals as goal

pub is_first-requires : goal.is_first-requires
is_first-requires c = is_wire c.as_wire.result.now c.args.name.now c.as_wire.ensures.value c.as_wire.ensures.proper

pub returns-then-is_first-clause-text : goal.returns-then-is_first-clause-text
returns-then-is_first-clause-text c =
    let wire = c.as_wire.result.now in
    let view = view_of wire c.args.name.now c.as_wire.ensures.value in
    let found = sym (ap (earliest c.args.self.now.offsets) view) ∙ sym (ap (λ (d : Draft). earliest d.offsets (labels_of wire)) c.self.view_is) ∙ c.is_first.ensures.offset c.if-is_first.true in
    let more : 0 < length (spelled c.args.name.now) = omega (arith, ap length c.as_wire.ensures.value, c.is_first.ensures.some c.if-is_first.true) in
    on_ok_weaker c.put_pointer.result (λ (p : c.put_pointer.new.self ≡ put_pointer c.args.self.now 12). p ∙ points_at_once c.args.self.now c.args.name.now 12 more found) c.put_pointer.ensures
