use Rattle.std.proofs.Common.{◌≡◌, ◌+◌, ℕ, List, [], ◌∷◌, length, ap, ◌∙◌, arith}
use Rattle.std.proofs.lemmas.Result.{on_ok_weaker}
use Rattle.std.specs.Prelude.{slice_index}
use Rattle.std.specs.Int.{w16, to_be_bytes}
use Rattle.dns_data.specs.declared.kind.TheConstants as kinds
use Rattle.dns_names.specs.Name.{spelled}
use Rattle.dns_names.specs.NameLaws.{length-spelled}
use Rattle.dns_write.specs.Written.{Draft, put, put_u16, put_u32, put_data}
use Rattle.dns_write.proofs.Swaps.{service_at_once}
use Rattle.dns_write.proofs.write_record.put_service.Goals as goal

pub overflow_cast-wire : goal.overflow_cast-wire
overflow_cast-wire c =
    let short = c.as_wire-wire.ensures.proper.short in
    omega (arith, ap length c.as_wire-wire.ensures.value, length-spelled c.args.target.now, short)

pub overflow_add-wire : goal.overflow_add-wire
overflow_add-wire c =
    let short = c.as_wire-wire.ensures.proper.short in
    omega (arith, ap length c.as_wire-wire.ensures.value, length-spelled c.args.target.now, short)

pub returns : goal.returns
unfolding put_data
returns c =
    let target = c.args.target.now in
    let n = length (spelled target) + 7 in
    let long : length c.as_wire-wire.result.now + 7 ≡ n = ap (λ (t : List ℕ). length t + 7) c.as_wire-wire.ensures.value in
    let p = slice_index c.args.numbers 0 in
    let w = slice_index c.args.numbers 1 in
    let port = slice_index c.args.numbers 2 in
    let begun : c.put_few.new.self ≡ put_u16 (put_u16 (put_u16 (put_u16 (put_u32 (put_u16 (put_u16 c.args.writer.now kinds.SRV) c.args.class) c.args.ttl) n) p) w) port =
    c.in_ok-put_few.ensures
    ∙ service_at_once c.args.writer.now c.to_be_bytes-kind.result c.to_be_bytes-class.result c.to_be_bytes-ttl.result c.to_be_bytes-length.result c.to_be_bytes-priority.result c.to_be_bytes-weight.result c.to_be_bytes-port.result
    kinds.SRV c.args.class c.args.ttl n p w port c.to_be_bytes-kind.ensures c.to_be_bytes-class.ensures c.to_be_bytes-ttl.ensures (c.to_be_bytes-length.ensures ∙ ap (to_be_bytes w16) long) c.to_be_bytes-priority.ensures c.to_be_bytes-weight.ensures c.to_be_bytes-port.ensures in
    let named : c.put_labels.new.self ≡ put (put_u16 (put_u16 (put_u16 (put_u16 (put_u32 (put_u16 (put_u16 c.args.writer.now kinds.SRV) c.args.class) c.args.ttl) n) p) w) port) (spelled target) =
    c.in_ok-put_labels.ensures ∙ (λ i. put (begun i) (c.as_wire-wire.ensures.value i)) in
    let whole = ap (λ (d : Draft). put d (0 ∷ [])) named in
    on_ok_weaker c.put_few-2.result (λ (q : c.put_few-2.new.self ≡ put c.put_labels.new.self (0 ∷ [])). q ∙ whole) c.put_few-2.ensures
