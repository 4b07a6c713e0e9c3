use Rattle.std.proofs.Common.{◌≡◌, [], ◌∷◌, ap, ◌∙◌}
use Rattle.std.proofs.lemmas.Result.{on_ok_weaker}
use Rattle.std.specs.Prelude.{slice_index}
use Rattle.dns_write.specs.Written.{Draft, put, put_name, put_u32}
use Rattle.dns_write.proofs.Swaps.{times_at_once}
use Rattle.dns_write.proofs.write_record.put_soa.Goals as goal

pub returns : goal.returns
returns c =
    let soa = c.args.soa.now in
    let named : c.put_name-2.new.self ≡ put_name (put_name c.args.writer.now soa.mname) soa.rname = c.in_ok-put_name-2.ensures.text ∙ ap (λ (d : Draft). put_name d soa.rname) c.in_ok-put_name.ensures.text in
    let a = c.to_be_bytes-serial.result in
    let b = c.to_be_bytes-refresh.result in
    let e = c.to_be_bytes-retry.result in
    let f = c.to_be_bytes-expire.result in
    let g = c.to_be_bytes-minimum.result in
    let whole = times_at_once c.put_name-2.new.self a b e f g soa.serial soa.refresh soa.retry soa.expire soa.minimum c.to_be_bytes-serial.ensures c.to_be_bytes-refresh.ensures c.to_be_bytes-retry.ensures c.to_be_bytes-expire.ensures c.to_be_bytes-minimum.ensures
    ∙ ap (λ (d : Draft). put_u32 (put_u32 (put_u32 (put_u32 (put_u32 d soa.serial) soa.refresh) soa.retry) soa.expire) soa.minimum) named in
    on_ok_weaker c.put_few.result (λ (p : c.put_few.new.self ≡ put c.put_name-2.new.self (slice_index a 0 ∷ slice_index a 1 ∷ slice_index a 2 ∷ slice_index a 3 ∷ slice_index b 0 ∷ slice_index b 1 ∷ slice_index b 2 ∷ slice_index b 3 ∷ slice_index e 0 ∷ slice_index e 1 ∷ slice_index e 2 ∷ slice_index e 3 ∷ slice_index f 0 ∷ slice_index f 1 ∷ slice_index f 2 ∷ slice_index f 3 ∷ slice_index g 0 ∷ slice_index g 1 ∷ slice_index g 2 ∷ slice_index g 3 ∷ [])). p ∙ whole) c.put_few.ensures
