use Rattle.std.proofs.Common.{◌≡◌, [], ◌∷◌, ◌∙◌}
use Rattle.std.proofs.lemmas.Result.{on_ok_weaker}
use Rattle.std.specs.Prelude.{slice_index}
use Rattle.dns_write.specs.Written.{put}
use Rattle.dns_write.proofs.Swaps.{address_at_once}
use Rattle.dns_write.proofs.write_record.put_address.Goals as goal

pub returns : goal.returns
returns c =
    let k = c.to_be_bytes-kind.result in
    let s = c.to_be_bytes-class.result in
    let t = c.to_be_bytes-ttl.result in
    let a = c.to_be_bytes-addr.result in
    let whole = address_at_once c.args.writer.now k s t a c.args.kind c.args.class c.args.ttl c.args.addr c.to_be_bytes-kind.ensures c.to_be_bytes-class.ensures c.to_be_bytes-ttl.ensures c.to_be_bytes-addr.ensures in
    on_ok_weaker c.put_few.result (λ (p : c.put_few.new.self ≡ put c.args.writer.now (slice_index k 0 ∷ slice_index k 1 ∷ slice_index s 0 ∷ slice_index s 1 ∷ slice_index t 0 ∷ slice_index t 1 ∷ slice_index t 2 ∷ slice_index t 3 ∷ 0 ∷ 4 ∷ slice_index a 0 ∷ slice_index a 1 ∷ slice_index a 2 ∷ slice_index a 3 ∷ [])). p ∙ whole) c.put_few.ensures
