use Rattle.std.proofs.Common.{◌≡◌, ℕ, ◌+◌, [], ◌∷◌, length, ap, refl, sym, subst, ◌∙◌, arith, length-append}
use Rattle.dns_data.specs.Record.{RecordData, kind_of, data_length, owned_by}
use Rattle.std.proofs.lemmas.Result.{on_ok_weaker}
use Rattle.dns_data.specs.declared.record.Rdata.TheVariants as rdata
use Rattle.dns_data.specs.declared.kind.TheConstants as kinds
use Rattle.dns_names.specs.Name.{spelled}
use Rattle.dns_write.proofs.Swaps.{head_by, a_record, aaaa_record, srv_record}
use Rattle.dns_write.specs.Written.{Draft, put, put_u16, put_u32, put_name, put_data, put_record, with_length}
use Rattle.dns_write.proofs.Drafts.{Grown, grown-data, filled, data_size, record_by_parts}
use Rattle.dns_write.proofs.write_record.put_record.Goals as goal

-- a record with this TTL
abbrev timed_as : RecordData → ℕ → RecordData
timed_as r ttl = owned_by r.owner ttl r

pub fill_length-requires-clause-inside : goal.fill_length-requires-clause-inside
fill_length-requires-clause-inside g c =
    let size = data_size c.put_head-in_default.new.writer c.put_data.new.writer c.rr.inside.rdata c.in_ok-put_data-in_default.ensures in
    omega (arith, size.0, c.len-at.ensures)

pub fill_length-requires-clause-small : goal.fill_length-requires-clause-small
fill_length-requires-clause-small g c =
    let size = data_size c.put_head-in_default.new.writer c.put_data.new.writer c.rr.inside.rdata c.in_ok-put_data-in_default.ensures in
    omega (arith, size.1, c.len-at.ensures, c.rr.invariant.rdata.short)

pub returns-in_ok-put_data-in_default-clause-text : goal.returns-in_ok-put_data-in_default-clause-text
returns-in_ok-put_data-in_default-clause-text g c =
    let r : RecordData = record { owner = c.rr.inside.owner; class = c.rr.inside.class; ttl = c.ttl-ttl.result; rdata = c.rr.inside.rdata } in
    let named : c.put_name.new.self ≡ put_name c.args.writer.now r.owner = c.in_ok-put_name.ensures.text in
    let head = put_u32 (put_u16 (put_u16 (put_name c.args.writer.now r.owner) (kind_of r.rdata)) r.class) r.ttl in
    let begun : c.put_head-in_default.new.writer ≡ put_u16 head 0 =
    c.in_ok-put_head-in_default.ensures ∙ (λ i. put_u16 (put_u32 (put_u16 (put_u16 (named i) (c.kind-kind.ensures i)) r.class) r.ttl) 0) in
    let more : c.put_data.new.writer ≡ put_data (put_u16 head 0) r.rdata = c.in_ok-put_data-in_default.ensures ∙ ap (λ (d : Draft). put_data d r.rdata) begun in
    let grown : Grown (put_u16 head 0) c.put_data.new.writer 0 (data_length r.rdata) =
    subst (λ (e : Draft). Grown (put_u16 head 0) e 0 (data_length r.rdata)) (sym more) (grown-data (put_u16 head 0) r.rdata) in
    let at : c.len-at.result ≡ length head.bytes + 14 = omega (arith, c.len-at.ensures, ap (λ (d : Draft). length d.bytes) begun, length-append head.bytes (0 ∷ 0 ∷ [])) in
    c.fill_length.ensures ∙ filled head c.put_data.new.writer c.len-at.result (data_length r.rdata) at grown ∙ ap (with_length head) more
    ∙ record_by_parts c.args.writer.now r ∙ ap (put_record c.args.writer.now) (λ j. timed_as (c.rr.view_is j) (c.ttl-ttl.ensures.is j))

pub returns-in-A-clause-text : goal.returns-in-A-clause-text
returns-in-A-clause-text g c =
    let r : RecordData = record { owner = c.rr.inside.owner; class = c.rr.inside.class; ttl = c.ttl-ttl.result; rdata = c.rr.inside.rdata } in
    let kind = c.kind-kind.ensures ∙ ap kind_of c.in-A.is in
    let begun : put_u32 (put_u16 (put_u32 (put_u16 (put_u16 c.put_name.new.self c.kind-kind.result) r.class) r.ttl) 4) c.in-A.addr ≡ put_u32 (put_u16 (head_by c.args.writer.now r (rdata.A c.in-A.addr)) 4) c.in-A.addr =
    λ i. put_u32 (put_u16 (put_u32 (put_u16 (put_u16 (c.in_ok-put_name.ensures.text i) (kind i)) r.class) r.ttl) 4) c.in-A.addr in
    let whole = begun ∙ a_record c.args.writer.now r c.in-A.addr c.in-A.is ∙ ap (put_record c.args.writer.now) (λ j. timed_as (c.rr.view_is j) (c.ttl-ttl.ensures.is j)) in
    on_ok_weaker c.put_address.result (λ (p : c.put_address.new.writer ≡ put_u32 (put_u16 (put_u32 (put_u16 (put_u16 c.put_name.new.self c.kind-kind.result) r.class) r.ttl) 4) c.in-A.addr). p ∙ whole) c.put_address.ensures

pub returns-in_ok-put_head-in-Aaaa-clause-text : goal.returns-in_ok-put_head-in-Aaaa-clause-text
returns-in_ok-put_head-in-Aaaa-clause-text g c =
    let r : RecordData = record { owner = c.rr.inside.owner; class = c.rr.inside.class; ttl = c.ttl-ttl.result; rdata = c.rr.inside.rdata } in
    let kind = c.kind-kind.ensures ∙ ap kind_of c.in-Aaaa.is in
    let begun : c.put_head.new.writer ≡ put_u16 (head_by c.args.writer.now r (rdata.Aaaa c.in-Aaaa.addr)) 16 =
    c.in_ok-put_head-in-Aaaa.ensures ∙ (λ i. put_u16 (put_u32 (put_u16 (put_u16 (c.in_ok-put_name.ensures.text i) (kind i)) r.class) r.ttl) 16) in
    let whole = (λ i. put (begun i) (c.to_be_bytes.ensures i)) ∙ aaaa_record c.args.writer.now r c.in-Aaaa.addr c.in-Aaaa.is ∙ ap (put_record c.args.writer.now) (λ j. timed_as (c.rr.view_is j) (c.ttl-ttl.ensures.is j)) in
    on_ok_weaker c.put_few.result (λ (p : c.put_few.new.self ≡ put c.put_head.new.writer c.to_be_bytes.result). p ∙ whole) c.put_few.ensures

pub returns-in-Srv-clause-text : goal.returns-in-Srv-clause-text
returns-in-Srv-clause-text g c =
    let r : RecordData = record { owner = c.rr.inside.owner; class = c.rr.inside.class; ttl = c.ttl-ttl.result; rdata = c.rr.inside.rdata } in
    let target = c.in-Srv.target in
    let n = length (spelled target) + 7 in
    let srv = rdata.Srv c.in-Srv.priority c.in-Srv.weight c.in-Srv.port target in
    let begun : put_data (put_u16 (put_u32 (put_u16 (put_u16 c.put_name.new.self kinds.SRV) r.class) r.ttl) n) srv ≡ put_data (put_u16 (head_by c.args.writer.now r srv) n) srv =
    λ i. put_data (put_u16 (put_u32 (put_u16 (put_u16 (c.in_ok-put_name.ensures.text i) kinds.SRV) r.class) r.ttl) n) srv in
    let whole = begun ∙ srv_record c.args.writer.now r _ _ _ n target c.in-Srv.is refl ∙ ap (put_record c.args.writer.now) (λ j. timed_as (c.rr.view_is j) (c.ttl-ttl.ensures.is j)) in
    on_ok_weaker c.put_service.result (λ (p : c.put_service.new.writer ≡ put_data (put_u16 (put_u32 (put_u16 (put_u16 c.put_name.new.self kinds.SRV) r.class) r.ttl) n) srv). p ∙ whole) c.put_service.ensures
