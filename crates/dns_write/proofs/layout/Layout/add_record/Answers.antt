use Rattle.std.proofs.Common.{◌≡◌, length, ap, ◌∙◌, arith}
use Rattle.dns_data.specs.Record.{fields_of}
use Rattle.dns_write.specs.Tails.{filled_in, head_bytes, laid_fields, laid_name, with_text}
use Rattle.dns_write.proofs.Layouts.{lays_record}
use Rattle.dns_write.proofs.layout.Layout.add_record.Goals as goal

pub returns : goal.returns
returns c = λ done.
    let l = c.args.self.now in
    let r = c.args.entry.now in
    let one : c.add_name.new.self ≡ laid_name l r.owner = c.in_ok-add_name.ensures ∙ ap (λ e. laid_name l e.owner) c.entry.view_is in
    let two : c.add_head.new.self ≡ with_text (laid_name l r.owner) (head_bytes r 0) = c.in_ok-add_head.ensures ∙ ap (λ t. with_text t (head_bytes r 0)) one in
    let three : c.add_data.new.self ≡ laid_fields (with_text (laid_name l r.owner) (head_bytes r 0)) (fields_of r.rdata) =
    c.in_ok-add_data.ensures c.if-not-branch.false ∙ (λ i. laid_fields (two i) (fields_of (c.entry.view_is i).rdata)) in
    let at : c.len-at.result ≡ length (with_text (laid_name l r.owner) (head_bytes r 0)).text = omega (arith, c.len-at.ensures, ap (λ t. length t.text) c.self.view_is, ap (λ t. length t.text) two) in
    c.fill_length.ensures done ∙ ap (λ t. filled_in t c.len-at.result) three ∙ lays_record l r c.len-at.result at
