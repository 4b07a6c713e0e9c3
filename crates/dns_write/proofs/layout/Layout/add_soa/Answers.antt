use Rattle.std.proofs.Common.{◌≡◌, ◌∙◌, ap}
use Rattle.std.proofs.lemmas.Result.{on_ok_weaker}
use Rattle.dns_write.specs.Tails.{laid_name, with_text}
use Rattle.dns_write.proofs.Layouts.{lays_soa}
use Rattle.dns_write.proofs.layout.Layout.add_soa.Goals as goal

pub returns : goal.returns
returns c =
    let s = c.args.soa.now in
    let l = c.args.self.now in
    let one : c.add_name.new.self ≡ laid_name l s.mname = c.in_ok-add_name.ensures in
    let two : c.add_name-2.new.self ≡ laid_name (laid_name l s.mname) s.rname = c.in_ok-add_name-2.ensures ∙ ap (λ t. laid_name t s.rname) one in
    let three = c.in_ok-add_bytes.ensures ∙ (λ i. with_text (two i) (c.to_be_bytes.ensures i)) in
    let four = c.in_ok-add_bytes-2.ensures ∙ (λ i. with_text (three i) (c.to_be_bytes-2.ensures i)) in
    let five = c.in_ok-add_bytes-3.ensures ∙ (λ i. with_text (four i) (c.to_be_bytes-3.ensures i)) in
    let six = c.in_ok-add_bytes-4.ensures ∙ (λ i. with_text (five i) (c.to_be_bytes-4.ensures i)) in
    on_ok_weaker c.add_bytes-5.result (λ p. p ∙ (λ i. with_text (six i) (c.to_be_bytes-5.ensures i)) ∙ lays_soa l s) c.add_bytes-5.ensures
