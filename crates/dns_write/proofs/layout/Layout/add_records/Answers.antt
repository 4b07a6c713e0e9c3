use Rattle.std.proofs.Common.{◌≡◌, ◌+◌, ◌∷◌, drop, refl, sym, ap, ◌∙◌}
use Rattle.std.proofs.lemmas.List.{drop_all, drop_more}
use Rattle.dns_write.specs.Tails.{laid_records}
use Rattle.dns_write.proofs.Layouts.{lays_records, no_records}
use Rattle.dns_write.proofs.layout.Layout.add_records.Goals as goal

pub loop-entry-init : goal.loop-entry-init
loop-entry-init c = refl

pub loop-entry-preserved : goal.loop-entry-preserved
loop-entry-preserved c =
    let l = c.loop-entry.self in
    let rs = c.args.records.now in
    let i = c.loop-entry.entry-index in
    let rest = drop (i + 1) rs in
    let split : drop i rs ≡ c.entry-item.result ∷ rest = drop_more rs i _ c.loop-entry-test.true ∙ ap (λ r. r ∷ rest) (sym c.entry-item.is) in
    ap (λ t. laid_records t rest) (c.in_ok-add_record.ensures c.if-not-branch.false) ∙ lays_records l c.entry-item.result rest ∙ ap (laid_records l) (sym split) ∙ c.loop-entry.invariant

pub returns : goal.returns
returns c = λ done.
    let l = c.loop-entry.self in
    no_records l ∙ ap (laid_records l) (sym (drop_all c.loop-entry.entry-index c.args.records.now c.loop-entry-test.false)) ∙ c.loop-entry.invariant
