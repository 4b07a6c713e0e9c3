use Rattle.std.proofs.Common.{◌≡◌, ◌++◌, [], ◌∷◌, sym, ap, ◌∙◌}
use Rattle.std.proofs.lemmas.Result.{on_ok_weaker}
use Rattle.dns_names.specs.Name.{spelled}
use Rattle.dns_write.specs.Written.{Draft, put, put_name}
use Rattle.dns_write.specs.Offsets.{suffixes_at}
use Rattle.dns_write.proofs.FirstName.{first_written}
use Rattle.dns_write.proofs.writer.Writer.put_first_labels.Goals as goal

pub returns-clause-text : goal.returns-clause-text
returns-clause-text c =
    let name = c.args.name.now in
    let start : Draft = record { bytes = []; offsets = suffixes_at 12 name } in
    let bytes = ap (λ (d : Draft). d.bytes) (c.self.view_is ∙ c.requires) in
    on_ok_weaker c.put_labels.result
    (λ p.
    let labels : c.put_labels.new.self ≡ put start (spelled name) = p ∙ (λ i. record { bytes = bytes i ++ c.as_wire.ensures.value i; offsets = c.set_first.ensures i }) in
    ap (λ (d : Draft). put d (0 ∷ [])) labels ∙ sym (first_written name c.as_wire.ensures.proper) ∙ ap (λ (d : Draft). put_name d name) (sym c.requires))
    c.put_labels.ensures
