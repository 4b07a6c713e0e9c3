use Rattle.std.proofs.Common.{◌∙◌, sym, ap}
use Rattle.dns_data.specs.Record.{fields_of}
use Rattle.dns_write.specs.Tails.{laid_fields, with_text}
use Rattle.dns_write.proofs.Layouts.{lays_address}
use Rattle.dns_write.proofs.layout.Layout.add_data.Goals as goal

pub returns-in_ok-add_bytes-in-Aaaa : goal.returns-in_ok-add_bytes-in-Aaaa
returns-in_ok-add_bytes-in-Aaaa c = λ done.
    c.in_ok-add_bytes-in-Aaaa.ensures ∙ ap (with_text c.args.self.now) c.to_be_bytes-in-Aaaa.ensures ∙ lays_address c.args.self.now c.in-Aaaa.addr
    ∙ ap (λ r. laid_fields c.args.self.now (fields_of r)) (sym c.in-Aaaa.is)
