use Rattle.std.proofs.Common.{rules, ◌≡◌, ap, subst, sym, ◌∙◌, List, ℕ}
use Rattle.std.specs.Str.{IsUtf8}
use Rattle.dns_names.specs.NameText.{name_of, name_text}
use Rattle.dns_names.specs.NameTextLaws.{are_bytes, reads_back}
use Rattle.dns_names.proofs.PrintedNames.{utf8_text}
use Rattle.dns_names.proofs.name.Name.text.Goals as goal

pub text_of-requires : goal.text_of-requires
text_of-requires c =
    let is : c.print.new.text.items ≡ name_text c.args.self.now = search rules in
    subst IsUtf8 (sym is) (utf8_text c.args.self.now (are_bytes c.as_wire.result.now c.args.self.now c.as_wire.ensures.value c.are_bytes.ensures))

pub returns-clause-read : goal.returns-clause-read
returns-clause-read c =
    let is : c.text_of.result ≡ name_text c.args.self.now = search rules in
    λ origin. ap (λ (t : List ℕ). name_of t origin) is
    ∙ reads_back c.args.self.now origin c.as_wire.ensures.proper (are_bytes c.as_wire.result.now c.args.self.now c.as_wire.ensures.value c.are_bytes.ensures)
