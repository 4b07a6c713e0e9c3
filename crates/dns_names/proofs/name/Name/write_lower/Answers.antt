use Rattle.std.proofs.Common.{rules, ◌≡◌, subst, sym}
use Rattle.std.specs.Str.{IsUtf8}
use Rattle.dns_names.specs.Name.{lowered}
use Rattle.dns_names.specs.NameText.{name_text}
use Rattle.dns_names.specs.NameTextLaws.{are_bytes}
use Rattle.dns_names.proofs.PrintedNames.{lowered_bytes, utf8_text}
use Rattle.dns_names.proofs.name.Name.write_lower.Goals as goal

pub text_of-requires : goal.text_of-requires
text_of-requires c =
    let bytes = are_bytes c.as_wire.result.now c.args.self.now c.as_wire.ensures.value c.are_bytes.ensures in
    let printed : c.print_lower.new.text.items ≡ name_text (lowered c.args.self.now) = search rules in
    subst IsUtf8 (sym printed) (utf8_text (lowered c.args.self.now) (lowered_bytes c.args.self.now bytes))
