use Rattle.std.proofs.Common.{rules, ◌≡◌, ◌∙◌, ap, sym, refl}
use Rattle.dns_names.specs.NameText.{name_text}
use Rattle.dns_names.specs.NameTextLaws.{are_bytes}
use Rattle.dns_names.proofs.PrintedNames.{lower_over}
use Rattle.dns_names.proofs.name.Name.print_lower.Goals as goal

pub returns-then-branch : goal.returns-then-branch
returns-then-branch c =
    let printed : c.print.new.text.items ≡ name_text c.args.self.now = search rules in
    printed ∙ ap name_text (sym (c.in_ok-print.ensures.small c.if-branch.true))

pub returns : goal.returns
returns c =
    let bytes = are_bytes c.as_wire.result.now c.args.self.now c.as_wire.ensures.value c.are_bytes.ensures in
    let printed : c.print.new.text.items ≡ name_text c.args.self.now = search rules in
    lower_over c.args.self.now c.print.new.text.items c.deref_mut.result.now c.make_ascii_lowercase.new.self c.print.new.text.len bytes printed c.deref_mut.ensures.value c.deref_mut.ensures.len c.make_ascii_lowercase.ensures.after
