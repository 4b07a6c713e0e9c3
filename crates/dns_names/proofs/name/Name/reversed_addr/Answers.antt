use Rattle.std.proofs.Common.{sym, ap, subst, ◌∙◌}
use Rattle.dns_names.specs.ReverseNames.{StandsFor, v4_reversed, nibbles_back}
use Rattle.dns_names.proofs.ReversedAddrs.{v4_sound, v6_addr_sound, no_addr}
use Rattle.dns_names.proofs.name.Name.reversed_addr.Goals as goal

pub returns-in-Some-clause-stands : goal.returns-in-Some-clause-stands
returns-in-Some-clause-stands c = v4_sound c.args.self.now c.in-Some.addr (ap v4_reversed (sym c.labels.ensures) ∙ sym c.in-Some.ensures)

pub returns-in_err-nibbles_back-clause-stands : goal.returns-in_err-nibbles_back-clause-stands
returns-in_err-nibbles_back-clause-stands c =
    subst (StandsFor c.args.self.now) (sym c.from_residual.ensures)
    (no_addr c.args.self.now (ap v4_reversed (sym c.labels.ensures) ∙ sym c.in_default.ensures) (ap (nibbles_back 32) (sym c.labels-2.ensures) ∙ sym c.in_err-nibbles_back.ensures.value))

pub returns-clause-stands : goal.returns-clause-stands
returns-clause-stands c =
    v6_addr_sound c.args.self.now c.in_ok-nibbles_back.field-0 (ap (nibbles_back 32) (sym c.labels-2.ensures) ∙ sym c.in_ok-nibbles_back.ensures.value)
