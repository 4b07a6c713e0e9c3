use Rattle.std.proofs.Common.{refl, sym, ◌∙◌}
use Rattle.dns_wire.specs.Records.{no_more, options}
use Rattle.dns_wire.proofs.message.opt_alone.Goals as goal

pub returns-in-0 : goal.returns-in-0
returns-in-0 c = record {
  authority_start = c.args.at;
  answer_at = no_more (sym c.u16_at.ensures ∙ c.if-u16_at-ne0.false) refl;
  additional_start = c.args.at;
  authority_at = no_more (sym c.u16_at-2.ensures ∙ c.if-u16_at-ne0-2.false) refl;
  behind = c.args.at;
  additional_at = no_more (sym c.u16_at-3.ensures ∙ c.in-0.is) refl;
}

pub returns-in_ok-opt-in-1 : goal.returns-in_ok-opt-in-1
returns-in_ok-opt-in-1 c = record {
  authority_start = c.args.at;
  answer_at = no_more (sym c.u16_at.ensures ∙ c.if-u16_at-ne0.false) refl;
  additional_start = c.args.at;
  authority_at = no_more (sym c.u16_at-2.ensures ∙ c.if-u16_at-ne0-2.false) refl;
  behind = c.in_ok-opt-in-1.field-0-1;
  additional_at = options (sym c.u16_at-3.ensures ∙ c.in-1.is) c.in_ok-opt-in-1.ensures.spelt (no_more refl refl);
}
