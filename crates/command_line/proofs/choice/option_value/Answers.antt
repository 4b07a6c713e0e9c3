use Rattle.std.proofs.Common.{sym, ◌∙◌, subst}
use Rattle.command_line.specs.Command.{IsHead}
use Rattle.command_line.proofs.Heads.{differs, no_name, no_value}
use Rattle.command_line.proofs.choice.option_value.Goals as goal

pub returns-in_default : goal.returns-in_default
returns-in_default c value behind head =
    let other = differs c.as_str.result.now c.args.name.now c.if-eq.ensures in
    no_name (λ e. other (c.as_str.ensures ∙ e)) (λ tail e. c.in_default.ensures tail (c.as_str-2.ensures ∙ e)) (subst (λ w. IsHead c.args.name.now value w behind) c.in_ok-first.ensures.cases.0 head)

pub returns-in_default-text_behind : goal.returns-in_default-text_behind
returns-in_default-text_behind c value behind head =
    let other = differs c.as_str.result.now c.args.name.now c.if-eq.ensures in
    no_value (λ e. other (c.as_str.ensures ∙ e)) (sym c.as_str-2.ensures ∙ c.in-Some.ensures) c.in_default-text_behind.ensures (subst (λ w. IsHead c.args.name.now value w behind) c.in_ok-first.ensures.cases.0 head)
