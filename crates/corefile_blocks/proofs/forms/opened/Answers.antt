use Rattle.std.proofs.Common.{sym, ◌∙◌}
use Rattle.corefile_blocks.proofs.LineLemmas.{ends_else, ends_open}
use Rattle.corefile_blocks.proofs.forms.opened.Goals as goal

pub returns-then-is_open : goal.returns-then-is_open
returns-then-is_open c =
    sym (ends_open c.args.words.now c.in_ok-last.front.now c.in_ok-last.last.now c.in_ok-last.ensures.cases.0 (sym c.is_open.ensures ∙ c.if-is_open.true))

pub returns : goal.returns
returns c =
    sym (ends_else c.args.words.now c.in_ok-last.front.now c.in_ok-last.last.now c.in_ok-last.ensures.cases.0 (sym c.is_open.ensures ∙ c.if-is_open.false))
