use Rattle.std.proofs.Common.{◌∙◌, ◌++◌, List, ℕ, ap, string_bytes}
use Rattle.std.specs.Fmt.{decimal}
use Rattle.load_maker.proofs.Labels.{label_short}
use Rattle.load_maker.proofs.queries.first_label.Goals as goal

pub returns-clause-short : goal.returns-clause-short
returns-clause-short c =
    label_short c.args.number (string_bytes c.put_decimal.new.text)
    (c.in_ok-put_decimal.ensures ∙ ap (λ (h : List ℕ). h ++ decimal c.args.number) c.in_ok-label.ensures.ok) c.requires
