-- Marks that are kept one by one, until a growth is refused. This server's own rule.
use Rattle.std.specs.Prelude.{◌≡◌, List, Some, None, OnSome}
use Rattle.outside.specs.Marks.{added}
use Rattle.outside.specs.States.{Journal}
use Rattle.outside.specs.declared.mark.Mark.{Mark}

-- where marks are kept, they were kept before, and just these came behind them
abbrev pub KeepsMore : Journal → Journal → List Mark → Type 0
KeepsMore before after marks = OnSome after (after ≡ added before marks)

-- where a side tells its journal and all marks were kept, they are those of the journal
abbrev pub KeepsTold : Journal → Journal → Type 0
KeepsTold None kept = Unit {0}
KeepsTold (Some told) None = Unit {0}
KeepsTold (Some told) (Some marks) = marks ≡ told
