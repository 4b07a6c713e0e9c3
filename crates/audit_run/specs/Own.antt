-- Which marks serving a datagram makes; the others are those of a turn. This server's own rule.
use Rattle.std.specs.Prelude.{◌≡◌, Bool, true, false, List, [], ◌∷◌, if◌then◌else◌}
use Rattle.outside.specs.declared.mark.Mark.{Mark}
use Rattle.outside.specs.declared.mark.Mark.TheVariants.{Got, RecvEnd, RecvFailed, Sent, Pinned}
use Rattle.outside.specs.declared.mark.Mark.TheVariants.{Unpinned}

abbrev pub is_own : Mark → Bool
is_own (Got d) = false
is_own RecvEnd = false
is_own RecvFailed = false
is_own (Sent reply out) = false
is_own (Pinned serial) = false
is_own (Unpinned serial) = false
is_own mark = true

abbrev pub AllOwn : List Mark → Type 0
AllOwn [] = Unit {0}
AllOwn (mark ∷ marks) = (is_own mark ≡ true) × AllOwn marks

-- those in front that serving made
abbrev pub own_part : List Mark → List Mark
own_part [] = []
own_part (mark ∷ marks) = if is_own mark then mark ∷ own_part marks else []

-- and what stands behind them
abbrev pub behind_own : List Mark → List Mark
behind_own [] = []
behind_own (mark ∷ marks) = if is_own mark then behind_own marks else mark ∷ marks
