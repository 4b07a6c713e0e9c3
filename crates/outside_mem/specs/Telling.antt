-- What is told one mark at a time, until a growth is refused. This server's own rule.
use Rattle.std.specs.Prelude.{◌≡◌, List, [], ◌∷◌, ◌++◌, Option, Some, None, OnSome}
use Rattle.outside.specs.Hosts.{HostTold, host_added}

-- what was told, with one mark behind it
abbrev pub with_mark : {T : Type 0} → Option (List T) → T → Option (List T)
with_mark None mark = None
with_mark (Some before) mark = Some (before ++ mark ∷ [])

-- where it is told, it was told before, and just this mark came behind it
pub record TellsMark {T : Type 0} (old new : Option (List T)) (mark : T) : Type 0 where
  pub told : OnSome new (new ≡ with_mark old mark)

-- of a host: where it is told, it was told before, and just this came behind it
pub record TellsMore (old new : Option HostTold) (more : HostTold) : Type 0 where
  pub told : OnSome new (new ≡ host_added old more)
