use Rattle.std.proofs.Common.{◌≡◌, ◌++◌, ◌-◌, ◌≤◌, string_bytes}
use Rattle.load_maker.specs.Texts.{apex_text, hosts_below}
use Rattle.load_maker.proofs.texts.zone.Given as goal

abbrev pub invariant-loop-host : goal.invariant-loop-host
invariant-loop-host l =
    (string_bytes l.text ≡ apex_text ++ hosts_below l.host) × (l.host ≤ 1000)

abbrev pub decreases-loop-host : goal.decreases-loop-host
decreases-loop-host l = 1000 - l.host
