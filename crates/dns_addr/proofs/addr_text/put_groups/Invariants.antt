use Rattle.std.proofs.Common.{◌≡◌, ◌++◌, drop}
use Rattle.std.specs.Prelude.{string_bytes}
use Rattle.dns_addr.specs.AddrText.{more_groups}
use Rattle.dns_addr.proofs.addr_text.put_groups.Given as goal

abbrev pub invariant-loop-group : goal.invariant-loop-group
invariant-loop-group l = string_bytes l.text ++ more_groups (drop l.group-index l.others) ≡ string_bytes l.initial.text ++ more_groups l.others
