use Rattle.std.proofs.Common.{◌+◌, arith, sym, ap, ◌∙◌}
use Rattle.std.proofs.lemmas.List.{take_rest}
use Rattle.dns_addr.specs.AddrText.{side_groups}
use Rattle.dns_addr.proofs.ReadAddrs.{both_sides}
use Rattle.dns_addr.proofs.v6.read_v6.Goals as goal
use mathlib.Core.Bool.{true}

pub returns : goal.returns
returns c =
    sym (both_sides c.args.text.now c.in_ok-groups-2.groups c.in_ok-back.back c.fill_up.new.self c.in-Some.at c.number-2.result (sym c.in-Some.ensures.value) (sym c.in_ok-groups-2.ensures)
    (ap (side_groups true) (sym (take_rest c.args.text.now (c.in-Some.at + 2))) ∙ sym c.in_ok-back.ensures) (omega (arith, c.if-len-ge8.false, c.len-2.ensures, c.len-3.ensures)) c.fill_up.ensures c.number-2.ensures)
