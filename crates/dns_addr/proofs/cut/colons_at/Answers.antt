use Rattle.std.proofs.Common.{sym, ap, ◌∙◌}
use Rattle.std.proofs.lemmas.List.{take_rest}
use Rattle.dns_addr.specs.AddrText.{begins_colons}
use Rattle.dns_addr.proofs.ReadAddrs.{no_colons}
use Rattle.dns_addr.proofs.cut.colons_at.Goals as goal

pub loop-at-preserved : goal.loop-at-preserved
loop-at-preserved c =
    c.loop-at.invariant
    ∙ no_colons c.args.text.now c.loop-at.at c.loop-at-test.true (ap begins_colons (sym (take_rest c.args.text.now c.loop-at.at)) ∙ sym c.begins_colons.ensures.value ∙ c.if-begins_colons.false)
