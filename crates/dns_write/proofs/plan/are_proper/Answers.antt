use Rattle.std.proofs.Common.{subst}
use Rattle.std.proofs.lemmas.List.{take_all}
use Rattle.std.specs.List.{AllByRecursion}
use Rattle.dns_data.specs.Record.{IsProper}
use Rattle.dns_write.proofs.Listings.{all_more}
use Rattle.dns_write.proofs.plan.are_proper.Goals as goal

pub loop-entry-init : goal.loop-entry-init
loop-entry-init c = tt

pub loop-entry-preserved : goal.loop-entry-preserved
loop-entry-preserved c = all_more IsProper c.args.records.now c.loop-entry.entry-index _ c.loop-entry.invariant c.loop-entry-test.true (subst IsProper c.entry-item.is c.is_proper.ensures)

pub returns : goal.returns
returns c = subst (AllByRecursion IsProper) (take_all c.loop-entry.entry-index c.args.records.now c.loop-entry-test.false) c.loop-entry.invariant
