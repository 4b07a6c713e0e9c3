use Rattle.std.proofs.Common.{subst, take}
use Rattle.std.proofs.lemmas.List.{take_all}
use Rattle.dns_write.specs.Tails.{AreListed, AsksRecord, AsksRecords}
use Rattle.dns_write.proofs.Listings.{asks_more}
use Rattle.dns_write.proofs.Tails.{records_asked}
use Rattle.dns_write.proofs.listing.list_records.Goals as goal

pub loop-entry-init : goal.loop-entry-init
loop-entry-init c = record { listed = tt; kept = λ label lacks. lacks }

pub loop-entry-preserved : goal.loop-entry-preserved
loop-entry-preserved c =
    let done = c.if-not-branch.false in
    let before = records_asked (λ name listed label lacks. listed label (c.in_ok-list_record.ensures.kept done label lacks)) (take c.loop-entry.entry-index c.args.records.now) c.loop-entry.invariant.listed in
    record {
      listed = asks_more (AreListed c.list_record.new.labels) c.args.records.now c.loop-entry.entry-index _ before c.loop-entry-test.true (subst (AsksRecord (AreListed c.list_record.new.labels)) c.entry-item.is (c.in_ok-list_record.ensures.listed done));
      kept = λ label lacks. c.loop-entry.invariant.kept label (c.in_ok-list_record.ensures.kept done label lacks);
    }

pub returns-clause-listed : goal.returns-clause-listed
returns-clause-listed c = λ done. subst (AsksRecords (AreListed c.loop-entry.labels)) (take_all c.loop-entry.entry-index c.args.records.now c.loop-entry-test.false) c.loop-entry.invariant.listed

pub returns-clause-kept : goal.returns-clause-kept
returns-clause-kept c = λ done. c.loop-entry.invariant.kept
