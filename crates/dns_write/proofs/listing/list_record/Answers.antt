use Rattle.std.proofs.Common.{subst}
use Rattle.dns_write.specs.Tails.{AreListed, AsksRecord}
use Rattle.dns_write.proofs.Listings.{by_rdata}
use Rattle.dns_write.proofs.listing.list_record.Goals as goal

pub returns-in-A-clause-listed : goal.returns-in-A-clause-listed
returns-in-A-clause-listed c = λ done.
    subst (AsksRecord (AreListed c.list_labels.new.labels)) c.entry.view_is (by_rdata _ _ _ _ _ c.in-A.is c.in_ok-list_labels.ensures.listed (tt, tt))

pub returns-in-Aaaa-clause-listed : goal.returns-in-Aaaa-clause-listed
returns-in-Aaaa-clause-listed c = λ done.
    subst (AsksRecord (AreListed c.list_labels.new.labels)) c.entry.view_is (by_rdata _ _ _ _ _ c.in-Aaaa.is c.in_ok-list_labels.ensures.listed (tt, tt))

pub returns-in_ok-list_labels-in-Ns-clause-kept : goal.returns-in_ok-list_labels-in-Ns-clause-kept
returns-in_ok-list_labels-in-Ns-clause-kept c = λ done label lacks. c.in_ok-list_labels.ensures.kept label (c.in_ok-list_labels-in-Ns.ensures.kept label lacks)

pub returns-in_ok-list_labels-in-Ns-clause-listed : goal.returns-in_ok-list_labels-in-Ns-clause-listed
returns-in_ok-list_labels-in-Ns-clause-listed c = λ done.
    let owner : AreListed c.list_labels-in-Ns.new.labels c.entry.inside.owner = λ label lacks. c.in_ok-list_labels.ensures.listed label (c.in_ok-list_labels-in-Ns.ensures.kept label lacks) in
    subst (AsksRecord (AreListed c.list_labels-in-Ns.new.labels)) c.entry.view_is (by_rdata _ _ _ _ _ c.in-Ns.is owner (c.in_ok-list_labels-in-Ns.ensures.listed, tt))

pub returns-in_ok-list_labels-in-Soa-2-clause-kept : goal.returns-in_ok-list_labels-in-Soa-2-clause-kept
returns-in_ok-list_labels-in-Soa-2-clause-kept c = λ done label lacks.
    c.in_ok-list_labels.ensures.kept label (c.in_ok-list_labels-in-Soa.ensures.kept label (c.in_ok-list_labels-in-Soa-2.ensures.kept label lacks))

pub returns-in_ok-list_labels-in-Soa-2-clause-listed : goal.returns-in_ok-list_labels-in-Soa-2-clause-listed
returns-in_ok-list_labels-in-Soa-2-clause-listed c = λ done.
    let first : AreListed c.list_labels-in-Soa-2.new.labels c.in-Soa.soa.mname = λ label lacks. c.in_ok-list_labels-in-Soa.ensures.listed label (c.in_ok-list_labels-in-Soa-2.ensures.kept label lacks) in
    let owner : AreListed c.list_labels-in-Soa-2.new.labels c.entry.inside.owner = λ label lacks. c.in_ok-list_labels.ensures.listed label (c.in_ok-list_labels-in-Soa.ensures.kept label (c.in_ok-list_labels-in-Soa-2.ensures.kept label lacks)) in
    subst (AsksRecord (AreListed c.list_labels-in-Soa-2.new.labels)) c.entry.view_is (by_rdata _ _ _ _ _ c.in-Soa.is owner (first, (c.in_ok-list_labels-in-Soa-2.ensures.listed, (tt, (tt, (tt, (tt, (tt, tt))))))))
