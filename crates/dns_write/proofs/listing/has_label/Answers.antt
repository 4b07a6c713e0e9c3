use Rattle.std.proofs.Common.{◌∙◌, sym, subst}
use Rattle.std.proofs.lemmas.List.{take_all}
use Rattle.dns_write.specs.Tails.{Lacks}
use Rattle.dns_write.proofs.Listings.{lacks_more}
use Rattle.dns_write.proofs.listing.has_label.Goals as goal

pub loop-other-preserved : goal.loop-other-preserved
loop-other-preserved c =
    lacks_more c.args.label.now c.args.labels.now c.loop-other.other-index _ c.loop-other.invariant c.loop-other-test.true
    (λ same. absurd (let e = sym c.if-are_equal.false ∙ c.are_equal.ensures.1 (c.as_slice.ensures ∙ c.other-item.is ∙ same) in cc))

pub returns-clause-missing : goal.returns-clause-missing
returns-clause-missing c = λ none. subst (Lacks c.args.label.now) (take_all c.loop-other.other-index c.args.labels.now c.loop-other-test.false) c.loop-other.invariant
