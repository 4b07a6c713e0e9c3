use Rattle.dns_names.proofs.ReverseWalks.{zone_test}
use Rattle.dns_names.proofs.reverse.is_zone.Goals as goal

pub returns : goal.returns
returns c =
    zone_test c.same_letters.result c.as_wire.result.now c.args.zone.now c.args.labels.now c.as_wire.ensures.proper c.as_wire.ensures.value c.requires c.same_letters.ensures
