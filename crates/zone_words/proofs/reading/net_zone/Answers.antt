use Rattle.std.proofs.Common.{◌≡◌, ◌∙◌, ap, length, arith}
use Rattle.dns_data.specs.{reverse_of}
use Rattle.zone_words.proofs.ReverseZones.{v6_labels}
use Rattle.zone_words.proofs.reading.net_zone.Goals as goal

pub suffix-requires-in-V6 : goal.suffix-requires-in-V6
suffix-requires-in-V6 c =
    let labels : length c.in_ok-name-in-V6.name ≡ 34 = ap length c.in_ok-name-in-V6.ensures ∙ ap (λ addr. length (reverse_of addr)) c.in-V6.is ∙ v6_labels _ in omega arith
