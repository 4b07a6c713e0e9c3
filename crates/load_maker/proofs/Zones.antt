-- All hosts make the zone.
use Rattle.std.proofs.Common.{◌≡◌, ◌≤◌, ◌++◌, ◌∙◌, ℕ, List, ap, arith}
use Rattle.load_maker.specs.Texts.{apex_text, hosts_below, zone_text}

pub zone_is : (host : ℕ) (text : List ℕ) → text ≡ apex_text ++ hosts_below host → host ≤ 1000 → 1000 ≤ host → text ≡ zone_text
unfolding zone_text
zone_is host text is most least = let all : host ≡ 1000 = omega (arith, most, least) in is ∙ ap (λ (n : ℕ). apex_text ++ hosts_below n) all
