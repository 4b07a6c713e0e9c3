use Rattle.std.proofs.Common.{◌≡◌, length, reverse}
use Rattle.lent_caches.specs.Held.{AreApart, caches_data, given_all}
use Rattle.lent_caches.specs.Ledger.{AllHeld}
use Rattle.chain_build.specs.Lending.{uses_lents}
use Rattle.chain_build.proofs.lending.give_uses.Given as goal

abbrev pub invariant-loop-cache : goal.invariant-loop-cache
invariant-loop-cache l = record {
  given : given_all (uses_lents (reverse l.uses.items)) (caches_data l.caches) ≡ given_all (uses_lents l.fn.uses.items) (caches_data l.fn.caches);
  held : AllHeld (uses_lents (reverse l.uses.items)) (caches_data l.caches);
  apart : AreApart (caches_data l.caches);
}

abbrev pub decreases-loop-cache : goal.decreases-loop-cache
decreases-loop-cache l = length l.uses.items
