use Rattle.std.proofs.Common.{◌≡◌, ◌+◌, ℕ, List, length, reverse, vec_len, vec_capacity}
use Rattle.extra_stock.specs.{in_chains, names_weigh, seats_of_chains}
use Rattle.lent_caches.specs.Held.{AreApart, caches_data, given_all}
use Rattle.lent_caches.specs.Ledger.{AllHeld}
use Rattle.plugin_api.specs.{Obey}
use Rattle.chain_build.specs.Workers.{chain_extras, chains_lents}
use Rattle.chain_build.proofs.building.give_chains.Given as goal

abbrev pub invariant-loop-chain : goal.invariant-loop-chain
invariant-loop-chain g l = record {
  obey : Obey g.B.Rulebook.taken g.B.Rulebook.said g.E.Extra.title g.E.Extra.takes g.E.Extra.ruling l.stock.spare.items;
  weighs : (w : List ℕ → ℕ) → names_weigh g.E.Extra.title w l.stock.spare.items + in_chains chain_extras w l.chains.items ≡ names_weigh g.E.Extra.title w l.fn.stock.spare.items + in_chains chain_extras w l.fn.chains.items;
  len : vec_len l.stock.spare + seats_of_chains chain_extras l.chains.items ≡ vec_len l.fn.stock.spare + seats_of_chains chain_extras l.fn.chains.items;
  capacity : vec_capacity l.stock.spare ≡ vec_capacity l.fn.stock.spare;
  kept : vec_capacity l.chains ≡ vec_capacity l.fn.chains;
  judges : l.stock.judges ≡ l.fn.stock.judges;
  given : given_all (chains_lents (reverse l.chains.items)) (caches_data l.caches) ≡ given_all (chains_lents l.fn.chains.items) (caches_data l.fn.caches);
  held : AllHeld (chains_lents (reverse l.chains.items)) (caches_data l.caches);
  apart : AreApart (caches_data l.caches);
}

abbrev pub decreases-loop-chain : goal.decreases-loop-chain
decreases-loop-chain g l = length l.chains.items
