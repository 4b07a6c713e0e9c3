use Rattle.std.proofs.Common.{◌≡◌, ◌+◌, ◌-◌, ◌*◌, ◌≤◌, ℕ, List, All, length, vec_len, vec_capacity}
use Rattle.std.specs.Arc.{arc_value}
use Rattle.extra_stock.specs.{asked_by, in_chains, names_weigh, seats_in, seats_of_chains}
use Rattle.lent_caches.specs.Building.{AreNewUses, lent_times}
use Rattle.lent_caches.specs.Held.{caches_data}
use Rattle.lent_caches.specs.TimesLaws.{copies}
use Rattle.chain_build.specs.Lending.{chain_names}
use Rattle.chain_build.specs.Shares.{HaveParts}
use Rattle.pin_table.specs.{AreNew}
use Rattle.plugin_api.specs.{Obey}
use Rattle.chain_build.specs.Uses.{ArePooled}
use Rattle.chain_build.specs.Workers.{chain_extras, chain_identity, chain_log, chains_lents, plans_of}
use Rattle.chain_build.proofs.building.build_chains.Given as goal

abbrev pub invariant-loop-worker : goal.invariant-loop-worker
invariant-loop-worker g l = record {
  obey : Obey g.B.Rulebook.taken g.B.Rulebook.said g.E.Extra.title g.E.Extra.takes g.E.Extra.ruling l.stock.spare.items;
  weighs : (w : List ℕ → ℕ) → names_weigh g.E.Extra.title w l.stock.spare.items + l.worker * asked_by w (arc_value l.plans).extras ≡ names_weigh g.E.Extra.title w l.fn.stock.spare.items;
  in_chains : (w : List ℕ → ℕ) → in_chains chain_extras w l.chains.items ≡ l.worker * asked_by w (arc_value l.plans).extras;
  in_seats : seats_of_chains chain_extras l.chains.items ≡ l.worker * seats_in (arc_value l.plans).extras;
  len : vec_len l.stock.spare + l.worker * seats_in (arc_value l.plans).extras ≡ vec_len l.fn.stock.spare;
  count : length l.chains.items ≡ l.worker;
  new : AreNew chain_identity chain_log l.serial 0 l.chains.items;
  plans : All (λ c. plans_of c ≡ arc_value l.plans) l.chains.items;
  room : l.workers ≤ vec_capacity l.chains;
  capacity : vec_capacity l.stock.spare ≡ vec_capacity l.fn.stock.spare;
  judges : l.stock.judges ≡ l.fn.stock.judges;
  pooled : ArePooled (arc_value l.plans).chains l.shared.items;
  parts : All (HaveParts (l.workers + 1 - l.worker)) l.shared.items;
  lent : caches_data l.caches ≡ lent_times l.worker (chain_names (arc_value l.plans).chains) (caches_data l.fn.caches);
  lents : AreNewUses (copies l.worker (chain_names (arc_value l.plans).chains)) (caches_data l.fn.caches) (chains_lents l.chains.items);
}
