-- What ended a run, by the seats of the chains that came home.
use Rattle.std.proofs.Common.{◌≡◌, ◌<◌, ◌∙◌, ℕ, ◌==◌, ◌&&◌, Bool, true, false, List, [], ◌∷◌, map, Some, eqb-true, refl, sym}
use Rattle.std.specs.List.{All}
use Rattle.std.proofs.lemmas.List.Elements.{All-head, All-tail}
use Rattle.block_readings.specs.Readings.{BlockReading}
use Rattle.cache_shards.specs.Answers.{IsLegal}
use Rattle.lent_caches.specs.Ledger.{HasGone}
use Rattle.lent_caches.specs.declared.name.CacheName.{CacheName}
use Rattle.one_history.specs.Join.{shard_logs}
use Rattle.one_history.specs.Logs.{Place}
use Rattle.one_history.specs.Names as history
use Rattle.one_history.specs.Names.{AreNamed}
use Rattle.one_history.specs.Runs.{SHARDS, reading}
use Rattle.one_history.specs.Seats.{AreSeats, IsWhole, seat_log}
use Rattle.outside.specs.declared.mark.Mark.{Mark}
use Rattle.pin_table.specs.declared.views.Drain.{Drain}
use Rattle.pin_table.specs.Shown.{IsOther, Once}
use Rattle.plugin_api.specs.declared.extra.Extra as extra
use Rattle.plugin_api.specs.declared.rulebook.Rulebook as rulebook
use Rattle.chain_build.specs.History.{AreNamedBy, AreReadApart, FollowOn, has_cache, names_of, no_generation, readings_of}
use Rattle.chain_build.specs.HistoryLaws.{are_named}
use Rattle.chain_build.specs.HomeLaws.{gone_whole, seats_laid}
use Rattle.chain_build.specs.Naming.{GenerationData, name_at}
use Rattle.chain_build.specs.SeatNamesLaws.{seats_are}
use Rattle.chain_build.specs.Seats.{AreOtherChains, ArePlaced, IsOtherChain, home_of, owner_of, seats_home}
use Rattle.chain_build.specs.Workers.{chains_lents}
use Rattle.chain_build.specs.declared.chain.Chain.{Chain}

module _ {B E : Type 0} {bk : rulebook.Ghosts B} {ex : extra.Ghosts E} where
  -- the cache of this name has gone, and what its capacities allow is legal for these blocks
  pub record GoneFor (legal : BlockReading → List Mark → Type 0) (published : List CacheName) (chains : List (Chain B E bk ex)) (name : CacheName) (reads : BlockReading) : Type 0 where
    pub gone : HasGone published (chains_lents chains) name
    pub fits : (marks : List Mark) → IsLegal gone.cache.capacities marks → legal reads marks

  -- the seats of the chains that came home, at each shard
  pub record HomeSeats (legal : BlockReading → List Mark → Type 0) (gs : List GenerationData) (places : ℕ → List Place) (chains : List (Chain B E bk ex)) : Type 0 where
    pub named : AreNamed has_cache (readings_of gs) (names_of gs)
    pub are : (shard : ℕ) → AreSeats (names_of gs) (seats_home shard chains)
    pub logs : (shard worker serial block : ℕ) → shard < SHARDS → seat_log (seats_home shard chains) worker serial block ≡ shard_logs places (map (λ c. home_of c) chains) shard worker serial block
    pub whole : (name : history.CacheName) (reads : BlockReading) → reading (readings_of gs) name.serial name.block ≡ Some reads → names_of gs name.serial name.block ≡ Some name
        → (shard : ℕ) → shard < SHARDS → IsWhole (legal reads) name (seats_home shard chains)

  -- of chains that are home and caches that have gone, it is as the end of a run asks
  pub home_seats : (legal : BlockReading → List Mark → Type 0) (gs : List GenerationData) (places : ℕ → List Place) (chains : List (Chain B E bk ex)) (published : List CacheName)
      → FollowOn no_generation 0 gs → AreReadApart gs → AreNamedBy (names_of gs) chains → AreOtherChains chains → ArePlaced places chains
      → ((name : history.CacheName) (reads : BlockReading) → reading (readings_of gs) name.serial name.block ≡ Some reads → names_of gs name.serial name.block ≡ Some name → GoneFor legal published chains (name_at name.serial name.block) reads)
      → HomeSeats legal gs places chains
  home_seats legal gs places chains published follow apart by others placed gone = record {
    named = are_named no_generation gs refl refl follow apart;
    are = λ shard. seats_are (names_of gs) shard chains by others;
    logs = λ shard worker serial block low. seats_laid places shard worker serial block chains low others placed;
    whole = λ name reads is names shard low.
        let g = gone name reads is names in
        let w = gone_whole published chains (name_at name.serial name.block) g.gone shard low in
        record { all = w.all; merges = w.merges; is = g.fits w.all w.is };
  }

  -- a chain that came home is of its serial and worker
  pub record IsOwned (d : Drain (Chain B E bk ex)) : Type 0 where
    pub serial : (owner_of d.chain).serial ≡ d.serial
    pub worker : (owner_of d.chain).worker ≡ d.worker

  other_drain : (d e : Drain (Chain B E bk ex)) → IsOwned d → IsOwned e → IsOther d e
      → ((owner_of e.chain).worker == (owner_of d.chain).worker && (owner_of e.chain).serial == (owner_of d.chain).serial) ≡ false
  other_drain d e one two other = by ((owner_of e.chain).worker == (owner_of d.chain).worker) ((owner_of e.chain).serial == (owner_of d.chain).serial) refl refl
    where
      by : (a b : Bool) → ((owner_of e.chain).worker == (owner_of d.chain).worker) ≡ a → ((owner_of e.chain).serial == (owner_of d.chain).serial) ≡ b → (a && b) ≡ false
      by true true w s =
          let same_w : (owner_of e.chain).worker ≡ (owner_of d.chain).worker = eqb-true (owner_of e.chain).worker (owner_of d.chain).worker w in
          let same_s : (owner_of e.chain).serial ≡ (owner_of d.chain).serial = eqb-true (owner_of e.chain).serial (owner_of d.chain).serial s in
          other (sym one.serial ∙ sym same_s ∙ two.serial) (sym one.worker ∙ sym same_w ∙ two.worker)
      by true false w s = refl
      by false b w s = refl

  others_drained : (d : Drain (Chain B E bk ex)) (ds : List (Drain (Chain B E bk ex))) → IsOwned d → All IsOwned ds → All (IsOther d) ds → IsOtherChain (owner_of d.chain) (map (λ (e : Drain (Chain B E bk ex)). e.chain) ds)
  others_drained d [] one all others = tt
  others_drained d (e ∷ ds) one all others =
      (other_drain d e one (All-head IsOwned e ds all) (All-head (IsOther d) e ds others), others_drained d ds one (All-tail IsOwned e ds all) (All-tail (IsOther d) e ds others))

  -- where none came home twice, no two chains have one serial and one worker
  pub drained_apart : (ds : List (Drain (Chain B E bk ex))) → All IsOwned ds → Once ds → AreOtherChains (map (λ (d : Drain (Chain B E bk ex)). d.chain) ds)
  drained_apart [] all once = tt
  drained_apart (d ∷ ds) all once =
      (others_drained d ds (All-head IsOwned d ds all) (All-tail IsOwned d ds all) once.0, drained_apart ds (All-tail IsOwned d ds all) once.1)
