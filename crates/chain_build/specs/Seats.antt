-- The seats at one shard of the chains that came home. This server's own rule.
use Rattle.std.specs.Prelude.{◌≡◌, ℕ, ◌+◌, ◌==◌, ◌&&◌, false, List, [], ◌∷◌, ◌++◌, Option}
use Rattle.std.specs.Prelude.{Some, None}
use Rattle.std.specs.Box.{box_value}
use Rattle.lent_caches.specs.Held.{lent_data}
use Rattle.lent_caches.specs.declared.name.CacheName.{CacheName}
use Rattle.lent_caches.specs.declared.uses.LentCache.{LentCache}
use Rattle.one_history.specs.Logs.{Home, Place}
use Rattle.one_history.specs.Names as history
use Rattle.one_history.specs.Seats.{SeatLog}
use Rattle.outside.specs.declared.mark.Mark.{Mark}
use Rattle.plugin_api.specs.declared.extra.Extra as extra
use Rattle.plugin_api.specs.declared.rulebook.Rulebook as rulebook
use Rattle.chain_build.specs.Workers.{chain_log, plans_of}
use Rattle.chain_build.specs.Logs.{chain_places}
use Rattle.chain_build.specs.declared.block_uses.BlockUses.{BlockUses}
use Rattle.chain_build.specs.declared.chain.Chain.{Chain}

-- which chain: its worker and its serial
pub record Owner : Type 0 where
  pub worker : ℕ
  pub serial : ℕ

-- the name of a cache in its history
abbrev pub name_of : CacheName → history.CacheName
name_of n = history.began n.serial n.block

-- the seat of a use at a shard, and those of the uses of blocks, from one block on
abbrev pub seat_of : Owner → ℕ → ℕ → LentCache → SeatLog Mark
seat_of owner shard block u = record {
  worker = owner.worker;
  serial = owner.serial;
  block = block;
  name = name_of u.name;
  marks = (lent_data u).log shard;
}

abbrev pub seat_in : Owner → ℕ → ℕ → Option LentCache → List (SeatLog Mark)
seat_in owner shard block None = []
seat_in owner shard block (Some u) = seat_of owner shard block u ∷ []

abbrev pub seats_from : Owner → ℕ → ℕ → List BlockUses → List (SeatLog Mark)
seats_from owner shard block [] = []
seats_from owner shard block (uses ∷ blocks) =
    seat_in owner shard block uses.cache ++ seats_from owner shard (block + 1) blocks

module _ {B E : Type 0} {b : rulebook.Ghosts B} {e : extra.Ghosts E} where
  abbrev pub owner_of : Chain B E b e → Owner
  owner_of chain = record {
    worker = (box_value chain.held).worker;
    serial = (box_value chain.held).serial;
  }

  -- those of a chain, and of chains
  abbrev pub chain_seats : ℕ → Chain B E b e → List (SeatLog Mark)
  chain_seats shard chain =
      seats_from (owner_of chain) shard 0 (box_value chain.held).uses.items

  abbrev pub seats_home : ℕ → List (Chain B E b e) → List (SeatLog Mark)
  seats_home shard [] = []
  seats_home shard (chain ∷ chains) = chain_seats shard chain ++ seats_home shard chains

  -- a chain that came home
  abbrev pub home_of : Chain B E b e → Home Mark
  home_of chain = record {
    serial = (owner_of chain).serial;
    worker = (owner_of chain).worker;
    log = chain_log chain;
  }

  -- none of these chains has this worker and serial
  abbrev pub IsOtherChain : Owner → List (Chain B E b e) → Type 0
  IsOtherChain owner [] = Unit {0}
  IsOtherChain owner (chain ∷ chains) =
      ((owner_of chain).worker == owner.worker && (owner_of chain).serial == owner.serial ≡ false)
      × IsOtherChain owner chains

  -- no two have the same
  abbrev pub AreOtherChains : List (Chain B E b e) → Type 0
  AreOtherChains [] = Unit {0}
  AreOtherChains (chain ∷ chains) = IsOtherChain (owner_of chain) chains × AreOtherChains chains

  -- the logs of these chains have these places, by serial
  abbrev pub ArePlaced : (ℕ → List Place) → List (Chain B E b e) → Type 0
  ArePlaced places [] = Unit {0}
  ArePlaced places (chain ∷ chains) =
      (places (owner_of chain).serial ≡ chain_places (plans_of chain)) × ArePlaced places chains
