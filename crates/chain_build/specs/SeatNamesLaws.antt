-- The seats of the chains that came home have the names of their blocks' caches, and no two are of
-- one chain at one block.
use Rattle.std.proofs.Common.{◌≡◌, ◌<◌, ◌∙◌, ℕ, zero, suc, ◌+◌, ◌==◌, ◌&&◌, false, List, [], ◌∷◌, ◌++◌, map, option_map, Option, Some, None, sym, ap, arith}
use Rattle.std.proofs.lemmas.Bool.{and_left, and_right, ne_eqb}
use Rattle.std.specs.Arc.{arc_value}
use Rattle.std.specs.Box.{box_value}
use Rattle.lent_caches.specs.declared.uses.LentCache.{LentCache}
use Rattle.one_history.specs.Names.{Names}
use Rattle.one_history.specs.Seats.{AreSeats, IsOther, SeatLog, is_chains}
use Rattle.outside.specs.declared.mark.Mark.{Mark}
use Rattle.plugin_api.specs.declared.extra.Extra as extra
use Rattle.plugin_api.specs.declared.rulebook.Rulebook as rulebook
use Rattle.chain_build.specs.History.{AreNamedBy, name_in, named_name}
use Rattle.chain_build.specs.Seats.{AreOtherChains, IsOtherChain, Owner, owner_of, seat_in, seat_of, seats_from, seats_home}
use Rattle.chain_build.specs.Uses.{AreUsed, UseShape, chain_named, chain_shape, lent_cache, use_shape}
use Rattle.chain_build.specs.declared.block.BlockChain.{BlockChain}
use Rattle.chain_build.specs.declared.block_uses.BlockUses.{BlockUses}
use Rattle.chain_build.specs.declared.chain.Chain.{Chain}

-- none of these seats is a chain's
abbrev AreOthers : Owner → List (SeatLog Mark) → Type 0
AreOthers owner [] = Unit {0}
AreOthers owner (y ∷ ys) = (is_chains owner.worker owner.serial y ≡ false) × AreOthers owner ys

other_rest : (owner : Owner) (shard b : ℕ) (u : LentCache) (rest : List (SeatLog Mark)) → AreOthers owner rest → IsOther (seat_of owner shard b u) rest
other_rest owner shard b u [] others = tt
other_rest owner shard b u (y ∷ ys) others = (and_left (is_chains owner.worker owner.serial y) (y.block == b) others.0, other_rest owner shard b u ys others.1)

-- a seat in front of those of later blocks
other_blocks : (owner : Owner) (shard b c : ℕ) (u : LentCache) (blocks : List BlockUses) (rest : List (SeatLog Mark)) → b < c → AreOthers owner rest → IsOther (seat_of owner shard b u) (seats_from owner shard c blocks ++ rest)
other_blocks owner shard b c u [] rest less others = other_rest owner shard b u rest others
other_blocks owner shard b c u (uses ∷ blocks) rest less others = by_cache uses.cache (other_blocks owner shard b (c + 1) u blocks rest (omega (arith, less)) others)
  where
    by_cache : (cache : Option LentCache) → IsOther (seat_of owner shard b u) (seats_from owner shard (c + 1) blocks ++ rest) → IsOther (seat_of owner shard b u) ((seat_in owner shard c cache ++ seats_from owner shard (c + 1) blocks) ++ rest)
    by_cache None later = later
    by_cache (Some v) later =
        (and_right (is_chains owner.worker owner.serial (seat_of owner shard c v)) (c == b) (ne_eqb c b (λ e. absurd (omega (arith, e, less)))), later)

-- those of a chain in front of those of others
are_from : (names : Names) (owner : Owner) (shard b : ℕ) (chains : List BlockChain) (blocks : List BlockUses) (rest : List (SeatLog Mark)) → ((k : ℕ) → names owner.serial (b + k) ≡ name_in (map chain_named chains) k) → AreUsed chains blocks → AreOthers owner rest → AreSeats names rest
    → AreSeats names (seats_from owner shard b blocks ++ rest)
are_from names owner shard b [] [] rest is used others are = are
are_from names owner shard b [] (uses ∷ blocks) rest is used others are = absurd cc
are_from names owner shard b (chain ∷ chains) [] rest is used others are = absurd cc
are_from names owner shard b (chain ∷ chains) (uses ∷ blocks) rest is used others are =
    let first : use_shape uses ≡ chain_shape chain = cc in
    let more : AreUsed chains blocks = cc in
    by_cache uses.cache (ap (λ (s : UseShape). s.cache) first)
    (are_from names owner shard (b + 1) chains blocks rest (λ k. ap (names owner.serial) (later k) ∙ is (suc k)) more others are)
  where
    later : (k : ℕ) → b + 1 + k ≡ b + suc k
    later k = omega arith

    here : b ≡ b + 0
    here = omega arith

    by_cache : (cache : Option LentCache) → option_map lent_cache cache ≡ chain_named chain → AreSeats names (seats_from owner shard (b + 1) blocks ++ rest)
        → AreSeats names ((seat_in owner shard b cache ++ seats_from owner shard (b + 1) blocks) ++ rest)
    by_cache None e after = after
    by_cache (Some u) e after =
        (ap (names owner.serial) here ∙ is zero ∙ ap named_name (sym e), other_blocks owner shard b (b + 1) u blocks rest (omega arith) others, after)

-- the seats of a chain are another's than those of other chains
others_from : (owner other : Owner) (shard b : ℕ) (blocks : List BlockUses) (rest : List (SeatLog Mark)) → (other.worker == owner.worker && other.serial == owner.serial) ≡ false → AreOthers owner rest → AreOthers owner (seats_from other shard b blocks ++ rest)
others_from owner other shard b [] rest not others = others
others_from owner other shard b (uses ∷ blocks) rest not others = by_cache uses.cache (others_from owner other shard (b + 1) blocks rest not others)
  where
    by_cache : (cache : Option LentCache) → AreOthers owner (seats_from other shard (b + 1) blocks ++ rest) → AreOthers owner ((seat_in other shard b cache ++ seats_from other shard (b + 1) blocks) ++ rest)
    by_cache None later = later
    by_cache (Some u) later = (not, later)

module _ {B E : Type 0} {bk : rulebook.Ghosts B} {ex : extra.Ghosts E} where
  others_home : (owner : Owner) (shard : ℕ) (chains : List (Chain B E bk ex)) → IsOtherChain owner chains → AreOthers owner (seats_home shard chains)
  others_home owner shard [] other = tt
  others_home owner shard (c ∷ cs) other = others_from owner (owner_of c) shard 0 (box_value c.held).uses.items (seats_home shard cs) other.0 (others_home owner shard cs other.1)

  -- each seat has the name of its block's cache, and no two are of one chain at one block
  pub seats_are : (names : Names) (shard : ℕ) (chains : List (Chain B E bk ex)) → AreNamedBy names chains → AreOtherChains chains → AreSeats names (seats_home shard chains)
  seats_are names shard [] by apart = tt
  seats_are names shard (c ∷ cs) by apart =
      are_from names (owner_of c) shard 0 (arc_value c.plans).chains (box_value c.held).uses.items (seats_home shard cs)
      (λ k. ap (names (owner_of c).serial) (plus_none k) ∙ by.0 k) c.used (others_home (owner_of c) shard cs apart.0) (seats_are names shard cs by.1 apart.1)
    where
      plus_none : (k : ℕ) → 0 + k ≡ k
      plus_none k = omega arith
