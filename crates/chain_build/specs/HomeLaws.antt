-- The seats of the chains that came home, by worker, serial and block, and by the name of a cache.
use Rattle.std.proofs.Common.{◌≡◌, ◌<◌, ◌∙◌, ℕ, ◌+◌, ◌==◌, ◌&&◌, Bool, false, List, [], ◌∷◌, ◌++◌, map, Option, Some, None, if◌then◌else◌, eqb-true, refl, sym, ap, subst, arith, append_assoc}
use Rattle.std.proofs.lemmas.Bool.{and_left, and_parts}
use Rattle.std.specs.Arc.{arc_value}
use Rattle.std.specs.Box.{box_value}
use Rattle.cache_shards.specs.Answers.{IsLegal}
use Rattle.lent_caches.specs.ApartLaws.{both}
use Rattle.lent_caches.specs.Held.{LentData, lent_data}
use Rattle.lent_caches.specs.Ledger.{HasGone, logs_named}
use Rattle.lent_caches.specs.Names.{same_name}
use Rattle.lent_caches.specs.declared.name.CacheName.{CacheName}
use Rattle.lent_caches.specs.declared.uses.LentCache.{LentCache}
use Rattle.one_history.specs.Join.{shard_logs}
use Rattle.one_history.specs.Logs.{Place, home_log, part_at}
use Rattle.one_history.specs.Runs.{SHARDS}
use Rattle.one_history.specs.Seats as history
use Rattle.one_history.specs.Seats.{SeatLog, is_seat, marks_of, named, same_cache, seat_log}
use Rattle.outside.specs.declared.mark.Mark.{Mark}
use Rattle.plugin_api.specs.declared.extra.Extra as extra
use Rattle.plugin_api.specs.declared.rulebook.Rulebook as rulebook
use Rattle.chain_build.specs.Lending.{lents_in, uses_lents}
use Rattle.chain_build.specs.Seats.{AreOtherChains, ArePlaced, IsOtherChain, Owner, chain_seats, home_of, name_of, owner_of, seat_in, seat_of, seats_from, seats_home}
use Rattle.chain_build.specs.SeatsLaws.{shard_laid}
use Rattle.chain_build.specs.Workers.{chain_log, chains_lents}
use Rattle.chain_build.specs.declared.block_uses.BlockUses.{BlockUses}
use Rattle.chain_build.specs.declared.chain.Chain.{Chain}

-- the seats of a chain are not those of another
others_seat : (owner : Owner) (w s b block shard : ℕ) (blocks : List BlockUses) (rest : List (SeatLog Mark)) → (owner.worker == w && owner.serial == s) ≡ false → seat_log (seats_from owner shard b blocks ++ rest) w s block ≡ seat_log rest w s block
others_seat owner w s b block shard [] rest other = refl
others_seat owner w s b block shard (uses ∷ blocks) rest other = by_cache uses.cache (others_seat owner w s (b + 1) block shard blocks rest other)
  where
    by_cache : (cache : Option LentCache) → seat_log (seats_from owner shard (b + 1) blocks ++ rest) w s block ≡ seat_log rest w s block
        → seat_log ((seat_in owner shard b cache ++ seats_from owner shard (b + 1) blocks) ++ rest) w s block ≡ seat_log rest w s block
    by_cache None later = later
    by_cache (Some u) later =
        let off = and_left (owner.worker == w && owner.serial == s) (b == block) other in
        ap (λ (t : Bool). if t then (seat_of owner shard b u).marks else seat_log (seats_from owner shard (b + 1) blocks ++ rest) w s block) off ∙ later

-- where those behind have none, they are what they are alone
own_seat : (xs rest : List (SeatLog Mark)) (w s block : ℕ) → seat_log rest w s block ≡ [] → seat_log (xs ++ rest) w s block ≡ seat_log xs w s block
own_seat [] rest w s block none = none
own_seat (x ∷ xs) rest w s block none = ap (λ (l : List Mark). if is_seat w s block x then x.marks else l) (own_seat xs rest w s block none)

-- the names and marks of a use's seat
marks_in : (owner : Owner) (shard b : ℕ) (name : CacheName) (cache : Option LentCache) (xs : List (SeatLog Mark)) (us : List LentData) → marks_of (named (name_of name) xs) ≡ logs_named name us shard
    → marks_of (named (name_of name) (seat_in owner shard b cache ++ xs)) ≡ logs_named name (lents_in cache ++ us) shard
marks_in owner shard b name None xs us rest = rest
marks_in owner shard b name (Some u) xs us rest =
    let turned : same_cache (name_of u.name) (name_of name) ≡ same_name name u.name = sides u.name.serial name.serial u.name.block name.block in
    both (same_name name u.name)
    (λ e. let on = turned ∙ e in
    ap (λ (t : Bool). marks_of (if t then seat_of owner shard b u ∷ named (name_of name) xs else named (name_of name) xs)) on
    ∙ ap (λ (l : List (List Mark)). (lent_data u).log shard ∷ l) rest
    ∙ sym (ap (λ (t : Bool). if t then (lent_data u).log shard ∷ logs_named name us shard else logs_named name us shard) e))
    (λ e. let off = turned ∙ e in
    ap (λ (t : Bool). marks_of (if t then seat_of owner shard b u ∷ named (name_of name) xs else named (name_of name) xs)) off
    ∙ rest
    ∙ sym (ap (λ (t : Bool). if t then (lent_data u).log shard ∷ logs_named name us shard else logs_named name us shard) e))
  where
    sides : (a b c d : ℕ) → (a == b && c == d) ≡ (b == a && d == c)
    sides a b c d = grind arith

blocks_marks : (owner : Owner) (shard b : ℕ) (name : CacheName) (blocks : List BlockUses) (xs : List (SeatLog Mark)) (us : List LentData) → marks_of (named (name_of name) xs) ≡ logs_named name us shard
    → marks_of (named (name_of name) (seats_from owner shard b blocks ++ xs)) ≡ logs_named name (uses_lents blocks ++ us) shard
blocks_marks owner shard b name [] xs us rest = rest
blocks_marks owner shard b name (uses ∷ blocks) xs us rest =
    ap (λ (l : List (SeatLog Mark)). marks_of (named (name_of name) l)) (append_assoc (seat_in owner shard b uses.cache) (seats_from owner shard (b + 1) blocks) xs)
    ∙ marks_in owner shard b name uses.cache (seats_from owner shard (b + 1) blocks ++ xs) (uses_lents blocks ++ us) (blocks_marks owner shard (b + 1) name blocks xs us rest)
    ∙ ap (λ (l : List LentData). logs_named name l shard) (sym (append_assoc (lents_in uses.cache) (uses_lents blocks) us))

module _ {B E : Type 0} {bk : rulebook.Ghosts B} {ex : extra.Ghosts E} where
  none_home : (w s block shard : ℕ) (chains : List (Chain B E bk ex)) → IsOtherChain (record { worker = w; serial = s }) chains → seat_log (seats_home shard chains) w s block ≡ []
  none_home w s block shard [] other = refl
  none_home w s block shard (c ∷ cs) other =
      others_seat (owner_of c) w s 0 block shard (box_value c.held).uses.items (seats_home shard cs) other.0 ∙ none_home w s block shard cs other.1

  -- what the seat of a chain at a block's cache knows of a shard is what its log has there
  pub seats_laid : (places : ℕ → List Place) (shard w s block : ℕ) (chains : List (Chain B E bk ex)) → shard < SHARDS → AreOtherChains chains → ArePlaced places chains
      → seat_log (seats_home shard chains) w s block ≡ shard_logs places (map (λ c. home_of c) chains) shard w s block
  seats_laid places shard w s block [] low apart placed = no_log (places s)
    where
      no_log : (ps : List Place) → [] ≡ part_at {N = Mark} ps [] block shard
      no_log [] = refl
      no_log (p ∷ ps) = refl
  seats_laid places shard w s block (c ∷ cs) low apart placed = both ((owner_of c).worker == w && (owner_of c).serial == s)
      (λ e.
      let t = and_parts ((owner_of c).worker == w) ((owner_of c).serial == s) e in
      let is_w : (owner_of c).worker ≡ w = eqb-true (owner_of c).worker w t.0 in
      let is_s : (owner_of c).serial ≡ s = eqb-true (owner_of c).serial s t.1 in
      subst (λ (x : ℕ × ℕ). seat_log (seats_home shard (c ∷ cs)) x.0 x.1 block ≡ part_at (places x.1) (chain_log c) block shard) (λ i. (is_w i, is_s i))
      (own_seat (chain_seats shard c) (seats_home shard cs) (owner_of c).worker (owner_of c).serial block (none_home (owner_of c).worker (owner_of c).serial block shard cs apart.0)
      ∙ shard_laid (owner_of c) 0 block shard (arc_value c.plans).chains (box_value c.held).uses.items low c.used
      ∙ ap (λ (ps : List Place). part_at ps (chain_log c) block shard) (sym placed.0))
      ∙ sym (ap (λ (b : Bool). part_at (places s) (if b then chain_log c else home_log w s (map (λ d. home_of d) cs)) block shard) e))
      (λ e.
      others_seat (owner_of c) w s 0 block shard (box_value c.held).uses.items (seats_home shard cs) e
      ∙ seats_laid places shard w s block cs low apart.1 placed.1
      ∙ sym (ap (λ (b : Bool). part_at (places s) (if b then chain_log c else home_log w s (map (λ d. home_of d) cs)) block shard) e))

  -- of a name, the seats' marks are those of the uses that came home
  pub named_marks : (shard : ℕ) (name : CacheName) (chains : List (Chain B E bk ex)) → marks_of (named (name_of name) (seats_home shard chains)) ≡ logs_named name (chains_lents chains) shard
  named_marks shard name [] = refl
  named_marks shard name (c ∷ cs) =
      blocks_marks (owner_of c) shard 0 name (box_value c.held).uses.items (seats_home shard cs) (chains_lents cs) (named_marks shard name cs)

  -- a cache that has gone told one legal list of the marks of its seats
  pub gone_whole : (published : List CacheName) (chains : List (Chain B E bk ex)) (name : CacheName) (gone : HasGone published (chains_lents chains) name) (shard : ℕ) → shard < SHARDS
      → history.IsWhole (IsLegal gone.cache.capacities) (name_of name) (seats_home shard chains)
  gone_whole published chains name gone shard low =
      let one = gone.whole shard low in
      record {
        all = one.all;
        merges = rw (named_marks shard name chains) one.merges;
        is = one.legal;
      }
