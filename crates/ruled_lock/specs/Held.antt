-- The rule of the lock. Word 0 is twice the number of calls, plus 1 while the lock is held.
use Rattle.std.specs.Prelude.{◌≡◌, ℕ, ◌+◌, ◌*◌, ◌<◌, Bool, true, false, List, [], length}
use Rattle.std.specs.Prelude.{slice_index, Option, Some, None, if◌then◌else◌}
use mathlib.Core.Option.{some}
use mathlib.Core.Option as maybe
use lib.ListN.{get_elem?}
use Rattle.atomic_table.specs.Table.{State}
use Rattle.ruled_lock.specs.declared.rule.Kept.{Kept}
use Rattle.ruled_lock.specs.declared.rule.View.{View}
use Rattle.ruled_lock.specs.Places.{times, times_in, once_below, total}
use Rattle.ruled_lock.specs.Histories.{Begins, EachBegins, Leads}

pub record IsWord (locked : Bool) (calls : ℕ) (words : List ℕ) : Type 0 where
  pub wide : length words ≡ 1
  pub word : slice_index words 0 ≡ 2 * calls + (if locked then 1 else 0)

-- the lock as it stands: what `new` was given, whether it is held and by which seat, the object,
-- and the history
pub record Standing (O K R : Type 0) : Type 0 where
  pub first : O
  pub parts : ℕ
  pub locked : Bool
  pub holder : ℕ
  pub now : O
  pub log : List (K × R)

module _ {O K R : Type 0} where
  -- the seat that `new` gives
  abbrev pub newcomer : O → ℕ → View O K R
  newcomer first parts = record {
    start = Some first;
    all = parts;
    seen = [];
    heard = [];
    taken = None;
    parts = parts;
    own = [];
    met = [];
  }

  -- how often a seat owns the place p
  abbrev pub owned : ℕ → View O K R → ℕ
  owned p v = times p v.own + times_in p v.met

  -- while it isn't held, the object is at home
  pub record IsHome (locked : Bool) (now : O) (homes : List (maybe.Option (Option (Kept O K R))))
      : Type 0 where
    pub deep : length homes ≡ 1
    pub home : locked ≡ false
        → (k : Kept O K R) × (get_elem? homes 0 ≡ some (some (Some k))) × (k.object ≡ now)

  -- the parts add up, and each place is owned once
  pub record IsShared (parts calls : ℕ) (views : List (View O K R)) : Type 0 where
    pub whole : total (λ v. v.parts) views ≡ parts
    pub once : (p : ℕ) → total (owned p) views ≡ once_below p calls

  -- who has taken the object holds the lock, and has seen the whole history
  abbrev pub Holds : Standing O K R → ℕ → List (K × R) → Option O → Type 0
  Holds s j seen None = Unit {0}
  Holds s j seen (Some x) = (s.locked ≡ true) × (j ≡ s.holder) × (x ≡ s.now) × (seen ≡ s.log)

  -- what holds of each seat
  pub record Knows (s : Standing O K R) (j : ℕ) (v : View O K R) : Type 0 where
    pub begins : Begins v.seen s.log
    pub heard : EachBegins v.heard v.seen
    pub holds : Holds s j v.seen v.taken
    pub start : 0 < v.parts → (v.start ≡ Some s.first) × (v.all ≡ s.parts)
    pub idle : v.parts ≡ 0 → (p : ℕ) → owned p v ≡ 0

  pub record Held (goes : O → K → R → O → Type 0) (allowed : O → K → Type 0) (first : O) (parts : ℕ)
      (s : State (Option (Kept O K R)) (View O K R)) : Type 0 where
    pub log : List (K × R)
    pub now : O
    pub locked : Bool
    pub holder : ℕ
    pub path : Leads goes allowed first log now
    pub word : IsWord locked (length log) s.words
    pub home : IsHome locked now s.homes
    pub shared : IsShared parts (length log) s.views
    pub seats : (j : ℕ) (v : View O K R) → get_elem? s.views j ≡ some v
        → Knows (record {
          first = first;
          parts = parts;
          locked = locked;
          holder = holder;
          now = now;
          log = log;
        }) j v
