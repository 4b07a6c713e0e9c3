-- What each step of the lock tells.
use Rattle.std.specs.Prelude.{◌≡◌, ℕ, ◌+◌, ◌-◌, ◌*◌, ◌≤◌, ◌==◌, List, [], ◌∷◌, ◌++◌, length}
use Rattle.std.specs.Prelude.{Option, Some, None, MatchBool}
use Rattle.atomic_table.specs.Table.{Me, Step}
use Rattle.ruled_lock.specs.declared.rule.Kept.{Kept}
use Rattle.ruled_lock.specs.declared.rule.View.{View}
use Rattle.ruled_lock.specs.Places.{once_below}
use Rattle.ruled_lock.specs.Histories.{EachBegins, Leads, longer}
use Rattle.ruled_lock.specs.Held.{owned}

module _ {K R : Type 0} where
  abbrev pub call_in : Option K → Option R → List (K × R)
  call_in None r = []
  call_in (Some c) None = []
  call_in (Some c) (Some r) = (c, r) ∷ []

module _ {O K R : Type 0} where
  -- the history that the seat has seen leads from the start to x
  abbrev pub CanBe : (O → K → R → O → Type 0) → (O → K → Type 0) → View O K R → O → Type 0
  CanBe goes allowed v x =
      (start : O) × (v.start ≡ Some start) × Leads goes allowed start v.seen x

  abbrev pub taken_view : View O K R → List (K × R) → O → View O K R
  taken_view v between x = record v { seen = v.seen ++ between; taken = Some x }

  abbrev pub released_view : View O K R → List (K × R) → View O K R
  released_view v calls = record v {
    seen = v.seen ++ calls;
    taken = None;
    own = v.own ++ length v.seen ∷ [];
  }

  -- where the word was even, the seat has the object, and has seen the whole history
  abbrev pub takes_lock : (O → K → R → O → Type 0) → (O → K → Type 0)
      → Step (Option (Kept O K R)) → Me (Option (Kept O K R)) (View O K R) → ℕ
      → Me (Option (Kept O K R)) (View O K R) → Type 0
  takes_lock goes allowed st me found me' = MatchBool (found == st.first)
      ((between : List (K × R)) × (k : Kept O K R)
      × (me' ≡ (taken_view me.0 between k.object, (0, Some k) ∷ []))
      × (found ≡ 2 * length (me.0.seen ++ between))
      × CanBe goes allowed (taken_view me.0 between k.object) k.object)
      (me' ≡ me)

  -- the last call of what the seat gives
  abbrev pub last_in : List (ℕ × Option (Kept O K R)) → List (K × R)
  last_in [] = []
  last_in ((i, None) ∷ xs) = []
  last_in ((i, Some k) ∷ xs) = call_in k.call.value k.reply.value

  abbrev pub releases_lock : Step (Option (Kept O K R))
      → Me (Option (Kept O K R)) (View O K R) → ℕ → Me (Option (Kept O K R)) (View O K R) → Type 0
  releases_lock st me found me' = me' ≡ (released_view me.0 (last_in me.1), [])

  -- a new seat gets one part and what was seen
  abbrev pub left_view : View O K R → View O K R
  left_view v = record v { parts = v.parts - 1 }

  abbrev pub right_view : View O K R → View O K R
  right_view v = record v { heard = []; taken = None; parts = 1; own = []; met = [] }

  abbrev pub met_view : View O K R → View O K R → View O K R
  met_view v w = record v {
    seen = longer v.seen w.seen;
    heard = v.seen ∷ w.seen ∷ [];
    parts = v.parts + w.parts;
    met = v.met ++ w.own ∷ w.met;
  }

  abbrev pub spent_view : View O K R
  spent_view = record {
    start = None;
    all = 0;
    seen = [];
    heard = [];
    taken = None;
    parts = 0;
    own = [];
    met = [];
  }

  abbrev pub settled_view : View O K R → View O K R
  settled_view v = record v { heard = [] }

  -- a seat with all parts owns each place of its history once
  abbrev pub OwnsAll : View O K R → Type 0
  OwnsAll v = v.parts ≡ v.all → (p : ℕ) → owned p v ≡ once_below p (length v.seen)

  -- no place stands in two of the seat's lists, or twice in one; and it has no more parts than
  -- there are
  abbrev pub OwnsApart : View O K R → Type 0
  OwnsApart v = ((p : ℕ) → owned p v ≤ 1) × (v.parts ≤ v.all)

  -- a look tells that what was heard begins the history, which leads from the start
  abbrev pub looks : (O → K → R → O → Type 0) → (O → K → Type 0) → Step (Option (Kept O K R))
      → Me (Option (Kept O K R)) (View O K R) → ℕ → Me (Option (Kept O K R)) (View O K R) → Type 0
  looks goes allowed st me found me' =
      (me' ≡ (settled_view me.0, me.1))
      × EachBegins me.0.heard me.0.seen
      × ((x : O) × CanBe goes allowed me.0 x)
      × OwnsAll me.0
      × OwnsApart me.0
