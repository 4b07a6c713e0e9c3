-- What each call of the lock tells.
use Rattle.std.specs.Prelude.{◌≡◌, ℕ, ◌+◌, ◌<◌, true, List, [], ◌∷◌, ◌++◌, length, map}
use Rattle.std.specs.Prelude.{Option, Some, None}
use Rattle.atomic_table.specs.Table.{Me}
use Rattle.ruled_lock.specs.declared.rule.Kept.{Kept}
use Rattle.ruled_lock.specs.declared.rule.View.{View}
use Rattle.ruled_lock.specs.Places.{is_rising, each_rising}
use Rattle.ruled_lock.specs.Histories.{Begins, longer, calls_at}
use Rattle.ruled_lock.specs.Steps.{CanBe, taken_view}

module _ {O K R : Type 0} where
  -- a seat between two calls: it holds nothing, and has at least one part
  pub record Rests (me : Me (Option (Kept O K R)) (View O K R)) : Type 0 where
    pub carries : me.1 ≡ []
    pub heard : me.0.heard ≡ []
    pub taken : me.0.taken ≡ None
    pub some_part : 0 < me.0.parts

  -- its places lie in its history, and each list rises
  pub record InOrder (v : View O K R) : Type 0 where
    pub own : is_rising 0 v.own (length v.seen) ≡ true
    pub met : each_rising v.met (length v.seen) ≡ true

  -- the seat holds the lock, and has seen the whole history
  abbrev pub HasTaken : (O → K → R → O → Type 0) → (O → K → Type 0) → View O K R → ℕ
      → Me (Option (Kept O K R)) (View O K R) → Type 0
  HasTaken goes allowed v calls me' = (between : List (K × R)) × (k : Kept O K R)
      × (me' ≡ (taken_view v between k.object, (0, Some k) ∷ []))
      × (calls ≡ length (v.seen ++ between))
      × CanBe goes allowed (taken_view v between k.object) k.object

  -- calls of others came between, and then this one
  abbrev pub called_view : View O K R → List (K × R) → K → R → View O K R
  called_view v between c r = record v {
    seen = (v.seen ++ between) ++ (c, r) ∷ [];
    own = v.own ++ length (v.seen ++ between) ∷ [];
  }

  -- the call stands once in the history, after all that the seat had seen, and each call of the
  -- history was allowed at its place
  abbrev pub IsCall : (O → K → R → O → Type 0) → (O → K → Type 0) → View O K R → K → R → View O K R
      → Type 0
  IsCall goes allowed v c r w =
      ((between : List (K × R)) × (w ≡ called_view v between c r))
      × (x : O) × CanBe goes allowed w x

  -- the seat has the parts and places of both, and the longer history
  abbrev pub IsMeeting : View O K R → View O K R → View O K R → Type 0
  IsMeeting v w u =
      (u ≡ record v {
        seen = longer v.seen w.seen;
        parts = v.parts + w.parts;
        met = v.met ++ w.own ∷ w.met;
      })
      × Begins v.seen u.seen × Begins w.seen u.seen

  -- the seat's own calls, in order
  abbrev pub own_calls : View O K R → List (Option (K × R))
  own_calls v = calls_at v.seen v.own

  -- the calls of each seat that met it, in order
  abbrev pub met_calls : View O K R → List (List (Option (K × R)))
  met_calls v = map (calls_at v.seen) v.met

  -- the seat's own calls are these, and those of the seats that met it are those
  abbrev pub HasCalls : View O K R → List (Option (K × R)) → List (List (Option (K × R))) → Type 0
  HasCalls v own met = (own_calls v ≡ own) × (met_calls v ≡ met)

  -- the history leads from the start to some state, each call allowed at its place
  abbrev pub IsLegal : (O → K → R → O → Type 0) → (O → K → Type 0) → View O K R → Type 0
  IsLegal goes allowed v = (x : O) × CanBe goes allowed v x
