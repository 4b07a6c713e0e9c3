-- The pins of a pass with the calls of their turns. This server's own rule.
use Rattle.std.specs.Prelude.{◌≡◌, ℕ, List, [], ◌∷◌, All}
use Rattle.one_history.specs.Calls.{Call}
use Rattle.one_history.specs.Logs.{GrowsBy, Pin, Place}
use Rattle.pin_table.specs.declared.views.PassView.{PassView}
use Rattle.pin_table.specs.declared.views.Turn.{Turn}

module _ {C N : Type 0} (log : C → List (List N)) where
  abbrev pub pin_of : Turn C → List (Call N) → Pin N
  pin_of t calls =
      record { serial = t.serial; given = log t.given; home = log t.home; calls = calls }

  -- the pins, the last one first, by the calls of each
  abbrev pub pins_with : List (Turn C) → List (List (Call N)) → List (Pin N)
  pins_with [] calls = []
  pins_with (t ∷ ts) [] = []
  pins_with (t ∷ ts) (c ∷ calls) = pin_of t c ∷ pins_with ts calls

  -- the pin's log has grown by just these calls, all of which are of its serial
  pub record IsGrown (places : ℕ → List Place) (t : Turn C) (calls : List (Call N)) : Type 0 where
    pub grown : GrowsBy (places t.serial) t.serial calls (log t.given) (log t.home)
    pub own : All (λ c. c.serial ≡ t.serial) calls

  abbrev pub AllGrown : (ℕ → List Place) → List (Turn C) → List (List (Call N)) → Type 0
  AllGrown places [] [] = Unit {0}
  AllGrown places [] (c ∷ calls) = ⊥
  AllGrown places (t ∷ ts) [] = ⊥
  AllGrown places (t ∷ ts) (c ∷ calls) = IsGrown places t c × AllGrown places ts calls

  -- of passes, by the calls of each pin of each
  abbrev pub passes_with : List (PassView C) → List (List (List (Call N))) → List (List (Pin N))
  passes_with [] told = []
  passes_with (q ∷ qs) [] = []
  passes_with (q ∷ qs) (each ∷ told) = pins_with q.turns each ∷ passes_with qs told

  abbrev pub ArePassesGrown : (ℕ → List Place) → List (PassView C) → List (List (List (Call N)))
      → Type 0
  ArePassesGrown places [] [] = Unit {0}
  ArePassesGrown places [] (each ∷ told) = ⊥
  ArePassesGrown places (q ∷ qs) [] = ⊥
  ArePassesGrown places (q ∷ qs) (each ∷ told) =
      AllGrown places q.turns each × ArePassesGrown places qs told
