-- The pins of a pass, with the calls of their turns, are those of a history.
use Rattle.std.proofs.Common.{◌≡◌, ◌<◌, ℕ, zero, suc, ◌==◌, List, [], ◌∷◌, length, Option, Some, None, slice_get, if◌then◌else◌, refl, sym, ap, subst}
use Rattle.std.specs.Prelude.{All, slice_index_or}
use Rattle.std.proofs.lemmas.List.Elements.{All-cons, All-head, All-nil, All-tail}
use Rattle.one_history.specs.Calls.{Call}
use Rattle.one_history.specs.Logs as history
use Rattle.one_history.specs.Logs.{ArePins, Place, pins_by}
use Rattle.pin_table.specs.declared.views.PassView.{PassView}
use Rattle.pin_table.specs.declared.views.Turn.{Turn}
use Rattle.pin_table.specs.Shown.{Chained}
use Rattle.pin_table.specs.Tags.{AreGiven, Identity, IsKeptLog, log_kept}
use Rattle.chain_build.specs.HistoryPins.{AllGrown, ArePassesGrown, passes_with, pins_with}

-- the two sayings of a log that was kept
pub same_log : {N : Type 0} (o : Option (List (List N))) (l : List (List N)) → IsKeptLog o l → history.IsKeptLog o l
same_log None l is = is
same_log (Some kept) l is = is

module _ {C K N : Type 0} (identity : C → Identity K) (log : C → List (List N)) (places : ℕ → List Place) where
  -- what the pins keep of a serial
  pub same_kept : (serial : ℕ) (ts : List (Turn C)) (calls : List (List (Call N))) → AllGrown log places ts calls → history.log_kept serial (pins_with log ts calls) ≡ log_kept log serial ts
  same_kept serial [] [] grown = refl
  same_kept serial [] (c ∷ calls) grown = absurd grown
  same_kept serial (t ∷ ts) [] grown = absurd grown
  same_kept serial (t ∷ ts) (c ∷ calls) grown =
      ap (λ (o : Option (List (List N))). if t.serial == serial then Some (log t.home) else o) (same_kept serial ts calls grown.1)

  -- pins whose chains were given as those before them left these, of published serials
  pub are_pins : (filled : List (List C)) (worker published : ℕ) (ts : List (Turn C)) (calls : List (List (Call N))) → AreGiven identity log filled worker ts → AllGrown log places ts calls → All (λ t. t.serial < published) ts
      → ArePins places published (pins_with log ts calls)
  are_pins filled worker published [] [] given grown low = tt
  are_pins filled worker published [] (c ∷ calls) given grown low = absurd grown
  are_pins filled worker published (t ∷ ts) [] given grown low = absurd grown
  are_pins filled worker published (t ∷ ts) (c ∷ calls) given grown low = (
    record {
      within = All-head (λ (x : Turn C). x.serial < published) t ts low;
      kept = subst (λ (o : Option (List (List N))). history.IsKeptLog o (log t.given)) (sym (same_kept t.serial ts calls grown.1)) (same_log (log_kept log t.serial ts) (log t.given) given.0.kept);
      grown = grown.0.grown;
      own = grown.0.own;
    },
    are_pins filled worker published ts calls given.1 grown.1 (All-tail (λ (x : Turn C). x.serial < published) t ts low),
  )

  -- the serials of a pass's pins were published
  chained_low : (filled : List (List C)) (worker : ℕ) (ts : List (Turn C)) → Chained filled worker ts → All (λ t. t.serial < length filled) ts
  chained_low filled worker [] chained = All-nil (λ (t : Turn C). t.serial < length filled)
  chained_low filled worker (t ∷ ts) chained = All-cons (λ (x : Turn C). x.serial < length filled) t ts chained.0 (chained_low filled worker ts chained.2)

  -- what a pass tells of its turns, as a pass of some worker
  pub record IsToldPass (filled : List (List C)) (q : PassView C) : Type 0 where
    pub worker : ℕ
    pub given : AreGiven identity log filled worker q.turns
    pub chained : Chained filled worker q.turns

  -- the pins of each worker are those of a history
  pub worker_pins : (filled : List (List C)) (qs : List (PassView C)) (told : List (List (List (Call N)))) (w : ℕ) → ArePassesGrown log places qs told → ((k : ℕ) (q : PassView C) → slice_get qs k ≡ Some q → IsToldPass filled q)
      → ArePins places (length filled) (pins_by (passes_with log qs told) w)
  worker_pins filled [] told w grown are = tt
  worker_pins filled (q ∷ qs) [] w grown are = absurd grown
  worker_pins filled (q ∷ qs) (each ∷ told) zero grown are =
      let is = are 0 q refl in
      are_pins filled is.worker (length filled) q.turns each is.given grown.0 (chained_low filled is.worker q.turns is.chained)
  worker_pins filled (q ∷ qs) (each ∷ told) (suc w) grown are = worker_pins filled qs told w grown.1 (λ k p at. are (suc k) p at)

  -- what the pins of a worker keep of a serial
  pub worker_kept : (qs : List (PassView C)) (told : List (List (List (Call N)))) (w serial : ℕ) (none : PassView C) → none.turns ≡ [] → ArePassesGrown log places qs told
      → history.log_kept serial (pins_by (passes_with log qs told) w) ≡ log_kept log serial (slice_index_or qs w none).turns
  worker_kept [] [] w serial none bare grown = ap (λ (ts : List (Turn C)). log_kept log serial ts) (sym bare)
  worker_kept [] (each ∷ told) w serial none bare grown = absurd grown
  worker_kept (q ∷ qs) [] w serial none bare grown = absurd grown
  worker_kept (q ∷ qs) (each ∷ told) zero serial none bare grown = same_kept serial q.turns each grown.0
  worker_kept (q ∷ qs) (each ∷ told) (suc w) serial none bare grown = worker_kept qs told w serial none bare grown.1

  -- so many passes
  pub passes_long : (qs : List (PassView C)) (told : List (List (List (Call N)))) → ArePassesGrown log places qs told → length (passes_with log qs told) ≡ length qs
  passes_long [] [] grown = refl
  passes_long [] (each ∷ told) grown = absurd grown
  passes_long (q ∷ qs) [] grown = absurd grown
  passes_long (q ∷ qs) (each ∷ told) grown = ap suc (passes_long qs told grown.1)
