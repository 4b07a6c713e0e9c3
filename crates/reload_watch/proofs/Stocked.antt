-- Where the extras are behind the calls of a look.
use Rattle.std.proofs.Common.{◌≡◌, ◌<◌, Bool, true, false, cond, ℕ, List, [], ◌∷◌, Some, Result, refl, sym, ap, subst, ◌∙◌, arith, inl, inr}
use Rattle.std.specs.Prelude.{find}
use Rattle.std.proofs.lemmas.Bool.{ltb-true}
use Rattle.std.proofs.lemmas.Option.{none-some, same_Some}
use Rattle.extra_stock.specs.Shortage.{IsShort, asked, in_text, is_short}
use Rattle.extra_stock.specs.ShortageLaws.{short-is}
use Rattle.dns_data.specs.declared.directive.Directive.{Directive}
use Rattle.chain_build.specs.declared.chain.Chain.{Chain}
use Rattle.chain_build.specs.{PlansData, chain_extras, chain_identity}
use Rattle.pin_table.specs.{Identity, IsOfIdentity}
use Rattle.pin_table.specs.declared.views.Plan.{Plan}
use Rattle.pin_table.specs.declared.free_slots.FreeSlot.TheVariants as found
use Rattle.plugin_api.specs.{Sayings, Takings}
use Rattle.outside.specs.States.{WatchState}
use Rattle.corefile_blocks.specs.declared.bundle.Bundle.{Bundle}
use Rattle.corefile_bundle.specs.declared.fault.GatherFault.{GatherFault}
use Rattle.run_meaning.specs.declared.looking.Looking.{Looking}
use Rattle.run_meaning.specs.declared.looking.Looking.TheVariants as looking
use Rattle.reload_watch.specs.Look.{AnswersKept, Frees, LeavesSlot, NotesLook, Searches}
use Rattle.plugin_api.specs.declared.extra.Extra as extra
use Rattle.plugin_api.specs.declared.rulebook.Rulebook as rulebook
use Rattle.reload_watch.specs.declared.watcher.Watcher.{Watcher}
use Rattle.reload_watch.specs.Stocked.{KeepsStock}

module _ {B E : Type 0} {bk : rulebook.Ghosts B} {ex : extra.Ghosts E} where
  -- what extras a chain has is told by its identity
  pub of_extras : (h : List (List Directive) → ℕ) → IsOfIdentity chain_identity (λ (c : Chain B E bk ex). h (chain_extras c))
  of_extras h c d same = ap (λ (i : Identity PlansData). h i.kind.extras) same

  -- one stretch behind another
  pub keeps_both : {W : Type 0} {a b c : Watcher W B E bk ex} → KeepsStock a b → KeepsStock b c → KeepsStock a c
  keeps_both p q = record { judges = q.judges ∙ p.judges; weighs = λ w. q.weighs w ∙ p.weighs w }

passes_by : {X : Type 0} (p : X → Bool) (ys : List X) (x y : X) (b : Bool) → p y ≡ b → (find p ys ≡ Some x → p x ≡ true)
    → cond b (Some y) (find p ys) ≡ Some x → p x ≡ true
passes_by p ys x y true is rest e = ap p (sym (same_Some y x e)) ∙ is
passes_by p ys x y false is rest e = rest e

-- what a search finds meets its test
found_passes : {X : Type 0} (p : X → Bool) (xs : List X) (x : X) → find p xs ≡ Some x → p x ≡ true
found_passes p [] x e = absurd (none-some x e)
found_passes p (y ∷ ys) x e = passes_by p ys x y (p y) refl (found_passes p ys x) e

-- a stock that is short has fewer than are asked for
pub short_less : (workers : ℕ) (blocks : List (List Directive)) (had : List ℕ → ℕ) (name : List ℕ) (asks has : ℕ) → IsShort workers blocks had name asks has → has < asks
short_less workers blocks had name asks has s =
    let d = s.directive in
    let test = short-is workers blocks had d ∙ found_passes (is_short workers blocks had) (in_text blocks) d s.first in
    let less : had d.name < asked workers blocks d.name = ltb-true (had d.name) (asked workers blocks d.name) test in
    let less_name : had name < asked workers blocks name = subst (λ (n : List ℕ). had n < asked workers blocks n) (sym s.name_is) less in
    let one = s.asks_is in
    let two = s.has_is in
    omega (arith, less_name, one, two)

-- a look that found a free slot
pub searched_free : {B E : Type 0} {bk : rulebook.Ghosts B} {ex : extra.Ghosts E} (before mid after : Plan (Chain B E bk ex)) (slot : ℕ) (answer : Looking) → Frees before (found.Free slot) mid → LeavesSlot mid after answer → Searches before after answer
searched_free before mid after slot looking.NoReload frees leaves = absurd leaves
searched_free before mid after slot (looking.ReadFailed name) frees leaves = absurd leaves
searched_free before mid after slot looking.Same frees leaves = absurd leaves
searched_free before mid after slot (looking.Refused why) frees leaves = absurd leaves
searched_free before mid after slot (looking.PortsDiffer ports others) frees leaves = absurd leaves
searched_free before mid after slot looking.SerialsSpent frees leaves = absurd leaves
searched_free before mid after slot (looking.AllPinned one two three) frees leaves = absurd leaves
searched_free before mid after slot (looking.StockShort name asked had) frees leaves = (slot, subst (λ (p : Plan _). Frees before (found.Free slot) p) (sym leaves) frees)
searched_free before mid after slot (looking.Published serial) frees leaves = record { slot = slot; mid = mid; frees = frees; chains = leaves.0; adds = leaves.1; weighs = leaves.2 }
searched_free before mid after slot looking.NoMemory frees leaves = inr (found.Free slot, subst (λ (p : Plan _). Frees before (found.Free slot) p) (sym leaves) frees)

kept_search : {B E : Type 0} {bk : rulebook.Ghosts B} {ex : extra.Ghosts E} (before after : Plan (Chain B E bk ex)) (taken : Takings) (said : Sayings) (plans : PlansData) (gives : Result Bundle GatherFault) (answer : Looking) → after ≡ before → AnswersKept taken said plans gives answer → Searches before after answer
kept_search before after taken said plans gives looking.NoReload same kept = absurd kept
kept_search before after taken said plans gives (looking.ReadFailed name) same kept = same
kept_search before after taken said plans gives looking.Same same kept = same
kept_search before after taken said plans gives (looking.Refused why) same kept = same
kept_search before after taken said plans gives (looking.PortsDiffer ports others) same kept = same
kept_search before after taken said plans gives looking.SerialsSpent same kept = absurd kept
kept_search before after taken said plans gives (looking.AllPinned one two three) same kept = absurd kept
kept_search before after taken said plans gives (looking.StockShort name asked had) same kept = absurd kept
kept_search before after taken said plans gives (looking.Published serial) same kept = absurd kept
kept_search before after taken said plans gives looking.NoMemory same kept = inl same

-- a look that came to no search left the slots as they were
pub kept_searched : {B E : Type 0} {bk : rulebook.Ghosts B} {ex : extra.Ghosts E} (before after : Plan (Chain B E bk ex)) (taken : Takings) (said : Sayings) (plans : PlansData) (gives : Result Bundle GatherFault) (w w' : WatchState) (answer result : Looking)
    → after ≡ before → AnswersKept taken said plans gives answer → NotesLook w w' answer result → Searches before after result
kept_searched before after taken said plans gives w w' answer result same kept notes = elim notes.either [
  | inl is ↦ rw is.0 (kept_search before after taken said plans gives answer same kept)
  | inr is ↦ rw is.0 (inl same)
]
