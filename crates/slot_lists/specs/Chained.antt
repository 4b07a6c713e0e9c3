-- Slots in chains, each in that of its place. This server's own rule.
use Rattle.std.specs.Prelude.{◌≡◌, ◌≢◌, ℕ, ◌<◌, ◌≤◌, ◌⊎◌, List, ◌∷◌, ◌++◌, length, slice_index, slice_set}
use Rattle.slot_lists.specs.Links.{Leads, IsIn, Once, walked}

-- the slot is one of so many, from 1 on, and not the one that is out
pub record IsLinked (many out slot : ℕ) : Type 0 where
  pub some : 0 < slot
  pub few : slot ≤ many
  pub in_it : slot ≢ out

-- each linked slot stands once, in the chain of its place
pub record AreChained (heads nexts : List ℕ) (place : ℕ → ℕ) (many out : ℕ) (chain : ℕ → List ℕ)
    : Type 0 where
  pub low : (slot : ℕ) → place slot < length heads
  pub path : (at : ℕ) → at < length heads → Leads nexts (slice_index heads at) (chain at) 0
  pub once : (at : ℕ) → at < length heads → Once (chain at)
  pub mine : (at slot : ℕ) → at < length heads → IsIn slot (chain at) → IsLinked many out slot
  pub place_is : (at slot : ℕ) → at < length heads → IsIn slot (chain at) → place slot ≡ at
  pub all : (slot : ℕ) → IsLinked many out slot → IsIn slot (chain (place slot))

-- a slot's link was led past, from the head of its chain or from the slot in front of it
pub record IsCutAtHead (heads nexts : List ℕ) (at slot : ℕ) (heads2 nexts2 : List ℕ) : Type 0 where
  pub head : slice_index heads at ≡ slot
  pub heads_are : heads2 ≡ slice_set heads at (slice_index nexts slot)
  pub nexts_are : nexts2 ≡ nexts

pub record IsCutBehind (heads nexts : List ℕ) (at slot : ℕ) (heads2 nexts2 : List ℕ) : Type 0 where
  pub front : ℕ
  pub in_it : IsIn front (walked (length nexts) nexts (slice_index heads at))
  pub next : slice_index nexts front ≡ slot
  pub heads_are : heads2 ≡ heads
  pub nexts_are : nexts2 ≡ slice_set nexts front (slice_index nexts slot)

abbrev pub IsCut : List ℕ → List ℕ → ℕ → ℕ → List ℕ → List ℕ → Type 0
IsCut heads nexts at slot heads2 nexts2 =
    IsCutAtHead heads nexts at slot heads2 nexts2 ⊎ IsCutBehind heads nexts at slot heads2 nexts2

-- a chain, as its links tell it, with the slot in it
pub record IsChainWith (heads nexts : List ℕ) (at slot : ℕ) (slots : List ℕ) : Type 0 where
  pub path : Leads nexts (slice_index heads at) slots 0
  pub once : Once slots
  pub some : IsIn 0 slots → ⊥
  pub in_it : IsIn slot slots

-- a walk along it has come to a slot in front of that one
pub record IsInFront (heads nexts : List ℕ) (at slot front : ℕ) : Type 0 where
  pub slots : List ℕ
  pub is : IsChainWith heads nexts at slot slots
  pub xs : List ℕ
  pub ys : List ℕ
  pub parts : slots ≡ xs ++ front ∷ ys
  pub ahead : IsIn slot ys
