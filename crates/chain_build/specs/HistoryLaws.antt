-- The caches of generations one after another are named as their history has it.
use Rattle.std.proofs.Common.{◌≡◌, ◌≢◌, ◌⊎◌, inl, inr, ℕ, zero, suc, ◌+◌, true, false, List, [], ◌∷◌, Option, Some, None, slice_get, refl, sym, ap, ◌∙◌, subst, arith}
use Rattle.std.proofs.lemmas.Option.{none-some, same_Some}
use Rattle.block_readings.specs.Readings.{BlockReading}
use Rattle.lent_caches.specs.Named.{NamedData}
use Rattle.one_history.specs.Names as history
use Rattle.one_history.specs.Names.{AreNamed, BeginsAnew, began}
use Rattle.one_history.specs.Runs.{reading}
use Rattle.chain_build.specs.History.{AllHave, AreReadApart, FollowOn, has_cache, name_in, named_name, names_of, readings_of}
use Rattle.chain_build.specs.KeysLaws.{NoneReads, ReadApart}
use Rattle.chain_build.specs.Naming.{GenerationData, NameBlocks, NamesBlock, name_at}
use Rattle.chain_build.specs.Seats.{name_of}

-- what a block that has a name reads, and how that was chosen
record Chosen (before : GenerationData) (serial : ℕ) (readings : List BlockReading) (block : ℕ) (name : history.CacheName) (at : ℕ) : Type 0 where
  r : BlockReading
  is : slice_get readings block ≡ Some r
  n : NamedData
  name_is : name_of n.name ≡ name
  names : NamesBlock before (name_at serial at) r n

chosen : (before : GenerationData) (serial at : ℕ) (readings : List BlockReading) (named : List (Option NamedData)) (block : ℕ) (name : history.CacheName) → NameBlocks before serial at readings named → name_in named block ≡ Some name → Chosen before serial readings block name (at + block)
chosen before serial at [] [] block name names is = absurd (none-some name is)
chosen before serial at [] (o ∷ named) block name names is = absurd names
chosen before serial at (r ∷ readings) [] block name names is = absurd names
chosen before serial at (r ∷ readings) (None ∷ named) zero name names is = absurd (none-some name is)
chosen before serial at (r ∷ readings) (Some n ∷ named) zero name names is = record {
  r = r;
  is = refl;
  n = n;
  name_is = same_Some (name_of n.name) name is;
  names = subst (λ (a : ℕ). NamesBlock before (name_at serial a) r n) (omega arith) names.0;
}
chosen before serial at (r ∷ readings) (None ∷ named) (suc block) name names is =
    let c = chosen before serial (at + 1) readings named block name names is in
    record { r = c.r; is = c.is; n = c.n; name_is = c.name_is; names = subst (λ (a : ℕ). NamesBlock before (name_at serial a) c.r c.n) (omega arith) c.names }
chosen before serial at (r ∷ readings) (Some m ∷ named) (suc block) name names is =
    let c = chosen before serial (at + 1) readings named block name names.1 is in
    record { r = c.r; is = c.is; n = c.n; name_is = c.name_is; names = subst (λ (a : ℕ). NamesBlock before (name_at serial a) c.r c.n) (omega arith) c.names }

-- the name that stands at a place
name_there : (named : List (Option NamedData)) (block : ℕ) (n : NamedData) → slice_get named block ≡ Some (Some n) → name_in named block ≡ Some (name_of n.name)
name_there [] block n is = absurd (none-some (Some n) is)
name_there (o ∷ named) zero n is = ap named_name (same_Some o (Some n) is)
name_there (o ∷ named) (suc block) n is = name_there named block n is

-- each block with a cache has one, and only blocks have
named_all : (readings : List BlockReading) (named : List (Option NamedData)) (block : ℕ) (r : BlockReading) → AllHave readings named → slice_get readings block ≡ Some r → has_cache r ≡ true → (name : history.CacheName) × (name_in named block ≡ Some name)
named_all [] named block r have is cached = absurd (none-some r is)
named_all (q ∷ readings) [] block r have is cached = absurd have
named_all (q ∷ readings) (None ∷ named) zero r have is cached =
    let off : false ≡ true = have.0 ∙ ap has_cache (same_Some q r is) ∙ cached in
    absurd cc
named_all (q ∷ readings) (Some n ∷ named) zero r have is cached = (name_of n.name, refl)
named_all (q ∷ readings) (o ∷ named) (suc block) r have is cached = named_all readings named block r have.1 is cached

reads_none : (r : BlockReading) (readings : List BlockReading) (b : ℕ) → NoneReads r readings → slice_get readings b ≢ Some r
reads_none r [] b none is = none-some r is
reads_none r (q ∷ readings) zero none is = none.0 (same_Some q r is)
reads_none r (q ∷ readings) (suc b) none is = reads_none r readings b none.1 is

reads_once : (readings : List BlockReading) (a b : ℕ) (r : BlockReading) → ReadApart readings → slice_get readings a ≡ Some r → slice_get readings b ≡ Some r → a ≡ b
reads_once [] a b r apart one other = absurd (none-some r one)
reads_once (q ∷ readings) zero zero r apart one other = refl
reads_once (q ∷ readings) zero (suc b) r apart one other = absurd (reads_none q readings b apart.0 (other ∙ sym one))
reads_once (q ∷ readings) (suc a) zero r apart one other = absurd (reads_none q readings a apart.0 (one ∙ sym other))
reads_once (q ∷ readings) (suc a) (suc b) r apart one other = ap suc (reads_once readings a b r apart.1 one other)

no_reading : (serial block : ℕ) (r : BlockReading) → reading [] serial block ≡ Some r → ⊥
no_reading serial block r is = none-some r is

all_named : (gs : List GenerationData) (serial block : ℕ) (r : BlockReading) → AreReadApart gs → reading (readings_of gs) serial block ≡ Some r → has_cache r ≡ true → (name : history.CacheName) × (names_of gs serial block ≡ Some name)
all_named [] serial block r apart is cached = absurd (no_reading serial block r is)
all_named (g ∷ gs) zero block r apart is cached = named_all g.readings g.named block r apart.0 is cached
all_named (g ∷ gs) (suc serial) block r apart is cached = all_named gs serial block r apart.2 is cached

all_apart : (gs : List GenerationData) (serial a b : ℕ) (r : BlockReading) → AreReadApart gs → reading (readings_of gs) serial a ≡ Some r → reading (readings_of gs) serial b ≡ Some r → a ≡ b
all_apart [] serial a b r apart one other = absurd (no_reading serial a r one)
all_apart (g ∷ gs) zero a b r apart one other = reads_once g.readings a b r apart.1 one other
all_apart (g ∷ gs) (suc serial) a b r apart one other = all_apart gs serial a b r apart.2 one other

only_named : (before : GenerationData) (k : ℕ) (gs : List GenerationData) (serial block : ℕ) (name : history.CacheName) → FollowOn before k gs → names_of gs serial block ≡ Some name → (r : BlockReading) × (reading (readings_of gs) serial block ≡ Some r)
only_named before k [] serial block name on is = absurd (none-some name is)
only_named before k (g ∷ gs) zero block name on is = let c = chosen before k 0 g.readings g.named block name on.0 is in (c.r, c.is)
only_named before k (g ∷ gs) (suc serial) block name on is = only_named g (k + 1) gs serial block name on.1 is

-- how a block of a later generation was named, where the first one has this serial
record Anew (k : ℕ) (gs : List GenerationData) (serial block : ℕ) (name : history.CacheName) : Type 0 where
  name_is : name ≡ began (k + suc serial) block
  none : (other : ℕ) (r : BlockReading) → reading (readings_of gs) (suc serial) block ≡ Some r → reading (readings_of gs) serial other ≢ Some r

record On (gs : List GenerationData) (serial block : ℕ) (name : history.CacheName) : Type 0 where
  other : ℕ
  named : names_of gs serial other ≡ Some name
  r : BlockReading
  was : reading (readings_of gs) serial other ≡ Some r
  is : reading (readings_of gs) (suc serial) block ≡ Some r

next_named : (before : GenerationData) (k : ℕ) (gs : List GenerationData) (serial block : ℕ) (name : history.CacheName) → FollowOn before k gs → names_of gs (suc serial) block ≡ Some name → On gs serial block name ⊎ Anew k gs serial block name
next_named before k [] serial block name on is = absurd (none-some name is)
next_named before k (g ∷ []) zero block name on is = absurd (none-some name is)
next_named before k (g ∷ h ∷ gs) zero block name on is =
    let c = chosen g (k + 1) 0 h.readings h.named block name on.1.0 is in
    by c c.names
  where
    by : (c : Chosen g (k + 1) h.readings block name (0 + block)) → NamesBlock g (name_at (k + 1) (0 + block)) c.r c.n → On (g ∷ h ∷ gs) zero block name ⊎ Anew k (g ∷ h ∷ gs) zero block name
    by c (inl goes) = inl (record {
      other = goes.other;
      named = name_there g.named goes.other c.n goes.named ∙ ap Some c.name_is;
      r = c.r;
      was = goes.reads;
      is = c.is;
    })
    by c (inr begins) =
        let late : k + 1 ≡ k + suc zero = omega arith in
        let here : 0 + block ≡ block = omega arith in
        inr (record {
          name_is = sym c.name_is ∙ ap name_of begins.name_is ∙ (λ i. began (late i) (here i));
          none = λ other r there was. begins.none other (was ∙ sym there ∙ c.is);
        })
next_named before k (g ∷ gs) (suc serial) block name on is = by (next_named g (k + 1) gs serial block name on.1 is)
  where
    by : On gs serial block name ⊎ Anew (k + 1) gs serial block name → On (g ∷ gs) (suc serial) block name ⊎ Anew k (g ∷ gs) (suc serial) block name
    by (inl goes) = inl (record { other = goes.other; named = goes.named; r = goes.r; was = goes.was; is = goes.is })
    by (inr anew) =
        let late : k + 1 + suc serial ≡ k + suc (suc serial) = omega arith in
        inr (record { name_is = anew.name_is ∙ ap (λ (n : ℕ). began n block) late; none = anew.none })

-- the first generation follows none
first_named : (before : GenerationData) (gs : List GenerationData) (block : ℕ) (name : history.CacheName) → before.readings ≡ [] → before.named ≡ [] → FollowOn before 0 gs → names_of gs 0 block ≡ Some name → name ≡ began 0 block
first_named before [] block name none none_named on is = absurd (none-some name is)
first_named before (g ∷ gs) block name none none_named on is =
    let c = chosen before 0 0 g.readings g.named block name on.0 is in
    by c c.names
  where
    by : (c : Chosen before 0 g.readings block name (0 + block)) → NamesBlock before (name_at 0 (0 + block)) c.r c.n → name ≡ began 0 block
    by c (inl goes) = absurd (none-some c.r (sym (ap (λ (l : List BlockReading). slice_get l goes.other) none) ∙ goes.reads))
    by c (inr begins) =
        let here : 0 + block ≡ block = omega arith in
        sym c.name_is ∙ ap name_of begins.name_is ∙ ap (λ (n : ℕ). began 0 n) here

-- Generations, each behind the one before it and the first behind none, are named as their history
-- has it, where each block with a cache has one and no two of a generation read the same.
pub are_named : (before : GenerationData) (gs : List GenerationData) → before.readings ≡ [] → before.named ≡ [] → FollowOn before 0 gs → AreReadApart gs → AreNamed has_cache (readings_of gs) (names_of gs)
are_named before gs none none_named on apart = record {
  all = λ serial block r is cached. all_named gs serial block r apart is cached;
  only = λ serial block name is. only_named before 0 gs serial block name on is;
  first = λ block name is. first_named before gs block name none none_named on is;
  next = λ serial block name is. by serial block name (next_named before 0 gs serial block name on (subst (λ (n : ℕ). names_of gs n block ≡ Some name) (later serial) is));
  apart = λ serial a b r one other. all_apart gs serial a b r apart one other;
}
  where
    later : (serial : ℕ) → serial + 1 ≡ suc serial
    later serial = omega arith

    by : (serial block : ℕ) (name : history.CacheName) → On gs serial block name ⊎ Anew 0 gs serial block name → history.GoesOn (readings_of gs) (names_of gs) serial block name ⊎ BeginsAnew (readings_of gs) serial block name
    by serial block name (inl goes) = inl (record {
      other = goes.other;
      named = goes.named;
      reads = goes.r;
      was = goes.was;
      is = subst (λ (n : ℕ). reading (readings_of gs) n block ≡ Some goes.r) (sym (later serial)) goes.is;
    })
    by serial block name (inr anew) =
        let late : 0 + suc serial ≡ serial + 1 = omega arith in
        inr (record {
          name_is = anew.name_is ∙ ap (λ (n : ℕ). began n block) late;
          none = λ other r there. anew.none other r (subst (λ (n : ℕ). reading (readings_of gs) n block ≡ Some r) (later serial) there);
        })
