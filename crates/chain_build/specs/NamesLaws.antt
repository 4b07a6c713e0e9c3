-- The caches that serve the blocks of a generation are all different.
use Rattle.std.proofs.Common.{◌≡◌, ◌≢◌, ◌<◌, inl, inr, ℕ, zero, suc, ◌+◌, true, false, List, [], ◌∷◌, map, Option, Some, None, refl, sym, ap, ◌∙◌, subst, arith}
use Rattle.std.specs.Prelude.{slice_get}
use Rattle.block_readings.specs.Readings.{BlockReading}
use Rattle.lent_caches.specs.ApartLaws.{both, same_is}
use Rattle.lent_caches.specs.Building.{AreDistinct, IsNoneOf}
use Rattle.lent_caches.specs.Held.{HeldData, IsAbsent}
use Rattle.lent_caches.specs.Named.{IsHeldBy, NamedData}
use Rattle.lent_caches.specs.Names.{same_name}
use Rattle.lent_caches.specs.declared.name.CacheName.{CacheName}
use Rattle.chain_build.specs.KeysLaws.{NoneReads, ReadApart, reads_apart}
use Rattle.chain_build.specs.Lending.{AreHeldBy, chain_names, names_in}
use Rattle.chain_build.specs.Naming.{AbsentFrom, Change, GenerationData, NameBlocks, NamesBlock, NamesPlans, Precedes, generation_data, name_at}
use Rattle.chain_build.specs.Plans.{ArePlans, PlansData}
use Rattle.chain_build.specs.Uses.{chain_named}
use Rattle.chain_build.specs.declared.naming.Naming.{Naming}
use Rattle.plugin_api.specs.{Sayings, Takings}

some_is : {A : Type 0} (x y : A) → ◌≡◌ {A = Option A} (Some x) (Some y) → x ≡ y
some_is x y e = cc

-- what stands at a place has no name of those that are others
not_of : (name : CacheName) (named : List (Option NamedData)) (at : ℕ) (m : NamedData) → slice_get named at ≡ Some (Some m) → IsNoneOf name (names_in named) → name ≢ m.name
not_of name [] at m is none = λ e. absurd cc
not_of name (None ∷ named) zero m is none = λ e. absurd cc
not_of name (None ∷ named) (suc at) m is none = not_of name named at m is none
not_of name (Some n ∷ named) zero m is none = λ e.
    let same : n ≡ m = some_is n m (some_is (Some n) (Some m) is) in
    let name_is : name ≡ n.name = e ∙ ap (λ (k : NamedData). k.name) (sym same) in
    let on : same_name name name ≡ true = grind arith in
    let off : same_name name name ≡ false = subst (λ (k : CacheName). same_name name k ≡ false) (sym name_is) none.0 in
    cc
not_of name (Some n ∷ named) (suc at) m is none = not_of name named at m is none.1

tail_distinct : (o : Option NamedData) (named : List (Option NamedData)) → AreDistinct (names_in (o ∷ named)) → AreDistinct (names_in named)
tail_distinct None named distinct = distinct
tail_distinct (Some n) named distinct = distinct.1

head_none : (o : Option NamedData) (named : List (Option NamedData)) (n : NamedData) → o ≡ Some n → AreDistinct (names_in (o ∷ named)) → IsNoneOf n.name (names_in named)
head_none None named n is distinct = absurd cc
head_none (Some m) named n is distinct = subst (λ (k : NamedData). IsNoneOf k.name (names_in named)) (some_is m n is) distinct.0

-- each name stands at one place
one_place : (named : List (Option NamedData)) (i j : ℕ) (n m : NamedData) → AreDistinct (names_in named) → slice_get named i ≡ Some (Some n) → slice_get named j ≡ Some (Some m) → n.name ≡ m.name → i ≡ j
one_place [] i j n m distinct one other same = absurd cc
one_place (o ∷ named) zero zero n m distinct one other same = refl
one_place (o ∷ named) zero (suc j) n m distinct one other same =
    absurd (not_of n.name named j m other (head_none o named n (some_is o (Some n) one) distinct) same)
one_place (o ∷ named) (suc i) zero n m distinct one other same =
    absurd (not_of m.name named i n one (head_none o named m (some_is o (Some m) other) distinct) (sym same))
one_place (o ∷ named) (suc i) (suc j) n m distinct one other same = ap suc (one_place named i j n m (tail_distinct o named distinct) one other same)

-- no cache of a generation has a name of a serial
abbrev pub NoneOfSerial : ℕ → List (Option NamedData) → Type 0
NoneOfSerial serial named = (at block : ℕ) (n : NamedData) → slice_get named at ≡ Some (Some n) → n.name ≢ name_at serial block

module _ (before : GenerationData) (serial : ℕ) (distinct : AreDistinct (names_in before.named)) (none : NoneOfSerial serial before.named) where
  -- two blocks that read differently have different caches
  differ : (at next : ℕ) (r s : BlockReading) (n m : NamedData) → at < next → s ≢ r → NamesBlock before (name_at serial at) r n → NamesBlock before (name_at serial next) s m → n.name ≢ m.name
  differ at next r s n m less other (inl one) (inl two) = λ same.
      let e : one.other ≡ two.other = one_place before.named one.other two.other n m distinct one.named two.named same in
      other (some_is s r (sym two.reads ∙ ap (slice_get before.readings) (sym e) ∙ one.reads))
  differ at next r s n m less other (inl one) (inr two) = λ same. none one.other next n one.named (same ∙ two.name_is)
  differ at next r s n m less other (inr one) (inl two) = λ same. none two.other at m two.named (sym same ∙ one.name_is)
  differ at next r s n m less other (inr one) (inr two) = λ same.
      let e : at ≡ next = ap (λ (k : CacheName). k.block) (sym one.name_is ∙ same ∙ two.name_is) in
      absurd (omega (arith, e, less))

  none_of : (at next : ℕ) (r : BlockReading) (n : NamedData) (readings : List BlockReading) (named : List (Option NamedData)) → at < next → NoneReads r readings → NamesBlock before (name_at serial at) r n → NameBlocks before serial next readings named → IsNoneOf n.name (names_in named)
  none_of at next r n [] [] less apart names rest = tt
  none_of at next r n [] (o ∷ named) less apart names rest = absurd rest
  none_of at next r n (s ∷ readings) [] less apart names rest = absurd rest
  none_of at next r n (s ∷ readings) (None ∷ named) less apart names rest = none_of at (next + 1) r n readings named (omega (arith, less)) apart.1 names rest
  none_of at next r n (s ∷ readings) (Some m ∷ named) less apart names rest = (
    both (same_name n.name m.name)
        (λ t. absurd (differ at next r s n m less apart.0 names rest.0 (same_is n.name m.name t)))
        (λ f. f),
    none_of at (next + 1) r n readings named (omega (arith, less)) apart.1 names rest.1,
  )

  pub blocks_distinct : (at : ℕ) (readings : List BlockReading) (named : List (Option NamedData)) → ReadApart readings → NameBlocks before serial at readings named → AreDistinct (names_in named)
  blocks_distinct at [] [] apart names = tt
  blocks_distinct at [] (o ∷ named) apart names = absurd names
  blocks_distinct at (r ∷ readings) [] apart names = absurd names
  blocks_distinct at (r ∷ readings) (None ∷ named) apart names = blocks_distinct (at + 1) readings named apart.1 names
  blocks_distinct at (r ∷ readings) (Some n ∷ named) apart names =
      (none_of at (at + 1) r n readings named (omega arith) apart.0 names.0 names.1, blocks_distinct (at + 1) readings named apart.1 names.1)

-- what is held has no name under which none is
by_absent : (n : NamedData) (held : List HeldData) → IsHeldBy n held → IsAbsent n.name held → ⊥
by_absent n [] by absent = by
by_absent n (h ∷ held) (inl is) absent = absurd (cc (absent.0, is.0))
by_absent n (h ∷ held) (inr other) absent = by_absent n held other absent.1

none_at : (serial : ℕ) (named : List (Option NamedData)) (held : List HeldData) (at block : ℕ) (n : NamedData) → AreHeldBy named held → AbsentFrom serial 0 held → slice_get named at ≡ Some (Some n) → n.name ≡ name_at serial block → ⊥
none_at serial [] held at block n by absent is same = absurd cc
none_at serial (None ∷ named) held zero block n by absent is same = absurd cc
none_at serial (Some m ∷ named) held zero block n by absent is same =
    let e : m ≡ n = some_is m n (some_is (Some m) (Some n) is) in
    by_absent n held (subst (λ (k : NamedData). IsHeldBy k held) e by.0) (subst (λ (k : CacheName). IsAbsent k held) (sym same) (absent block (omega arith)))
none_at serial (None ∷ named) held (suc at) block n by absent is same = none_at serial named held at block n by absent is same
none_at serial (Some m ∷ named) held (suc at) block n by absent is same = none_at serial named held at block n by.1 absent is same

none_of_serial : (serial : ℕ) (named : List (Option NamedData)) (held : List HeldData) → AreHeldBy named held → AbsentFrom serial 0 held → NoneOfSerial serial named
none_of_serial serial named held by absent = λ at block n is same. none_at serial named held at block n by absent is same

-- the caches that serve plans are all different, where those of the generation before are, since no
-- two blocks of a bundle read the same
pub names_distinct : (naming : Naming) (taken : Takings) (said : Sayings) (plans : PlansData) (c : Change) → ArePlans taken said plans → Precedes naming.before c.before → AbsentFrom naming.serial 0 c.before
    → AreDistinct (names_in (generation_data naming.before).named) → NamesPlans naming c plans → AreDistinct (chain_names plans.chains)
names_distinct naming taken said plans c are precedes absent distinct names =
    blocks_distinct (generation_data naming.before) naming.serial distinct (none_of_serial naming.serial (generation_data naming.before).named c.before precedes.served.by absent) 0 _ (map chain_named plans.chains)
    (reads_apart plans.bundle plans.default_port plans.bundle.files plans.blocks are.accepted.read are.keyed) names.reads.names
