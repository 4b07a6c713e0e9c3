-- A store stays one, and shows what it should.
use Rattle.std.proofs.Common.{◌≡◌, ◌≢◌, ℕ, zero, suc, ◌+◌, ◌-◌, ◌<◌, ◌≤◌, Bool, true, false, cond, List, [], ◌∷◌, ◌++◌, length, take, refl, inl, inr, sym, ap, subst, ◌∙◌, arith, Option, Some, None, append-nil, append_assoc, length-append}
use Rattle.std.specs.Prelude.{◌⊎◌, slice_index, slice_get, slice_set, option_to_list, option_map, replicate}
use Rattle.std.specs.Option.{option_map_or}
use Rattle.std.specs.Map.{lookup, lookup_entry, remove_entry}
use Rattle.std.specs.Arc.{arc_value}
use Rattle.std.proofs.lemmas.Bool.{cases_eq, false≢true}
use Rattle.std.proofs.lemmas.List.{get_or-replicate, length-replicate, length-set}
use Rattle.std.proofs.lemmas.Option.{slice_get_within, slice_get_cases}
use Rattle.lru.specs.LruCache.{lru_cache, promoted, put_entries}
use Rattle.outside.specs.{same_key}
use Rattle.outside.specs.SameLaws.{exact_key, key_itself}
use Rattle.outside.specs.declared.entry.Key.{Key}
use Rattle.seeded_hash.specs.declared.hasher.Seed.{Seed}
use Rattle.last_used.proofs.Latest.{looked_entry, entry_append}
use Rattle.slot_lists.specs.Links.{IsIn, Once, walked}
use Rattle.slot_lists.specs.Rings.{OrderData, order_data}
use Rattle.slot_lists.specs.Chained.{IsLinked, AreChained, IsCut}
use Rattle.slot_lists.specs.declared.chains.Chains.{Chains}
use Rattle.slot_lists.proofs.Links.{in_middle, in_more, in_less, once_less, once_gone, split_at}
use Rattle.slot_lists.proofs.Chained.{told, linked, cut, relinked, chain_some, changed}
use Rattle.cache_shards.specs.Answers.{live_at}
use Rattle.cache_shards.specs.Steps.{live_in, put_in}
use Rattle.cache_shards.specs.Stores.{Held}
use Rattle.cache_shards.specs.Slots.{Pair, shown, place_of, place_at, IsPairOf, AreOthers, IsChainOf, IsStore}
use Rattle.cache_shards.proofs.Walks.{chain_low}

pub place_low : (seed : Seed) (room : ℕ) (key : Key) → 0 < room → place_of seed room key < room
unfolding place_of
place_low seed room key some = chain_low _ room some

pub chain_is : (seed : Seed) (pairs : List Pair) (order : OrderData) (chains : Chains) (room : ℕ) (s : IsStore seed pairs order chains room) (at : ℕ) → at < room
    → IsChainOf chains.heads.items chains.nexts.items (length pairs) at (s.chain at)
chain_is seed pairs order chains room s at low =
    let l : at < length chains.heads.items = omega (arith, low, s.heads) in
    record {
      path = s.chained.path at l;
      once = s.chained.once at l;
      some = λ slot h. (s.chained.mine at slot l h).some;
      few = λ slot h. (s.chained.mine at slot l h).few;
    }

pub place_is : (seed : Seed) (room : ℕ) (pairs : List Pair) (slot : ℕ) (p : Pair) → slice_get pairs (slot - 1) ≡ Some p → place_at seed room pairs slot ≡ place_of seed room p.0
place_is seed room pairs slot p e = ap (λ (o : Option Pair). option_map_or (λ (q : Pair). place_of seed room q.0) o 0) e

-- a slot in use is linked
pub in_use : (seed : Seed) (pairs : List Pair) (order : OrderData) (chains : Chains) (room : ℕ) → IsStore seed pairs order chains room → (slot : ℕ) → IsIn slot order.slots
    → IsLinked (length pairs) 0 slot
in_use seed pairs order chains room s slot h = record { some = s.low slot h; few = s.high slot h; in_it = λ e. let z = s.low slot h in absurd (omega (arith, z, e)) }

-- no slot has a key that its chain hasn't
pub missing : (seed : Seed) (pairs : List Pair) (order : OrderData) (chains : Chains) (room : ℕ) (key : Key) (at : ℕ) → IsStore seed pairs order chains room → at ≡ place_of seed room key
    → AreOthers pairs key (walked (length chains.nexts.items) chains.nexts.items (slice_index chains.heads.items at)) → AreOthers pairs key order.slots
missing seed pairs order chains room key at s is others slot p i e = (elim (same_key key p.0) as (λ b. same_key key p.0 ≡ b → same_key key p.0 ≡ false) [
  | false ↦ λ t. t
  | true ↦ λ t.
      let one : key ≡ p.0 = (exact_key key p.0).0 t in
      let low : at < length chains.heads.items = let l = place_low seed room key s.some in omega (arith, l, s.heads, is) in
      let place : place_at seed room pairs slot ≡ at = place_is seed room pairs slot p e ∙ ap (place_of seed room) (sym one) ∙ sym is in
      let there : IsIn slot (s.chain at) = subst (λ (z : ℕ). IsIn slot (s.chain z)) place (s.chained.all slot (in_use seed pairs order chains room s slot i)) in
      let all : walked (length chains.nexts.items) chains.nexts.items (slice_index chains.heads.items at) ≡ s.chain at =
      told chains.nexts.items (slice_index chains.heads.items at) (s.chain at) (s.chained.path at low) (s.chained.once at low)
      (chain_some chains.heads.items chains.nexts.items (place_at seed room pairs) (length pairs) 0 s.chain at s.chained low) in
      others slot p (subst (IsIn slot) (sym all) there) e
]) refl

-- what is shown
pub shown_append : (pairs : List Pair) (xs ys : List ℕ) → shown pairs (xs ++ ys) ≡ shown pairs xs ++ shown pairs ys
shown_append pairs [] ys = refl
shown_append pairs (x ∷ xs) ys =
    ap (λ (l : List Pair). option_to_list (slice_get pairs (x - 1)) ++ l) (shown_append pairs xs ys)
    ∙ sym (append_assoc (option_to_list (slice_get pairs (x - 1))) (shown pairs xs) (shown pairs ys))

pub shown_first : (pairs : List Pair) (x : ℕ) (p : Pair) (xs : List ℕ) → slice_get pairs (x - 1) ≡ Some p → shown pairs (x ∷ xs) ≡ p ∷ shown pairs xs
shown_first pairs x p xs e = ap (λ (o : Option Pair). option_to_list o ++ shown pairs xs) e

pub entry_none : (pairs : List Pair) (key : Key) (xs : List ℕ) → AreOthers pairs key xs → lookup_entry (same_key key) (shown pairs xs) ≡ None
entry_none pairs key [] others = refl
entry_none pairs key (x ∷ xs) others = by_get (slice_get pairs (x - 1)) refl (entry_none pairs key xs (λ z p i g. others z p (inr i) g))
  where
    by_get : (o : Option Pair) → slice_get pairs (x - 1) ≡ o → lookup_entry (same_key key) (shown pairs xs) ≡ None → lookup_entry (same_key key) (shown pairs (x ∷ xs)) ≡ None
    by_get None e rest = ap (λ (o : Option Pair). lookup_entry (same_key key) (option_to_list o ++ shown pairs xs)) e ∙ rest
    by_get (Some p) e rest = ap (λ (o : Option Pair). lookup_entry (same_key key) (option_to_list o ++ shown pairs xs)) e
        ∙ ap (λ (b : Bool). cond b (Some p) (lookup_entry (same_key key) (shown pairs xs))) (others x p (inl refl) e) ∙ rest

pub removed_at : {K E : Type 0} (t : K → Bool) (xs : List (K × E)) (p : K × E) (ys : List (K × E)) → lookup_entry t xs ≡ None → t p.0 ≡ true
    → remove_entry t (xs ++ p ∷ ys) ≡ xs ++ ys
removed_at t [] p ys h e = rw e refl
removed_at t (x ∷ xs) p ys h e = (elim (t x.0) as (λ b. t x.0 ≡ b → remove_entry t (x ∷ xs ++ p ∷ ys) ≡ x ∷ xs ++ ys) [
  | true ↦ λ q. let g = rw q at h in cc
  | false ↦ λ q. rw q (ap (λ (l : List _). x ∷ l) (removed_at t xs p ys (rw q at h) e))
]) refl

pub entry_at : {K E : Type 0} (t : K → Bool) (xs : List (K × E)) (p : K × E) (ys : List (K × E)) → lookup_entry t xs ≡ None → t p.0 ≡ true
    → lookup_entry t (xs ++ p ∷ ys) ≡ Some p
entry_at t xs p ys h e = entry_append t xs (p ∷ ys) ∙ rw (h, e) refl

-- where a key's pair stands
pub record Placed (pairs : List Pair) (slots : List ℕ) (key : Key) (slot : ℕ) (p : Pair) : Type 0 where
  pub xs : List ℕ
  pub ys : List ℕ
  pub parts : slots ≡ xs ++ slot ∷ ys
  pub is : slice_get pairs (slot - 1) ≡ Some p
  pub same : same_key key p.0 ≡ true
  pub none : lookup_entry (same_key key) (shown pairs xs) ≡ None

pub placed : (seed : Seed) (pairs : List Pair) (order : OrderData) (chains : Chains) (room : ℕ) (key : Key) (slot : ℕ) → IsStore seed pairs order chains room
    → (f : IsPairOf pairs key slot) → Placed pairs order.slots key slot f.pair
placed seed pairs order chains room key slot s f =
    let inside = slice_get_within pairs (slot - 1) f.pair f.is in
    let few : slot ≤ length pairs = omega (arith, inside, f.some) in
    let w = split_at order.slots slot (s.all slot f.some few) in
    let once : Once (w.0 ++ slot ∷ w.1) = subst Once w.2 s.once in
    record {
      xs = w.0;
      ys = w.1;
      parts = w.2;
      is = f.is;
      same = f.same;
      none = entry_none pairs key w.0 (λ x q i e. (elim (same_key key q.0) as (λ b. same_key key q.0 ≡ b → same_key key q.0 ≡ false) [
        | false ↦ λ t. t
        | true ↦ λ t.
            let x_in : IsIn x order.slots = subst (IsIn x) (sym w.2) (in_more w.0 slot w.1 x (front w.0 w.1 x i)) in
            let low = s.low x x_in in
            let one : key ≡ f.pair.0 = (exact_key key f.pair.0).0 f.same in
            let at = s.apart (x - 1) (slot - 1) q f.pair e f.is (subst (λ (k : Key). same_key q.0 k ≡ true) one
            (subst (λ (k : Key). same_key q.0 k ≡ true) (sym ((exact_key key q.0).0 t)) (key_itself q.0))) in
            let equal : x ≡ slot = omega (arith, at, low, f.some) in
            absurd (once_gone w.0 slot w.1 once (subst (λ (z : ℕ). IsIn z (w.0 ++ w.1)) equal (front w.0 w.1 x i)))
      ]) refl);
    }
  where
    front : (xs ys : List ℕ) (x : ℕ) → IsIn x xs → IsIn x (xs ++ ys)
    front [] ys x h = absurd h
    front (z ∷ xs) ys x h = elim h [ inl e ↦ inl e | inr r ↦ inr (front xs ys x r) ]

module _ (pairs : List Pair) (slots : List ℕ) (key : Key) (slot : ℕ) (p : Pair) (w : Placed pairs slots key slot p) where
  pub shown_parts : shown pairs slots ≡ shown pairs w.xs ++ p ∷ shown pairs w.ys
  shown_parts = ap (shown pairs) w.parts ∙ shown_append pairs w.xs (slot ∷ w.ys)
      ∙ ap (λ (l : List Pair). shown pairs w.xs ++ l) (shown_first pairs slot p w.ys w.is)

  pub entry_is : lookup_entry (same_key key) (shown pairs slots) ≡ Some p
  entry_is = ap (lookup_entry (same_key key)) shown_parts ∙ entry_at (same_key key) (shown pairs w.xs) p (shown pairs w.ys) w.none w.same

  pub removed_is : remove_entry (same_key key) (shown pairs slots) ≡ shown pairs (w.xs ++ w.ys)
  removed_is = ap (remove_entry (same_key key)) shown_parts ∙ removed_at (same_key key) (shown pairs w.xs) p (shown pairs w.ys) w.none w.same
      ∙ sym (shown_append pairs w.xs w.ys)

  pub lookup_is : lookup (same_key key) (shown pairs slots) ≡ Some p.1
  lookup_is = looked_entry (same_key key) (shown pairs slots) ∙ ap (option_map (λ (e : Pair). e.1)) entry_is

  pub promoted_is : promoted (same_key key) (shown pairs slots) ≡ shown pairs (slot ∷ w.xs ++ w.ys)
  promoted_is =
      (λ j. option_map_or (λ (e : Pair). e ∷ removed_is j) (entry_is j) (shown pairs slots))
      ∙ sym (shown_first pairs slot p (w.xs ++ w.ys) w.is)

-- a slot that is used goes to the front
pub fronted : (seed : Seed) (pairs : List Pair) (order : OrderData) (chains : Chains) (room : ℕ) (xs : List ℕ) (slot : ℕ) (ys : List ℕ) → IsStore seed pairs order chains room
    → order.slots ≡ xs ++ slot ∷ ys → IsStore seed pairs (order_data (slot ∷ xs ++ ys) order.places) chains room
fronted seed pairs order chains room xs slot ys s e =
    let once : Once (xs ++ slot ∷ ys) = subst Once e s.once in
    let was : (x : ℕ) → IsIn x (slot ∷ xs ++ ys) → IsIn x order.slots = λ x h. subst (IsIn x) (sym e) (elim h [
      | inl same ↦ subst (λ (z : ℕ). IsIn z (xs ++ slot ∷ ys)) (sym same) (in_middle xs slot ys)
      | inr r ↦ in_more xs slot ys x r
    ]) in
    let now : (x : ℕ) → IsIn x order.slots → IsIn x (slot ∷ xs ++ ys) = λ x h. elim (cases_eq x slot) [
      | inl same ↦ inl same
      | inr n ↦ inr (in_less xs slot ys x n (subst (IsIn x) e h))
    ] in
    let many : length (slot ∷ xs ++ ys) ≡ length order.slots =
    let a = length-append xs ys in let b = length-append xs (slot ∷ ys) in let g = ap (λ (l : List ℕ). length l) e in omega (arith, a, b, g) in
    record {
      some = s.some;
      few = s.few;
      count = many ∙ s.count;
      once = (once_gone xs slot ys once, once_less xs slot ys once);
      low = λ x h. s.low x (was x h);
      high = λ x h. s.high x (was x h);
      all = λ x l m. now x (s.all x l m);
      places = s.places;
      heads = s.heads;
      nexts = s.nexts;
      apart = s.apart;
      chain = s.chain;
      chained = s.chained;
    }

pub none_live : (seed : Seed) (pairs : List Pair) (order : OrderData) (chains : Chains) (room : ℕ) (key : Key) (at now : ℕ) → IsStore seed pairs order chains room → at ≡ place_of seed room key
    → AreOthers pairs key (walked (length chains.nexts.items) chains.nexts.items (slice_index chains.heads.items at))
    → live_in (lru_cache (shown pairs order.slots) room) key now ≡ None
none_live seed pairs order chains room key at now s is others =
    ap (λ (o : Option Held). live_at now (option_map arc_value o)) (looked_entry (same_key key) (shown pairs order.slots)
    ∙ ap (option_map (λ (e : Pair). e.1)) (entry_none pairs key order.slots (missing seed pairs order chains room key at s is others)))

pub empty : (seed : Seed) (pairs : List Pair) (order : OrderData) (chains : Chains) (room : ℕ) → 0 < room → pairs ≡ [] → order ≡ order_data [] (room + 1)
    → chains.heads.items ≡ replicate room 0 → length chains.nexts.items ≡ room + 1 → IsStore seed pairs order chains room
empty seed pairs order chains room some none is heads nexts =
    let slots : order.slots ≡ [] = ap (λ (o : OrderData). o.slots) is in
    let no_pairs : length pairs ≡ 0 = ap (λ (l : List Pair). length l) none in
    let many : length chains.heads.items ≡ room = ap (λ (l : List ℕ). length l) heads ∙ length-replicate room 0 in
    let nothing : (i : ℕ) → slice_get pairs i ≡ None = λ i. ap (λ (l : List Pair). slice_get l i) none in
    record {
      some = some;
      few = omega (arith, no_pairs);
      count = ap (λ (l : List ℕ). length l) slots ∙ sym no_pairs;
      once = subst Once (sym slots) tt;
      low = λ x h. absurd (subst (IsIn x) slots h);
      high = λ x h. absurd (subst (IsIn x) slots h);
      all = λ x l m. absurd (omega (arith, l, m, no_pairs));
      places = ap (λ (o : OrderData). o.places) is;
      heads = many;
      nexts = nexts;
      apart = λ i j p q e f g. let n = nothing i in absurd cc;
      chain = λ at. [];
      chained = record {
        low = λ slot. subst (λ (n : ℕ). n < length chains.heads.items) (sym (ap (λ (o : Option Pair). option_map_or (λ (q : Pair). place_of seed room q.0) o 0) (nothing (slot - 1)))) (omega (arith, some, many));
        path = λ at l. ap (λ (h : List ℕ). slice_index h at) heads ∙ get_or-replicate room at 0 0 (omega (arith, l, many));
        once = λ at l. tt;
        mine = λ at slot l h. absurd h;
        place_is = λ at slot l h. absurd h;
        all = λ slot l. let a = l.some in let b = l.few in absurd (omega (arith, a, b, no_pairs));
      };
    }

-- where the pair of a slot is this one
pub placed_at : (seed : Seed) (pairs : List Pair) (order : OrderData) (chains : Chains) (room : ℕ) (key : Key) (slot : ℕ) (p : Pair) → IsStore seed pairs order chains room
    → IsPairOf pairs key slot → slice_get pairs (slot - 1) ≡ Some p → Placed pairs order.slots key slot p
placed_at seed pairs order chains room key slot p s f is =
    let one : Some f.pair ≡ Some p = sym f.is ∙ is in
    let eq : f.pair ≡ p = cc in
    subst (Placed pairs order.slots key slot) eq (placed seed pairs order chains room key slot s f)

pub live_is : (pairs : List Pair) (slots : List ℕ) (key : Key) (slot : ℕ) (p : Pair) (room now : ℕ) → Placed pairs slots key slot p
    → live_in (lru_cache (shown pairs slots) room) key now ≡ live_at now (Some (arc_value p.1))
live_is pairs slots key slot p room now w = ap (λ (o : Option Held). live_at now (option_map arc_value o)) (lookup_is pairs slots key slot p w)

-- lists with one item set, or one more
pub set_same : {X : Type 0} (xs : List X) (i : ℕ) (x : X) → i < length xs → slice_get (slice_set xs i x) i ≡ Some x
set_same [] i x h = absurd (omega arith)
set_same (y ∷ ys) zero x h = refl
set_same (y ∷ ys) (suc i) x h = set_same ys i x (omega arith)

pub set_other : {X : Type 0} (xs : List X) (i j : ℕ) (x : X) → j ≢ i → slice_get (slice_set xs i x) j ≡ slice_get xs j
set_other [] i j x n = refl
set_other (y ∷ ys) zero zero x n = absurd (n refl)
set_other (y ∷ ys) zero (suc j) x n = refl
set_other (y ∷ ys) (suc i) zero x n = refl
set_other (y ∷ ys) (suc i) (suc j) x n = set_other ys i j x (λ e. n (ap suc e))

pub push_old : {X : Type 0} (xs ys : List X) (i : ℕ) → i < length xs → slice_get (xs ++ ys) i ≡ slice_get xs i
push_old [] ys i h = absurd (omega arith)
push_old (z ∷ xs) ys zero h = refl
push_old (z ∷ xs) ys (suc i) h = push_old xs ys i (omega arith)

pub push_new : {X : Type 0} (xs : List X) (x : X) → slice_get (xs ++ x ∷ []) (length xs) ≡ Some x
push_new [] x = refl
push_new (z ∷ xs) x = push_new xs x

pub push_length : {X : Type 0} (xs : List X) (x : X) → length (xs ++ x ∷ []) ≡ length xs + 1
push_length xs x = let a = length-append xs (x ∷ []) in omega (arith, a)

-- what slots show where another one's pair is changed, or one is added
pub shown_set : (pairs : List Pair) (slot : ℕ) (q : Pair) (xs : List ℕ) → 0 < slot → (IsIn slot xs → ⊥) → ((x : ℕ) → IsIn x xs → 0 < x)
    → shown (slice_set pairs (slot - 1) q) xs ≡ shown pairs xs
shown_set pairs slot q [] some out low = refl
shown_set pairs slot q (x ∷ xs) some out low =
    let some_x = low x (inl refl) in
    let other : x - 1 ≢ slot - 1 = λ e. out (inl (let z : slot ≡ x = omega (arith, e, some, some_x) in z)) in
    (λ j. option_to_list (set_other pairs (slot - 1) (x - 1) q other j) ++ shown_set pairs slot q xs some (λ h. out (inr h)) (λ z h. low z (inr h)) j)

pub shown_push : (pairs : List Pair) (q : Pair) (xs : List ℕ) → ((x : ℕ) → IsIn x xs → 0 < x) → ((x : ℕ) → IsIn x xs → x ≤ length pairs)
    → shown (pairs ++ q ∷ []) xs ≡ shown pairs xs
shown_push pairs q [] low high = refl
shown_push pairs q (x ∷ xs) low high =
    let some_x = low x (inl refl) in
    let few_x = high x (inl refl) in
    let inside : x - 1 < length pairs = omega (arith, some_x, few_x) in
    (λ j. option_to_list (push_old pairs (q ∷ []) (x - 1) inside j) ++ shown_push pairs q xs (λ z h. low z (inr h)) (λ z h. high z (inr h)) j)

pub length_shown : (pairs : List Pair) (xs : List ℕ) → ((x : ℕ) → IsIn x xs → 0 < x) → ((x : ℕ) → IsIn x xs → x ≤ length pairs) → length (shown pairs xs) ≡ length xs
length_shown pairs [] low high = refl
length_shown pairs (x ∷ xs) low high =
    let some_x = low x (inl refl) in
    let few_x = high x (inl refl) in
    by_get (slice_get pairs (x - 1)) refl (omega (arith, some_x, few_x)) (length_shown pairs xs (λ z h. low z (inr h)) (λ z h. high z (inr h)))
  where
    by_get : (o : Option Pair) → slice_get pairs (x - 1) ≡ o → x - 1 < length pairs → length (shown pairs xs) ≡ length xs → length (shown pairs (x ∷ xs)) ≡ length (x ∷ xs)
    by_get None e inside rest = elim (slice_get_cases pairs (x - 1)).1 [
      | inl w ↦ let both : Some w.0 ≡ None = sym w.2 ∙ e in absurd cc
      | inr w ↦ absurd (omega (arith, inside, w.0))
    ]
    by_get (Some p) e inside rest = ap (λ (o : Option Pair). length (option_to_list o ++ shown pairs xs)) e ∙ ap suc rest

-- the chain of each slot's key is one of so many
pub place_at_low : (seed : Seed) (room : ℕ) (pairs : List Pair) (slot : ℕ) → 0 < room → place_at seed room pairs slot < room
place_at_low seed room pairs slot some = by_get (slice_get pairs (slot - 1))
  where
    by_get : (o : Option Pair) → option_map_or (λ (p : Pair). place_of seed room p.0) o 0 < room
    by_get None = some
    by_get (Some p) = place_low seed room p.0 some

place_same : (seed : Seed) (room : ℕ) (pairs pairs2 : List Pair) (slot : ℕ) → slice_get pairs2 (slot - 1) ≡ slice_get pairs (slot - 1)
    → place_at seed room pairs2 slot ≡ place_at seed room pairs slot
place_same seed room pairs pairs2 slot e = ap (λ (o : Option Pair). option_map_or (λ (p : Pair). place_of seed room p.0) o 0) e

-- a slot's pair gets another entry
pub renewed : (seed : Seed) (pairs : List Pair) (order : OrderData) (chains : Chains) (room slot : ℕ) (p : Pair) (v : Held) → IsStore seed pairs order chains room
    → slice_get pairs (slot - 1) ≡ Some p → IsStore seed (slice_set pairs (slot - 1) (p.0, v)) order chains room
renewed seed pairs order chains room slot p v s is =
    let i = slot - 1 in
    let pairs2 = slice_set pairs i (p.0, v) in
    let long : length pairs2 ≡ length pairs = length-set pairs i (p.0, v) in
    let inside = slice_get_within pairs i p is in
    let old : (j : ℕ) (q : Pair) → slice_get pairs2 j ≡ Some q → (o : Pair) × (slice_get pairs j ≡ Some o) × (o.0 ≡ q.0) = λ j q e. elim (cases_eq j i) [
      | inl same ↦
          let one : Some q ≡ Some (p.0, v) = sym e ∙ ap (slice_get pairs2) same ∙ set_same pairs i (p.0, v) inside in
          let eq : q ≡ (p.0, v) = cc in
          (p, ap (slice_get pairs) same ∙ is, sym (ap (λ (z : Pair). z.0) eq))
      | inr n ↦ (q, sym (set_other pairs i j (p.0, v) n) ∙ e, refl)
    ] in
    let place : (x : ℕ) → place_at seed room pairs2 x ≡ place_at seed room pairs x = λ x. elim (cases_eq (x - 1) i) [
      | inl same ↦ place_is seed room pairs2 x (p.0, v) (ap (slice_get pairs2) same ∙ set_same pairs i (p.0, v) inside)
          ∙ sym (place_is seed room pairs x p (ap (slice_get pairs) same ∙ is))
      | inr n ↦ place_same seed room pairs pairs2 x (set_other pairs i (x - 1) (p.0, v) n)
    ] in
    record {
      some = s.some;
      few = omega (arith, long, s.few);
      count = s.count ∙ sym long;
      once = s.once;
      low = s.low;
      high = λ x h. subst (λ (n : ℕ). x ≤ n) (sym long) (s.high x h);
      all = λ x l m. s.all x l (subst (λ (n : ℕ). x ≤ n) long m);
      places = s.places;
      heads = s.heads;
      nexts = s.nexts;
      apart = λ a b q r e f t.
          let oq = old a q e in
          let or = old b r f in
          s.apart a b oq.0 or.0 oq.1 or.1 (subst (λ (k : Key). same_key k or.0.0 ≡ true) (sym oq.2) (subst (λ (k : Key). same_key q.0 k ≡ true) (sym or.2) t));
      chain = s.chain;
      chained = relinked chains.heads.items chains.nexts.items (place_at seed room pairs) (place_at seed room pairs2) (length pairs) (length pairs2) 0 0 s.chain s.chained
          (λ x l. subst (λ (n : ℕ). IsLinked n 0 x) (sym long) l) (λ x l. subst (λ (n : ℕ). IsLinked n 0 x) long l) (λ x l. place x)
          (λ x. let low = place_at_low seed room pairs2 x s.some in omega (arith, low, s.heads));
    }

-- what a put leaves where the key is there
pub again_is : (seed : Seed) (pairs : List Pair) (order : OrderData) (chains : Chains) (room : ℕ) (key : Key) (slot : ℕ) (p : Pair) (v : Held) → IsStore seed pairs order chains room
    → (w : Placed pairs order.slots key slot p) → 0 < slot
    → lru_cache (shown (slice_set pairs (slot - 1) (p.0, v)) (slot ∷ w.xs ++ w.ys)) room ≡ put_in (lru_cache (shown pairs order.slots) room) key v
again_is seed pairs order chains room key slot p v s w some =
    let i = slot - 1 in
    let pairs2 = slice_set pairs i (p.0, v) in
    let inside = slice_get_within pairs i p w.is in
    let once : Once (w.xs ++ slot ∷ w.ys) = subst Once w.parts s.once in
    let rest : shown pairs2 (w.xs ++ w.ys) ≡ shown pairs (w.xs ++ w.ys) =
    shown_set pairs slot (p.0, v) (w.xs ++ w.ys) some (once_gone w.xs slot w.ys once)
    (λ x h. s.low x (subst (IsIn x) (sym w.parts) (in_more w.xs slot w.ys x h))) in
    let es = shown pairs order.slots in
    let entries : shown pairs2 (slot ∷ w.xs ++ w.ys) ≡ (p.0, v) ∷ shown pairs (w.xs ++ w.ys) =
    shown_first pairs2 slot (p.0, v) (w.xs ++ w.ys) (set_same pairs i (p.0, v) inside) ∙ ap (λ (l : List Pair). (p.0, v) ∷ l) rest in
    let puts : put_entries same_key (lru_cache es room) key v ≡ (p.0, v) ∷ shown pairs (w.xs ++ w.ys) =
    (λ j. option_map_or (λ (e : Pair). (e.0, v) ∷ removed_is pairs order.slots key slot p w j) (entry_is pairs order.slots key slot p w j) ((key, v) ∷ take (room - 1) es)) in
    ap (λ (l : List Pair). lru_cache l room) (entries ∙ sym puts)

-- no pair of a store has a key that none of its slots has
stranger : (seed : Seed) (pairs : List Pair) (order : OrderData) (chains : Chains) (room : ℕ) (key : Key) → IsStore seed pairs order chains room → AreOthers pairs key order.slots
    → (j : ℕ) (r : Pair) → slice_get pairs j ≡ Some r → same_key key r.0 ≡ false
stranger seed pairs order chains room key s others j r e =
    let inside = slice_get_within pairs j r e in
    let back : suc j - 1 ≡ j = omega arith in
    others (suc j) r (s.all (suc j) (omega arith) (omega (arith, inside))) (ap (slice_get pairs) back ∙ e)

turned : (a b : Key) → same_key a b ≡ true → same_key b a ≡ true
turned a b t = subst (λ (k : Key). same_key b k ≡ true) (sym ((exact_key a b).0 t)) (key_itself b)

-- a pair more, in a slot of its own
pub grown : (seed : Seed) (pairs : List Pair) (order : OrderData) (chains chains2 : Chains) (room : ℕ) (key : Key) (v : Held) (at : ℕ) → IsStore seed pairs order chains room
    → AreOthers pairs key order.slots → length pairs < room → at ≡ place_of seed room key
    → chains2.heads.items ≡ slice_set chains.heads.items at (length pairs + 1)
    → chains2.nexts.items ≡ slice_set chains.nexts.items (length pairs + 1) (slice_index chains.heads.items at)
    → IsStore seed (pairs ++ (key, v) ∷ []) (order_data ((length pairs + 1) ∷ order.slots) order.places) chains2 room
grown seed pairs order chains chains2 room key v at s others more is heads_are nexts_are =
    let n = length pairs in
    let pairs2 = pairs ++ (key, v) ∷ [] in
    let slot = n + 1 in
    let long : length pairs2 ≡ n + 1 = push_length pairs (key, v) in
    let old : (j : ℕ) (q : Pair) → slice_get pairs2 j ≡ Some q → ((j < n) × (slice_get pairs j ≡ Some q)) ⊎ ((j ≡ n) × (q ≡ (key, v))) = λ j q e.
    let inside = slice_get_within pairs2 j q e in
    elim (cases_eq j n) [
      | inl same ↦
          let one : Some q ≡ Some (key, v) = sym e ∙ ap (slice_get pairs2) same ∙ push_new pairs (key, v) in
          inr (same, let eq : q ≡ (key, v) = cc in eq)
      | inr other ↦
          let low : j < n = omega (arith, inside, long, other) in
          inl (low, sym (push_old pairs ((key, v) ∷ []) j low) ∙ e)
    ] in
    let fresh = stranger seed pairs order chains room key s others in
    let same_place : (x : ℕ) → IsLinked n 0 x → place_at seed room pairs2 x ≡ place_at seed room pairs x = λ x l.
    let some = l.some in let few = l.few in
    place_same seed room pairs pairs2 x (push_old pairs ((key, v) ∷ []) (x - 1) (omega (arith, some, few))) in
    let here : slice_get pairs2 (slot - 1) ≡ Some (key, v) = let back : slot - 1 ≡ n = omega arith in ap (slice_get pairs2) back ∙ push_new pairs (key, v) in
    let place_here : place_at seed room pairs2 slot ≡ at = place_is seed room pairs2 slot (key, v) here ∙ sym is in
    let first = relinked chains.heads.items chains.nexts.items (place_at seed room pairs) (place_at seed room pairs2) n (length pairs2) 0 slot s.chain s.chained
    (λ x l. let some = l.some in let few = l.few in record { some = some; few = omega (arith, few, long); in_it = λ e. absurd (omega (arith, few, e)) })
    (λ x l. let some = l.some in let few = l.few in let other = l.in_it in record { some = some; few = omega (arith, few, long, other); in_it = λ e. absurd (omega (arith, some, e)) })
    same_place (λ x. let low = place_at_low seed room pairs2 x s.some in omega (arith, low, s.heads)) in
    let chained = linked chains.heads.items chains.nexts.items (place_at seed room pairs2) (length pairs2) s.chain slot first (omega arith) (omega (arith, long)) (omega (arith, s.nexts, more)) in
    let chain2 = changed s.chain (place_at seed room pairs2 slot) (slot ∷ s.chain (place_at seed room pairs2 slot)) in
    record {
      some = s.some;
      few = omega (arith, long, more);
      count = let c = s.count in omega (arith, c, long);
      once = (λ h. let few = s.high slot h in absurd (omega (arith, few)), s.once);
      low = λ x h. elim h [ inl e ↦ omega (arith, e) | inr r ↦ s.low x r ];
      high = λ x h. elim h [ inl e ↦ omega (arith, e, long) | inr r ↦ let few = s.high x r in omega (arith, few, long) ];
      all = λ x l m. elim (cases_eq x slot) [ inl e ↦ inl e | inr other ↦ inr (s.all x l (omega (arith, m, long, other))) ];
      places = s.places;
      heads = ap (λ (l : List ℕ). length l) heads_are ∙ length-set chains.heads.items at slot ∙ s.heads;
      nexts = ap (λ (l : List ℕ). length l) nexts_are ∙ length-set chains.nexts.items slot (slice_index chains.heads.items at) ∙ s.nexts;
      apart = λ i j p q e f t. elim (old i p e) [
        | inl a ↦ elim (old j q f) [
          | inl b ↦ s.apart i j p q a.1 b.1 t
          | inr b ↦
              let no = fresh i p a.1 in
              let yes : same_key key p.0 ≡ true = turned p.0 key (subst (λ (z : Pair). same_key p.0 z.0 ≡ true) b.1 t) in
              absurd (false≢true (sym no ∙ yes))
        ]
        | inr a ↦ elim (old j q f) [
          | inl b ↦
              let no = fresh j q b.1 in
              let yes : same_key key q.0 ≡ true = subst (λ (z : Pair). same_key z.0 q.0 ≡ true) a.1 t in
              absurd (false≢true (sym no ∙ yes))
          | inr b ↦ a.0 ∙ sym b.0
        ]
      ];
      chain = chain2;
      chained = subst (λ (h : List ℕ). AreChained h chains2.nexts.items (place_at seed room pairs2) (length pairs2) 0 chain2) (sym heads_are)
          (subst (λ (m : List ℕ). AreChained (slice_set chains.heads.items at slot) m (place_at seed room pairs2) (length pairs2) 0 chain2) (sym nexts_are)
          (subst (λ (z : ℕ). AreChained (slice_set chains.heads.items z slot) (slice_set chains.nexts.items slot (slice_index chains.heads.items z)) (place_at seed room pairs2) (length pairs2) 0 chain2)
          place_here chained));
    }

take_whole : {X : Type 0} (n : ℕ) (xs : List X) → length xs ≤ n → take n xs ≡ xs
take_whole zero [] h = refl
take_whole zero (x ∷ xs) h = absurd (omega arith)
take_whole (suc n) [] h = refl
take_whole (suc n) (x ∷ xs) h = ap (λ (l : List _). x ∷ l) (take_whole n xs (omega arith))

take_front : {X : Type 0} (n : ℕ) (xs : List X) (x : X) → length xs ≡ n → take n (xs ++ x ∷ []) ≡ xs
take_front zero [] x h = refl
take_front zero (y ∷ xs) x h = absurd (omega arith)
take_front (suc n) [] x h = absurd (omega arith)
take_front (suc n) (y ∷ xs) x h = ap (λ (l : List _). y ∷ l) (take_front n xs x (omega arith))

-- what a put leaves where there is room
pub more_is : (seed : Seed) (pairs : List Pair) (order : OrderData) (chains : Chains) (room : ℕ) (key : Key) (v : Held) → IsStore seed pairs order chains room
    → AreOthers pairs key order.slots → length pairs < room
    → lru_cache (shown (pairs ++ (key, v) ∷ []) ((length pairs + 1) ∷ order.slots)) room ≡ put_in (lru_cache (shown pairs order.slots) room) key v
more_is seed pairs order chains room key v s others more =
    let n = length pairs in
    let pairs2 = pairs ++ (key, v) ∷ [] in
    let es = shown pairs order.slots in
    let here : slice_get pairs2 (n + 1 - 1) ≡ Some (key, v) = let back : n + 1 - 1 ≡ n = omega arith in ap (slice_get pairs2) back ∙ push_new pairs (key, v) in
    let entries : shown pairs2 ((n + 1) ∷ order.slots) ≡ (key, v) ∷ es =
    shown_first pairs2 (n + 1) (key, v) order.slots here ∙ ap (λ (l : List Pair). (key, v) ∷ l) (shown_push pairs (key, v) order.slots s.low s.high) in
    let long = length_shown pairs order.slots s.low s.high in
    let count = s.count in
    let puts : put_entries same_key (lru_cache es room) key v ≡ (key, v) ∷ es =
    (λ j. option_map_or (λ (e : Pair). (e.0, v) ∷ remove_entry (same_key key) es) (entry_none pairs key order.slots others j) ((key, v) ∷ take (room - 1) es))
    ∙ ap (λ (l : List Pair). (key, v) ∷ l) (take_whole (room - 1) es (omega (arith, long, count, more))) in
    ap (λ (l : List Pair). lru_cache l room) (entries ∙ sym puts)

-- lengths behind a cut
pub cut_lengths : (heads nexts : List ℕ) (at slot : ℕ) (heads2 nexts2 : List ℕ) → IsCut heads nexts at slot heads2 nexts2
    → (length heads2 ≡ length heads) × (length nexts2 ≡ length nexts)
cut_lengths heads nexts at slot heads2 nexts2 h = elim h [
  | inl c ↦ (ap (λ (l : List ℕ). length l) c.heads_are ∙ length-set heads at (slice_index nexts slot), ap (λ (l : List ℕ). length l) c.nexts_are)
  | inr c ↦ (ap (λ (l : List ℕ). length l) c.heads_are, ap (λ (l : List ℕ). length l) c.nexts_are ∙ length-set nexts c.front (slice_index nexts slot))
]

-- a slot gets another pair, whose key no slot has
pub replaced : (seed : Seed) (pairs : List Pair) (order : OrderData) (chains chains2 chains3 : Chains) (room : ℕ) (key : Key) (v : Held) (at slot : ℕ) → IsStore seed pairs order chains room
    → AreOthers pairs key order.slots → IsIn slot order.slots → at ≡ place_of seed room key
    → IsCut chains.heads.items chains.nexts.items (place_at seed room pairs slot) slot chains2.heads.items chains2.nexts.items
    → chains3.heads.items ≡ slice_set chains2.heads.items at slot
    → chains3.nexts.items ≡ slice_set chains2.nexts.items slot (slice_index chains2.heads.items at)
    → IsStore seed (slice_set pairs (slot - 1) (key, v)) order chains3 room
replaced seed pairs order chains chains2 chains3 room key v at slot s others slot_in is cut_is heads_are nexts_are =
    let i = slot - 1 in
    let pairs2 = slice_set pairs i (key, v) in
    let h2 = chains2.heads.items in
    let n2 = chains2.nexts.items in
    let some = s.low slot slot_in in
    let few = s.high slot slot_in in
    let inside : i < length pairs = omega (arith, some, few) in
    let long : length pairs2 ≡ length pairs = length-set pairs i (key, v) in
    let lengths = cut_lengths chains.heads.items chains.nexts.items (place_at seed room pairs slot) slot h2 n2 cut_is in
    let len_heads : length h2 ≡ room = lengths.0 ∙ s.heads in
    let len_nexts : length n2 ≡ room + 1 = lengths.1 ∙ s.nexts in
    let a1 = cut chains.heads.items chains.nexts.items h2 n2 (place_at seed room pairs) (length pairs) s.chain slot s.chained (in_use seed pairs order chains room s slot slot_in) cut_is in
    let same_place : (x : ℕ) → IsLinked (length pairs) slot x → place_at seed room pairs2 x ≡ place_at seed room pairs x = λ x l.
    let some_x = l.some in let other = l.in_it in
    let apart : x - 1 ≢ i = λ e. other (let z : x ≡ slot = omega (arith, e, some, some_x) in z) in
    place_same seed room pairs pairs2 x (set_other pairs i (x - 1) (key, v) apart) in
    let a2 = relinked h2 n2 (place_at seed room pairs) (place_at seed room pairs2) (length pairs) (length pairs2) slot slot a1.0 a1.1
    (λ x l. subst (λ (m : ℕ). IsLinked m slot x) (sym long) l) (λ x l. subst (λ (m : ℕ). IsLinked m slot x) long l) same_place
    (λ x. let low = place_at_low seed room pairs2 x s.some in omega (arith, low, len_heads)) in
    let a3 = linked h2 n2 (place_at seed room pairs2) (length pairs2) a1.0 slot a2 some (omega (arith, few, long)) (omega (arith, few, s.few, len_nexts)) in
    let chain2 = changed a1.0 (place_at seed room pairs2 slot) (slot ∷ a1.0 (place_at seed room pairs2 slot)) in
    let place_here : place_at seed room pairs2 slot ≡ at = place_is seed room pairs2 slot (key, v) (set_same pairs i (key, v) inside) ∙ sym is in
    let old : (j : ℕ) (q : Pair) → slice_get pairs2 j ≡ Some q → (slice_get pairs j ≡ Some q) ⊎ ((j ≡ i) × (q ≡ (key, v))) = λ j q e.
    elim (cases_eq j i) [
      | inl same ↦
          let one : Some q ≡ Some (key, v) = sym e ∙ ap (slice_get pairs2) same ∙ set_same pairs i (key, v) inside in
          inr (same, let eq : q ≡ (key, v) = cc in eq)
      | inr other ↦ inl (sym (set_other pairs i j (key, v) other) ∙ e)
    ] in
    let fresh = stranger seed pairs order chains room key s others in
    record {
      some = s.some;
      few = omega (arith, long, s.few);
      count = s.count ∙ sym long;
      once = s.once;
      low = s.low;
      high = λ x h. subst (λ (m : ℕ). x ≤ m) (sym long) (s.high x h);
      all = λ x l m. s.all x l (subst (λ (n : ℕ). x ≤ n) long m);
      places = s.places;
      heads = ap (λ (l : List ℕ). length l) heads_are ∙ length-set h2 at slot ∙ len_heads;
      nexts = ap (λ (l : List ℕ). length l) nexts_are ∙ length-set n2 slot (slice_index h2 at) ∙ len_nexts;
      apart = λ a b p q e f t. elim (old a p e) [
        | inl x ↦ elim (old b q f) [
          | inl y ↦ s.apart a b p q x y t
          | inr y ↦
              let no = fresh a p x in
              let yes : same_key key p.0 ≡ true = turned p.0 key (subst (λ (z : Pair). same_key p.0 z.0 ≡ true) y.1 t) in
              absurd (false≢true (sym no ∙ yes))
        ]
        | inr x ↦ elim (old b q f) [
          | inl y ↦
              let no = fresh b q y in
              let yes : same_key key q.0 ≡ true = subst (λ (z : Pair). same_key z.0 q.0 ≡ true) x.1 t in
              absurd (false≢true (sym no ∙ yes))
          | inr y ↦ x.0 ∙ sym y.0
        ]
      ];
      chain = chain2;
      chained = subst (λ (h : List ℕ). AreChained h chains3.nexts.items (place_at seed room pairs2) (length pairs2) 0 chain2) (sym heads_are)
          (subst (λ (m : List ℕ). AreChained (slice_set h2 at slot) m (place_at seed room pairs2) (length pairs2) 0 chain2) (sym nexts_are)
          (subst (λ (z : ℕ). AreChained (slice_set h2 z slot) (slice_set n2 slot (slice_index h2 z)) (place_at seed room pairs2) (length pairs2) 0 chain2) place_here a3));
    }

-- what a put leaves where the store is full
pub over_is : (seed : Seed) (pairs : List Pair) (order : OrderData) (chains : Chains) (room : ℕ) (key : Key) (v : Held) (front : List ℕ) (slot : ℕ) (q : Pair) → IsStore seed pairs order chains room
    → AreOthers pairs key order.slots → room ≤ length pairs → order.slots ≡ front ++ slot ∷ [] → slice_get pairs (slot - 1) ≡ Some q
    → lru_cache (shown (slice_set pairs (slot - 1) (key, v)) (slot ∷ front ++ [])) room ≡ put_in (lru_cache (shown pairs order.slots) room) key v
over_is seed pairs order chains room key v front slot q s others full parts is =
    let i = slot - 1 in
    let pairs2 = slice_set pairs i (key, v) in
    let inside = slice_get_within pairs i q is in
    let once : Once (front ++ slot ∷ []) = subst Once parts s.once in
    let in_order : (x : ℕ) → IsIn x (front ++ []) → IsIn x order.slots = λ x h. subst (IsIn x) (sym parts) (in_more front slot [] x h) in
    let slot_in : IsIn slot order.slots = subst (IsIn slot) (sym parts) (in_middle front slot []) in
    let some = s.low slot slot_in in
    let rest : shown pairs2 (front ++ []) ≡ shown pairs (front ++ []) =
    shown_set pairs slot (key, v) (front ++ []) some (once_gone front slot [] once) (λ x h. s.low x (in_order x h)) in
    let nil = append-nil front in
    let es = shown pairs order.slots in
    let entries : shown pairs2 (slot ∷ front ++ []) ≡ (key, v) ∷ shown pairs front =
    shown_first pairs2 slot (key, v) (front ++ []) (set_same pairs i (key, v) inside)
    ∙ ap (λ (l : List Pair). (key, v) ∷ l) (rest ∙ ap (shown pairs) nil) in
    let whole : es ≡ shown pairs front ++ q ∷ [] =
    ap (shown pairs) parts ∙ shown_append pairs front (slot ∷ []) ∙ ap (λ (l : List Pair). shown pairs front ++ l) (shown_first pairs slot q [] is) in
    let long : length (shown pairs front) ≡ length front =
    length_shown pairs front (λ x h. s.low x (in_order x (subst (IsIn x) (sym nil) h))) (λ x h. s.high x (in_order x (subst (IsIn x) (sym nil) h))) in
    let all = length-append front (slot ∷ []) in
    let g = ap (λ (l : List ℕ). length l) parts in
    let count = s.count in
    let few = s.few in
    let puts : put_entries same_key (lru_cache es room) key v ≡ (key, v) ∷ shown pairs front =
    (λ j. option_map_or (λ (e : Pair). (e.0, v) ∷ remove_entry (same_key key) es) (entry_none pairs key order.slots others j) ((key, v) ∷ take (room - 1) es))
    ∙ ap (λ (l : List Pair). (key, v) ∷ take (room - 1) l) whole
    ∙ ap (λ (l : List Pair). (key, v) ∷ l) (take_front (room - 1) (shown pairs front) q (omega (arith, long, all, g, count, few, full))) in
    ap (λ (l : List Pair). lru_cache l room) (entries ∙ sym puts)
