-- Keys by their places, as keys are added, and the first key that stood before.
use Rattle.std.proofs.Common.{◌≡◌, ℕ, ◌+◌, ◌<◌, ◌≤◌, Bool, true, false, List, [], ◌∷◌, ◌++◌, length, drop, get_or, Option, Some, None, refl, sym, ap, subst, ◌∙◌, arith, eqb-true}
use Rattle.std.specs.Prelude.{◌%◌, ◌&&◌, ◌||◌, ◌==◌, slice_get, slice_set}
use Rattle.std.specs.List.{list_any}
use Rattle.std.proofs.lemmas.Bool.Decides.{Decides-eqb, nat_tests}
use Rattle.std.proofs.lemmas.List.{drop_all, drop_more, length-set}
use Rattle.std.proofs.lemmas.List.Folds.{list_any-append}
use Rattle.std.proofs.lemmas.Slice.Eq.{slice_eq-Decides}
use Rattle.dns_data.specs.{same_labels, spelled}
use Rattle.dns_data.specs.declared.block.Block.{Block}
use Rattle.dns_data.specs.declared.block.BlockKey.{BlockKey}
use Rattle.name_table.specs.NumberLaws.{set_other, set_same}
use Rattle.corefile_blocks.specs.KeyIndex.{IsKeyIndexOf, key_place}
use Rattle.corefile_blocks.specs.Places.{place_from}
use Rattle.corefile_blocks.specs.Keys.{double_behind, double_key, keys_of, same_key}

and_first : (a b : Bool) → (a && b) ≡ true → a ≡ true
and_first true b e = refl
and_first false b e = absurd cc

and_second : (a b : Bool) → (a && b) ≡ true → b ≡ true
and_second true b e = e
and_second false b e = absurd cc

or_no : (b : Bool) → (b || false) ≡ b
or_no true = refl
or_no false = refl

-- keys that are the same have one place
same_place : (count : ℕ) (a b : BlockKey) → same_key a b ≡ true → key_place count a ≡ key_place count b
same_place count a b e =
    let labels : same_labels a.zone b.zone ≡ true = and_first (same_labels a.zone b.zone) (a.port == b.port) e in
    let zone : a.zone ≡ b.zone = (slice_eq-Decides (λ x y. slice_eq-Decides Decides-eqb x y _ refl) a.zone b.zone _ refl).0 labels in
    let port : a.port ≡ b.port = eqb-true a.port b.port (and_second (same_labels a.zone b.zone) (a.port == b.port) e) in
    λ i. place_from count (port i % count) (spelled (zone i))

not_same : (count : ℕ) (a b : BlockKey) (t : Bool) → same_key a b ≡ t → (key_place count a ≡ key_place count b → ⊥) → t ≡ false
not_same count a b true e n = absurd (n (same_place count a b e))
not_same count a b false e n = refl

any_push : (p : BlockKey → Bool) (xs : List BlockKey) (x : BlockKey) → list_any p (xs ++ x ∷ []) ≡ (list_any p xs || p x)
any_push p xs x = list_any-append p xs (x ∷ []) ∙ ap (λ (b : Bool). list_any p xs || b) (or_no (p x))

any_push_none : (p : BlockKey → Bool) (xs : List BlockKey) (x : BlockKey) → p x ≡ false → list_any p (xs ++ x ∷ []) ≡ list_any p xs
any_push_none p xs x e = any_push p xs x ∙ ap (λ (b : Bool). list_any p xs || b) e ∙ or_no (list_any p xs)

some_is : {X : Type 0} (a b : X) → Some a ≡ Some b → a ≡ b
some_is a b e = cc

eqb_same : (a b : ℕ) → a ≡ b → (a == b) ≡ true
eqb_same a b e = grind (arith, nat_tests)

more_by : (places : List (List BlockKey)) (place : ℕ) (old : List BlockKey) (key : BlockKey) (all : List BlockKey) (k : BlockKey) (set : List BlockKey) (b : Bool)
    → place ≡ key_place (length places) key → place < length places → slice_get places place ≡ Some old → IsKeyIndexOf places all
    → slice_get (slice_set places place (old ++ key ∷ [])) (key_place (length places) k) ≡ Some set → (place == key_place (length places) k) ≡ b → list_any (same_key k) (all ++ key ∷ []) ≡ list_any (same_key k) set
more_by places place old key all k set true at inside is index now t =
    let here : place ≡ key_place (length places) k = eqb-true place (key_place (length places) k) t in
    let new = old ++ key ∷ [] in
    let set_is : new ≡ set = some_is new set (sym (set_same places place new inside) ∙ ap (slice_get (slice_set places place new)) here ∙ now) in
    let before : list_any (same_key k) all ≡ list_any (same_key k) old = index.found k old (ap (slice_get places) (sym here) ∙ is) in
    any_push (same_key k) all key ∙ ap (λ (b : Bool). b || same_key k key) before ∙ sym (any_push (same_key k) old key) ∙ ap (list_any (same_key k)) set_is
more_by places place old key all k set false at inside is index now t =
    let count : ℕ = length places in
    let other : place ≡ key_place count k → ⊥ = λ h. let same : (place == key_place count k) ≡ true = eqb_same place (key_place count k) h in absurd cc in
    let none : same_key k key ≡ false = not_same count k key (same_key k key) refl (λ s. other (at ∙ sym s)) in
    any_push_none (same_key k) all key none ∙ index.found k set (sym (set_other places place (key_place count k) (old ++ key ∷ []) other) ∙ now)

-- one more key at its place
pub index_more : (before places after : List (List BlockKey)) (place : ℕ) (old : List BlockKey) (key : BlockKey) → places ≡ before → place ≡ key_place (length before) key → place < length before → slice_get places place ≡ Some old
    → after ≡ slice_set places place (old ++ key ∷ []) → (all : List BlockKey) → IsKeyIndexOf before all → IsKeyIndexOf after (all ++ key ∷ [])
index_more before places after place old key same at inside is set all index = rw set (record {
  found = λ k there now.
      let long : length (slice_set places place (old ++ key ∷ [])) ≡ length before = length-set places place (old ++ key ∷ []) ∙ ap length same in
      more_by before place old key all k there (place == key_place (length before) k) at inside (ap (λ ps. slice_get ps place) (sym same) ∙ is) index
      ((λ i. slice_get (slice_set (sym same i) place (old ++ key ∷ [])) (key_place (sym long i) k)) ∙ now) refl;
})

-- the keys so far are in the index, and what the rest says is what all say
pub record HasRead (index : List (List BlockKey)) (rest : List BlockKey) (whole : Option ℕ) : Type 0 where
  pub before : List BlockKey
  pub is : IsKeyIndexOf index before
  pub same : double_behind before rest ≡ whole

pub read_none : (index : List (List BlockKey)) (blocks : List Block) → IsKeyIndexOf index [] → HasRead index (keys_of blocks) (double_key blocks)
unfolding double_key
read_none index blocks x = record { before = []; is = x; same = refl }

-- the keys of one more block
pub read_block : (index : List (List BlockKey)) (blocks : List Block) (i : ℕ) (block : Block) (whole : Option ℕ) → i < length blocks → block ≡ get_or blocks i block
    → HasRead index (keys_of (drop i blocks)) whole → HasRead index (drop 0 block.keys ++ keys_of (drop (i + 1) blocks)) whole
read_block index blocks i block whole l e h =
    let here : drop i blocks ≡ block ∷ drop (i + 1) blocks = drop_more blocks i block l ∙ ap (λ (x : Block). x ∷ drop (i + 1) blocks) (sym e) in
    subst (λ (bs : List Block). HasRead index (keys_of bs) whole) here h

-- one more key
here_key : (keys others : List BlockKey) (j : ℕ) (key : BlockKey) → j < length keys → key ≡ get_or keys j key → drop j keys ++ others ≡ key ∷ (drop (j + 1) keys ++ others)
here_key keys others j key l e = ap (λ (ks : List BlockKey). ks ++ others) (drop_more keys j key l ∙ ap (λ (x : BlockKey). x ∷ drop (j + 1) keys) (sym e))

behind_new : (before rest : List BlockKey) (key : BlockKey) (b : Bool) → b ≡ list_any (same_key key) before → b ≡ false → double_behind before (key ∷ rest) ≡ double_behind (before ++ key ∷ []) rest
behind_new before rest key b e none = rw (sym e, none) refl

behind_double : (before rest : List BlockKey) (key : BlockKey) (b : Bool) → b ≡ list_any (same_key key) before → b ≡ true → double_behind before (key ∷ rest) ≡ Some key.line
behind_double before rest key b e is = rw (sym e, is) refl

pub read_key : (index after : List (List BlockKey)) (keys others : List BlockKey) (j : ℕ) (key : BlockKey) (whole : Option ℕ) (b : Bool) → j < length keys → key ≡ get_or keys j key
    → ((all : List BlockKey) → IsKeyIndexOf index all → b ≡ list_any (same_key key) all) → b ≡ false
    → ((all : List BlockKey) → IsKeyIndexOf index all → IsKeyIndexOf after (all ++ key ∷ [])) → HasRead index (drop j keys ++ others) whole → HasRead after (drop (j + 1) keys ++ others) whole
read_key index after keys others j key whole b l e has none adds h = record {
  before = h.before ++ key ∷ [];
  is = adds h.before h.is;
  same = sym (behind_new h.before (drop (j + 1) keys ++ others) key b (has h.before h.is) none) ∙ ap (double_behind h.before) (sym (here_key keys others j key l e)) ∙ h.same;
}

pub found_double : (index : List (List BlockKey)) (keys others : List BlockKey) (j : ℕ) (key : BlockKey) (whole : Option ℕ) (b : Bool) → j < length keys → key ≡ get_or keys j key
    → ((all : List BlockKey) → IsKeyIndexOf index all → b ≡ list_any (same_key key) all) → b ≡ true → HasRead index (drop j keys ++ others) whole → Some key.line ≡ whole
found_double index keys others j key whole b l e has is h =
    sym (behind_double h.before (drop (j + 1) keys ++ others) key b (has h.before h.is) is) ∙ ap (double_behind h.before) (sym (here_key keys others j key l e)) ∙ h.same

-- no further key of the block
pub read_keys : (index : List (List BlockKey)) (keys others : List BlockKey) (j : ℕ) (whole : Option ℕ) → length keys ≤ j → HasRead index (drop j keys ++ others) whole → HasRead index others whole
read_keys index keys others j whole l h = subst (λ (ks : List BlockKey). HasRead index (ks ++ others) whole) (drop_all j keys l) h

-- no further block
pub read_all : (index : List (List BlockKey)) (blocks : List Block) (i : ℕ) (whole : Option ℕ) → length blocks ≤ i → HasRead index (keys_of (drop i blocks)) whole → None ≡ whole
read_all index blocks i whole l h = (subst (λ (bs : List Block). HasRead index (keys_of bs) whole) (drop_all i blocks l) h).same
