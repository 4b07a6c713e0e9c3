-- A set of names beside their list.
use Rattle.std.proofs.Common.{String, Global, string_cmp, ◌≡◌, ℕ, ◌++◌, ◌||◌, Bool, true, false, cond, not, List, [], ◌∷◌, refl, sym, ap, ◌∙◌}
use Rattle.std.specs.Str.{bytes_eq}
use Rattle.std.specs.BTreeSet.{BTreeSet, UpdatesBy, contains_text}
use Rattle.std.specs.List.{list_any}
use Rattle.std.specs.Cmp.{unsigned_Decides}
use Rattle.std.proofs.lemmas.Slice.Eq.{bytes_eq-Decides, slice_eq-Decides}
use Rattle.std.proofs.lemmas.List.Folds.{list_any-append}
use Rattle.std.proofs.lemmas.Map.Text.{btree_set_updates_text, text_cmp}
use Rattle.corefile_blocks.specs.LineForms.{same_text}
use Rattle.corefile_blocks.specs.WantedFiles.{AreKnown, add_once}

-- whether two texts are equal, in either order
same-either : (a b : List ℕ) (r : Bool) → bytes_eq a b ≡ r → same_text b a ≡ r
same-either a b true h = (slice_eq-Decides unsigned_Decides b a (same_text b a) refl).1 (sym ((bytes_eq-Decides a b).0 h))
same-either a b false h = other (same_text b a) refl
  where
    other : (s : Bool) → same_text b a ≡ s → s ≡ false
    other true e = absurd (yes (sym ((slice_eq-Decides unsigned_Decides b a (same_text b a) refl).0 e)))
      where
        yes : a ≡ b → ⊥
        yes is = let t : true ≡ false = sym ((bytes_eq-Decides a b).1 is) ∙ h in absurd cc
    other false e = refl

joined : (old was same : Bool) → old ≡ was → cond same true old ≡ (was || (same || false))
joined old true true h = refl
joined old true false h = h
joined old false true h = refl
joined old false false h = h

-- one name more
pub one_known : (known after : BTreeSet (String Global)) (made : List (List ℕ)) (name bytes : List ℕ) → bytes ≡ name → AreKnown known made
    → UpdatesBy string_cmp (text_cmp bytes) known after true → AreKnown after (made ++ name ∷ [])
one_known known after made name bytes is are updates = λ q.
    btree_set_updates_text bytes known after true updates q
    ∙ joined (contains_text known q) (list_any (same_text q) made) (bytes_eq bytes q) (are q)
    ∙ ap (λ b. list_any (same_text q) made || (b || false)) (sym (same-either bytes q (bytes_eq bytes q) refl) ∙ ap (same_text q) is)
    ∙ sym (list_any-append (same_text q) made (name ∷ []))

negated : (added there : Bool) → added ≡ not there → there ≡ not added
negated true true h = h
negated true false h = refl
negated false true h = refl
negated false false h = h

-- whether a name is there, by whether it was added
pub there : (known : BTreeSet (String Global)) (made : List (List ℕ)) (name bytes : List ℕ) (added : Bool) → bytes ≡ name → AreKnown known made
    → added ≡ not (contains_text known bytes) → list_any (same_text name) made ≡ not added
there known made name bytes added is are h =
    sym (are name) ∙ ap (contains_text known) (sym is) ∙ negated added (contains_text known bytes) h

pub not_added : (made : List (List ℕ)) (name : List ℕ) → list_any (same_text name) made ≡ true → made ≡ add_once made name
not_added made name h = rw h refl

pub added_once : (made after : List (List ℕ)) (name : List ℕ) → list_any (same_text name) made ≡ false → after ≡ made ++ name ∷ [] → after ≡ add_once made name
added_once made after name h is = rw h is
