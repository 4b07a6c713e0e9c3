-- Snippets by the places of their names.
use Rattle.std.proofs.Common.{◌≡◌, ℕ, ◌<◌, Bool, true, false, cond, List, [], ◌∷◌, ◌++◌, length, Option, Some, None, refl, sym, ap, subst, ◌∙◌, arith, eqb-true}
use Rattle.std.specs.Prelude.{◌==◌, nat_eq, slice_get, slice_set}
use Rattle.std.specs.Bool.{Decides}
use Rattle.std.specs.Cmp.{unsigned_Decides}
use Rattle.std.specs.Cmp.Lexicographic.{pointwise}
use Rattle.std.specs.Option.{option_or}
use Rattle.std.proofs.lemmas.Bool.Decides.{nat_tests}
use Rattle.std.proofs.lemmas.List.{length-set}
use Rattle.std.proofs.lemmas.List.Folds.{find-append}
use Rattle.std.proofs.lemmas.Slice.Eq.{slice_eq-Decides}
use Rattle.name_table.specs.NumberLaws.{set_other, set_same}
use Rattle.corefile_blocks.specs.declared.shared.Snippet.{Snippet}
use Rattle.corefile_blocks.specs.Blocks.{snippet_of}
use Rattle.corefile_blocks.specs.LineForms.{same_text}
use Rattle.corefile_blocks.specs.Places.{place_from}
use Rattle.corefile_blocks.specs.Snippets.{ArePlaced}

decides : (a b : List ℕ) → Decides (same_text a b) (a ≡ b)
decides a b = slice_eq-Decides unsigned_Decides a b (pointwise nat_eq a b) refl

some_is : {X : Type 0} (a b : X) → Some a ≡ Some b → a ≡ b
some_is a b e = cc

eqb_same : (a b : ℕ) → a ≡ b → (a == b) ≡ true
eqb_same a b e = grind (arith, nat_tests)

more_by : (name : List ℕ) (snippets : List Snippet) (one : Snippet) → snippet_of name (snippets ++ one ∷ []) ≡ option_or (snippet_of name snippets) (snippet_of name (one ∷ []))
more_by name snippets one = find-append (λ (s : Snippet). same_text name s.name) snippets (one ∷ [])

or_none : (found : Option Snippet) → option_or found None ≡ found
or_none None = refl
or_none (Some s) = refl

not_here : (name : List ℕ) (one : Snippet) → (name ≡ one.name → ⊥) → snippet_of name (one ∷ []) ≡ None
not_here name one apart = by (same_text name one.name) refl
  where
    by : (b : Bool) → same_text name one.name ≡ b → cond b (Some one) None ≡ None
    by true e = absurd (apart ((decides name one.name).0 e))
    by false e = refl

placed_by : (snippets : List Snippet) (places : List (List Snippet)) (old : List Snippet) (one : Snippet) (place : ℕ) (name : List ℕ) (set : List Snippet) (b : Bool)
    → ArePlaced snippets places → place ≡ place_from 256 0 one.name → place < length places → slice_get places place ≡ Some old
    → slice_get (slice_set places place (old ++ one ∷ [])) (place_from 256 0 name) ≡ Some set → (place == place_from 256 0 name) ≡ b → snippet_of name (snippets ++ one ∷ []) ≡ snippet_of name set
placed_by snippets places old one place name set true placed at inside is now t =
    let here : place ≡ place_from 256 0 name = eqb-true place (place_from 256 0 name) t in
    let new = old ++ one ∷ [] in
    let set_is : new ≡ set = some_is new set (sym (set_same places place new inside) ∙ ap (slice_get (slice_set places place new)) here ∙ now) in
    let before : snippet_of name snippets ≡ snippet_of name old = placed.found name old (ap (slice_get places) (sym here) ∙ is) in
    more_by name snippets one ∙ ap (λ found. option_or found (snippet_of name (one ∷ []))) before ∙ sym (more_by name old one) ∙ ap (snippet_of name) set_is
placed_by snippets places old one place name set false placed at inside is now t =
    let other : place ≡ place_from 256 0 name → ⊥ = λ h. let same : (place == place_from 256 0 name) ≡ true = eqb_same place (place_from 256 0 name) h in absurd cc in
    let none : snippet_of name (one ∷ []) ≡ None = not_here name one (λ same. other (at ∙ ap (place_from 256 0) (sym same))) in
    more_by name snippets one ∙ ap (option_or (snippet_of name snippets)) none ∙ or_none (snippet_of name snippets)
    ∙ placed.found name set (sym (set_other places place (place_from 256 0 name) (old ++ one ∷ []) other) ∙ now)

-- one more snippet, of which a copy stands at its place
pub placed_more : (snippets snippets_after : List Snippet) (places : List (List Snippet)) (old set_after : List Snippet) (one copy : Snippet) (place : ℕ) → ArePlaced snippets places → place ≡ place_from 256 0 one.name → place < 256
    → slice_get places place ≡ Some old → snippets_after ≡ snippets ++ one ∷ [] → copy ≡ one → set_after ≡ old ++ copy ∷ [] → ArePlaced snippets_after (slice_set places place set_after)
placed_more snippets snippets_after places old set_after one copy place placed at inside is snippets_are same set_is =
    subst (λ after. ArePlaced after (slice_set places place set_after)) (sym snippets_are)
    (subst (λ set. ArePlaced (snippets ++ one ∷ []) (slice_set places place set)) (sym (set_is ∙ ap (λ c. old ++ c ∷ []) same))
    (record {
      many = length-set places place (old ++ one ∷ []) ∙ placed.many;
      found = λ name set now. placed_by snippets places old one place name set (place == place_from 256 0 name) placed at (let many = placed.many in omega (arith, inside, many)) is now refl;
    }))
