-- A stock that is short of no name has enough.
use Rattle.std.proofs.Common.{◌≡◌, ◌∙◌, ◌⊎◌, inl, inr, ◌≤◌, ◌<◌, ℕ, ◌+◌, ◌*◌, Bool, true, false, cond, List, [], ◌∷◌, ◌++◌, drop, get_or, length, find, Option, Some, None, nat_eq, nat_lt, refl, sym, ap, subst, arith}
use Rattle.std.proofs.lemmas.List.Sums.{sum_by-append, sum_by-cons}
use Rattle.std.proofs.lemmas.List.Folds.{find-append}
use Rattle.std.proofs.lemmas.List.{drop_more}
use Rattle.std.specs.Option.{option_or}
use Rattle.std.specs.Cmp.Lexicographic.{pointwise, bytes_decides}
use Rattle.dns_data.specs.declared.directive.Directive.{Directive}
use Rattle.extra_stock.specs.Stocks.{asked_by, is_named, names_weigh}
use Rattle.extra_stock.specs.Shortage.{asked, first_short, in_text, is_short}

text_at : (bs : List (List Directive)) (i : ℕ) (ds : List Directive) → i < length bs → ds ≡ get_or bs i ds → in_text (drop i bs) ≡ ds ++ in_text (drop (i + 1) bs)
text_at bs i ds inside is = ap in_text (drop_more bs i ds inside) ∙ ap (λ (es : List Directive). es ++ in_text (drop (i + 1) bs)) (sym is)

found_at : (p : Directive → Bool) (bs : List (List Directive)) (i : ℕ) (ds : List Directive) → i < length bs → ds ≡ get_or bs i ds → find p (in_text (drop i bs)) ≡ option_or (find p ds) (find p (in_text (drop (i + 1) bs)))
found_at p bs i ds inside is = ap (find p) (text_at bs i ds inside is) ∙ find-append p ds (in_text (drop (i + 1) bs))

-- the first of all is the first of a block, where the block has one
pub text_here : (p : Directive → Bool) (bs : List (List Directive)) (i : ℕ) (ds : List Directive) (d : Directive) → i < length bs → ds ≡ get_or bs i ds → Some d ≡ find p ds → Some d ≡ find p (in_text (drop i bs))
text_here p bs i ds d inside is e = sym (found_at p bs i ds inside is ∙ ap (λ (o : Option Directive). option_or o (find p (in_text (drop (i + 1) bs)))) (sym e))

-- and else that of the blocks behind it
pub text_next : (p : Directive → Bool) (bs : List (List Directive)) (i : ℕ) (ds : List Directive) → i < length bs → ds ≡ get_or bs i ds → None ≡ find p ds → find p (in_text (drop (i + 1) bs)) ≡ find p (in_text (drop i bs))
text_next p bs i ds inside is e = sym (found_at p bs i ds inside is ∙ ap (λ (o : Option Directive). option_or o (find p (in_text (drop (i + 1) bs)))) (sym e))

-- block by block or all at once
text_weighs : (w : List ℕ → ℕ) (bs : List (List Directive)) → names_weigh (λ (d : Directive). d.name) w (in_text bs) ≡ asked_by w bs
text_weighs w [] = refl
text_weighs w (ds ∷ bs) =
    sum_by-append (λ (d : Directive). w d.name) ds (in_text bs) ∙ ap (λ k. names_weigh (λ (d : Directive). d.name) w ds + k) (text_weighs w bs)
    ∙ sym (sum_by-cons (λ (es : List Directive). names_weigh (λ (d : Directive). d.name) w es) ds bs)

module _ (p : Directive → Bool) (n : List ℕ) (G : Type 0) (g : (d : Directive) → p d ≡ false → pointwise nat_eq d.name n ≡ true → G) where
  abbrev Left : List Directive → Type 0
  Left ds = (names_weigh (λ (d : Directive). d.name) (is_named n) ds ≡ 0) ⊎ G

  one_more : (d : Directive) (ds : List Directive) (s : Bool) → p d ≡ false → pointwise nat_eq d.name n ≡ s → Left ds → Left (d ∷ ds)
  one_more d ds true passed same h = inr (g d passed same)
  one_more d ds false passed same (inr h) = inr h
  one_more d ds false passed same (inl none) =
      let nought : is_named n d.name ≡ 0 = ap (λ (b : Bool). cond {A = ℕ} b 1 0) same in
      inl (sum_by-cons (λ (e : Directive). is_named n e.name) d ds ∙ omega (arith, none, nought))

  by_test : (d : Directive) (ds : List Directive) (t : Bool) → p d ≡ t → (find p ds ≡ None → Left ds) → cond t (Some d) (find p ds) ≡ None → Left (d ∷ ds)
  by_test d ds true is rest e = absurd cc
  by_test d ds false is rest e = one_more d ds (pointwise nat_eq d.name n) is refl (rest e)

  none_of : (ds : List Directive) → find p ds ≡ None → Left ds
  none_of [] e = inl refl
  none_of (d ∷ ds) e = by_test d ds (p d) refl (none_of ds) e

not_less : (a b : ℕ) → nat_lt a b ≡ false → b ≤ a
not_less a b e = grind (arith, e)

here : (workers : ℕ) (blocks : List (List Directive)) (had : List ℕ → ℕ) (n : List ℕ) (d : Directive) → is_short workers blocks had d ≡ false → pointwise nat_eq d.name n ≡ true → workers * asked_by (is_named n) blocks ≤ had n
unfolding is_short
here workers blocks had n d passed same =
    let is : d.name ≡ n = (bytes_decides d.name n).0 same in
    subst (λ m. workers * asked_by (is_named m) blocks ≤ had m) is (not_less (had d.name) (asked workers blocks d.name) passed)

by : (workers : ℕ) (blocks : List (List Directive)) (had : List ℕ → ℕ) (n : List ℕ) → ((names_weigh (λ (d : Directive). d.name) (is_named n) (in_text blocks) ≡ 0) ⊎ (workers * asked_by (is_named n) blocks ≤ had n))
    → workers * asked_by (is_named n) blocks ≤ had n
by workers blocks had n (inr h) = h
by workers blocks had n (inl zero) =
    let none_asked : asked_by (is_named n) blocks ≡ 0 = sym (text_weighs (is_named n) blocks) ∙ zero in
    let nothing : workers * asked_by (is_named n) blocks ≡ 0 = ap (λ k. workers * k) none_asked ∙ omega arith in
    omega (arith, nothing)

pub enough : (workers : ℕ) (blocks : List (List Directive)) (had : List ℕ → ℕ) → first_short workers blocks had ≡ None → (n : List ℕ) → workers * asked_by (is_named n) blocks ≤ had n
enough workers blocks had none n =
    by workers blocks had n (none_of (is_short workers blocks had) n (workers * asked_by (is_named n) blocks ≤ had n) (here workers blocks had n) (in_text blocks) none)

pub short-is : (workers : ℕ) (blocks : List (List Directive)) (had : List ℕ → ℕ) (d : Directive) → nat_lt (had d.name) (asked workers blocks d.name) ≡ is_short workers blocks had d
unfolding is_short
short-is workers blocks had d = refl

-- the first of a block, one by one
pub first_here : (p : Directive → Bool) (ds : List Directive) (i : ℕ) (d : Directive) → i < length ds → d ≡ get_or ds i d → p d ≡ true → find p (drop i ds) ≡ Some d
first_here p ds i d inside is met =
    ap (find p) (drop_more ds i d inside) ∙ ap (λ (e : Directive). find p (e ∷ drop (i + 1) ds)) (sym is) ∙ ap (λ (b : Bool). cond b (Some d) (find p (drop (i + 1) ds))) met

pub first_next : (p : Directive → Bool) (ds : List Directive) (i : ℕ) (d : Directive) → i < length ds → d ≡ get_or ds i d → p d ≡ false → find p (drop (i + 1) ds) ≡ find p (drop i ds)
first_next p ds i d inside is passed =
    sym (ap (find p) (drop_more ds i d inside) ∙ ap (λ (e : Directive). find p (e ∷ drop (i + 1) ds)) (sym is) ∙ ap (λ (b : Bool). cond b (Some d) (find p (drop (i + 1) ds))) passed)
