-- What is left of a stock while seats are taken.
use Rattle.std.proofs.Common.{◌≡◌, ◌∙◌, ◌<◌, ◌≤◌, ℕ, ◌+◌, Bool, true, cond, ◌&&◌, List, [], ◌∷◌, ◌++◌, take, length, get_or, nat_eq, refl, sym, ap, arith, sum_by, ◌*◌}
use Rattle.std.proofs.lemmas.List.Sums.{sum_by_more_le, sum_by_push}
use Rattle.std.proofs.lemmas.Nat.{mul-le}
use Rattle.std.proofs.lemmas.Bool.{cases_lt}
use Rattle.std.proofs.lemmas.List.{get_or_append_left, get_or_push, length-append}
use Rattle.std.proofs.Common.{inl, inr, slice_index_or}
use Rattle.std.specs.Cmp.Lexicographic.{pointwise}
use Rattle.dns_data.specs.declared.directive.Directive.{Directive}
use Rattle.extra_stock.specs.Stocks.{are_numbered, asked_by, is_named, names_weigh}

eq_self : (x : ℕ) → nat_eq x x ≡ true
eq_self x = grind arith

pub same_self : (n : List ℕ) → pointwise nat_eq n n ≡ true
same_self [] = refl
same_self (x ∷ n) = λ i. eq_self x i && same_self n i

named_self : (n : List ℕ) → is_named n n ≡ 1
named_self n = ap (λ (b : Bool). cond b 1 0) (same_self n)

-- an extra of the next name is left
pub one_left : {E : Type 0} (title : E → List ℕ) (spare old : List E) (ds : List Directive) (i : ℕ) (d : Directive) → i < length ds → d ≡ get_or ds i d
    → names_weigh title (is_named d.name) spare + names_weigh (λ d. d.name) (is_named d.name) (take i ds) ≡ names_weigh title (is_named d.name) old
    → names_weigh (λ d. d.name) (is_named d.name) ds ≤ names_weigh title (is_named d.name) old → names_weigh title (is_named d.name) spare ≡ 0 → ⊥
one_left title spare old ds i d inside is left enough none =
    let more = sum_by_more_le (λ (e : Directive). is_named d.name e.name) ds i d inside in
    let one : is_named d.name (get_or ds i d).name ≡ 1 = ap (λ (e : Directive). is_named d.name e.name) (sym is) ∙ named_self d.name in
    omega (arith, more, one, left, enough, none)

-- enough is left for the next block
pub block_left : {E : Type 0} (title : E → List ℕ) (spare old : List E) (w : List ℕ → ℕ) (bs : List (List Directive)) (i : ℕ) (ds : List Directive) → i < length bs → ds ≡ get_or bs i ds
    → names_weigh title w spare + asked_by w (take i bs) ≡ names_weigh title w old → asked_by w bs ≤ names_weigh title w old
    → names_weigh (λ d. d.name) w ds ≤ names_weigh title w spare
block_left title spare old w bs i ds inside is left enough =
    let more = sum_by_more_le (λ (es : List Directive). names_weigh (λ d. d.name) w es) bs i ds inside in
    let same : names_weigh (λ d. d.name) w (get_or bs i ds) ≡ names_weigh (λ d. d.name) w ds = ap (λ (es : List Directive). names_weigh (λ d. d.name) w es) (sym is) in
    omega (arith, more, same, left, enough)

once_more : (w a : ℕ) → (w + 1) * a ≡ w * a + a
once_more w a = omega arith

times_more : (w n a : ℕ) → w < n → w * a + a ≤ n * a
times_more w n a lt = let le : (w + 1) * a ≤ n * a = mul-le (w + 1) a n a (omega (arith, lt)) (omega arith) in omega (arith, le, once_more w a)

-- enough is left for the next chain
pub chain_left : (spare old w n a : ℕ) → w < n → spare + w * a ≡ old → n * a ≤ old → a ≤ spare
chain_left spare old w n a lt left enough = omega (arith, times_more w n a lt, left, enough)

-- and what is gone behind it
pub chain_gone : (spare new old w a : ℕ) → spare + w * a ≡ old → new + a ≡ spare → new + (w + 1) * a ≡ old
chain_gone spare new old w a left now = omega (arith, once_more w a, left, now)

-- the chains with one more
pub chains_more : {C : Type 0} (f : C → ℕ) (old new : List C) (c : C) (w a : ℕ) → new ≡ old ++ c ∷ [] → sum_by f old ≡ w * a → f c ≡ a → sum_by f new ≡ (w + 1) * a
chains_more f old new c w a is was more =
    ap (sum_by f) is ∙ sum_by_push f old c ∙ omega (arith, once_more w a, was, more)

numbered_at : {C : Type 0} (f : C → ℕ) (old : List C) (c : C) (w k : ℕ) (d : C) → length old ≡ w → are_numbered f old → f c ≡ w → k < length (old ++ c ∷ []) → f (slice_index_or (old ++ c ∷ []) k d) ≡ k
numbered_at f old c w k d len was one inside = elim (cases_lt k (length old)) [
  | inl lt ↦ ap f (get_or_append_left old (c ∷ []) d k lt) ∙ was k d lt
  | inr le ↦
      let here : k ≡ length old = omega (arith, le, inside, length-append old (c ∷ [])) in
      ap (λ (j : ℕ). f (slice_index_or (old ++ c ∷ []) j d)) here ∙ ap f (get_or_push old c d (length old) refl) ∙ one ∙ sym len ∙ sym here
]

-- and their numbers
pub numbered_more : {C : Type 0} (f : C → ℕ) (old new : List C) (c : C) (w : ℕ) → new ≡ old ++ c ∷ [] → length old ≡ w → are_numbered f old → f c ≡ w → are_numbered f new
numbered_more f old new c w is len was one = rw is (λ k d inside. numbered_at f old c w k d len was one inside)
