-- What lending and coming home do to each cache, by counting.
use Rattle.std.proofs.Common.{◌≡◌, ℕ, ◌+◌, ◌-◌, Bool, cond, List, [], ◌∷◌, ◌++◌, map, refl, sym, ap, ◌∙◌, append_assoc, arith}
use Rattle.std.proofs.lemmas.List.{append-nil}
use Rattle.outside.specs.declared.mark.Mark.{Mark}
use Rattle.ruled_lock.specs.Shuffles.{filled}
use Rattle.lent_caches.specs.declared.name.CacheName.{CacheName}
use Rattle.lent_caches.specs.Names.{same_name}
use Rattle.lent_caches.specs.Held.{HeldData, LentData, at_name, given_all, given_back, lent_one, lent_to, one_log, with_log, with_logs}
use Rattle.lent_caches.specs.Ledger.{count_named, filled_named, lent_each, logs_named, use_names}
use Rattle.lent_caches.specs.ApartLaws.{both}
use Rattle.lent_caches.specs.ListLaws.{filled-append}

abbrev pub lent_by : List CacheName → HeldData → HeldData
lent_by ns h = record h { out = h.out + count_named h.name ns }

abbrev pub given_by : List LentData → HeldData → HeldData
given_by us h = record h { out = h.out - count_named h.name (use_names us); logs = with_logs h.logs (filled_named h.name us) }

map_map : (f g k : HeldData → HeldData) → ((h : HeldData) → f (g h) ≡ k h) → (hs : List HeldData) → map f (map g hs) ≡ map k hs
map_map f g k e [] = refl
map_map f g k e (h ∷ hs) = λ i. e h i ∷ map_map f g k e hs i

map_same : (f : HeldData → HeldData) → ((h : HeldData) → f h ≡ h) → (hs : List HeldData) → map f hs ≡ hs
map_same f e [] = refl
map_same f e (h ∷ hs) = λ i. e h i ∷ map_same f e hs i

lent_step : (n : CacheName) (ns : List CacheName) (h : HeldData) → lent_by ns (at_name n lent_to h) ≡ lent_by (n ∷ ns) h
lent_step n ns h = both (same_name h.name n)
    (λ e.
    let more : h.out + 1 + count_named h.name ns ≡ h.out + ((cond (same_name h.name n) 1 0) + count_named h.name ns) =
    let one : ◌≡◌ {A = ℕ} (cond (same_name h.name n) 1 0) 1 = ap (λ (b : Bool). cond b 1 0) e in omega (arith, one) in
    ap (λ (b : Bool). lent_by ns (cond b (lent_to h) h)) e ∙ (λ i. record h { out = more i }))
    (λ e.
    let same : h.out + count_named h.name ns ≡ h.out + ((cond (same_name h.name n) 1 0) + count_named h.name ns) =
    let none : ◌≡◌ {A = ℕ} (cond (same_name h.name n) 1 0) 0 = ap (λ (b : Bool). cond b 1 0) e in omega (arith, none) in
    ap (λ (b : Bool). lent_by ns (cond b (lent_to h) h)) e ∙ (λ i. record h { out = same i }))

pub lent_is : (ns : List CacheName) (hs : List HeldData) → lent_each ns hs ≡ map (lent_by ns) hs
lent_is [] hs = sym (map_same (lent_by []) (λ h. let e : h.out + 0 ≡ h.out = omega arith in λ i. record h { out = e i }) hs)
lent_is (n ∷ ns) hs = lent_is ns (lent_one n hs) ∙ map_map (lent_by ns) (at_name n lent_to) (lent_by (n ∷ ns)) (lent_step n ns) hs

given_step : (u : LentData) (us : List LentData) (h : HeldData) → given_by us (at_name u.name (with_log u) h) ≡ given_by (u ∷ us) h
given_step u us h = both (same_name h.name u.name)
    (λ e.
    let less : (h.out - 1) - count_named h.name (use_names us) ≡ h.out - ((cond (same_name h.name u.name) 1 0) + count_named h.name (use_names us)) =
    let one : ◌≡◌ {A = ℕ} (cond (same_name h.name u.name) 1 0) 1 = ap (λ (b : Bool). cond b 1 0) e in omega (arith, one) in
    let named : (s : ℕ) → logs_named h.name (u ∷ us) s ≡ u.log s ∷ logs_named h.name us s = λ s. ap (λ (b : Bool). cond b (u.log s ∷ logs_named h.name us s) (logs_named h.name us s)) e in
    let at : (s : ℕ) → (h.logs s ++ filled (u.log s ∷ [])) ++ filled (logs_named h.name us s) ≡ h.logs s ++ filled (logs_named h.name (u ∷ us) s) = λ s.
    append_assoc (h.logs s) (filled (u.log s ∷ [])) (filled (logs_named h.name us s))
    ∙ ap (λ (l : List (List Mark)). h.logs s ++ l) (sym (filled-append (u.log s ∷ []) (logs_named h.name us s)) ∙ ap (λ (l : List (List Mark)). filled l) (sym (named s))) in
    let logs : with_logs (with_logs h.logs (one_log u.log)) (filled_named h.name us) ≡ with_logs h.logs (filled_named h.name (u ∷ us)) = λ i s. at s i in
    ap (λ (b : Bool). given_by us (cond b (with_log u h) h)) e ∙ (λ i. record h { out = less i; logs = logs i }))
    (λ e.
    let same : h.out - count_named h.name (use_names us) ≡ h.out - ((cond (same_name h.name u.name) 1 0) + count_named h.name (use_names us)) =
    let none : ◌≡◌ {A = ℕ} (cond (same_name h.name u.name) 1 0) 0 = ap (λ (b : Bool). cond b 1 0) e in omega (arith, none) in
    let named : (s : ℕ) → logs_named h.name (u ∷ us) s ≡ logs_named h.name us s = λ s. ap (λ (b : Bool). cond b (u.log s ∷ logs_named h.name us s) (logs_named h.name us s)) e in
    let logs : with_logs h.logs (filled_named h.name us) ≡ with_logs h.logs (filled_named h.name (u ∷ us)) = λ i s. h.logs s ++ filled (sym (named s) i) in
    ap (λ (b : Bool). given_by us (cond b (with_log u h) h)) e ∙ (λ i. record h { out = same i; logs = logs i }))

pub given_is : (us : List LentData) (hs : List HeldData) → given_all us hs ≡ map (given_by us) hs
given_is [] hs = sym (map_same (given_by []) (λ h. let e : h.out - 0 ≡ h.out = omega arith in let l : with_logs h.logs (filled_named h.name []) ≡ h.logs = λ i s. append-nil (h.logs s) i in λ i. record h { out = e i; logs = l i }) hs)
given_is (u ∷ us) hs = given_is us (given_back u hs) ∙ map_map (given_by us) (at_name u.name (with_log u)) (given_by (u ∷ us)) (given_step u us) hs
