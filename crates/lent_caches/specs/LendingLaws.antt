-- Seats that are lent, and undone.
use Rattle.std.proofs.Common.{◌≡◌, inl, inr, ℕ, ◌+◌, ◌-◌, ◌<◌, Bool, true, false, cond, List, [], ◌∷◌, ◌++◌, map, Result, Ok, Err, IfOk, refl, sym, ap, ◌∙◌, subst, arith}
use Rattle.std.proofs.lemmas.List.{append-nil}
use Rattle.outside.specs.declared.mark.Mark.{Mark}
use Rattle.ruled_lock.specs.Shuffles.{filled}
use Rattle.lent_caches.specs.declared.name.CacheName.{CacheName}
use Rattle.lent_caches.specs.declared.uses.TheConstants.{PARTS}
use Rattle.lent_caches.specs.Names.{same_name}
use Rattle.lent_caches.specs.Held.{AreApart, CanLend, HeldData, IsAbsent, IsHeldAs, LentData, at_name, given_all, given_back, lent_one, lent_to, no_log, one_log, with_log, with_logs}
use Rattle.lent_caches.specs.Ledger.{AllHeld, count_named, filled_named, lent_each, logs_named, use_names}
use Rattle.lent_caches.specs.Building.{AreNewUses}
use Rattle.lent_caches.specs.ApartLaws.{both, same_is}
use Rattle.lent_caches.specs.CountLaws.{given_by, given_is, lent_by, lent_is}

pub if_ok : {A B : Type 0} (r : Result A B) (P Q : A → Type 0) → ((x : A) → P x → Q x) → IfOk r P → IfOk r Q
if_ok (Ok x) P Q to is = to x is
if_ok (Err e) P Q to is = is

absent_lend : (n : CacheName) (hs : List HeldData) → IsAbsent n hs → CanLend n hs → ⊥
absent_lend n [] absent can = can
absent_lend n (h ∷ hs) absent (inl is) = absurd (cc (absent.0, is.0))
absent_lend n (h ∷ hs) absent (inr other) = absent_lend n hs absent.1 other

pub can_first : (n : CacheName) (h : HeldData) (hs : List HeldData) → AreApart (h ∷ hs) → CanLend n (h ∷ hs) → same_name h.name n ≡ true → h.out + 1 < PARTS
can_first n h hs apart (inl is) same = is.1
can_first n h hs apart (inr other) same = absurd (absent_lend n hs (subst (λ (m : CacheName). IsAbsent m hs) (same_is h.name n same) apart.0) other)

-- lending changes no name and no lock
absent_lent : (name n : CacheName) (hs : List HeldData) → IsAbsent name hs → IsAbsent name (lent_one n hs)
absent_lent name n [] absent = tt
absent_lent name n (h ∷ hs) absent = both (same_name h.name n)
    (λ e. (subst (λ (b : Bool). same_name (cond b (lent_to h) h).name name ≡ false) (sym e) absent.0, absent_lent name n hs absent.1))
    (λ e. (subst (λ (b : Bool). same_name (cond b (lent_to h) h).name name ≡ false) (sym e) absent.0, absent_lent name n hs absent.1))

pub name_lent : (n : CacheName) (h : HeldData) → (at_name n lent_to h).name ≡ h.name
name_lent n h = both (same_name h.name n)
    (λ e. ap (λ (b : Bool). (cond b (lent_to h) h).name) e)
    (λ e. ap (λ (b : Bool). (cond b (lent_to h) h).name) e)

pub cache_lent : (n : CacheName) (h : HeldData) → (at_name n lent_to h).cache ≡ h.cache
cache_lent n h = both (same_name h.name n)
    (λ e. ap (λ (b : Bool). (cond b (lent_to h) h).cache) e)
    (λ e. ap (λ (b : Bool). (cond b (lent_to h) h).cache) e)

pub apart_lent : (n : CacheName) (hs : List HeldData) → AreApart hs → AreApart (lent_one n hs)
apart_lent n [] apart = tt
apart_lent n (h ∷ hs) apart =
    (subst (λ (m : CacheName). IsAbsent m (lent_one n hs)) (sym (name_lent n h)) (absent_lent h.name n hs apart.0), apart_lent n hs apart.1)

pub held_lent : (u : LentData) (n : CacheName) (hs : List HeldData) → IsHeldAs u hs → IsHeldAs u (lent_one n hs)
held_lent u n [] is = absurd is
held_lent u n (h ∷ hs) (inl is) = inl (subst (λ (m : CacheName). same_name m u.name ≡ true) (sym (name_lent n h)) is.0, is.1 ∙ sym (cache_lent n h))
held_lent u n (h ∷ hs) (inr other) = inr (held_lent u n hs other)

pub held_back : (u : LentData) (n : CacheName) (hs : List HeldData) → IsHeldAs u (lent_one n hs) → IsHeldAs u hs
held_back u n [] is = absurd is
held_back u n (h ∷ hs) (inl is) = inl (subst (λ (m : CacheName). same_name m u.name ≡ true) (name_lent n h) is.0, is.1 ∙ cache_lent n h)
held_back u n (h ∷ hs) (inr other) = inr (held_back u n hs other)

pub uses_back : (ns : List CacheName) (us : List LentData) (n : CacheName) (hs : List HeldData) → AreNewUses ns (lent_one n hs) us → AreNewUses ns hs us
uses_back [] [] n hs are = tt
uses_back [] (u ∷ us) n hs are = absurd are
uses_back (m ∷ ns) [] n hs are = absurd are
uses_back (m ∷ ns) (u ∷ us) n hs are = (record { name_is = are.0.name_is; none = are.0.none; of = held_back u n hs are.0.of }, uses_back ns us n hs are.1)

-- a use that comes back with no call undoes its lending
undo_here : (u : LentData) (n : CacheName) (h : HeldData) → u.name ≡ n → u.log ≡ no_log → at_name u.name (with_log u) (at_name n lent_to h) ≡ h
undo_here u n h named none = subst (λ (m : CacheName). at_name u.name (with_log u) (at_name m lent_to h) ≡ h) named (both (same_name h.name u.name)
    (λ e.
    let less : h.out + 1 - 1 ≡ h.out = omega arith in
    let logs : with_logs h.logs (one_log u.log) ≡ h.logs = λ i s. (ap (λ (l : ℕ → List Mark). h.logs s ++ filled (l s ∷ [])) none ∙ append-nil (h.logs s)) i in
    let inner : at_name u.name lent_to h ≡ lent_to h = ap (λ (b : Bool). cond b (lent_to h) h) e in
    ap (λ (x : HeldData). at_name u.name (with_log u) x) inner
    ∙ (ap (λ (b : Bool). cond b (with_log u (lent_to h)) (lent_to h)) e ∙ (λ i. record h { out = less i; logs = logs i })))
    (λ e.
    let inner : at_name u.name lent_to h ≡ h = ap (λ (b : Bool). cond b (lent_to h) h) e in
    ap (λ (x : HeldData). at_name u.name (with_log u) x) inner ∙ ap (λ (b : Bool). cond b (with_log u h) h) e))

pub undo_one : (u : LentData) (n : CacheName) (hs : List HeldData) → u.name ≡ n → u.log ≡ no_log → given_back u (lent_one n hs) ≡ hs
undo_one u n [] named none = refl
undo_one u n (h ∷ hs) named none = λ i. undo_here u n h named none i ∷ undo_one u n hs named none i

-- so do all uses of a chain
pub new_names : (ns : List CacheName) (hs : List HeldData) (us : List LentData) → AreNewUses ns hs us → use_names us ≡ ns
new_names [] hs [] are = refl
new_names [] hs (u ∷ us) are = absurd are
new_names (n ∷ ns) hs [] are = absurd are
new_names (n ∷ ns) hs (u ∷ us) are = λ i. are.0.name_is i ∷ new_names ns hs us are.1 i

pub no_logs : (name : CacheName) (ns : List CacheName) (hs : List HeldData) (us : List LentData) (s : ℕ) → AreNewUses ns hs us → filled_named name us s ≡ []
no_logs name [] hs [] s are = refl
no_logs name [] hs (u ∷ us) s are = absurd are
no_logs name (n ∷ ns) hs [] s are = absurd are
no_logs name (n ∷ ns) hs (u ∷ us) s are = both (same_name name u.name)
    (λ e.
    ap (λ (b : Bool). filled (cond b (u.log s ∷ logs_named name us s) (logs_named name us s))) e
    ∙ (ap (λ (l : ℕ → List Mark). filled (l s ∷ logs_named name us s)) are.0.none ∙ no_logs name ns hs us s are.1))
    (λ e. ap (λ (b : Bool). filled (cond b (u.log s ∷ logs_named name us s) (logs_named name us s))) e ∙ no_logs name ns hs us s are.1)

undo_by : (ns : List CacheName) (hs : List HeldData) (us : List LentData) → AreNewUses ns hs us → (h : HeldData) → given_by us (lent_by ns h) ≡ h
undo_by ns hs us are h =
    let names = new_names ns hs us are in
    let same : count_named h.name (use_names us) ≡ count_named h.name ns = ap (λ (l : List CacheName). count_named h.name l) names in
    let less : h.out + count_named h.name ns - count_named h.name (use_names us) ≡ h.out = omega (arith, same) in
    let logs : with_logs h.logs (filled_named h.name us) ≡ h.logs = λ i s. (ap (λ (l : List (List Mark)). h.logs s ++ l) (no_logs h.name ns hs us s are) ∙ append-nil (h.logs s)) i in
    λ i. record h { out = less i; logs = logs i }

pub map_back : (f g : HeldData → HeldData) → ((h : HeldData) → f (g h) ≡ h) → (hs : List HeldData) → map f (map g hs) ≡ hs
map_back f g e [] = refl
map_back f g e (h ∷ hs) = λ i. e h i ∷ map_back f g e hs i

pub undo_all : (ns : List CacheName) (hs : List HeldData) (us : List LentData) → AreNewUses ns hs us → given_all us (lent_each ns hs) ≡ hs
undo_all ns hs us are =
    ap (λ (l : List HeldData). given_all us l) (lent_is ns hs) ∙ (given_is us (map (lent_by ns) hs) ∙ map_back (given_by us) (lent_by ns) (undo_by ns hs us are) hs)

pub uses_held : (ns : List CacheName) (hs more : List HeldData) (us : List LentData) → ((u : LentData) → IsHeldAs u hs → IsHeldAs u more) → AreNewUses ns hs us → AllHeld us more
uses_held [] hs more [] to are = tt
uses_held [] hs more (u ∷ us) to are = absurd are
uses_held (n ∷ ns) hs more [] to are = absurd are
uses_held (n ∷ ns) hs more (u ∷ us) to are = (to u are.0.of, uses_held ns hs more us to are.1)

pub held_each : (u : LentData) (ns : List CacheName) (hs : List HeldData) → IsHeldAs u hs → IsHeldAs u (lent_each ns hs)
held_each u [] hs is = is
held_each u (n ∷ ns) hs is = held_each u ns (lent_one n hs) (held_lent u n hs is)

pub apart_each : (ns : List CacheName) (hs : List HeldData) → AreApart hs → AreApart (lent_each ns hs)
apart_each [] hs apart = apart
apart_each (n ∷ ns) hs apart = apart_each ns (lent_one n hs) (apart_lent n hs apart)

-- two lists with one more at the end
pub last_parts : {X : Type 0} (xs ys : List X) (x y : X) → xs ++ x ∷ [] ≡ ys ++ y ∷ [] → (xs ≡ ys) × (x ≡ y)
last_parts [] [] x y e = (refl, cc)
last_parts [] (b ∷ []) x y e = absurd cc
last_parts [] (b ∷ c ∷ ys) x y e = absurd cc
last_parts (a ∷ []) [] x y e = absurd cc
last_parts (a ∷ c ∷ xs) [] x y e = absurd cc
last_parts {X} (a ∷ xs) (b ∷ ys) x y e =
    let tail : xs ++ x ∷ [] ≡ ys ++ y ∷ [] = cc in
    let head : a ≡ b = cc in
    let t = last_parts xs ys x y tail in
    (λ i. head i ∷ t.0 i, t.1)
