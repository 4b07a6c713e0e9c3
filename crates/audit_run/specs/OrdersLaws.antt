-- An order with a fault is no history.
use Rattle.std.proofs.Common.{◌≡◌, ◌≤◌, ℕ, zero, suc, Bool, true, false, List, [], ◌∷◌, ◌++◌, map}
use Rattle.std.proofs.Common.{take, length, refl, sym, ap, ◌∙◌, subst, arith, append_assoc}
use Rattle.std.proofs.Common.{append-nil}
use Rattle.std.proofs.lemmas.List.{length-map, map-append}
use Rattle.std.specs.Prelude.{slice_get, if◌then◌else◌}
use Rattle.one_history.specs.Calls.{Told, is_by, told_by}
use Rattle.audit_run.specs.declared.place.Place.{Place}
use Rattle.audit_run.specs.Orders.{AllAllowed, AreApart, Begins, Fails, FailsAt, IsHistory}
use Rattle.audit_run.specs.Orders.{place_of}

by_own : (t : Told ℕ) → is_by t.worker t.serial t ≡ true
by_own t = grind arith

-- what is told behind others
pub told-then : (worker serial : ℕ) (ts us : List (Told ℕ))
    → told_by worker serial (ts ++ us) ≡ told_by worker serial ts ++ told_by worker serial us
told-then worker serial [] us = refl
told-then worker serial (t ∷ ts) us =
    by (is_by worker serial t) (told-then worker serial ts us)
  where
    by : (b : Bool)
        → told_by worker serial (ts ++ us) ≡ told_by worker serial ts ++ told_by worker serial us
        → (if b then t.mark ∷ told_by worker serial (ts ++ us)
        else told_by worker serial (ts ++ us))
        ≡ (if b then t.mark ∷ told_by worker serial ts else told_by worker serial ts)
        ++ told_by worker serial us
    by true e = ap (λ l. t.mark ∷ l) e
    by false e = e

pub told_own : (t : Told ℕ) (us : List (Told ℕ))
    → told_by t.worker t.serial (t ∷ us) ≡ t.mark ∷ told_by t.worker t.serial us
told_own t us =
    ap (λ b. if b then t.mark ∷ told_by t.worker t.serial us else told_by t.worker t.serial us)
    (by_own t)

module _ {N : Type 0} (allows : List N → N → Type 0) where
  -- what may stand in front of others
  pub allowed-front : (before ts us : List N) → AllAllowed allows before (ts ++ us)
      → AllAllowed allows before ts
  allowed-front before [] us h = tt
  allowed-front before (t ∷ ts) us h = (h.0, allowed-front (before ++ t ∷ []) ts us h.1)

  -- one more
  pub allowed-more : (before ts : List N) (u : N) → AllAllowed allows before ts
      → allows (before ++ ts) u → AllAllowed allows before (ts ++ u ∷ [])
  allowed-more before [] u h g = (subst (λ l. allows l u) (append-nil before) g, tt)
  allowed-more before (t ∷ ts) u h g = (
    h.0,
    allowed-more (before ++ t ∷ []) ts u h.1
        (subst (λ l. allows l u) (sym (append_assoc before (t ∷ []) ts)) g),
  )

  -- the last one
  pub allowed-last : (before ts : List N) (u : N) → AllAllowed allows before (ts ++ u ∷ [])
      → allows (before ++ ts) u
  allowed-last before [] u h = subst (λ l. allows l u) (sym (append-nil before)) h.0
  allowed-last before (t ∷ ts) u h =
      subst (λ l. allows l u) (append_assoc before (t ∷ []) ts)
      (allowed-last (before ++ t ∷ []) ts u h.1)

same_told : (t u : Told ℕ) → t.worker ≡ u.worker → t.serial ≡ u.serial → t.mark ≡ u.mark → t ≡ u
same_told t u worker serial mark =
    ap (λ w. told_as w t.serial t.mark) worker ∙ ap (λ s. told_as u.worker s t.mark) serial
    ∙ ap (λ m. told_as u.worker u.serial m) mark
  where
    told_as : ℕ → ℕ → ℕ → Told ℕ
    told_as w s m = record { worker = w; serial = s; mark = m }

nil-cons : {A : Type 0} (x : A) (xs : List A) → [] ≡ x ∷ xs → ⊥
nil-cons x xs e = cc

heads : {A : Type 0} (x y : A) (xs ys : List A) → x ∷ xs ≡ y ∷ ys → x ≡ y
heads x y xs ys e = cc

tails : {A : Type 0} (x y : A) (xs ys : List A) → x ∷ xs ≡ y ∷ ys → xs ≡ ys
tails x y xs ys e = cc

module _ (marks : ℕ → ℕ → List ℕ) (allows : List (Told ℕ) → Told ℕ → Type 0) where
  -- a history begins so with what stands in front of it
  pub begins-front : (ts us : List (Told ℕ))
      → ((worker serial : ℕ) → told_by worker serial (ts ++ us) ≡ marks worker serial)
      → AllAllowed allows [] (ts ++ us) → Begins marks allows ts
  begins-front ts us each legal = record {
    first = λ worker serial. (
      told_by worker serial us,
      sym (each worker serial) ∙ told-then worker serial ts us,
    );
    legal = allowed-front allows [] ts us legal;
  }

  -- at which serial the next one is
  serial_is : AreApart marks → (common : List (Told ℕ)) (t u : Told ℕ) (ts us : List (Told ℕ))
      → place_of t ≡ place_of u → Begins marks allows (common ++ t ∷ ts)
      → ((worker serial : ℕ) → told_by worker serial (common ++ u ∷ us) ≡ marks worker serial)
      → t ≡ u
  serial_is apart common t u ts us place begins each =
      let one = begins.first t.worker t.serial in
      let front : marks t.worker t.serial ≡ told_by t.worker t.serial common ++ t.mark
      ∷ (told_by t.worker t.serial ts ++ one.0) =
      one.1 ∙ ap (λ l. l ++ one.0) (told-then t.worker t.serial common (t ∷ ts)
      ∙ ap (λ l. told_by t.worker t.serial common ++ l) (told_own t ts))
      ∙ append_assoc (told_by t.worker t.serial common) (t.mark ∷ told_by t.worker t.serial ts)
      one.0 in
      let whole : marks u.worker u.serial ≡ told_by u.worker u.serial common ++ u.mark
      ∷ told_by u.worker u.serial us =
      sym (each u.worker u.serial) ∙ told-then u.worker u.serial common (u ∷ us)
      ∙ ap (λ l. told_by u.worker u.serial common ++ l) (told_own u us) in
      let worker : t.worker ≡ u.worker = ap (λ (p : Place). p.side) place in
      let mark : t.mark ≡ u.mark = ap (λ (p : Place). p.mark) place in
      let serial : t.serial ≡ u.serial =
      apart t.worker t.serial u.serial t.mark (told_by t.worker t.serial common)
      (told_by t.worker t.serial ts ++ one.0) (told_by u.worker u.serial common)
      (told_by u.worker u.serial us) front
      (ap (λ w. marks w u.serial) worker ∙ whole
      ∙ ap (λ m. told_by u.worker u.serial common ++ m ∷ told_by u.worker u.serial us)
      (sym mark)) in
      same_told t u worker serial mark

  -- one more in front of the rest
  pushed : {A : Type 0} (xs : List A) (y : A) (ys : List A) → (xs ++ y ∷ []) ++ ys ≡ xs ++ y ∷ ys
  pushed xs y ys = append_assoc xs (y ∷ []) ys

  -- a history that has these places in front begins with what is told of them
  same_front : AreApart marks → (common ts us : List (Told ℕ)) (n : ℕ) (places : List Place)
      → Begins marks allows (common ++ ts)
      → ((worker serial : ℕ) → told_by worker serial (common ++ us) ≡ marks worker serial)
      → map place_of ts ≡ take n places → map place_of us ≡ places
      → (rest : List (Told ℕ)) × (us ≡ ts ++ rest)
  same_front apart common [] us n places begins each front whole = (us, refl)
  same_front apart common (t ∷ ts) us zero places begins each front whole =
      absurd (nil-cons (place_of t) (map place_of ts) (sym front))
  same_front apart common (t ∷ ts) us (suc n) [] begins each front whole =
      absurd (nil-cons (place_of t) (map place_of ts) (sym front))
  same_front apart common (t ∷ ts) [] (suc n) (p ∷ places) begins each front whole =
      absurd (nil-cons p places whole)
  same_front apart common (t ∷ ts) (u ∷ us) (suc n) (p ∷ places) begins each front whole =
      let place : place_of t ≡ place_of u =
      heads (place_of t) p (map place_of ts) (take n places) front
      ∙ sym (heads (place_of u) p (map place_of us) places whole) in
      let same = serial_is apart common t u ts us place begins each in
      let more = same_front apart (common ++ t ∷ []) ts us n places
      (subst (λ l. Begins marks allows l) (sym (pushed common t ts)) begins)
      (λ worker serial. ap (λ l. told_by worker serial l) (pushed common t us)
      ∙ ap (λ x. told_by worker serial (common ++ x ∷ us)) same ∙ each worker serial)
      (tails (place_of t) p (map place_of ts) (take n places) front)
      (tails (place_of u) p (map place_of us) places whole) in
      (more.0, ap (λ x. x ∷ us) (sym same) ∙ ap (λ l. t ∷ l) more.1)

  next_of : {A : Type 0} (xs ys : List A) → slice_get (xs ++ ys) (length xs) ≡ slice_get ys 0
  next_of [] ys = refl
  next_of (x ∷ xs) ys = next_of xs ys

  fails-not : (ts rest : List (Told ℕ)) → Fails marks allows ts (slice_get (map place_of rest) 0)
      → ((worker serial : ℕ) → told_by worker serial (ts ++ rest) ≡ marks worker serial)
      → AllAllowed allows [] (ts ++ rest) → ⊥
  fails-not ts [] fails each legal =
      fails.2 (ap (λ l. told_by fails.0 fails.1 l) (sym (append-nil ts)) ∙ each fails.0 fails.1)
  fails-not ts (u ∷ us) fails each legal =
      let split = pushed ts u us in
      fails u.serial (begins-front (ts ++ u ∷ []) us
      (λ worker serial. ap (λ l. told_by worker serial l) split ∙ each worker serial)
      (subst (λ l. AllAllowed allows [] l) (sym split) legal))

  taken_long : {A : Type 0} (n : ℕ) (xs : List A) → n ≤ length xs → length (take n xs) ≡ n
  taken_long zero xs h = refl
  taken_long (suc n) [] h = absurd (omega (arith, h))
  taken_long (suc n) (x ∷ xs) h = ap suc (taken_long n xs (omega (arith, h)))

  -- an order with a fault is no history
  pub fails-denies : AreApart marks → (places : List Place) (at : ℕ)
      → FailsAt marks allows places at → IsHistory marks allows places → ⊥
  fails-denies apart places at f h =
      let front = same_front apart [] f.told h.told at places f.begins h.each f.are h.are in
      let long : length f.told ≡ at =
      sym (length-map f.told place_of) ∙ ap length f.are ∙ taken_long at places f.within in
      let next : slice_get places at ≡ slice_get (map place_of front.0) 0 =
      ap (λ l. slice_get l at) (sym h.are ∙ ap (map place_of) front.1
      ∙ map-append place_of f.told front.0)
      ∙ ap (λ n. slice_get (map place_of f.told ++ map place_of front.0) n)
      (sym long ∙ sym (length-map f.told place_of))
      ∙ next_of (map place_of f.told) (map place_of front.0) in
      fails-not f.told front.0 (subst (λ o. Fails marks allows f.told o) next f.fails)
      (λ worker serial. ap (λ l. told_by worker serial l) (sym front.1) ∙ h.each worker serial)
      (subst (λ l. AllAllowed allows [] l) front.1 h.legal)
