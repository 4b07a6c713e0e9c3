-- A list twice, and what follows in it from one item on.
use Rattle.std.proofs.Common.{◌≡◌, ◌≤◌, ◌<◌, ◌+◌, ◌-◌, ℕ, zero, suc, List, [], ◌∷◌, ◌++◌, length, take, drop, refl, sym, ap, ◌∙◌, arith, length-append}
use Rattle.outside.specs.declared.datagram.Upstream.{Upstream}
use Rattle.forward_plugin.specs.declared.numbered.Numbered.{Numbered}
use Rattle.forward_plugin.specs.Forward.{cyclic, numbered, numbered_from}

take_front : {A : Type 0} (xs ys : List A) (k : ℕ) → k ≤ length xs → take k (xs ++ ys) ≡ take k xs
take_front xs ys zero h = refl
take_front [] ys (suc k) h = absurd (omega (arith, h))
take_front (x ∷ xs) ys (suc k) h = ap (λ (l : List _). x ∷ l) (take_front xs ys k (omega (arith, h)))

take_past : {A : Type 0} (xs ys : List A) (k : ℕ) → take (length xs + k) (xs ++ ys) ≡ xs ++ take k ys
take_past [] ys k = let e : 0 + k ≡ k = omega arith in ap (λ n. take n ys) e
take_past (x ∷ xs) ys k = let e : suc (length xs) + k ≡ suc (length xs + k) = omega arith in ap (λ n. take n (x ∷ (xs ++ ys))) e ∙ ap (λ (l : List _). x ∷ l) (take_past xs ys k)

drop_front : {A : Type 0} (xs ys : List A) (k : ℕ) → k ≤ length xs → drop k (xs ++ ys) ≡ drop k xs ++ ys
drop_front xs ys zero h = refl
drop_front [] ys (suc k) h = absurd (omega (arith, h))
drop_front (x ∷ xs) ys (suc k) h = drop_front xs ys k (omega (arith, h))

length_drop : {A : Type 0} (xs : List A) (k : ℕ) → k ≤ length xs → length (drop k xs) + k ≡ length xs
length_drop xs zero h = omega arith
length_drop [] (suc k) h = absurd (omega (arith, h))
length_drop (x ∷ xs) (suc k) h = let e = length_drop xs k (omega (arith, h)) in omega (arith, e)

pub length_numbered : (n : ℕ) (us : List Upstream) → length (numbered_from n us) ≡ length us
length_numbered n [] = refl
length_numbered n (u ∷ us) = ap suc (length_numbered (suc n) us)

pub round : (us : List Upstream) (start : ℕ) → start < length us → take (start + length us - start) (drop start (numbered us ++ numbered us)) ≡ cyclic start (numbered us)
round us start h =
    let xs = numbered us in
    let n : length xs ≡ length us = length_numbered 0 us in
    let inside : start ≤ length xs = omega (arith, n, h) in
    let k : start + length us - start ≡ length (drop start xs) + start = (let e = length_drop xs start inside in omega (arith, e, n)) in
    ap (λ (l : List Numbered). take (start + length us - start) l) (drop_front xs xs start inside)
    ∙ ap (λ m. take m (drop start xs ++ xs)) k
    ∙ take_past (drop start xs) xs start

pub ring_long : (us : List Upstream) (ring : List Numbered) → ring ≡ numbered us ++ numbered us → length ring ≡ length us + length us
ring_long us ring e =
    let n = length_numbered 0 us in
    let m = length-append (numbered us) (numbered us) in
    let l = ap (λ (r : List Numbered). length r) e in
    omega (arith, n, m, l)

pub half_ring : (us : List Upstream) (ring : List Numbered) → ring ≡ numbered us ++ numbered us → take (length us) ring ≡ numbered us
half_ring us ring e =
    let n = length_numbered 0 us in
    ap (λ (r : List Numbered). take (length us) r) e ∙ ap (λ k. take k (numbered us ++ numbered us)) (sym n ∙ (omega arith))
    ∙ take_past (numbered us) (numbered us) 0 ∙ nothing_more (numbered us)
  where
    nothing_more : (xs : List Numbered) → xs ++ [] ≡ xs
    nothing_more [] = refl
    nothing_more (x ∷ xs) = ap (λ (l : List Numbered). x ∷ l) (nothing_more xs)
