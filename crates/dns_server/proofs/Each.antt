-- Lists place by place.
use Rattle.std.proofs.Common.{◌≡◌, ℕ, suc, ◌<◌, List, [], ◌∷◌, ◌++◌, length, take, drop, get_or, refl, ap, arith}
use Rattle.std.specs.List.{AllByRecursion, AllZip}
use Rattle.dns_server.specs.Each.{Each3}

pub zip_of : {A : Type 0} (R : A → A → Type 0) (xs ys : List A) → length ys ≡ length xs → ((k : ℕ) (d : A) → k < length xs → R (get_or xs k d) (get_or ys k d)) → AllZip R xs ys
zip_of R [] [] e h = tt
zip_of R [] (y ∷ ys) e h = absurd (omega arith)
zip_of R (x ∷ xs) [] e h = absurd (omega arith)
zip_of R (x ∷ xs) (y ∷ ys) e h = (h 0 x (omega arith), zip_of R xs ys (omega arith) (λ k d l. h (suc k) d (omega arith)))

pub zip_last : {A B : Type 0} (R : A → B → Type 0) (xs : List A) (x : A) (ys : List B) (y : B) → AllZip R (xs ++ x ∷ []) (ys ++ y ∷ []) → AllZip R xs ys × R x y
zip_last R [] x [] y h = (tt, h.0)
zip_last R [] x (b ∷ []) y h = absurd h.1
zip_last R [] x (b ∷ c ∷ ys) y h = absurd h.1
zip_last R (a ∷ []) x [] y h = absurd h.1
zip_last R (a ∷ b ∷ xs) x [] y h = absurd h.1
zip_last R (a ∷ xs) x (b ∷ ys) y h = let t = zip_last R xs x ys y h.1 in ((h.0, t.0), t.1)

pub each3_push : {A B C : Type 0} (R : A → B → C → Type 0) (xs : List A) (ys : List B) (zs : List C) (x : A) (y : B) (z : C) → Each3 R xs ys zs → R x y z → Each3 R (xs ++ x ∷ []) (ys ++ y ∷ []) (zs ++ z ∷ [])
each3_push R [] [] [] x y z h r = (r, tt)
each3_push R [] [] (c ∷ zs) x y z h r = absurd h
each3_push R [] (b ∷ ys) zs x y z h r = absurd h
each3_push R (a ∷ xs) [] zs x y z h r = absurd h
each3_push R (a ∷ xs) (b ∷ ys) [] x y z h r = absurd h
each3_push R (a ∷ xs) (b ∷ ys) (c ∷ zs) x y z h r = (h.0, each3_push R xs ys zs x y z h.1 r)

pub no_items : {A : Type 0} (xs : List A) → length xs ≡ 0 → xs ≡ []
no_items [] h = refl
no_items (x ∷ xs) h = absurd (omega arith)

pub written_back : {A : Type 0} (ns items : List A) → length ns ≡ length items → take (length items) (ns ++ drop (length ns) items) ≡ ns
written_back [] [] e = refl
written_back [] (i ∷ items) e = absurd (omega arith)
written_back (n ∷ ns) [] e = absurd (omega arith)
written_back (n ∷ ns) (i ∷ items) e = ap (λ (l : List _). n ∷ l) (written_back ns items (omega arith))

pub all_push : {A : Type 0} (P : A → Type 0) (items : List A) (item : A) → AllByRecursion P items → P item → AllByRecursion P (items ++ item ∷ [])
all_push P [] item each here = (here, tt)
all_push P (i ∷ items) item each here = (each.0, all_push P items item each.1 here)
