-- What chains weigh while they come home, one by one.
use Rattle.std.proofs.Common.{◌≡◌, ◌∙◌, ◌≤◌, ℕ, ◌+◌, List, [], ◌∷◌, ◌++◌, ap, arith, sum_by}
use Rattle.std.proofs.lemmas.List.Sums.{sum_by_push}

-- with one less
pub one_gone : {C : Type 0} (f : C → ℕ) (old new : List C) (c : C) → old ≡ new ++ c ∷ [] → sum_by f old ≡ sum_by f new + f c
one_gone f old new c is = ap (sum_by f) is ∙ sum_by_push f new c

pub moved : (spare now chains rest here all : ℕ) → spare + chains ≡ all → chains ≡ rest + here → now ≡ spare + here → now + rest ≡ all
moved spare now chains rest here all was gone more = omega (arith, was, gone, more)

pub room_left : (len chains rest here all most : ℕ) → len + chains ≡ all → all ≤ most → chains ≡ rest + here → len + here ≤ most
room_left len chains rest here all most was within gone = omega (arith, was, within, gone)

-- none is left
pub none_left : {C : Type 0} (f : C → ℕ) (xs : List C) (spare all : ℕ) → xs ≡ [] → spare + sum_by f xs ≡ all → spare ≡ all
none_left f xs spare all none was =
    let nothing : sum_by f xs ≡ 0 = ap (sum_by f) none in
    omega (arith, was, nothing)
