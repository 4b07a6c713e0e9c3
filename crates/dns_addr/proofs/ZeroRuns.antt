-- Runs of zeros in a list of groups.
use Rattle.std.proofs.Common.{◌≡◌, ◌≢◌, ℕ, ◌+◌, ◌<◌, false, max, eqb, List, ◌∷◌, length, drop, get_or, refl, sym, ap, ◌∙◌, arith}
use Rattle.std.proofs.lemmas.Bool.{ne_eqb}
use Rattle.std.proofs.lemmas.Grind.{common_steps}
use Rattle.std.proofs.lemmas.List.{drop_more}
use Rattle.dns_addr.specs.AddrText.{first_run, longest, zeros}

longest_here : (groups : List ℕ) (at : ℕ) → at < length groups → longest (drop at groups) ≡ max (zeros (drop at groups)) (longest (drop (at + 1) groups))
longest_here groups at inside =
    let here = drop_more groups at 0 inside in ap longest here ∙ ap (λ (t : List ℕ). max (zeros t) (longest (drop (at + 1) groups))) (sym here)

three : (a b c : ℕ) → max a (max b c) ≡ max (max a b) c
three a b c = grind (arith, common_steps)

other : (size a b : ℕ) → size ≡ max a b → a ≢ size → size ≡ b
other size a b e ne = grind (arith, common_steps)

pub one_longer : (groups : List ℕ) (at most size new : ℕ) → at < length groups → size ≡ zeros (drop at groups) → new ≡ max most size → max most (longest (drop at groups)) ≡ max new (longest (drop (at + 1) groups))
one_longer groups at most size new inside s n =
    ap (max most) (longest_here groups at inside) ∙ three most (zeros (drop at groups)) (longest (drop (at + 1) groups))
    ∙ ap (λ (m : ℕ). max m (longest (drop (at + 1) groups))) (ap (max most) (sym s) ∙ sym n)

pub not_here : (groups : List ℕ) (at size : ℕ) → at < length groups → zeros (drop at groups) ≢ size → at + first_run size (drop at groups) ≡ at + 1 + first_run size (drop (at + 1) groups)
not_here groups at size inside ne =
    let here = drop_more groups at 0 inside in
    let test : eqb (zeros (get_or groups at 0 ∷ drop (at + 1) groups)) size ≡ false = ne_eqb (zeros (get_or groups at 0 ∷ drop (at + 1) groups)) size (λ e. ne (ap zeros here ∙ e)) in
    let step : first_run size (drop at groups) ≡ 1 + first_run size (drop (at + 1) groups) = ap (first_run size) here ∙ rw test refl in
    omega (arith, step)

pub still_longest : (groups : List ℕ) (at size : ℕ) → at < length groups → zeros (drop at groups) ≢ size → size ≡ longest (drop at groups) → size ≡ longest (drop (at + 1) groups)
still_longest groups at size inside ne e = other size (zeros (drop at groups)) (longest (drop (at + 1) groups)) (e ∙ longest_here groups at inside) ne
