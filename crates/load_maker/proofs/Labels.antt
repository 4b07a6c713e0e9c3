-- How long the first label of a name is.
use Rattle.std.proofs.Common.{◌≡◌, ◌<◌, ◌≤◌, ◌+◌, ℕ, refl, List, length, ap, arith, codes, length-append}
use Rattle.std.specs.Fmt.{decimal}
use Rattle.std.proofs.lemmas.Fmt.{length-decimal-le}
use Rattle.load_maker.specs.Queries.{label_of}

pub label_short : (number : ℕ) (text : List ℕ) → text ≡ label_of number → number < 1500 → length text ≤ 5
label_short number text is below =
    let whole : length text ≡ length (label_of number) = ap length is in
    let parts : length (label_of number) ≡ length (codes "h") + length (decimal number) = length-append (codes "h") (decimal number) in
    let one : length (codes "h") ≡ 1 = refl in
    let few : length (decimal number) ≤ 4 = length-decimal-le 4 number (omega arith) (omega (arith, below)) (omega (arith, below)) in
    omega (arith, whole, parts, one, few)
