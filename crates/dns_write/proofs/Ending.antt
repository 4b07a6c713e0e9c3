-- Where the message so far ends, within the bytes that there is room for.
use Rattle.std.proofs.Common.{◌≡◌, ◌≤◌, ℕ, ◌+◌, ◌-◌, List, ◌++◌, length, take, drop, refl, sym, ap, ◌∙◌, append_assoc, arith, length-append}
use Rattle.std.proofs.lemmas.List.{take_at, drop-take, drop-append-le, length-take-le}
use Rattle.std.proofs.Math.Seq.{take-append-add}
use Rattle.dns_write.proofs.Searching.{take_less}
use Rattle.dns_write.proofs.Drafts.{fills}

-- bytes that are put there stand behind it
pub put_there : (out new bytes : List ℕ) (end : ℕ) → 12 ≤ end → end + length bytes ≤ length out → new ≡ take end out ++ (bytes ++ drop (end + length bytes) out)
    → drop 12 (take (end + length bytes) new) ≡ drop 12 (take end out) ++ bytes
put_there out new bytes end low inside is =
    let front = take end out in
    let rest = bytes ++ drop (end + length bytes) out in
    let long : length front ≡ end = length-take-le end out (omega arith) in
    let cut : take (end + length bytes) new ≡ front ++ bytes =
    ap (take (end + length bytes)) is ∙ ap (λ (n : ℕ). take (n + length bytes) (front ++ rest)) (sym long) ∙ take-append-add front rest (length bytes)
    ∙ ap (λ (t : List ℕ). front ++ t) (take_at bytes (drop (end + length bytes) out) (length bytes) refl) in
    ap (drop 12) cut ∙ drop-append-le 12 front bytes (omega (arith, long))

-- bytes that are put there where the rest was cut off
pub put_at_the_end : (out new bytes more : List ℕ) (end : ℕ) → 12 ≤ end → end ≤ length out → new ≡ (take end out ++ bytes) ++ more
    → drop 12 (take (length (take end out ++ bytes)) new) ≡ drop 12 (take end out) ++ bytes
put_at_the_end out new bytes more end low inside is =
    let front = take end out in
    let long : length front ≡ end = length-take-le end out inside in
    ap (λ (t : List ℕ). drop 12 (take (length (front ++ bytes)) t)) is ∙ ap (drop 12) (take_at (front ++ bytes) more (length (front ++ bytes)) refl) ∙ drop-append-le 12 front bytes (omega (arith, long))

-- an earlier end
pub taken_off : (out : List ℕ) (end mark : ℕ) → 12 ≤ mark → mark ≤ end → drop 12 (take mark out) ≡ take (mark - 12) (drop 12 (take end out))
taken_off out end mark low inside =
    let order : mark ≡ 12 + (mark - 12) = omega arith in
    ap (drop 12) (sym (take_less mark end out inside)) ∙ ap (λ (n : ℕ). drop 12 (take n (take end out))) order ∙ drop-take 12 (mark - 12) (take end out)

-- two bytes change before it
pub fills_before : (out new two : List ℕ) (at end : ℕ) → 14 ≤ at → at ≤ end → end ≤ length out → length two ≡ 2 → new ≡ take (at - 2) out ++ (two ++ drop (at - 2 + length two) out)
    → drop 12 (take end new) ≡ take (at - 14) (drop 12 (take end out)) ++ (two ++ drop (at - 12) (drop 12 (take end out)))
fills_before out new two at end low before inside size is =
    let cut = take end out in
    let front = take (at - 2) out in
    let behind = at - 2 + length two in
    let rest = drop behind out in
    let long : length front ≡ at - 2 = length-take-le (at - 2) out (omega arith) in
    let whole : length cut ≡ end = length-take-le end out inside in
    let wide : end ≡ length (front ++ two) + (end - at) = omega (arith, length-append front two) in
    let here : front ≡ take (at - 2) cut = sym (take_less (at - 2) end out (omega arith)) in
    let order : end ≡ behind + (end - at) = omega arith in
    let tail : take (end - at) rest ≡ drop behind cut = sym (ap (λ (n : ℕ). drop behind (take n out)) order ∙ drop-take behind (end - at) out) in
    let same : take end new ≡ take (at - 2) cut ++ (two ++ drop behind cut) =
    ap (take end) (is ∙ sym (append_assoc front two rest)) ∙ ap (λ (n : ℕ). take n ((front ++ two) ++ rest)) wide ∙ take-append-add (front ++ two) rest (end - at)
    ∙ append_assoc front two (take (end - at) rest) ∙ (λ i. here i ++ (two ++ tail i)) in
    fills cut (take end new) two at low (omega arith) size same

-- the message so far behind a header that is put in front of it
pub headed : (out new header : List ℕ) (end : ℕ) → length header ≡ 12 → 12 ≤ end → new ≡ take 0 out ++ (header ++ drop (0 + length header) out) → take end new ≡ header ++ drop 12 (take end out)
headed out new header end size low is =
    let order : end ≡ length header + (end - 12) = omega (arith, size) in
    let again : 12 + (end - 12) ≡ end = omega arith in
    let first : new ≡ header ++ drop (length header) out = is ∙ ap (λ (n : ℕ). header ++ drop n out) (omega arith) in
    ap (take end) first ∙ ap (λ (n : ℕ). take n (header ++ drop (length header) out)) order ∙ take-append-add header (drop (length header) out) (end - 12)
    ∙ ap (λ (n : ℕ). header ++ take (end - 12) (drop n out)) size ∙ ap (λ (t : List ℕ). header ++ t) (sym (drop-take 12 (end - 12) out) ∙ ap (λ (n : ℕ). drop 12 (take n out)) again)
