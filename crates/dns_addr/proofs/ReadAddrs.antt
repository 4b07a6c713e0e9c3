-- Reading an address group by group.
use Rattle.std.proofs.Common.{◌≡◌, ℕ, zero, suc, ◌+◌, ◌*◌, ◌-◌, ◌<◌, ◌≤◌, Bool, true, false, cond, ltb, eqb, List, [], ◌∷◌, ◌++◌, length, take, drop, replicate, get_or, Option, Some, None, option_map, option_and_then, ◌/◌, ◌%◌, inl, inr, refl, sym, ap, ◌∙◌, append_assoc, arith, length-append}
use Rattle.std.proofs.lemmas.List.{append-nil, nil_from_length, drop_more, length-replicate, take-replicate, take_all, length-drop, length-take-le}
use borrow.Rule.Slice.PartMut.{put_mid, post_of}
use Rattle.std.proofs.lemmas.Bool.{lt-ltb, le-ltb, cases_lt}
use Rattle.std.specs.Char.{is_ascii_digit}
use Rattle.dns_addr.specs.AddrText.{cut_once, by_cut, last_groups, v4_if, groups_of, group_of, begins_colons, colons_at, side_groups, v6_number, v6_of, digits_from, at_most, bits_of}

-- behind a byte at which no two colons stand
past : (at : ℕ) (found : Option ℕ) → option_map (λ n. at + n) (option_map (λ n. n + 1) found) ≡ option_map (λ n. (at + 1) + n) found
past at None = refl
past at (Some n) = ap Some (omega arith)

pub no_colons : (text : List ℕ) (at : ℕ) → at < length text → begins_colons (drop at text) ≡ false
    → option_map (λ n. at + n) (colons_at (drop at text)) ≡ option_map (λ n. (at + 1) + n) (colons_at (drop (at + 1) text))
no_colons text at inside e =
    let here = drop_more text at 0 inside in
    let none : begins_colons (get_or text at 0 ∷ drop (at + 1) text) ≡ false = ap begins_colons (sym here) ∙ e in
    let step : colons_at (drop at text) ≡ option_map (λ n. n + 1) (colons_at (drop (at + 1) text)) = ap colons_at here ∙ rw none refl in
    ap (option_map (λ n. at + n)) step ∙ past at (colons_at (drop (at + 1) text))

-- the groups of a text, by its first colon
pub groups_step : (tail : Bool) (room : ℕ) (text : List ℕ) → groups_of tail (suc room) text
    ≡ by_cut (last_groups (suc room) text (v4_if tail text))
    (λ piece behind. option_and_then (λ group. option_map (λ others. group ∷ others) (groups_of tail room behind)) (group_of piece)) (cut_once 58 text)
unfolding groups_of
groups_step tail room text = refl

groups_none : (tail : Bool) (text : List ℕ) → groups_of tail 0 text ≡ None
unfolding groups_of
groups_none tail text = refl

-- groups that were read, and what the rest says
abbrev pub groups_with : Bool → List ℕ → List ℕ → Option (List ℕ)
groups_with tail groups rest = option_map (λ others. groups ++ others) (groups_of tail (8 - length groups) rest)

pub starts : (tail : Bool) (groups text : List ℕ) → groups ≡ [] → groups_with tail groups text ≡ groups_of tail 8 text
starts tail groups text e = ap (λ (g : List ℕ). groups_with tail g text) e ∙ same (groups_of tail 8 text)
  where
    same : (o : Option (List ℕ)) → option_map (λ others. [] ++ others) o ≡ o
    same None = refl
    same (Some others) = refl

-- no group has room behind eight
pub no_room : (tail : Bool) (groups rest : List ℕ) → length groups ≡ 8 → groups_with tail groups rest ≡ None
no_room tail groups rest full =
    ap (λ (n : ℕ). option_map (λ others. groups ++ others) (groups_of tail (8 - n) rest)) full ∙ ap (option_map (λ others. groups ++ others)) (groups_none tail rest)

with_room : (tail : Bool) (groups rest : List ℕ) (room : ℕ) → 8 - length groups ≡ suc room
    → groups_with tail groups rest ≡ option_map (λ others. groups ++ others)
    (by_cut (last_groups (suc room) rest (v4_if tail rest))
    (λ piece behind. option_and_then (λ group. option_map (λ others. group ∷ others) (groups_of tail room behind)) (group_of piece)) (cut_once 58 rest))
with_room tail groups rest room e =
    ap (λ (n : ℕ). option_map (λ others. groups ++ others) (groups_of tail n rest)) e ∙ ap (option_map (λ others. groups ++ others)) (groups_step tail room rest)

room_left : (groups : List ℕ) → length groups < 8 → 8 - length groups ≡ suc (7 - length groups)
room_left groups h = omega arith

-- a group before a colon
more : (groups : List ℕ) (group : ℕ) (others : Option (List ℕ))
    → option_map (λ o. groups ++ o) (option_map (λ o. group ∷ o) others) ≡ option_map (λ o. (groups ++ group ∷ []) ++ o) others
more groups group None = refl
more groups group (Some others) = ap Some (sym (append_assoc groups (group ∷ []) others))

pub next_group : (tail : Bool) (groups new rest piece behind : List ℕ) (group : ℕ) → length groups < 8 → cut_once 58 rest ≡ Some (piece, behind) → group_of piece ≡ Some group
    → new ≡ groups ++ group ∷ [] → groups_with tail groups rest ≡ groups_with tail new behind
next_group tail groups new rest piece behind group few cut read is =
    let size : 7 - length groups ≡ 8 - length new = omega (arith, ap length is, length-append groups (group ∷ [])) in
    with_room tail groups rest (7 - length groups) (room_left groups few)
    ∙ rw (cut, read) (more groups group (groups_of tail (7 - length groups) behind))
    ∙ (λ i. option_map (λ o. sym is i ++ o) (groups_of tail (size i) behind))

pub bad_group : (tail : Bool) (groups rest piece behind : List ℕ) → length groups ≤ 8 → cut_once 58 rest ≡ Some (piece, behind) → group_of piece ≡ None → groups_with tail groups rest ≡ None
bad_group tail groups rest piece behind few cut none =
    elim (cases_lt (length groups) 8) [
      | inl lt ↦ with_room tail groups rest (7 - length groups) (room_left groups lt) ∙ rw (cut, none) refl
      | inr full ↦ no_room tail groups rest (omega arith)
    ]

-- the last group
pub last_group : (tail : Bool) (groups new rest : List ℕ) (group : ℕ) → length groups < 8 → cut_once 58 rest ≡ None → v4_if tail rest ≡ None → group_of rest ≡ Some group
    → new ≡ groups ++ group ∷ [] → groups_with tail groups rest ≡ Some new
last_group tail groups new rest group few cut none read is =
    with_room tail groups rest (7 - length groups) (room_left groups few) ∙ rw (cut, none, read) (ap Some (sym is))

pub bad_last : (tail : Bool) (groups rest : List ℕ) → length groups ≤ 8 → cut_once 58 rest ≡ None → v4_if tail rest ≡ None → group_of rest ≡ None → groups_with tail groups rest ≡ None
bad_last tail groups rest few cut none read =
    elim (cases_lt (length groups) 8) [
      | inl lt ↦ with_room tail groups rest (7 - length groups) (room_left groups lt) ∙ rw (cut, none, read) refl
      | inr full ↦ no_room tail groups rest (omega arith)
    ]

-- an IPv4 address in place of the last two groups
pub last_two : (tail : Bool) (groups half new rest : List ℕ) (addr : ℕ) → length groups < 8 → length half < 8 → half ≡ groups ++ (addr / 65536) ∷ [] → cut_once 58 rest ≡ None
    → v4_if tail rest ≡ Some addr → new ≡ half ++ (addr % 65536) ∷ [] → groups_with tail groups rest ≡ Some new
last_two tail groups half new rest addr few fewer h cut read is =
    let room : ltb 1 (suc (7 - length groups)) ≡ true = lt-ltb 1 (suc (7 - length groups)) (omega (arith, ap length h, length-append groups ((addr / 65536) ∷ []))) in
    with_room tail groups rest (7 - length groups) (room_left groups few)
    ∙ rw (cut, read, room) (ap Some (sym (append_assoc groups ((addr / 65536) ∷ []) ((addr % 65536) ∷ [])) ∙ ap (λ (t : List ℕ). t ++ (addr % 65536) ∷ []) (sym h) ∙ sym is))

pub no_second : (tail : Bool) (groups half rest : List ℕ) (addr : ℕ) → length groups < 8 → half ≡ groups ++ (addr / 65536) ∷ [] → length half ≡ 8 → cut_once 58 rest ≡ None
    → v4_if tail rest ≡ Some addr → groups_with tail groups rest ≡ None
no_second tail groups half rest addr few h full cut read =
    let room : ltb 1 (suc (7 - length groups)) ≡ false = le-ltb 1 (suc (7 - length groups)) (omega (arith, ap length h, length-append groups ((addr / 65536) ∷ []))) in
    with_room tail groups rest (7 - length groups) (room_left groups few) ∙ rw (cut, read, room) refl

-- what is behind a cut is shorter
behind_other : (byte first : ℕ) (text piece behind : List ℕ) (cut : Option (List ℕ × List ℕ)) → ((before after : List ℕ) → cut ≡ Some (before, after) → length after < length text)
    → option_map {U = List ℕ × List ℕ} (λ c. (first ∷ c.0, c.1)) cut ≡ Some (piece, behind) → length behind < length text + 1
behind_other byte first text piece behind None shorter e = absurd cc
behind_other byte first text piece behind (Some (before, after)) shorter e =
    let both : ◌≡◌ {A = List ℕ × List ℕ} (first ∷ before, after) (piece, behind) = cc in
    let is : after ≡ behind = ap (λ (c : List ℕ × List ℕ). c.1) both in omega (arith, shorter before after refl, ap length is)

pub cut_shorter : (byte : ℕ) (text piece behind : List ℕ) → cut_once byte text ≡ Some (piece, behind) → length behind < length text
cut_shorter byte [] piece behind e = absurd cc
cut_shorter byte (first ∷ text) piece behind e =
    elim (eqb first byte) as (λ b. cond b (Some ([], text)) (option_map {U = List ℕ × List ℕ} (λ cut. (first ∷ cut.0, cut.1)) (cut_once byte text)) ≡ Some (piece, behind) → length behind < suc (length text)) [
      | true ↦ λ h. let both : ◌≡◌ {A = List ℕ × List ℕ} ([], text) (piece, behind) = cc in
          let is : text ≡ behind = ap (λ (c : List ℕ × List ℕ). c.1) both in omega (arith, ap length is)
      | false ↦ λ h. omega (arith, behind_other byte first text piece behind (cut_once byte text) (λ before after q. cut_shorter byte text before after q) h)
    ] e

-- groups at both sides of zeros, in the room of eight
pub filled : (front back list : List ℕ) → length front + length back < 8 → list ≡ front ++ replicate (8 - length front) 0
    → take (8 - length back) list ++ back ≡ front ++ (replicate (8 - length front - length back) 0 ++ back)
filled front back list room is =
    let zeros : take (8 - length back) list ≡ front ++ replicate (8 - length front - length back) 0 =
    ap (take (8 - length back)) is ∙ zeros_between front (8 - length front) (8 - length back) (8 - length front - length back) (omega arith) (omega arith) in
    ap (λ (t : List ℕ). t ++ back) zeros ∙ append_assoc front (replicate (8 - length front - length back) 0) back
  where
    zeros_between : (xs : List ℕ) (many count few : ℕ) → count ≡ length xs + few → few ≤ many → take count (xs ++ replicate many 0) ≡ xs ++ replicate few 0
    zeros_between [] many count few e h =
        let is : count ≡ few = omega (arith, e) in ap (λ (n : ℕ). take n (replicate {A = ℕ} many 0)) is ∙ take-replicate few many 0 h
    zeros_between (x ∷ xs) many zero few e h = absurd (omega (arith, e))
    zeros_between (x ∷ xs) many (suc count) few e h = ap (λ (t : List ℕ). x ∷ t) (zeros_between xs many count few (omega (arith, e)) h)

-- a list whose end was written anew
pub put_end : (at size : ℕ) (list new : List ℕ) → at + size ≡ length list → put_mid at size list new ≡ take at list ++ new
put_end at size list new e =
    let none : post_of at size list ≡ [] = nil_from_length (post_of at size list) (omega (arith, e, length-drop size (drop at list), length-drop at list)) in
    ap (λ (t : List ℕ). take at list ++ (new ++ t)) none ∙ ap (λ (t : List ℕ). take at list ++ t) (append-nil new)

-- what stands in the room of eight, once it is filled up
pub record FilledUp (list front back : List ℕ) : Type 0 where
  pub full : list ≡ take 8 list ++ []
  pub is : take 8 list ≡ front ++ (replicate (8 - length front - length back) 0 ++ back)

pub filled_up_list : (list other new front back : List ℕ) (count many : ℕ) → length list ≡ 8 → length other ≡ 8 → count ≤ 8 → list ≡ take count list ++ replicate (8 - count) 0 → many ≤ 8
    → take count list ≡ front → take many other ≡ back → new ≡ take many other → length front + length back < 8 → FilledUp (put_mid (8 - many) (8 - (8 - many)) list new) front back
filled_up_list list other new front back count many eight also few zeros less f b n room =
    let counted : count ≡ length front = sym (length-take-le count list (omega (arith, eight))) ∙ ap length f in
    let second : many ≡ length back = sym (length-take-le many other (omega (arith, also))) ∙ ap length b in
    let whole : put_mid (8 - many) (8 - (8 - many)) list new ≡ take (8 - many) list ++ new = put_end (8 - many) (8 - (8 - many)) list new (omega (arith, eight)) in
    let parts : take (8 - many) list ++ new ≡ front ++ (replicate (8 - length front - length back) 0 ++ back) =
    (λ i. take (8 - second i) list ++ (n ∙ b) i)
    ∙ filled front back list room (zeros ∙ (λ i. f i ++ replicate (8 - counted i) 0)) in
    let size : length (put_mid (8 - many) (8 - (8 - many)) list new) ≤ 8 =
    omega (arith, ap length (whole ∙ parts), length-append front (replicate (8 - length front - length back) 0 ++ back), length-append (replicate (8 - length front - length back) 0) back, length-replicate {A = ℕ} (8 - length front - length back) 0) in
    let all = take_all 8 (put_mid (8 - many) (8 - (8 - many)) list new) size in
    record { full = sym all ∙ sym (append-nil (take 8 (put_mid (8 - many) (8 - (8 - many)) list new))); is = all ∙ whole ∙ parts }

-- the address with groups at both sides of `::`
pub both_sides : (text front back all : List ℕ) (at number : ℕ) → colons_at text ≡ Some at → side_groups false (take at text) ≡ Some front → side_groups true (drop (at + 2) text) ≡ Some back
    → length front + length back < 8 → all ≡ front ++ (replicate (8 - length front - length back) 0 ++ back) → number ≡ v6_number all → v6_of text ≡ Some number
unfolding v6_of
both_sides text front back all at number colons f b room is n =
    let test : ltb (length front + length back) 8 ≡ true = lt-ltb (length front + length back) 8 room in
    rw (colons, f, b, test) (ap Some (ap v6_number (sym is) ∙ sym n))

-- a number that is too large stays so with more digits
large : (most number : ℕ) (rest : List ℕ) → most < number → option_and_then (at_most most) (digits_from number rest) ≡ None
large most number [] h = let test : ltb most number ≡ true = lt-ltb most number h in rw test refl
large most number (byte ∷ rest) h =
    elim (is_ascii_digit byte) as (λ b. option_and_then (at_most most) (cond b (digits_from (10 * number + (byte - 48)) rest) None) ≡ None)
    [ true ↦ large most (10 * number + (byte - 48)) rest (omega arith) | false ↦ refl ]

pub too_many : (most number : ℕ) (text rest : List ℕ) → most < number → digits_from 0 text ≡ digits_from number rest → bits_of most text ≡ None
too_many most number [] rest h says = refl
too_many most number (byte ∷ text) rest h says = ap (option_and_then (at_most most)) says ∙ large most number rest h
