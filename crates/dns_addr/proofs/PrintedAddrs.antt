-- A printed address reads as the address.
use Rattle.std.proofs.Common.{◌≡◌, ◌≢◌, ℕ, zero, suc, ◌+◌, ◌*◌, ◌/◌, ◌%◌, ◌^◌, ◌-◌, ◌<◌, ◌≤◌, Bool, true, false, eqb, ltb, max, List, [], ◌∷◌, ◌++◌, length, map, take, drop, replicate, Option, Some, None, option_map, inl, inr, refl, sym, ap, subst, ◌∙◌, append_assoc, arith, length-append}
use Rattle.std.proofs.lemmas.Bool.{cases_lt, eq-eqb, ne_eqb, eqb-true, eqb-false, cond_both, ltb-true, ltb-false}
use Rattle.std.proofs.lemmas.Fmt.{hex_one_digit, hex_two_digits}
use Rattle.std.proofs.lemmas.Grind.{common_steps}
use Rattle.std.proofs.lemmas.List.{append-nil, take_at, drop_at, drop-drop, take-append-drop, length-drop, length-take-le}
use Rattle.std.specs.Char.{to_ascii_lowercase}
use Rattle.std.specs.Fmt.{decimal, digits, digit_glyph}
use Rattle.std.specs.List.{AllByRecursion}
use Rattle.dns_addr.specs.declared.addr.Addr.{Addr}
use Rattle.dns_addr.specs.declared.addr.Addr.TheVariants.{V4, V6}
use Rattle.dns_addr.specs.AddrText.{cut_once, octet_of, v4_of, v4_text, hex_digit, hex_from, group_of, v4_if, groups_of, side_groups, begins_colons, colons_at, v6_number, v6_of, addr_of, v6_groups, zeros, longest, first_run, more_groups, groups_text, shortened, v6_groups_text, v6_text, addr_text}
use Rattle.dns_addr.specs.AddrText.{IsAddr}
use Rattle.dns_addr.proofs.ReadAddrs.{groups_step, both_sides}
use Rattle.dns_addr.specs.OctetLaws.{one_digit, two_digits, three_digits, octet_complete, low_digit, is_digit}

-- a byte that stands nowhere in a text
abbrev Without : ℕ → List ℕ → Type 0
Without byte text = AllByRecursion (λ x. x ≢ byte) text

cut_here : (byte : ℕ) (text rest : List ℕ) → Without byte text → cut_once byte (text ++ byte ∷ rest) ≡ Some (text, rest)
cut_here byte [] rest h = let same : eqb byte byte ≡ true = eq-eqb byte byte refl in rw same refl
cut_here byte (x ∷ text) rest h = let other : eqb x byte ≡ false = ne_eqb x byte h.0 in rw (other, cut_here byte text rest h.1) refl

cut_nowhere : (byte : ℕ) (text : List ℕ) → Without byte text → cut_once byte text ≡ None
cut_nowhere byte [] h = refl
cut_nowhere byte (x ∷ text) h = let other : eqb x byte ≡ false = ne_eqb x byte h.0 in rw (other, cut_nowhere byte text h.1) refl

-- IPv4
record IsDecimal (text : List ℕ) : Type 0 where
  small : map to_ascii_lowercase text ≡ text
  no_dot : Without 46 text

digit_text : (d : ℕ) (text : List ℕ) → d < 10 → IsDecimal text → IsDecimal ((48 + d) ∷ text)
digit_text d text h t = record { small = λ i. low_digit (48 + d) (is_digit d h) i ∷ t.small i; no_dot = (λ e. absurd (omega arith), t.no_dot) }

no_digits : IsDecimal []
no_digits = record { small = refl; no_dot = tt }

octet_text : (n : ℕ) → n < 256 → IsDecimal (decimal n)
octet_text n h =
    elim (cases_lt n 10) [
      | inl low ↦ rw (one_digit n low) (digit_text (n % 10) [] (omega arith) no_digits)
      | inr high ↦
          elim (cases_lt n 100) [
            | inl low ↦ rw (two_digits n high low) (digit_text (n / 10 % 10) ((48 + n % 10) ∷ []) (omega arith) (digit_text (n % 10) [] (omega arith) no_digits))
            | inr more ↦
                rw (three_digits n more (omega arith))
                (digit_text (n / 100) ((48 + n / 10 % 10) ∷ (48 + n % 10) ∷ []) (omega arith) (digit_text (n / 10 % 10) ((48 + n % 10) ∷ []) (omega arith) (digit_text (n % 10) [] (omega arith) no_digits)))
          ]
    ]

octet_back : (n : ℕ) → n < 256 → octet_of (decimal n) ≡ Some n
octet_back n h = octet_complete (decimal n) n h (octet_text n h).small

v4_back : (n : ℕ) → n < 2 ^ 32 → v4_of (v4_text n) ≡ Some n
unfolding v4_of
v4_back n h =
    let a = n / 2 ^ 24 in
    let b = n / 2 ^ 16 % 256 in
    let c = n / 2 ^ 8 % 256 in
    let d = n % 256 in
    let low_a : a < 256 = omega arith in
    let low_b : b < 256 = omega arith in
    let low_c : c < 256 = omega arith in
    let low_d : d < 256 = omega arith in
    rw (
      cut_here 46 (decimal a) (decimal b ++ 46 ∷ (decimal c ++ 46 ∷ decimal d)) (octet_text a low_a).no_dot,
      octet_back a low_a,
      cut_here 46 (decimal b) (decimal c ++ 46 ∷ decimal d) (octet_text b low_b).no_dot,
      octet_back b low_b,
      cut_here 46 (decimal c) (decimal d) (octet_text c low_c).no_dot,
      octet_back c low_c,
      octet_back d low_d,
    ) (ap Some (omega arith))

-- groups in hexadecimal
glyphs : List ℕ → List ℕ
glyphs ds = map (λ d. digit_glyph false d) ds

abbrev value_from : ℕ → List ℕ → ℕ
value_from number [] = number
value_from number (d ∷ ds) = value_from (16 * number + d) ds

glyph_digit : (d : ℕ) → d < 16 → hex_digit (digit_glyph false d) ≡ Some d
glyph_digit d h = grind (arith, common_steps)

glyph_no_dot : (d : ℕ) → digit_glyph false d ≢ 46
glyph_no_dot d = cond_both (ltb d 10) (48 + d) (87 + d) (λ x. x ≢ 46) (λ _ e. absurd (omega arith)) (λ _ e. absurd (omega arith))

glyph_no_colon : (d : ℕ) → digit_glyph false d ≢ 58
glyph_no_colon d =
    cond_both (ltb d 10) (48 + d) (87 + d) (λ x. x ≢ 58) (λ q e. let low = ltb-true d 10 q in absurd (omega arith)) (λ _ e. absurd (omega arith))

hex_back : (count number : ℕ) (ds : List ℕ) → AllByRecursion (λ d. d < 16) ds → length ds ≤ count → hex_from count number (map (λ d. digit_glyph false d) ds) ≡ Some (value_from number ds)
hex_back count number [] h l = refl
hex_back zero number (d ∷ ds) h l = absurd (omega arith)
hex_back (suc count) number (d ∷ ds) h l = rw (glyph_digit d h.0) (hex_back count (16 * number + d) ds h.1 (omega arith))

-- the text of a group
record IsGroup (text : List ℕ) (group : ℕ) : Type 0 where
  first : ℕ
  others : List ℕ
  is : text ≡ first ∷ others
  read : group_of text ≡ Some group
  no_dot : Without 46 text
  no_colon : Without 58 text

without : (byte : ℕ) (ds : List ℕ) → ((d : ℕ) → digit_glyph false d ≢ byte) → Without byte (map (λ d. digit_glyph false d) ds)
without byte [] h = tt
without byte (d ∷ ds) h = (h d, without byte ds h)

group_by : (d : ℕ) (ds text : List ℕ) (group : ℕ) → d < 16 → AllByRecursion (λ d. d < 16) ds → length ds ≤ 3 → value_from d ds ≡ group → text ≡ map (λ d. digit_glyph false d) (d ∷ ds) → IsGroup text group
group_by d ds text group low all few value is = subst (λ (t : List ℕ). IsGroup t group) (sym is) (record {
  first = digit_glyph false d;
  others = map (λ d. digit_glyph false d) ds;
  is = refl;
  read = rw (glyph_digit d low) (hex_back 3 d ds all few ∙ ap Some value);
  no_dot = without 46 (d ∷ ds) glyph_no_dot;
  no_colon = without 58 (d ∷ ds) glyph_no_colon;
})

three_hex : (g : ℕ) → 256 ≤ g → g < 4096 → digits 16 false g ≡ digit_glyph false (g / 16 / 16 % 16) ∷ digit_glyph false (g / 16 % 16) ∷ digit_glyph false (g % 16) ∷ []
unfolding digits
three_hex g low high =
    let a : eqb (g / 16) 0 ≡ false = ne_eqb (g / 16) 0 (λ e. absurd (omega arith)) in
    let b : eqb (g / 16 / 16) 0 ≡ false = ne_eqb (g / 16 / 16) 0 (λ e. absurd (omega arith)) in
    let c : eqb (g / 16 / 16 / 16) 0 ≡ true = eq-eqb (g / 16 / 16 / 16) 0 (omega arith) in
    rw (a, b, c) (refl {a = digit_glyph false (g / 16 / 16 % 16) ∷ digit_glyph false (g / 16 % 16) ∷ digit_glyph false (g % 16) ∷ []})

four_hex : (g : ℕ) → 4096 ≤ g → g < 65536
    → digits 16 false g ≡ digit_glyph false (g / 16 / 16 / 16 % 16) ∷ digit_glyph false (g / 16 / 16 % 16) ∷ digit_glyph false (g / 16 % 16) ∷ digit_glyph false (g % 16) ∷ []
unfolding digits
four_hex g low high =
    let a : eqb (g / 16) 0 ≡ false = ne_eqb (g / 16) 0 (λ e. absurd (omega arith)) in
    let b : eqb (g / 16 / 16) 0 ≡ false = ne_eqb (g / 16 / 16) 0 (λ e. absurd (omega arith)) in
    let c : eqb (g / 16 / 16 / 16) 0 ≡ false = ne_eqb (g / 16 / 16 / 16) 0 (λ e. absurd (omega arith)) in
    let d : eqb (g / 16 / 16 / 16 / 16) 0 ≡ true = eq-eqb (g / 16 / 16 / 16 / 16) 0 (omega arith) in
    rw (a, b, c, d) (refl {a = digit_glyph false (g / 16 / 16 / 16 % 16) ∷ digit_glyph false (g / 16 / 16 % 16) ∷ digit_glyph false (g / 16 % 16) ∷ digit_glyph false (g % 16) ∷ []})

group_text : (g : ℕ) → g < 65536 → IsGroup (digits 16 false g) g
group_text g h =
    elim (cases_lt g 16) [
      | inl low ↦ group_by g [] (digits 16 false g) g low tt (omega arith) refl (hex_one_digit false g low)
      | inr one ↦
          elim (cases_lt g 256) [
            | inl low ↦ group_by (g / 16) (g % 16 ∷ []) (digits 16 false g) g (omega arith) (omega arith, tt) (omega arith) (omega arith) (hex_two_digits false g one low)
            | inr two ↦
                elim (cases_lt g 4096) [
                  | inl low ↦
                      group_by (g / 16 / 16 % 16) (g / 16 % 16 ∷ g % 16 ∷ []) (digits 16 false g) g (omega arith) (omega arith, (omega arith, tt)) (omega arith) (omega arith) (three_hex g two low)
                  | inr three ↦
                      group_by (g / 16 / 16 / 16 % 16) (g / 16 / 16 % 16 ∷ g / 16 % 16 ∷ g % 16 ∷ []) (digits 16 false g) g (omega arith) (omega arith, (omega arith, (omega arith, tt))) (omega arith) (omega arith)
                      (four_hex g three h)
                ]
          ]
    ]

-- a text without a dot is no IPv4 address
no_v4 : (text : List ℕ) → Without 46 text → v4_of text ≡ None
unfolding v4_of
no_v4 text h = rw (cut_nowhere 46 text h) refl

no_v4_if : (tail : Bool) (text : List ℕ) → Without 46 text → v4_if tail text ≡ None
no_v4_if true text h = no_v4 text h
no_v4_if false text h = refl

-- groups with colons between them
abbrev AreGroups : List ℕ → Type 0
AreGroups groups = AllByRecursion (λ g. g < 65536) groups

groups_back : (tail : Bool) (room g : ℕ) (gs : List ℕ) → AreGroups (g ∷ gs) → length (g ∷ gs) ≤ room → groups_of tail room (groups_text (g ∷ gs)) ≡ Some (g ∷ gs)
groups_back tail zero g gs h l = absurd (omega arith)
groups_back tail (suc room) g [] h l =
    let t = group_text g h.0 in
    ap (groups_of tail (suc room)) (append-nil (digits 16 false g))
    ∙ groups_step tail room (digits 16 false g)
    ∙ rw (cut_nowhere 58 (digits 16 false g) t.no_colon, no_v4_if tail (digits 16 false g) t.no_dot, t.read) refl
groups_back tail (suc room) g (k ∷ gs) h l =
    let t = group_text g h.0 in
    groups_step tail room (groups_text (g ∷ k ∷ gs))
    ∙ rw (cut_here 58 (digits 16 false g) (groups_text (k ∷ gs)) t.no_colon, t.read, groups_back tail room k gs h.1 (omega arith)) refl

-- where two colons stand together
not_first : (x : ℕ) (text : List ℕ) → x ≢ 58 → begins_colons (x ∷ text) ≡ false
not_first x [] h = refl
not_first x (y ∷ text) h = let other : eqb x 58 ≡ false = ne_eqb x 58 h in rw other refl

one_colon : (y : ℕ) (text : List ℕ) → y ≢ 58 → begins_colons (58 ∷ y ∷ text) ≡ false
one_colon y text h = ne_eqb y 58 h

pass : (text rest : List ℕ) → Without 58 text → colons_at (text ++ rest) ≡ option_map (λ n. length text + n) (colons_at rest)
pass [] rest h = same (colons_at rest)
  where
    same : (o : Option ℕ) → o ≡ option_map (λ n. 0 + n) o
    same None = refl
    same (Some n) = ap Some (omega arith)
pass (x ∷ text) rest h = rw (not_first x (text ++ rest) h.0, pass text rest h.1) (more (length text) (colons_at rest))
  where
    more : (k : ℕ) (o : Option ℕ) → option_map (λ n. n + 1) (option_map (λ n. k + n) o) ≡ option_map (λ n. suc k + n) o
    more k None = refl
    more k (Some n) = ap Some (omega arith)

-- behind a group and a colon stands a group
at_colon : (text rest : List ℕ) (g : ℕ) (more : List ℕ) → g < 65536 → text ≡ digits 16 false g ++ more → colons_at (58 ∷ text) ≡ option_map (λ n. n + 1) (colons_at text)
at_colon text rest g more h is =
    let t = group_text g h in
    let starts : text ≡ t.first ∷ (t.others ++ more) = is ∙ ap (λ (l : List ℕ). l ++ more) t.is in
    let other : t.first ≢ 58 = (subst (Without 58) t.is t.no_colon).0 in
    let test : begins_colons (58 ∷ text) ≡ false = ap (λ (l : List ℕ). begins_colons (58 ∷ l)) starts ∙ one_colon t.first (t.others ++ more) other in
    rw test refl

no_colons : (g : ℕ) (gs : List ℕ) → AreGroups (g ∷ gs) → colons_at (groups_text (g ∷ gs)) ≡ None
no_colons g [] h = pass (digits 16 false g) [] (group_text g h.0).no_colon
no_colons g (k ∷ gs) h =
    pass (digits 16 false g) (58 ∷ groups_text (k ∷ gs)) (group_text g h.0).no_colon
    ∙ ap (option_map (λ n. length (digits 16 false g) + n)) (at_colon (groups_text (k ∷ gs)) [] k (more_groups gs) h.1.0 refl ∙ ap (option_map (λ n. n + 1)) (no_colons k gs h.1))

colons_here : (front : List ℕ) (rest : List ℕ) → AreGroups front → colons_at (groups_text front ++ 58 ∷ 58 ∷ rest) ≡ Some (length (groups_text front))
colons_here [] rest h = refl
colons_here (g ∷ []) rest h =
    let t = group_text g h.0 in
    ap (λ (l : List ℕ). colons_at (l ++ 58 ∷ 58 ∷ rest)) (append-nil (digits 16 false g))
    ∙ pass (digits 16 false g) (58 ∷ 58 ∷ rest) t.no_colon
    ∙ ap Some (omega (arith, ap length (append-nil (digits 16 false g))))
colons_here (g ∷ k ∷ gs) rest h =
    let t = group_text g h.0 in
    let inner = at_colon (groups_text (k ∷ gs) ++ 58 ∷ 58 ∷ rest) [] k (more_groups gs ++ 58 ∷ 58 ∷ rest) h.1.0 (append_assoc (digits 16 false k) (more_groups gs) (58 ∷ 58 ∷ rest))
    ∙ ap (option_map (λ n. n + 1)) (colons_here (k ∷ gs) rest h.1) in
    ap colons_at (append_assoc (digits 16 false g) (58 ∷ groups_text (k ∷ gs)) (58 ∷ 58 ∷ rest))
    ∙ pass (digits 16 false g) (58 ∷ (groups_text (k ∷ gs) ++ 58 ∷ 58 ∷ rest)) t.no_colon
    ∙ ap (option_map (λ n. length (digits 16 false g) + n)) inner
    ∙ ap Some (omega (arith, length-append (digits 16 false g) (58 ∷ groups_text (k ∷ gs))))

-- the groups at a side
side_back : (tail : Bool) (gs : List ℕ) → AreGroups gs → length gs ≤ 8 → side_groups tail (groups_text gs) ≡ Some gs
side_back tail [] h l = refl
side_back tail (g ∷ gs) h l =
    let t = group_text g h.0 in
    let starts : groups_text (g ∷ gs) ≡ t.first ∷ (t.others ++ more_groups gs) = ap (λ (x : List ℕ). x ++ more_groups gs) t.is in
    ap (side_groups tail) starts ∙ ap (groups_of tail 8) (sym starts) ∙ groups_back tail 8 g gs h l

-- runs of zeros
zeros_are : (gs : List ℕ) → take (zeros gs) gs ≡ replicate (zeros gs) 0
zeros_are [] = refl
zeros_are (g ∷ gs) =
    cond_both (eqb g 0) (1 + zeros gs) 0 (λ k. take k (g ∷ gs) ≡ replicate k 0)
    (λ e. let one : 1 + zeros gs ≡ suc (zeros gs) = omega arith in rw one (λ i. eqb-true g 0 e i ∷ zeros_are gs i)) (λ _. refl)

zeros_few : (gs : List ℕ) → zeros gs ≤ length gs
zeros_few [] = omega arith
zeros_few (g ∷ gs) = cond_both (eqb g 0) (1 + zeros gs) 0 (λ k. k ≤ suc (length gs)) (λ _. omega (arith, zeros_few gs)) (λ _. omega arith)

other : (size a b : ℕ) → size ≡ max a b → a ≢ size → size ≡ b
other size a b e ne = grind (arith, common_steps)

run_there : (size : ℕ) (gs : List ℕ) → size ≡ longest gs → 1 ≤ size → zeros (drop (first_run size gs) gs) ≡ size
run_there size [] e h = absurd (omega arith)
run_there size (g ∷ gs) e h =
    cond_both (eqb (zeros (g ∷ gs)) size) 0 (1 + first_run size gs) (λ k. zeros (drop k (g ∷ gs)) ≡ size) (λ q. eqb-true (zeros (g ∷ gs)) size q)
    (λ q. let one : 1 + first_run size gs ≡ suc (first_run size gs) = omega arith in
    rw one (run_there size gs (other size (zeros (g ∷ gs)) (longest gs) e (eqb-false (zeros (g ∷ gs)) size q)) h))

-- a list of groups is what stands around a run of zeros
around : (gs : List ℕ) (at size : ℕ) → zeros (drop at gs) ≡ size → gs ≡ take at gs ++ (replicate size 0 ++ drop (at + size) gs)
around gs at size e =
    let run : take size (drop at gs) ≡ replicate size 0 = ap (λ (k : ℕ). take k (drop at gs)) (sym e) ∙ zeros_are (drop at gs) ∙ ap (λ (k : ℕ). replicate k 0) e in
    let behind : drop size (drop at gs) ≡ drop (at + size) gs = drop-drop size at gs ∙ ap (λ (k : ℕ). drop k gs) (omega arith) in
    sym (take-append-drop at gs) ∙ ap (λ (t : List ℕ). take at gs ++ t) (sym (take-append-drop size (drop at gs)) ∙ (λ i. run i ++ behind i))

each_take : (k : ℕ) (gs : List ℕ) → AreGroups gs → AreGroups (take k gs)
each_take zero gs h = tt
each_take (suc k) [] h = tt
each_take (suc k) (g ∷ gs) h = (h.0, each_take k gs h.1)

each_drop : (k : ℕ) (gs : List ℕ) → AreGroups gs → AreGroups (drop k gs)
each_drop zero gs h = h
each_drop (suc k) [] h = tt
each_drop (suc k) (g ∷ gs) h = each_drop k gs h.1

-- eight groups of which some are left out
shortened_back : (gs : List ℕ) (at size : ℕ) → AreGroups gs → length gs ≡ 8 → 2 ≤ size → zeros (drop at gs) ≡ size → v6_of (shortened gs at size) ≡ Some (v6_number gs)
shortened_back gs at size h eight long run =
    let front = take at gs in
    let back = drop (at + size) gs in
    let inside : at + size ≤ 8 = omega (arith, zeros_few (drop at gs), length-drop at gs, run, eight) in
    let before : length front ≡ at = length-take-le at gs (omega (arith, eight)) in
    let after : length back + at + size ≡ 8 = omega (arith, length-drop (at + size) gs, eight) in
    let left : 8 - length front - length back ≡ size = omega arith in
    let ft = groups_text front in
    let text = ft ++ 58 ∷ 58 ∷ groups_text back in
    let behind : drop (length ft + 2) text ≡ groups_text back =
    ap (drop (length ft + 2)) (sym (append_assoc ft (58 ∷ 58 ∷ []) (groups_text back)))
    ∙ drop_at (ft ++ 58 ∷ 58 ∷ []) (groups_text back) (length ft + 2) (length-append ft (58 ∷ 58 ∷ [])) in
    both_sides text front back gs (length ft) (v6_number gs) (colons_here front (groups_text back) (each_take at gs h))
    (ap (side_groups false) (take_at ft (58 ∷ 58 ∷ groups_text back) (length ft) refl) ∙ side_back false front (each_take at gs h) (omega arith))
    (ap (side_groups true) behind ∙ side_back true back (each_drop (at + size) gs h) (omega arith)) (omega arith)
    (around gs at size run ∙ ap (λ (k : ℕ). front ++ (replicate k 0 ++ back)) (sym left)) refl

-- eight groups of which none is left out
whole_back : (gs : List ℕ) → AreGroups gs → length gs ≡ 8 → v6_of (groups_text gs) ≡ Some (v6_number gs)
unfolding v6_of
whole_back [] h eight = absurd (omega arith)
whole_back (g ∷ gs) h eight =
    let test : eqb (length (g ∷ gs)) 8 ≡ true = eq-eqb (length (g ∷ gs)) 8 eight in
    rw (no_colons g gs h, groups_back true 8 g gs h (omega (arith, eight)), test) refl

groups_text_back : (gs : List ℕ) → AreGroups gs → length gs ≡ 8 → v6_of (v6_groups_text gs) ≡ Some (v6_number gs)
groups_text_back gs h eight =
    cond_both (ltb (longest gs) 2) (groups_text gs) (shortened gs (first_run (longest gs) gs) (longest gs)) (λ t. v6_of t ≡ Some (v6_number gs)) (λ _. whole_back gs h eight)
    (λ q. let long = ltb-false (longest gs) 2 q in shortened_back gs (first_run (longest gs) gs) (longest gs) h eight long (run_there (longest gs) gs refl (omega arith)))

-- no dot stands in the groups
dotless : (a b : List ℕ) → Without 46 a → Without 46 b → Without 46 (a ++ b)
dotless [] b p q = q
dotless (x ∷ a) b p q = (p.0, dotless a b p.1 q)

more_dotless : (gs : List ℕ) → AreGroups gs → Without 46 (more_groups gs)
more_dotless [] h = tt
more_dotless (g ∷ gs) h = (λ e. absurd (omega arith), dotless (digits 16 false g) (more_groups gs) (group_text g h.0).no_dot (more_dotless gs h.1))

groups_dotless : (gs : List ℕ) → AreGroups gs → Without 46 (groups_text gs)
groups_dotless [] h = tt
groups_dotless (g ∷ gs) h = dotless (digits 16 false g) (more_groups gs) (group_text g h.0).no_dot (more_dotless gs h.1)

text_dotless : (gs : List ℕ) → AreGroups gs → Without 46 (v6_groups_text gs)
text_dotless gs h =
    let at = first_run (longest gs) gs in
    cond_both (ltb (longest gs) 2) (groups_text gs) (shortened gs at (longest gs)) (Without 46) (λ _. groups_dotless gs h)
    (λ _. dotless (groups_text (take at gs)) (58 ∷ 58 ∷ groups_text (drop (at + longest gs) gs)) (groups_dotless (take at gs) (each_take at gs h))
    (λ e. absurd (omega arith), (λ e. absurd (omega arith), groups_dotless (drop (at + longest gs) gs) (each_drop (at + longest gs) gs h))))

number_back : (n : ℕ) → n < 2 ^ 128 → v6_number (v6_groups n) ≡ n
number_back n h = omega arith

are_groups : (n : ℕ) → n < 2 ^ 128 → AreGroups (v6_groups n)
are_groups n h = (omega arith, (omega arith, (omega arith, (omega arith, (omega arith, (omega arith, (omega arith, (omega arith, tt))))))))

v6_back : (n : ℕ) → n < 2 ^ 128 → v6_of (v6_text n) ≡ Some n
unfolding v6_text
v6_back n h = groups_text_back (v6_groups n) (are_groups n h) refl ∙ ap Some (number_back n h)

no_v4_text : (n : ℕ) → n < 2 ^ 128 → v4_of (v6_text n) ≡ None
unfolding v6_text
no_v4_text n h = no_v4 (v6_groups_text (v6_groups n)) (text_dotless (v6_groups n) (are_groups n h))

-- a printed address reads as the address
pub text_reads : (addr : Addr) → IsAddr addr → addr_of (addr_text addr) ≡ Some addr
unfolding addr_of
text_reads (V4 n) h = rw (v4_back n h) refl
text_reads (V6 n) h = rw (no_v4_text n h, v6_back n h) refl
