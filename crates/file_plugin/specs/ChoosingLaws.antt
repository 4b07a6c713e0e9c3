-- The zone that is found by walking all zones of plans is the one that answers.
use Rattle.std.proofs.Common.{◌≡◌, ◌≤◌, ℕ, ◌<◌, Bool, true, false, List, [], ◌∷◌, ◌++◌, length, Option, Some, None, refl, sym, ap, subst, ◌∙◌, arith, inl, inr, nat_lt, append_assoc, flat_map, rules, if◌then◌else◌}
use Rattle.std.proofs.lemmas.List.{append-nil}
use Rattle.std.proofs.lemmas.List.Elements.{Contains-append_left, Contains-push, Contains-push_cases}
use Rattle.dns_data.specs.{is_within}
use Rattle.file_plugin.specs.Zones.{FileData, Served, longer_for, longer_of, longest, longest_of, served_of}
use Rattle.file_plugin.specs.Choosing.{IsLongest, Picks}

is_longer : (m n : ℕ) → nat_lt m n ≡ true → m < n
is_longer m n e = search rules

not_longer : (m n : ℕ) → nat_lt m n ≡ false → n ≤ m
not_longer m n e = search rules

by_length : (name : List (List ℕ)) (zones : List Served) (before served : Served) (b : Bool) → nat_lt (length before.zone.origin) (length served.zone.origin) ≡ b → IsLongest name zones before → is_within name served.zone.origin ≡ true
    → IsLongest name (zones ++ served ∷ []) (if b then served else before)
by_length name zones before served true e p has = record {
  stands = Contains-push zones served;
  has = has;
  none_longer = λ other c w. elim (Contains-push_cases zones served other c) [
    | inl old ↦ let most = p.none_longer other old w in let more = is_longer (length before.zone.origin) (length served.zone.origin) e in omega (arith, most, more)
    | inr same ↦ let long : length served.zone.origin ≡ length other.zone.origin = ap (λ (s : Served). length s.zone.origin) same in omega (arith, long)
  ];
}
by_length name zones before served false e p has = record {
  stands = Contains-append_left zones (served ∷ []) before p.stands;
  has = p.has;
  none_longer = λ other c w. elim (Contains-push_cases zones served other c) [
    | inl old ↦ p.none_longer other old w
    | inr same ↦ let long : length served.zone.origin ≡ length other.zone.origin = ap (λ (s : Served). length s.zone.origin) same in let most = not_longer (length before.zone.origin) (length served.zone.origin) e in omega (arith, long, most)
  ];
}

by_test : (name : List (List ℕ)) (zones : List Served) (before : Option Served) (served : Served) (b : Bool) → is_within name served.zone.origin ≡ b → Picks name zones before
    → Picks name (zones ++ served ∷ []) (if b then Some (longer_of before served) else before)
by_test name zones None served true e p = record {
  stands = Contains-push zones served;
  has = e;
  none_longer = λ other c w. elim (Contains-push_cases zones served other c) [
    | inl old ↦ absurd (p other old w)
    | inr same ↦ let long : length served.zone.origin ≡ length other.zone.origin = ap (λ (s : Served). length s.zone.origin) same in omega (arith, long)
  ];
}
by_test name zones (Some before) served true e p = by_length name zones before served (nat_lt (length before.zone.origin) (length served.zone.origin)) refl p e
by_test name zones None served false e p = λ other c w. elim (Contains-push_cases zones served other c) [
  | inl old ↦ p other old w
  | inr same ↦ let has : is_within name served.zone.origin ≡ true = ap (λ (s : Served). is_within name s.zone.origin) same ∙ w in absurd cc
]
by_test name zones (Some before) served false e p = record {
  stands = Contains-append_left zones (served ∷ []) before p.stands;
  has = p.has;
  none_longer = λ other c w. elim (Contains-push_cases zones served other c) [
    | inl old ↦ p.none_longer other old w
    | inr same ↦ let has : is_within name served.zone.origin ≡ true = ap (λ (s : Served). is_within name s.zone.origin) same ∙ w in absurd cc
  ];
}

over_zones : (name : List (List ℕ)) (front : List Served) (before : Option Served) (zones : List Served) → Picks name front before → Picks name (front ++ zones) (longest name before zones)
over_zones name front before [] p = subst (λ (zs : List Served). Picks name zs before) (sym (append-nil front)) p
over_zones name front before (served ∷ zones) p =
    subst (λ (zs : List Served). Picks name zs (longest name (longer_for name before served) zones)) (append_assoc front (served ∷ []) zones)
    (over_zones name (front ++ served ∷ []) (longer_for name before served) zones (by_test name front before served (is_within name served.zone.origin) refl p))

over_plans : (name : List (List ℕ)) (front : List Served) (before : Option Served) (plans : List FileData) → Picks name front before → Picks name (front ++ flat_map served_of plans) (longest_of name before plans)
over_plans name front before [] p = subst (λ (zs : List Served). Picks name zs before) (sym (append-nil front)) p
over_plans name front before (plan ∷ plans) p =
    subst (λ (zs : List Served). Picks name zs (longest_of name (longest name before (served_of plan)) plans)) (append_assoc front (served_of plan) (flat_map served_of plans))
    (over_plans name (front ++ served_of plan) (longest name before (served_of plan)) plans (over_zones name front before (served_of plan) p))

-- of all zones of plans it is the one that answers
pub longest-picks : (name : List (List ℕ)) (plans : List FileData) → Picks name (flat_map served_of plans) (longest_of name None plans)
longest-picks name plans = over_plans name [] None plans (λ served c w. omega (arith, c.1))
