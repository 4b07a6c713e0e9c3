-- Strings one after the other.
use Rattle.std.proofs.Common.{◌≡◌, ◌≤◌, ◌<◌, ℕ, ◌+◌, List, [], ◌∷◌, ◌++◌, length, sym, subst, append_assoc, arith}
use Rattle.std.proofs.lemmas.List.{append-nil}
use Rattle.std.specs.List.{AllByRecursion}
use Rattle.dns_data.specs.Record.{IsCharacterString, strings_length}
use Rattle.dns_wire.specs.Data.{CharacterStringAt, CharacterStringsAt, no_string, string}

-- two character-strings at one offset are one
pub one_string : (bytes : List ℕ) (at m n : ℕ) (a b : List ℕ) → CharacterStringAt bytes at a m → CharacterStringAt bytes at b n → m ≡ n
one_string bytes at m n a b p q = omega (arith, p.size.is, q.size.is, p.behind_is, q.behind_is)

pub strings_forward : {bytes : List ℕ} {at behind : ℕ} {strings : List (List ℕ)} → CharacterStringsAt bytes at strings behind → at ≤ behind
strings_forward (no_string is) = omega arith
strings_forward (string here more) = omega (arith, here.behind_is, strings_forward more)

-- what was read up to an offset is these character-strings: whatever ones follow complete them, and nothing else does
pub record StringsSoFar (bytes : List ℕ) (start at behind : ℕ) (front : List (List ℕ)) : Type 0 where
  pub size : strings_length front + start ≡ at
  pub each : AllByRecursion IsCharacterString front
  pub sound : (others : List (List ℕ)) → CharacterStringsAt bytes at others behind → CharacterStringsAt bytes start (front ++ others) behind
  pub complete : (whole : List (List ℕ)) → CharacterStringsAt bytes start whole behind → (others : List (List ℕ)) × CharacterStringsAt bytes at others behind

pub strings_begin : (bytes : List ℕ) (start behind : ℕ) → StringsSoFar bytes start start behind []
strings_begin bytes start behind = record { size = omega arith; each = tt; sound = λ others h. h; complete = λ whole h. (whole, h) }

-- behind a character-string, the rest
behind_string : {bytes : List ℕ} {at middle behind : ℕ} {first : List ℕ} {whole : List (List ℕ)} → CharacterStringAt bytes at first middle → middle ≤ behind → CharacterStringsAt bytes at whole behind
    → (others : List (List ℕ)) × CharacterStringsAt bytes middle others behind
behind_string here inside (no_string is) = absurd (omega (arith, here.behind_is))
behind_string {bytes} {at} {middle} {behind} {first} here inside (string {middle = m} {first = other} {others = others} there more) =
    (others, subst (λ (k : ℕ). CharacterStringsAt bytes k others behind) (one_string bytes at m middle other first there here) more)

length-push : (front : List (List ℕ)) (l : List ℕ) → strings_length (front ++ l ∷ []) ≡ strings_length front + length l + 1
length-push [] l = omega arith
length-push (x ∷ front) l = omega (arith, length-push front l)

each-push : (front : List (List ℕ)) (l : List ℕ) → AllByRecursion IsCharacterString front → IsCharacterString l → AllByRecursion IsCharacterString (front ++ l ∷ [])
each-push [] l each here = (here, tt)
each-push (x ∷ front) l each here = (each.0, each-push front l each.1 here)

pub strings_go_on : {bytes : List ℕ} {start at middle behind : ℕ} {front : List (List ℕ)} {first : List ℕ} → StringsSoFar bytes start at behind front → CharacterStringAt bytes at first middle → IsCharacterString first → middle ≤ behind
    → StringsSoFar bytes start middle behind (front ++ first ∷ [])
strings_go_on {bytes} {start} {at} {middle} {behind} {front} {first} so_far here short inside = record {
  size = omega (arith, so_far.size, here.behind_is, length-push front first);
  each = each-push front first so_far.each short;
  sound = λ others h.
      subst (λ (l : List (List ℕ)). CharacterStringsAt bytes start l behind) (sym (append_assoc front (first ∷ []) others)) (so_far.sound (first ∷ others) (string here h));
  complete = λ whole h.
      let a = so_far.complete whole h in
      behind_string here inside a.1;
}

pub strings_end : {bytes : List ℕ} {start at behind : ℕ} {front : List (List ℕ)} → StringsSoFar bytes start at behind front → behind ≡ at → CharacterStringsAt bytes start front behind
strings_end {bytes} {start} {at} {behind} {front} so_far is =
    subst (λ (l : List (List ℕ)). CharacterStringsAt bytes start l behind) (append-nil front) (so_far.sound [] (no_string is))

-- where no character-string stands, there are none
first_string : {bytes : List ℕ} {at behind : ℕ} {whole : List (List ℕ)} → CharacterStringsAt bytes at whole behind → at < behind
    → ((first : List ℕ) (middle : ℕ) → CharacterStringAt bytes at first middle → middle ≤ behind → ⊥) → ⊥
first_string (no_string is) more none = omega arith
first_string (string {middle = middle} {first = first} here others) more none = none first middle here (strings_forward others)

pub no_strings : {bytes : List ℕ} {start at behind : ℕ} {front : List (List ℕ)} → StringsSoFar bytes start at behind front → at < behind
    → ((first : List ℕ) (middle : ℕ) → CharacterStringAt bytes at first middle → middle ≤ behind → ⊥) → (whole : List (List ℕ)) → CharacterStringsAt bytes start whole behind → ⊥
no_strings so_far more none whole h = let a = so_far.complete whole h in first_string a.1 more none
