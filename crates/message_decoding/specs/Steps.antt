-- Steps of a decoder, and what is known where all of them gave something.
use Rattle.std.proofs.Common.{◌≡◌, Bool, true, false, Option, Some, None, refl, ap, ◌∙◌}

-- what follows on what was found
unfoldable pub taking : {A B : Type 0} → Option A → (A → Option B) → Option B
taking None next = None
taking (Some x) next = next x

-- nothing unless a test holds
unfoldable pub only : {A : Type 0} → Bool → Option A → Option A
only true found = found
only false found = None

clash : {A B : Type 0} {x : A} → None ≡ Some x → B
clash e = absurd cc

-- what was found, and what followed
pub record Took {A B : Type 0} (found : Option A) (next : A → Option B) (y : B) : Type 0 where
  pub x : A
  pub is : found ≡ Some x
  pub then : next x ≡ Some y

pub took : {A B : Type 0} {found : Option A} {next : A → Option B} {y : B}
    → taking found next ≡ Some y → Took found next y
unfolding taking
took {found = None} e = clash e
took {found = Some x} e = record { x = x; is = refl; then = e }

pub takes : {A B : Type 0} {found : Option A} {x : A} {o : Option B} (next : A → Option B)
    → found ≡ Some x → next x ≡ o → taking found next ≡ o
unfolding taking
takes next is then = ap (λ found. taking found next) is ∙ then

pub record Held {A : Type 0} (test : Bool) (found : Option A) (y : A) : Type 0 where
  pub passed : test ≡ true
  pub then : found ≡ Some y

pub held : {A : Type 0} {test : Bool} {found : Option A} {y : A}
    → only test found ≡ Some y → Held test found y
unfolding only
held {test = true} e = record { passed = refl; then = e }
held {test = false} e = clash e

pub holds : {A : Type 0} {test : Bool} {found o : Option A} → test ≡ true → found ≡ o
    → only test found ≡ o
unfolding only
holds {found = found} test then = ap (λ t. only t found) test ∙ then

-- what is in Some
pub same : {A : Type 0} {x y : A} → Some x ≡ Some y → x ≡ y
same e = cc
