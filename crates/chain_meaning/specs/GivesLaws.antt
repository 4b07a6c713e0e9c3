-- What a meaning decides, and the marks that are left, as properties that go along with what is taken behind it.
use Rattle.std.proofs.Common.{◌≡◌, Bool, true, false, List, refl, if◌then◌else◌}
use Rattle.outside.specs.Meanings.{Meaning, Done, More, Off, onward}
use Rattle.outside.specs.declared.mark.Mark.{Mark}
use Rattle.chain_meaning.specs.declared.decision.Decision.{Decision}

-- what a meaning decides, where it decides
abbrev pub Gives : {A : Type 0} → (A → Type 0) → Meaning A → Type 0
Gives P (Done v left) = P v
Gives P More = Unit {0}
Gives P Off = Unit {0}

pub gives_onward : {A B : Type 0} (P : A → Type 0) (Q : B → Type 0) (x : Meaning A) (next : A → List Mark → Meaning B) → Gives P x
    → ((v : A) → P v → (left : List Mark) → Gives Q (next v left)) → Gives Q (onward x next)
gives_onward P Q (Done v left) next p go = go v p left
gives_onward P Q More next p go = tt
gives_onward P Q Off next p go = tt

pub gives_as : (P Q : Decision → Type 0) → ((v : Decision) → P v → Q v) → (x : Meaning Decision) → Gives P x → Gives Q x
gives_as P Q go (Done v left) p = go v p
gives_as P Q go More p = tt
gives_as P Q go Off p = tt

pub gives_if : (P : Decision → Type 0) (t : Bool) (x y : Meaning Decision) → (t ≡ true → Gives P x) → Gives P y → Gives P (if t then x else y)
gives_if P true x y p q = p refl
gives_if P false x y p q = q

-- the same of what is decided and the marks that are left
abbrev pub GivesAt : {A : Type 0} → (A → List Mark → Type 0) → Meaning A → Type 0
GivesAt P (Done v left) = P v left
GivesAt P More = Unit {0}
GivesAt P Off = Unit {0}

pub gives_from : {A B : Type 0} (P : A → List Mark → Type 0) (Q : B → Type 0) (x : Meaning A) (next : A → List Mark → Meaning B) → GivesAt P x
    → ((v : A) (left : List Mark) → P v left → Gives Q (next v left)) → Gives Q (onward x next)
gives_from P Q (Done v left) next p go = go v left p
gives_from P Q More next p go = tt
gives_from P Q Off next p go = tt

pub if_same : (P : Decision → Type 0) (t : Bool) (v : Decision) (left : List Mark) → P v → Gives P (if t then Done v left else Off)
if_same P true v left p = p
if_same P false v left p = tt
