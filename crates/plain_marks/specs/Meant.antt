-- What is answered of a list of marks, for what they mean. This server's own rule.
use Rattle.std.specs.Prelude.{◌≡◌, List, ◌∷◌, ◌++◌}
use Rattle.outside.specs.Meanings.{Meaning, Done, More, Off}
use Rattle.outside.specs.declared.mark.Mark.{Mark}
use Rattle.plain_marks.specs.declared.meant.Meant as declared
use Rattle.plain_marks.specs.declared.meant.Meant.TheVariants as meant

module _ {A : Type 0} where
  -- the marks in front of those that are left make this, whatever stands behind them
  pub record IsDone (means : List Mark → Meaning A) (marks : List Mark) (v : A)
      (left : List Mark) : Type 0 where
    pub used : List Mark
    pub is : marks ≡ used ++ left
    pub same : (other : List Mark) → means (used ++ other) ≡ Done v other

  -- the marks that are left begin with one that may not stand there, whatever stands behind it:
  -- those in front of it aren't enough, and no more of them
  pub record IsOff (means : List Mark → Meaning A) (marks left : List Mark) : Type 0 where
    pub used : List Mark
    pub bad : Mark
    pub rest : List Mark
    pub first : left ≡ bad ∷ rest
    pub is : marks ≡ used ++ left
    pub wants : means used ≡ More
    pub off : (other : List Mark) → means (used ++ bad ∷ other) ≡ Off

  -- what these marks mean
  abbrev pub Means : (List Mark → Meaning A) → List Mark → declared.Meant A → Type 0
  Means means marks (meant.Done v left) = IsDone means marks v left.now
  Means means marks meant.More = means marks ≡ More
  Means means marks (meant.Off left) = IsOff means marks left.now

  -- where something was made of them, it is so
  abbrev pub IfDone : declared.Meant A → (A → Type 0) → Type 0
  IfDone (meant.Done v left) P = P v
  IfDone meant.More P = Unit {0}
  IfDone (meant.Off left) P = Unit {0}
