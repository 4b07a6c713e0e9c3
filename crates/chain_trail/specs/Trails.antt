-- What is answered of a list of marks with the lines of the steps that were reached. This server's
-- own rule.
use Rattle.std.specs.Prelude.{◌≡◌, List, ◌++◌}
use Rattle.outside.specs.Meanings.{Meaning, Done, More}
use Rattle.outside.specs.declared.mark.Mark.{Mark}
use Rattle.plain_marks.specs.Meant.{IsOff, Means}
use Rattle.plain_marks.specs.declared.meant.Meant as declared
use Rattle.plain_marks.specs.declared.meant.Meant.TheVariants as meant
use Rattle.chain_trail.specs.Trail.{Trailed}
use Rattle.chain_trail.specs.declared.reached.Reached.{Reached}

module _ {A : Type 0} where
  -- the marks in front of those that are left make this with these lines, whatever stands behind
  pub record TrailsDone (means : List Mark → Trailed A) (marks : List Mark) (lines : List Reached)
      (v : A) (left : List Mark) : Type 0 where
    pub used : List Mark
    pub is : marks ≡ used ++ left
    pub same : (other : List Mark) → (means (used ++ other)).means ≡ Done v other
    pub says : (other : List Mark) → (means (used ++ other)).lines ≡ lines

  -- what these marks mean, with these lines. Where a mark may not stand, lines are no matter.
  abbrev pub TrailsAs : (List Mark → Trailed A) → List Mark → List Reached → declared.Meant A
      → Type 0
  TrailsAs means marks lines (meant.Done v left) = TrailsDone means marks lines v left.now
  TrailsAs means marks lines meant.More =
      ((means marks).means ≡ More) × ((means marks).lines ≡ lines)
  TrailsAs means marks lines (meant.Off left) = IsOff (λ some. (means some).means) marks left.now

  -- what these marks mean; the lines are added to those of a trail
  pub record Trails (means : List Mark → Trailed A) (marks : List Mark)
      (before after : List Reached) (m : declared.Meant A) : Type 0 where
    pub lines : List Reached
    pub added : after ≡ before ++ lines
    pub are : TrailsAs means marks lines m

module _ {A B : Type 0} where
  -- what was made of what was meant before, where the step behind it takes marks of its own
  abbrev pub Behind : declared.Meant A → (A → List Mark → Meaning B) → declared.Meant B → Type 0
  Behind (meant.Done v left) next m = Means (next v) left.now m
  Behind meant.More next m = m ≡ meant.More
  Behind (meant.Off left) next m = m ≡ meant.Off left
