-- Laws of what was meant: by another name, behind a mark, and one thing behind another.
use Rattle.std.proofs.Common.{◌≡◌, List, [], ◌∷◌, ◌++◌, Ok, Err, Result, refl, sym, ap, ◌∙◌}
use Rattle.std.proofs.Common.{append_assoc}
use Rattle.std.specs.Prelude.{IfOk}
use Rattle.dns_lists.specs.declared.memory.NoMemory.{NoMemory}
use Rattle.outside.specs.Meanings.{Meaning, Done, More, Off, onward}
use Rattle.outside.specs.declared.mark.Mark.{Mark}
use Rattle.plain_marks.specs.Meant.{IsDone, IsOff, Means}
use Rattle.plain_marks.specs.declared.meant.Meant as declared
use Rattle.plain_marks.specs.declared.meant.Meant.TheVariants as meant

module _ {A : Type 0} where
  -- what takes no mark
  pub done-at : (means : List Mark → Meaning A) (marks : List Mark) (v : A)
      → ((left : List Mark) → means left ≡ Done v left) → IsDone means marks v marks
  done-at means marks v all = record { used = []; is = refl; same = all }

  -- the first mark may not stand there
  pub off-at : (means : List Mark → Meaning A) (marks : List Mark) (m : Mark) (left : List Mark)
      → marks ≡ m ∷ left → means [] ≡ More
      → ((rest : List Mark) → means (m ∷ rest) ≡ Off) → IsOff means marks marks
  off-at means marks m left first wants off =
      record {
        used = [];
        bad = m;
        rest = left;
        first = first;
        is = refl;
        wants = wants;
        off = off;
      }

  -- by another name
  pub means-as : (f g : List Mark → Meaning A) (marks : List Mark) (m : declared.Meant A)
      → ((other : List Mark) → g other ≡ f other) → Means f marks m → Means g marks m
  means-as f g marks (meant.Done v left) e h = record {
    used = h.used;
    is = h.is;
    same = λ other. e (h.used ++ other) ∙ h.same other;
  }
  means-as f g marks meant.More e h = e marks ∙ h
  means-as f g marks (meant.Off left) e h = record {
    used = h.used;
    bad = h.bad;
    rest = h.rest;
    first = h.first;
    is = h.is;
    wants = e h.used ∙ h.wants;
    off = λ other. e (h.used ++ h.bad ∷ other) ∙ h.off other;
  }

  pub meant-as : (result : Result (declared.Meant A) NoMemory) (f g : List Mark → Meaning A)
      (marks : List Mark) → ((other : List Mark) → g other ≡ f other)
      → IfOk result (Means f marks) → IfOk result (Means g marks)
  meant-as (Ok m) f g marks e h = means-as f g marks m e h
  meant-as (Err x) f g marks e h = tt

  -- behind a mark that is taken
  pub behind-mark : (f g : List Mark → Meaning A) (marks : List Mark) (x : Mark)
      (left : List Mark) (m : declared.Meant A) → marks ≡ x ∷ left
      → ((other : List Mark) → g (x ∷ other) ≡ f other) → Means f left m → Means g marks m
  behind-mark f g marks x left (meant.Done v rest) is e h = record {
    used = x ∷ h.used;
    is = is ∙ ap (λ (l : List Mark). x ∷ l) h.is;
    same = λ other. e (h.used ++ other) ∙ h.same other;
  }
  behind-mark f g marks x left meant.More is e h = ap g is ∙ e left ∙ h
  behind-mark f g marks x left (meant.Off rest) is e h = record {
    used = x ∷ h.used;
    bad = h.bad;
    rest = h.rest;
    first = h.first;
    is = is ∙ ap (λ (l : List Mark). x ∷ l) h.is;
    wants = e h.used ∙ h.wants;
    off = λ other. e (h.used ++ h.bad ∷ other) ∙ h.off other;
  }

module _ {A B : Type 0} (f : List Mark → Meaning A) (next : A → List Mark → Meaning B) where
  abbrev whole : List Mark → Meaning B
  whole marks = onward (f marks) next

  -- behind what was made what comes next is meant by the marks that are left
  pub followed : (marks left : List Mark) (v : A) (m : declared.Meant B) → IsDone f marks v left
      → Means (next v) left m → Means (λ some. onward (f some) next) marks m
  followed marks left v (meant.Done w rest) d h = record {
    used = d.used ++ h.used;
    is = d.is ∙ ap (λ (l : List Mark). d.used ++ l) h.is
        ∙ sym (append_assoc d.used h.used rest.now);
    same = λ other. ap whole (append_assoc d.used h.used other)
        ∙ ap (λ x. onward x next) (d.same (h.used ++ other)) ∙ h.same other;
  }
  followed marks left v meant.More d h =
      ap whole d.is ∙ ap (λ x. onward x next) (d.same left) ∙ h
  followed marks left v (meant.Off rest) d h = record {
    used = d.used ++ h.used;
    bad = h.bad;
    rest = h.rest;
    first = h.first;
    is = d.is ∙ ap (λ (l : List Mark). d.used ++ l) h.is
        ∙ sym (append_assoc d.used h.used rest.now);
    wants = ap whole refl ∙ ap (λ x. onward x next) (d.same h.used) ∙ h.wants;
    off = λ other. ap whole (append_assoc d.used h.used (h.bad ∷ other))
        ∙ ap (λ x. onward x next) (d.same (h.used ++ h.bad ∷ other)) ∙ h.off other;
  }

  -- the same of a call
  pub followed-by : (marks left : List Mark) (v : A) (result : Result (declared.Meant B) NoMemory)
      → IsDone f marks v left → IfOk result (Means (next v) left)
      → IfOk result (Means (λ some. onward (f some) next) marks)
  followed-by marks left v (Ok m) d h = followed marks left v m d h
  followed-by marks left v (Err x) d h = tt

  -- where the front wants more, or is off, so is the whole
  pub wanting : (marks : List Mark) → f marks ≡ More → onward (f marks) next ≡ More
  wanting marks e = ap (λ x. onward x next) e

  pub stopped : (marks left : List Mark) → IsOff f marks left
      → IsOff (λ some. onward (f some) next) marks left
  stopped marks left h = record {
    used = h.used;
    bad = h.bad;
    rest = h.rest;
    first = h.first;
    is = h.is;
    wants = ap (λ x. onward x next) h.wants;
    off = λ other. ap (λ x. onward x next) (h.off other);
  }
