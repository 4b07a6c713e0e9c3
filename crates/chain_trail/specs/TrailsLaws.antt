-- Laws of what was answered with lines: without lines, by another name, behind a line, and one
-- thing behind another.
use Rattle.std.proofs.Common.{◌≡◌, List, [], ◌∷◌, ◌++◌, refl, sym, ap, subst, ◌∙◌, append_assoc}
use Rattle.std.proofs.lemmas.List.{append-nil}
use Rattle.outside.specs.Meanings.{Meaning, Done, More, onward}
use Rattle.outside.specs.declared.mark.Mark.{Mark}
use Rattle.plain_marks.specs.Meant.{IsOff, Means}
use Rattle.plain_marks.specs.declared.meant.Meant as declared
use Rattle.plain_marks.specs.declared.meant.Meant.TheVariants as meant
use Rattle.chain_trail.specs.Trail.{Trailed, bare, behind_lines, by_meaning, trailed_onward}
use Rattle.chain_trail.specs.TrailLaws.{means-onward}
use Rattle.chain_trail.specs.Trails.{Behind, Trails, TrailsAs, TrailsDone}
use Rattle.chain_trail.specs.declared.reached.Reached.{Reached}

module _ {A : Type 0} where
  bare_as : (f : List Mark → Meaning A) (marks : List Mark) (m : declared.Meant A)
      → Means f marks m → TrailsAs (λ some. bare (f some)) marks [] m
  bare_as f marks (meant.Done v left) h =
      record { used = h.used; is = h.is; same = h.same; says = λ other. refl }
  bare_as f marks meant.More h = (h, refl)
  bare_as f marks (meant.Off left) h = h

  -- what reaches no step
  pub trails-bare : (f : List Mark → Meaning A) (marks : List Mark) (trail : List Reached)
      (m : declared.Meant A) → Means f marks m → Trails (λ some. bare (f some)) marks trail trail m
  trails-bare f marks trail m h =
      record { lines = []; added = sym (append-nil trail); are = bare_as f marks m h }

  named_as : (f g : List Mark → Trailed A) (marks : List Mark) (lines : List Reached)
      (m : declared.Meant A) → ((other : List Mark) → g other ≡ f other)
      → TrailsAs f marks lines m → TrailsAs g marks lines m
  named_as f g marks lines (meant.Done v left) e h = record {
    used = h.used;
    is = h.is;
    same = λ other. ap (λ t. t.means) (e (h.used ++ other)) ∙ h.same other;
    says = λ other. ap (λ t. t.lines) (e (h.used ++ other)) ∙ h.says other;
  }
  named_as f g marks lines meant.More e h =
      (ap (λ t. t.means) (e marks) ∙ h.0, ap (λ t. t.lines) (e marks) ∙ h.1)
  named_as f g marks lines (meant.Off left) e h = record {
    used = h.used;
    bad = h.bad;
    rest = h.rest;
    first = h.first;
    is = h.is;
    wants = ap (λ t. t.means) (e h.used) ∙ h.wants;
    off = λ other. ap (λ t. t.means) (e (h.used ++ h.bad ∷ other)) ∙ h.off other;
  }

  -- by another name
  pub trails-as : (f g : List Mark → Trailed A) (marks : List Mark) (before after : List Reached)
      (m : declared.Meant A) → ((other : List Mark) → g other ≡ f other)
      → Trails f marks before after m → Trails g marks before after m
  trails-as f g marks before after m e h =
      record { lines = h.lines; added = h.added; are = named_as f g marks h.lines m e h.are }

  lined_as : (f : List Mark → Trailed A) (marks : List Mark) (front lines : List Reached)
      (m : declared.Meant A) → TrailsAs f marks lines m
      → TrailsAs (λ some. behind_lines front (f some)) marks (front ++ lines) m
  lined_as f marks front lines (meant.Done v left) h = record {
    used = h.used;
    is = h.is;
    same = h.same;
    says = λ other. ap (λ (l : List Reached). front ++ l) (h.says other);
  }
  lined_as f marks front lines meant.More h =
      (h.0, ap (λ (l : List Reached). front ++ l) h.1)
  lined_as f marks front lines (meant.Off left) h = h

  -- behind lines that were added
  pub trails-lined : (f : List Mark → Trailed A) (marks : List Mark)
      (front before mid after : List Reached) (m : declared.Meant A) → mid ≡ before ++ front
      → Trails f marks mid after m
      → Trails (λ some. behind_lines front (f some)) marks before after m
  trails-lined f marks front before mid after m e h = record {
    lines = front ++ h.lines;
    added = h.added ∙ ap (λ (l : List Reached). l ++ h.lines) e
        ∙ append_assoc before front h.lines;
    are = lined_as f marks front h.lines m h.are;
  }

module _ {A B : Type 0} (f : List Mark → Trailed A) (next : A → List Mark → Trailed B) where
  abbrev both : List Mark → Trailed B
  both some = trailed_onward (f some) next

  -- the meaning and the lines of the whole where the front is done
  whole_means : (some left : List Mark) (v : A) → (f some).means ≡ Done v left
      → (both some).means ≡ (next v left).means
  whole_means some left v e =
      means-onward (f some).lines (f some).means next
      ∙ ap (λ x. onward x (λ w more. (next w more).means)) e

  whole_lines : (some left : List Mark) (v : A) (xs : List Reached)
      → (f some).means ≡ Done v left → (f some).lines ≡ xs
      → (both some).lines ≡ xs ++ (next v left).lines
  whole_lines some left v xs e says =
      ap (λ x. (by_meaning (f some).lines x next).lines) e
      ∙ ap (λ (l : List Reached). l ++ (next v left).lines) says

  followed_as : (marks left : List Mark) (xs ys : List Reached) (v : A) (m : declared.Meant B)
      → TrailsDone f marks xs v left → TrailsAs (next v) left ys m
      → TrailsAs both marks (xs ++ ys) m
  followed_as marks left xs ys v (meant.Done w rest) d h = record {
    used = d.used ++ h.used;
    is = d.is ∙ ap (λ (l : List Mark). d.used ++ l) h.is
        ∙ sym (append_assoc d.used h.used rest.now);
    same = λ other. ap (λ some. (both some).means) (append_assoc d.used h.used other)
        ∙ whole_means (d.used ++ (h.used ++ other)) (h.used ++ other) v
        (d.same (h.used ++ other))
        ∙ h.same other;
    says = λ other. ap (λ some. (both some).lines) (append_assoc d.used h.used other)
        ∙ whole_lines (d.used ++ (h.used ++ other)) (h.used ++ other) v xs
        (d.same (h.used ++ other)) (d.says (h.used ++ other))
        ∙ ap (λ (l : List Reached). xs ++ l) (h.says other);
  }
  followed_as marks left xs ys v meant.More d h = (
    ap (λ some. (both some).means) d.is
        ∙ whole_means (d.used ++ left) left v (d.same left) ∙ h.0,
    ap (λ some. (both some).lines) d.is
        ∙ whole_lines (d.used ++ left) left v xs (d.same left) (d.says left)
        ∙ ap (λ (l : List Reached). xs ++ l) h.1,
  )
  followed_as marks left xs ys v (meant.Off rest) d h = record {
    used = d.used ++ h.used;
    bad = h.bad;
    rest = h.rest;
    first = h.first;
    is = d.is ∙ ap (λ (l : List Mark). d.used ++ l) h.is
        ∙ sym (append_assoc d.used h.used rest.now);
    wants = whole_means (d.used ++ h.used) h.used v (d.same h.used) ∙ h.wants;
    off = λ other. ap (λ some. (both some).means) (append_assoc d.used h.used (h.bad ∷ other))
        ∙ whole_means (d.used ++ (h.used ++ h.bad ∷ other)) (h.used ++ h.bad ∷ other) v
        (d.same (h.used ++ h.bad ∷ other))
        ∙ h.off other;
  }

  -- behind what was made what comes next is meant by the marks that are left
  pub trails-followed : (marks left : List Mark) (before mid after : List Reached) (v : A)
      (m : declared.Meant B) (xs : List Reached) → mid ≡ before ++ xs
      → TrailsDone f marks xs v left → Trails (next v) left mid after m
      → Trails (λ some. trailed_onward (f some) next) marks before after m
  trails-followed marks left before mid after v m xs e d h = record {
    lines = xs ++ h.lines;
    added = h.added ∙ ap (λ (l : List Reached). l ++ h.lines) e
        ∙ append_assoc before xs h.lines;
    are = followed_as marks left xs h.lines v m d h.are;
  }

  -- where the front wants more, or is off, so is the whole
  pub trails-wanting : (marks : List Mark) (xs : List Reached) → (f marks).means ≡ More
      → (f marks).lines ≡ xs → ((both marks).means ≡ More) × ((both marks).lines ≡ xs)
  trails-wanting marks xs e says = (
    means-onward (f marks).lines (f marks).means next
        ∙ ap (λ x. onward x (λ w more. (next w more).means)) e,
    ap (λ x. (by_meaning (f marks).lines x next).lines) e ∙ says,
  )

  pub trails-stopped : (marks left : List Mark) → IsOff (λ some. (f some).means) marks left
      → IsOff (λ some. (both some).means) marks left
  trails-stopped marks left h = record {
    used = h.used;
    bad = h.bad;
    rest = h.rest;
    first = h.first;
    is = h.is;
    wants = means-onward (f h.used).lines (f h.used).means next
        ∙ ap (λ x. onward x (λ w more. (next w more).means)) h.wants;
    off = λ other. means-onward (f (h.used ++ h.bad ∷ other)).lines
        (f (h.used ++ h.bad ∷ other)).means next
        ∙ ap (λ x. onward x (λ w more. (next w more).means)) (h.off other);
  }

-- the same where what comes next reaches no step
module _ {A B : Type 0} (f : List Mark → Trailed A) (next : A → List Mark → Meaning B) where
  abbrev lifted : A → List Mark → Trailed B
  lifted v left = bare (next v left)

  behind_as : (marks : List Mark) (before after : List Reached) (lines : List Reached)
      (m : declared.Meant A) (n : declared.Meant B) → after ≡ before ++ lines
      → TrailsAs f marks lines m → Behind m next n
      → Trails (λ some. trailed_onward (f some) lifted) marks before after n
  behind_as marks before after lines (meant.Done v left) n e h b =
      trails-followed f lifted marks left.now before after after v n lines e h
      (trails-bare (next v) left.now after n b)
  behind_as marks before after lines meant.More n e h b =
      subst (Trails (λ some. trailed_onward (f some) lifted) marks before after) (sym b)
      (record {
        lines = lines;
        added = e;
        are = trails-wanting f lifted marks lines h.0 h.1;
      })
  behind_as marks before after lines (meant.Off left) n e h b =
      subst (Trails (λ some. trailed_onward (f some) lifted) marks before after) (sym b)
      (record { lines = lines; added = e; are = trails-stopped f lifted marks left.now h })

  pub trails-then : (marks : List Mark) (before after : List Reached) (m : declared.Meant A)
      (n : declared.Meant B) → Trails f marks before after m → Behind m next n
      → Trails (λ some. trailed_onward (f some) lifted) marks before after n
  trails-then marks before after m n h b =
      behind_as marks before after h.lines m n h.added h.are b
