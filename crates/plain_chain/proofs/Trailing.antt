-- What was answered with lines, of one step and of the steps behind it.
use Rattle.std.proofs.Common.{◌≡◌, ◌≤◌, ℕ, ◌-◌, List, [], ◌∷◌, ◌++◌, length, take, codes, Option, Some, None, Result, Ok, Err, refl, sym, ap, subst, ◌∙◌, append_assoc, arith}
use Rattle.std.specs.Prelude.{IfOk}
use Rattle.std.proofs.lemmas.List.{append-nil, length-append}
use Rattle.dns_data.specs.declared.query.Query.{Query}
use Rattle.dns_lists.specs.declared.memory.NoMemory.{NoMemory}
use Rattle.outside.specs.Meanings.{Meaning, Done, More, Off, onward}
use Rattle.outside.specs.declared.mark.Mark.{Mark}
use Rattle.plain_marks.specs.Meant.{IsDone, IsOff, Means}
use Rattle.plain_marks.specs.declared.meant.Meant as declared
use Rattle.plain_marks.specs.declared.meant.Meant.TheVariants as meant
use Rattle.chain_meaning.specs.declared.decision.Decision.{Decision}
use Rattle.chain_trail.specs.Says.{pass_say}
use Rattle.chain_trail.specs.Trail.{Follows, Trailed, bare, behind_lines, passes, reached, trailed_onward, trailed_then}
use Rattle.chain_trail.specs.Trails.{Behind, Trails, TrailsAs, TrailsDone}
use Rattle.chain_trail.specs.TrailsLaws.{trails-as, trails-followed, trails-lined, trails-stopped, trails-then, trails-wanting}
use Rattle.chain_trail.specs.declared.reached.Reached.{Reached}
use Rattle.chain_trail.specs.declared.reached.StepName.{StepName}

-- what holds of an answer, where there is one
pub weaker : {A E : Type 0} (r : Result A E) (P Q : A → Type 0) → ((v : A) → P v → Q v) → IfOk r P → IfOk r Q
weaker (Ok v) P Q f h = f v h
weaker (Err e) P Q f h = tt

module _ {A : Type 0} where
  -- by another name
  pub ok-as : (r : Result (declared.Meant A) NoMemory) (f g : List Mark → Trailed A) (marks : List Mark) (before after : List Reached) → ((other : List Mark) → g other ≡ f other)
      → IfOk r (Trails f marks before after) → IfOk r (Trails g marks before after)
  ok-as r f g marks before after e h = weaker r (Trails f marks before after) (Trails g marks before after) (λ m. trails-as f g marks before after m e) h

  -- behind a line
  pub ok-lined : (r : Result (declared.Meant A) NoMemory) (f g : List Mark → Trailed A) (marks : List Mark) (front before mid after : List Reached) → ((other : List Mark) → g other ≡ behind_lines front (f other)) → mid ≡ before ++ front
      → IfOk r (Trails f marks mid after) → IfOk r (Trails g marks before after)
  ok-lined r f g marks front before mid after e line h =
      weaker r (Trails f marks mid after) (Trails g marks before after) (λ m t. trails-as (λ some. behind_lines front (f some)) g marks before after m e (trails-lined f marks front before mid after m line t)) h

  -- what is decided at once, with these lines
  pub done-at : (f : List Mark → Trailed A) (marks : List Mark) (lines : List Reached) (v : A) → ((other : List Mark) → f other ≡ record { lines = lines; means = Done v other }) → TrailsDone f marks lines v marks
  done-at f marks lines v e = record { used = []; is = refl; same = λ other. ap (λ t. t.means) (e other); says = λ other. ap (λ t. t.lines) (e other) }

  -- marks that were taken reach no step
  pub bare-done : (f : List Mark → Meaning A) (marks left : List Mark) (v : A) → IsDone f marks v left → TrailsDone (λ some. bare (f some)) marks [] v left
  bare-done f marks left v h = record { used = h.used; is = h.is; same = h.same; says = λ other. refl }

-- without its lines
module _ {A : Type 0} (f : List Mark → Trailed A) (g : List Mark → Meaning A) (same : (other : List Mark) → (f other).means ≡ g other) where
  means_as : (marks : List Mark) (lines : List Reached) (m : declared.Meant A) → TrailsAs f marks lines m → Means g marks m
  means_as marks lines (meant.Done v left) h = record { used = h.used; is = h.is; same = λ other. sym (same (h.used ++ other)) ∙ h.same other }
  means_as marks lines meant.More h = sym (same marks) ∙ h.0
  means_as marks lines (meant.Off left) h =
      record { used = h.used; bad = h.bad; rest = h.rest; first = h.first; is = h.is; wants = sym (same h.used) ∙ h.wants; off = λ other. sym (same (h.used ++ h.bad ∷ other)) ∙ h.off other }

  pub ok-means : (r : Result (declared.Meant A) NoMemory) (marks : List Mark) (before after : List Reached) → IfOk r (Trails f marks before after) → IfOk r (Means g marks)
  ok-means r marks before after h = weaker r (Trails f marks before after) (Means g marks) (λ m t. means_as marks t.lines m t.are) h

module _ {A B : Type 0} (f : List Mark → Trailed A) (next : A → List Mark → Trailed B) where
  -- what comes next is meant by the marks that are left
  pub ok-followed : (r : Result (declared.Meant B) NoMemory) (marks left : List Mark) (before mid after : List Reached) (v : A) (xs : List Reached) → mid ≡ before ++ xs → TrailsDone f marks xs v left
      → IfOk r (Trails (next v) left mid after) → IfOk r (Trails (λ some. trailed_onward (f some) next) marks before after)
  ok-followed r marks left before mid after v xs e d h =
      weaker r (Trails (next v) left mid after) (Trails (λ some. trailed_onward (f some) next) marks before after) (λ m t. trails-followed f next marks left before mid after v m xs e d t) h

  -- where the front wants more, or is off, so is the whole
  pub wants : (marks : List Mark) (before after : List Reached) → Trails f marks before after meant.More → Trails (λ some. trailed_onward (f some) next) marks before after meant.More
  wants marks before after h = record { lines = h.lines; added = h.added; are = trails-wanting f next marks h.lines h.are.0 h.are.1 }

-- what is meant behind marks that are taken and reach no step
module _ {A B : Type 0} (f : List Mark → Meaning A) (next : A → List Mark → Trailed B) (g : List Mark → Trailed B) (same : (other : List Mark) → g other ≡ trailed_onward (bare (f other)) next) where
  pub taken-done : (marks left : List Mark) (a : A) (lines : List Reached) (v : B) → IsDone f marks a left → ((other : List Mark) → next a other ≡ record { lines = lines; means = Done v other }) → TrailsDone g marks lines v left
  taken-done marks left a lines v h e = record {
    used = h.used;
    is = h.is;
    same = λ other. ap (λ t. t.means) (same (h.used ++ other)) ∙ ap (λ x. (trailed_onward (bare x) next).means) (h.same other) ∙ ap (λ t. t.means) (e other);
    says = λ other. ap (λ t. t.lines) (same (h.used ++ other)) ∙ ap (λ x. (trailed_onward (bare x) next).lines) (h.same other) ∙ ap (λ t. t.lines) (e other);
  }

  pub taken-on : (r : Result (declared.Meant B) NoMemory) (marks left : List Mark) (before after : List Reached) (a : A) → IsDone f marks a left → IfOk r (Trails (next a) left before after) → IfOk r (Trails g marks before after)
  taken-on r marks left before after a d h =
      ok-as r (λ some. trailed_onward (bare (f some)) next) g marks before after same
      (ok-followed (λ some. bare (f some)) next r marks left before before after a [] (sym (append-nil before)) (bare-done f marks left a d) h)

  pub taken-wants : (marks : List Mark) (before : List Reached) → f marks ≡ More → Trails g marks before before meant.More
  taken-wants marks before h = record {
    lines = [];
    added = sym (append-nil before);
    are = (ap (λ t. t.means) (same marks) ∙ ap (λ x. (trailed_onward (bare x) next).means) h, ap (λ t. t.lines) (same marks) ∙ ap (λ x. (trailed_onward (bare x) next).lines) h);
  }

  pub taken-stops : (marks left : List Mark) → IsOff f marks left → IsOff (λ some. (g some).means) marks left
  taken-stops marks left h = record {
    used = h.used;
    bad = h.bad;
    rest = h.rest;
    first = h.first;
    is = h.is;
    wants = ap (λ t. t.means) (same h.used) ∙ ap (λ x. (trailed_onward (bare x) next).means) h.wants;
    off = λ other. ap (λ t. t.means) (same (h.used ++ h.bad ∷ other)) ∙ ap (λ x. (trailed_onward (bare x) next).means) (h.off other);
  }

-- a step that goes on, whatever it makes of what the rest decides
pub ok-noted : (r : Result (declared.Meant Decision) NoMemory) (n : StepName) (rest : Follows) (q : Query) (next : Decision → List Mark → Meaning Decision) (g : List Mark → Trailed Decision) (marks : List Mark) (before mid after : List Reached) (m : declared.Meant Decision)
    → ((other : List Mark) → g other ≡ passes n rest q other next) → mid ≡ before ++ reached n pass_say → Trails (rest q) marks mid after m → IfOk r (Behind m next) → IfOk r (Trails g marks before after)
ok-noted r n rest q next g marks before mid after m e line h b =
    weaker r (Behind m next) (Trails g marks before after)
    (λ w behind. trails-as (λ some. passes n rest q some next) g marks before after w e (trails-lined (λ some. trailed_then (rest q some) next) marks (reached n pass_say) before mid after w line (trails-then (rest q) next marks mid after m w h behind))) b

-- what is made of what the rest means, and takes no mark
pub ok-then : (r : Result (declared.Meant Decision) NoMemory) (f : List Mark → Trailed Decision) (next : Decision → List Mark → Meaning Decision) (g : List Mark → Trailed Decision) (marks : List Mark) (before after : List Reached) (m : declared.Meant Decision)
    → ((other : List Mark) → g other ≡ trailed_then (f other) next) → Trails f marks before after m → IfOk r (Behind m next) → IfOk r (Trails g marks before after)
ok-then r f next g marks before after m e h b =
    weaker r (Behind m next) (Trails g marks before after) (λ w behind. trails-as (λ some. trailed_then (f some) next) g marks before after w e (trails-then f next marks before after m w h behind)) b
