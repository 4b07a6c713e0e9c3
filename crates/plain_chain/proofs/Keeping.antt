-- What a miss means: the rest, and what is put behind it by the marks that the rest took.
use Rattle.std.proofs.Common.{◌≡◌, ◌≤◌, ℕ, ◌+◌, ◌-◌, List, [], ◌∷◌, ◌++◌, length, take, codes, None, Result, refl, sym, ap, subst, ◌∙◌, append_assoc, arith}
use Rattle.std.specs.Prelude.{IfOk}
use Rattle.std.proofs.Math.Seq.{take-append_seam}
use Rattle.std.proofs.lemmas.List.{append-nil, length-append}
use Rattle.dns_data.specs.declared.query.Query.{Query}
use Rattle.dns_lists.specs.declared.memory.NoMemory.{NoMemory}
use Rattle.outside.specs.Meanings.{Meaning, Done, More, Off}
use Rattle.outside.specs.declared.mark.Mark.{Mark}
use Rattle.plugin_api.specs.{PlanData}
use Rattle.plain_marks.specs.Meant.{IsOff, Means}
use Rattle.plain_marks.specs.declared.meant.Meant as declared
use Rattle.plain_marks.specs.declared.meant.Meant.TheVariants as meant
use Rattle.chain_meaning.specs.Caching.{inners_in, kept_with, taken}
use Rattle.chain_meaning.specs.declared.decision.Decision.{Decision}
use Rattle.chain_trail.specs.Trail.{Follows, Trailed, bare, by_meaning, found_by, reached, trailed_then}
use Rattle.chain_trail.specs.Trails.{Trails, TrailsAs, TrailsDone}
use Rattle.chain_trail.specs.TrailsLaws.{trails-lined, trails-wanting}
use Rattle.chain_trail.specs.declared.reached.Reached.{Reached}
use Rattle.chain_trail.specs.declared.reached.StepName.{StepName}
use Rattle.plain_chain.proofs.Trailing.{weaker}

-- the marks in front of those that are left
pub taken-front : (used left : List Mark) → taken (used ++ left) left ≡ used
taken-front used left =
    let long : length (used ++ left) - length left ≡ length used = omega (arith, length-append used left) in
    ap (λ (k : ℕ). take k (used ++ left)) long ∙ take-append_seam used left

-- so many they are
pub left-fits : (f : List Mark → Trailed Decision) (marks left : List Mark) (lines : List Reached) (v : Decision) → TrailsDone f marks lines v left → length left ≤ length marks
left-fits f marks left lines v d = let all = ap (λ (l : List Mark). length l) d.is in omega (arith, all, length-append d.used left)

module _ (n : StepName) (rest : Follows) (plan : PlanData) (q : Query) (moment : ℕ) where
  abbrev next : List Mark → Decision → List Mark → Meaning Decision
  next some v left = kept_with plan q moment (inners_in (taken some left)) v left

  -- behind the line of the miss
  abbrev behind : List Mark → Trailed Decision
  behind some = trailed_then (rest q some) (next some)

  kept_at : (used other : List Mark) (v : Decision) → (rest q (used ++ other)).means ≡ Done v other → (behind (used ++ other)).means ≡ kept_with plan q moment (inners_in used) v other
  kept_at used other v e =
      ap (λ x. (by_meaning (rest q (used ++ other)).lines x (λ w left. bare (next (used ++ other) w left))).means) e
      ∙ ap (λ (t : List Mark). kept_with plan q moment (inners_in t) v other) (taken-front used other)

  lines_at : (some left : List Mark) (v : Decision) (xs : List Reached) → (rest q some).means ≡ Done v left → (rest q some).lines ≡ xs → (behind some).lines ≡ xs
  lines_at some left v xs e says =
      ap (λ x. (by_meaning (rest q some).lines x (λ w end. bare (next some w end))).lines) e ∙ append-nil (rest q some).lines ∙ says

  kept_as : (marks left : List Mark) (xs : List Reached) (v : Decision) (m : declared.Meant Decision) (d : TrailsDone (rest q) marks xs v left) → Means (kept_with plan q moment (inners_in d.used) v) left m → TrailsAs behind marks xs m
  kept_as marks left xs v (meant.Done w end) d h = record {
    used = d.used ++ h.used;
    is = d.is ∙ ap (λ (l : List Mark). d.used ++ l) h.is ∙ sym (append_assoc d.used h.used end.now);
    same = λ other. ap (λ some. (behind some).means) (append_assoc d.used h.used other) ∙ kept_at d.used (h.used ++ other) v (d.same (h.used ++ other)) ∙ h.same other;
    says = λ other. ap (λ some. (behind some).lines) (append_assoc d.used h.used other)
        ∙ lines_at (d.used ++ (h.used ++ other)) (h.used ++ other) v xs (d.same (h.used ++ other)) (d.says (h.used ++ other));
  }
  kept_as marks left xs v meant.More d h = (
    ap (λ some. (behind some).means) d.is ∙ kept_at d.used left v (d.same left) ∙ h,
    ap (λ some. (behind some).lines) d.is ∙ lines_at (d.used ++ left) left v xs (d.same left) (d.says left),
  )
  kept_as marks left xs v (meant.Off end) d h = record {
    used = d.used ++ h.used;
    bad = h.bad;
    rest = h.rest;
    first = h.first;
    is = d.is ∙ ap (λ (l : List Mark). d.used ++ l) h.is ∙ sym (append_assoc d.used h.used end.now);
    wants = kept_at d.used h.used v (d.same h.used) ∙ h.wants;
    off = λ other. ap (λ some. (behind some).means) (append_assoc d.used h.used (h.bad ∷ other)) ∙ kept_at d.used (h.used ++ h.bad ∷ other) v (d.same (h.used ++ h.bad ∷ other)) ∙ h.off other;
  }

  -- the rest decided, and its reply is put where it is kept
  pub ok-kept : (r : Result (declared.Meant Decision) NoMemory) (marks left front : List Mark) (before mid after : List Reached) (v : Decision) (xs : List Reached) → mid ≡ before ++ reached n (codes "miss") → after ≡ mid ++ xs
      → (d : TrailsDone (rest q) marks xs v left) → front ≡ taken marks left → IfOk r (Means (kept_with plan q moment (inners_in front) v) left) → IfOk r (Trails (found_by n rest plan q moment None) marks before after)
  ok-kept r marks left front before mid after v xs line added d is h =
      let used : front ≡ d.used = is ∙ ap (λ (some : List Mark). taken some left) d.is ∙ taken-front d.used left in
      weaker r (Means (kept_with plan q moment (inners_in front) v) left) (Trails (found_by n rest plan q moment None) marks before after)
      (λ m k. trails-lined behind marks (reached n (codes "miss")) before mid after m line (record {
        lines = xs;
        added = added;
        are = kept_as marks left xs v m d (subst (λ (t : List Mark). Means (kept_with plan q moment (inners_in t) v) left m) used k);
      })) h

  -- where the rest wants more, or is off, so is the whole
  pub miss-wants : (marks : List Mark) (before mid after : List Reached) → mid ≡ before ++ reached n (codes "miss") → Trails (rest q) marks mid after meant.More → Trails (found_by n rest plan q moment None) marks before after meant.More
  miss-wants marks before mid after line h =
      trails-lined behind marks (reached n (codes "miss")) before mid after meant.More line
      (record { lines = h.lines; added = h.added; are = trails-wanting (rest q) (λ v left. bare (next marks v left)) marks h.lines h.are.0 h.are.1 })

  pub miss-stops : (marks left : List Mark) → IsOff (λ some. (rest q some).means) marks left → IsOff (λ some. (found_by n rest plan q moment None some).means) marks left
  miss-stops marks left h = record {
    used = h.used;
    bad = h.bad;
    rest = h.rest;
    first = h.first;
    is = h.is;
    wants = ap (λ x. (by_meaning (rest q h.used).lines x (λ v end. bare (next h.used v end))).means) h.wants;
    off = λ other. ap (λ x. (by_meaning (rest q (h.used ++ h.bad ∷ other)).lines x (λ v end. bare (next (h.used ++ h.bad ∷ other) v end))).means) (h.off other);
  }
