use Rattle.std.proofs.Common.{◌≡◌, ◌<◌, ◌≤◌, ◌+◌, ◌-◌, ◌++◌, ◌∷◌, length, take, drop, sym, ap, subst, ◌∙◌, arith, inl, inr, length-drop}
use Rattle.std.proofs.lemmas.List.{drop-drop, length-take-le, take-append-drop}
use Rattle.std.proofs.lemmas.Bool.{cases_lt}
use Rattle.dns_names.specs.Name.{IsName, labels_of, spelled}
use Rattle.dns_names.specs.NameLaws.{few, view_of}
use Rattle.dns_write.proofs.plan.label_above.Goals as goal

pub loop-rest-init : goal.loop-rest-init
loop-rest-init c = record {
  rest = c.as_wire-rest.ensures.value ∙ ap spelled (sym c.labels-labels.ensures);
  proper = subst IsName (sym c.labels-labels.ensures) c.as_wire-rest.ensures.proper;
  end = c.as_wire-end.ensures.value;
  inside = omega arith;
  left = sym c.labels-labels.ensures;
  last = λ some. absurd (omega (arith, some));
}

pub overflow_add-count : goal.overflow_add-count
overflow_add-count c =
    let name = c.args.name.now in
    let count = c.loop-rest.count in
    let here : drop count name ≡ c.in-Some.label.now ∷ c.next.new.self = c.loop-rest.invariant.left ∙ c.in-Some.ensures.value in
    let more : count + 1 ≤ length name = omega (arith, ap length here, length-drop count name) in
    omega (arith, more, few name, ap length c.as_wire-rest.ensures.value, c.as_wire-rest.type_inv.0)

pub loop-rest-smaller : goal.loop-rest-smaller
loop-rest-smaller c = omega (arith, ap length c.in-Some.ensures.value)

pub loop-rest-preserved : goal.loop-rest-preserved
loop-rest-preserved c =
    let name = c.args.name.now in
    let count = c.loop-rest.count in
    let i = c.loop-rest.invariant in
    let here : drop count name ≡ c.in-Some.label.now ∷ c.next.new.self = i.left ∙ c.in-Some.ensures.value in
    let more : count + 1 ≤ length name = omega (arith, ap length here, length-drop count name) in
    let next : drop (count + 1) name ≡ c.next.new.self = ap (λ k. drop k name) (omega arith) ∙ sym (drop-drop 1 count name) ∙ ap (drop 1) here in
    let back : drop (count + 1 - 1) name ≡ c.in-Some.label.now ∷ c.next.new.self = ap (λ k. drop k name) (omega arith) ∙ here in
    record {
      rest = c.as_wire-rest-in-loop-rest.ensures.value;
      proper = c.as_wire-rest-in-loop-rest.ensures.proper;
      end = i.end;
      inside = more;
      left = next;
      last = λ some. back;
    }

pub returns : goal.returns
returns c =
    let name = c.args.name.now in
    let i = c.loop-rest.invariant in
    let k = c.loop-rest.count - 1 in
    let same : c.loop-rest.labels ≡ c.args.anchor.now =
    sym (view_of c.loop-rest.rest.now c.loop-rest.labels i.rest) ∙ ap labels_of (c.are_equal.ensures.0 c.if-not-are_equal.false) ∙ view_of c.as_wire-end.result.now c.args.anchor.now c.as_wire-end.ensures.value in
    elim (cases_lt 0 c.loop-rest.count) [
      | inl some ↦ inr (record {
        front = take k name;
        is = sym (take-append-drop k name) ∙ ap (λ t. take k name ++ t) (i.last some ∙ ap (λ ls. c.loop-rest.above.now ∷ ls) same);
        counted = omega (arith, some, length-take-le k name (omega (arith, i.inside)));
      })
      | inr none ↦
          let zero_of : c.loop-rest.count ≡ 0 = omega (arith, none) in
          inl (zero_of, ap (λ n. drop n name) (sym zero_of) ∙ i.left ∙ same)
    ]
