use Rattle.std.proofs.Common.{◌≡◌, ◌+◌, ◌-◌, ◌++◌, [], ◌∷◌, length, map, sym, ap, subst, ◌∙◌, arith, length-append}
use Rattle.dns_names.specs.Name.{IsName, spelled}
use Rattle.dns_names.specs.NameLaws.{is_wire, view_of}
use Rattle.dns_write.specs.Tails.{InAnchor, anchor_suffixes, placed_of}
use Rattle.dns_write.proofs.Layouts.{next_suffix, no_suffix}
use Rattle.dns_write.proofs.layout.Layout.behind.Goals as goal

pub loop-label-init : goal.loop-label-init
loop-label-init c = record {
  suffix = c.as_wire-wire.ensures.value ∙ ap spelled (sym c.labels-labels.ensures);
  proper = subst IsName (sym c.labels-labels.ensures) c.as_wire-wire.ensures.proper;
  inside = omega arith;
  text = c.new.ensures.items;
  spots = c.new-2.ensures.items;
  placed = let at : length c.as_wire-wire.result.now - length c.as_wire-wire.result.now ≡ 0 = omega arith in
      λ i. map placed_of (c.new-3.ensures.items i) ++ anchor_suffixes (at i) (c.labels-labels.ensures i);
}

pub place-requires : goal.place-requires
place-requires c = is_wire c.loop-label.suffix.now c.loop-label.labels c.loop-label.invariant.suffix c.loop-label.invariant.proper

pub overflow_sub-wire : goal.overflow_sub-wire
overflow_sub-wire c = c.loop-label.invariant.inside

pub loop-label-smaller : goal.loop-label-smaller
loop-label-smaller c = omega (arith, ap length c.in-Some.ensures.value)

pub loop-label-preserved : goal.loop-label-preserved
loop-label-preserved c =
    let label = c.in-Some._label.now in
    let rest = c.next.new.self in
    let front = c.loop-label.layout.placed in
    let at = length c.as_wire-wire.result.now - length c.loop-label.suffix.now in
    let view = view_of c.loop-label.suffix.now c.loop-label.labels c.loop-label.invariant.suffix ∙ c.in-Some.ensures.value in
    let long : length c.loop-label.suffix.now ≡ length label + 1 + length c.as_wire-suffix.result.now =
    ap length (c.loop-label.invariant.suffix ∙ ap spelled c.in-Some.ensures.value) ∙ omega (arith, length-append label (spelled rest), ap length c.as_wire-suffix.ensures.value) in
    let next : length c.as_wire-wire.result.now - length c.as_wire-suffix.result.now ≡ at + length label + 1 = omega (arith, long, c.loop-label.invariant.inside) in
    record {
      suffix = c.as_wire-suffix.ensures.value;
      proper = c.as_wire-suffix.ensures.proper;
      inside = omega (arith, long, c.loop-label.invariant.inside);
      text = ap (λ l. l.text) c.in_ok-place.ensures ∙ c.loop-label.invariant.text;
      spots = ap (λ l. l.spots) c.in_ok-place.ensures ∙ c.loop-label.invariant.spots;
      placed = (λ i. (c.in_ok-place.ensures i).placed ++ anchor_suffixes (next i) rest)
          ∙ (λ i. (front ++ record { suffix = view i; place = InAnchor at } ∷ []) ++ anchor_suffixes (at + length label + 1) rest)
          ∙ next_suffix front at label rest ∙ ap (λ ls. front ++ anchor_suffixes at ls) (sym c.in-Some.ensures.value) ∙ c.loop-label.invariant.placed;
    }

pub returns : goal.returns
returns c =
    let l = c.loop-label.layout in
    let at = length c.as_wire-wire.result.now - length c.loop-label.suffix.now in
    let placed = sym (no_suffix l.placed at) ∙ ap (λ ls. l.placed ++ anchor_suffixes at ls) (sym c.in_default.ensures.value) ∙ c.loop-label.invariant.placed in
    λ i. record { text = c.loop-label.invariant.text i; spots = c.loop-label.invariant.spots i; placed = placed i }
