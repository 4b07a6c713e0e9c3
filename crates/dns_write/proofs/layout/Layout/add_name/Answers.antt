use Rattle.std.proofs.Common.{◌≡◌, ◌++◌, [], ◌∷◌, length, sym, ap, subst, ◌∙◌, arith}
use Rattle.std.proofs.lemmas.Result.{on_ok_weaker}
use Rattle.dns_names.specs.Name.{IsName, labels_of, spelled}
use Rattle.dns_names.specs.NameLaws.{is_wire, view_of}
use Rattle.dns_write.specs.Tails.{InTail, laid_name, place_of}
use Rattle.dns_write.proofs.Layouts.{lays_label, lays_pointer, lays_root, none_found, spot_found, with_label}
use Rattle.dns_write.proofs.layout.Layout.add_name.Goals as goal

pub loop-label-init : goal.loop-label-init
loop-label-init c = record {
  suffix = c.as_wire-suffix.ensures.value ∙ ap spelled (sym c.labels-labels.ensures);
  proper = subst IsName (sym c.labels-labels.ensures) c.as_wire-suffix.ensures.proper;
  whole = ap (laid_name c.args.self.now) c.labels-labels.ensures;
}

pub find-requires : goal.find-requires
find-requires c = is_wire c.loop-label.suffix.now c.loop-label.labels c.loop-label.invariant.suffix c.loop-label.invariant.proper

pub place-requires : goal.place-requires
place-requires c = is_wire c.loop-label.suffix.now c.loop-label.labels c.loop-label.invariant.suffix c.loop-label.invariant.proper

pub returns-in-Some-find : goal.returns-in-Some-find
returns-in-Some-find c =
    let l = c.loop-label.self in
    let view = view_of c.loop-label.suffix.now c.loop-label.labels c.loop-label.invariant.suffix ∙ c.in-Some.ensures.value in
    let f = spot_found (length l.text) (place_of l.placed (labels_of c.loop-label.suffix.now)) c.in-Some-find.spot c.in-Some-find.ensures in
    let found = ap (place_of l.placed) (sym view) ∙ f.1 in
    on_ok_weaker c.add_pointer.result
    (λ p. p ∙ (λ i. record { text = l.text ++ 0 ∷ 0 ∷ []; spots = l.spots ++ f.2 i ∷ []; placed = l.placed }) ∙ lays_pointer l c.in-Some.label.now c.next.new.self f.0 found ∙ ap (laid_name l) (sym c.in-Some.ensures.value) ∙ c.loop-label.invariant.whole)
    c.add_pointer.ensures

pub loop-label-smaller : goal.loop-label-smaller
loop-label-smaller c = omega (arith, ap length c.in-Some.ensures.value)

pub loop-label-preserved : goal.loop-label-preserved
loop-label-preserved c =
    let l = c.loop-label.self in
    let label = c.in-Some.label.now in
    let rest = c.next.new.self in
    let view = view_of c.loop-label.suffix.now c.loop-label.labels c.loop-label.invariant.suffix ∙ c.in-Some.ensures.value in
    let none = ap (place_of l.placed) (sym view) ∙ none_found (length l.text) (place_of l.placed (labels_of c.loop-label.suffix.now)) c.in_default-find.ensures in
    let behind : c.len-behind.result ≡ length l.text = omega (arith, c.len-behind.ensures, ap (λ t. length t.text) c.self.view_is) in
    let same : c.add_bytes-in-Some.new.self ≡ with_label l label rest =
    c.in_ok-add_bytes-2.ensures
    ∙ (λ i. record { text = (c.in_ok-add_bytes.ensures i).text ++ label; spots = (c.in_ok-add_bytes.ensures i).spots; placed = (c.in_ok-add_bytes.ensures i).placed })
    ∙ (λ i. record { text = ((c.in_ok-place.ensures i).text ++ length label ∷ []) ++ label; spots = (c.in_ok-place.ensures i).spots; placed = (c.in_ok-place.ensures i).placed })
    ∙ (λ i. record { text = (l.text ++ length label ∷ []) ++ label; spots = l.spots; placed = l.placed ++ record { suffix = view i; place = InTail (behind i) } ∷ [] }) in
    record {
      suffix = c.as_wire-suffix-in-Some.ensures.value;
      proper = c.as_wire-suffix-in-Some.ensures.proper;
      whole = ap (λ t. laid_name t rest) same ∙ lays_label l label rest none ∙ ap (laid_name l) (sym c.in-Some.ensures.value) ∙ c.loop-label.invariant.whole;
    }

pub returns : goal.returns
returns c =
    let l = c.loop-label.self in
    on_ok_weaker c.add_bytes-2.result (λ p. p ∙ lays_root l ∙ ap (laid_name l) (sym c.in_default.ensures.value) ∙ c.loop-label.invariant.whole) c.add_bytes-2.ensures
