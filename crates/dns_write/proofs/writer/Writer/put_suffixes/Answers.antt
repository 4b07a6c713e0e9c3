use Rattle.std.proofs.Common.{◌≡◌, ◌+◌, ◌-◌, ◌++◌, ◌≤◌, ℕ, List, [], ◌∷◌, length, take, drop, sym, ap, subst, ◌∙◌, arith, length-drop, length-append}
use Rattle.std.proofs.lemmas.Result.{on_ok_weaker}
use Rattle.std.proofs.lemmas.List.{length-take-le}
use Rattle.dns_names.specs.Name.{spelled, labels_of}
use Rattle.dns_names.specs.NameLaws.{is_wire, view_of}
use Rattle.dns_write.specs.Written.{Draft, put, put_pointer, earliest}
use Rattle.dns_write.specs.Offsets.{with_offset}
use Rattle.dns_write.proofs.Writing.{WrittenTo, points, passes, ends}
use Rattle.dns_write.proofs.writer.Writer.put_suffixes.Goals as goal

pub find-requires : goal.find-requires
find-requires c = is_wire c.loop-label.suffix.now c.loop-label.labels c.loop-label.invariant.suffix c.loop-label.invariant.to.proper

pub push-requires : goal.push-requires
push-requires c = is_wire c.loop-label.suffix.now c.loop-label.labels c.loop-label.invariant.suffix c.loop-label.invariant.to.proper

pub returns-in-Some-find-clause-text : goal.returns-in-Some-find-clause-text
returns-in-Some-find-clause-text c =
    let draft = c.loop-label.self in
    let suffix = c.loop-label.suffix.now in
    let wire = c.as_wire-wire.result.now in
    let w = rw c.in-Some.ensures.value at c.loop-label.invariant.to in
    let view = view_of suffix c.loop-label.labels c.loop-label.invariant.suffix ∙ c.in-Some.ensures.value in
    let found = sym (c.in-Some-find.ensures.value ∙ ap (λ (d : Draft). earliest d.offsets (labels_of suffix)) c.self.view_is ∙ ap (earliest draft.offsets) view) in
    let here : put draft (take (length wire - length suffix) wire) ≡ put draft (take (length (spelled c.args.name.now) - length suffix) (spelled c.args.name.now)) =
    ap (λ (t : List ℕ). put draft (take (length t - length suffix) t)) c.as_wire-wire.ensures.value in
    on_ok_weaker c.put_pointer.result (λ (p : c.put_pointer.new.self ≡ put_pointer c.put_labels.new.self c.in-Some-find.offset). p ∙ ap (λ (d : Draft). put_pointer d c.in-Some-find.offset) (c.in_ok-put_labels.ensures ∙ here) ∙ points c.in-Some-find.offset w found) c.put_pointer.ensures

pub loop-label-preserved : goal.loop-label-preserved
loop-label-preserved c =
    let draft = c.loop-label.self in
    let suffix = c.loop-label.suffix.now in
    let w = rw c.in-Some.ensures.value at c.loop-label.invariant.to in
    let view = view_of suffix c.loop-label.labels c.loop-label.invariant.suffix ∙ c.in-Some.ensures.value in
    let none = sym (c.in_default-find.ensures.value ∙ ap (λ (d : Draft). earliest d.offsets (labels_of suffix)) c.self.view_is ∙ ap (earliest draft.offsets) view) in
    let wire = spelled c.args.name.now in
    let at = length wire - length suffix in
    let i = c.self.inside in
    let room : i.end ≤ length i.out.items = omega (arith, c.self.invariant.1) in
    let bytes : drop 12 (take i.end i.out.items) ≡ draft.bytes = ap (λ (d : Draft). d.bytes) c.self.view_is in
    let front : i.end ≡ 12 + length draft.bytes = omega (arith, c.self.invariant.0, length-drop 12 (take i.end i.out.items), length-take-le i.end i.out.items room, ap length bytes) in
    let ahead : length (take (length c.as_wire-wire.result.now - length suffix) c.as_wire-wire.result.now) ≡ length (take at wire) =
    ap (λ (t : List ℕ). length (take (length t - length suffix) t)) c.as_wire-wire.ensures.value in
    let size : i.end + length (take (length c.as_wire-wire.result.now - length suffix) c.as_wire-wire.result.now) ≡ 12 + length (draft.bytes ++ take at wire) =
    omega (arith, front, length-append draft.bytes (take at wire), ahead) in
    let offsets = c.in_ok-push.ensures ∙ (λ j. with_offset (c.self.view_is j).offsets (view j) (size j)) in
    let new : Draft = record { bytes = drop 12 (take i.end i.out.items); offsets = c.push.new.self } in
    let passed = passes new w none (λ j. record { bytes = bytes j; offsets = offsets j }) in
    let long = ap length (c.loop-label.invariant.suffix ∙ ap spelled c.in-Some.ensures.value) in
    let next : length wire - length suffix + (length c.in-Some._label.now + 1) ≡ length wire - length c.as_wire-suffix.result.now =
    omega (arith, long, ap length w.left, length-drop (length wire - length suffix) wire, ap length c.as_wire-suffix.ensures.value, length-append c.in-Some._label.now (spelled c.next.new.self)) in
    record { suffix = c.as_wire-suffix.ensures.value; to = subst (λ (k : ℕ). WrittenTo c.args.self.now new c.args.name.now c.next.new.self k) next passed }

pub returns-clause-text : goal.returns-clause-text
returns-clause-text c =
    let w = rw c.in_default.ensures.value at c.loop-label.invariant.to in
    let labels = c.in_ok-put_labels-2.ensures ∙ ap (λ (t : List ℕ). put c.loop-label.self t) c.as_wire-wire.ensures.value in
    on_ok_weaker c.put_few.result (λ (p : c.put_few.new.self ≡ put c.put_labels-2.new.self (0 ∷ [])). p ∙ ap (λ (d : Draft). put d (0 ∷ [])) labels ∙ ends w) c.put_few.ensures
