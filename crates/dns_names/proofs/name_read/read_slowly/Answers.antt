use Rattle.std.proofs.Common.{◌++◌, ◌∷◌, [], List, ℕ, sym, ap, subst, ◌∙◌}
use Rattle.std.proofs.lemmas.Bool.{false≢true}
use Rattle.std.proofs.lemmas.List.{take_rest}
use Rattle.dns_names.specs.NameLaws.{proper}
use Rattle.dns_names.specs.NameText.{Fits, Completes}
use Rattle.dns_names.proofs.ReadNames.{bad_label, after_dot, bad_byte, after_byte, at_end, reads_completed}
use Rattle.dns_names.proofs.name_read.read_slowly.Goals as goal

pub returns-then-not-has_room : goal.returns-then-not-has_room
returns-then-not-has_room c =
    bad_label c.args.text.now c.loop-byte.rest.now c.loop-byte.label.items c.in-Some.behind.now c.loop-byte.name c.args.origin.now c.in-Some.byte.now c.requires
    c.loop-byte.invariant c.in-Some.ensures.cases.0 c.if-byte-eq46.true (proper c.name.inside.wire c.loop-byte.name c.name.invariant c.name.view_is)
    (λ fits. false≢true (c.if-not-has_room.ensures.1 (subst (λ (l : List ℕ). Fits c.loop-byte.name l) (sym c.deref.ensures.value) fits)))

pub loop-byte-preserved-then-byte-eq46 : goal.loop-byte-preserved-then-byte-eq46
loop-byte-preserved-then-byte-eq46 c =
    after_dot _ c.loop-byte.name c.push.new.self c.loop-byte.label.items c.clear.new.self.items c.loop-byte.rest.now c.in-Some.behind.now c.in-Some.byte.now c.loop-byte.invariant
    c.in-Some.ensures.cases.0 c.if-byte-eq46.true
    (c.in_ok-push.ensures.ok ∙ ap (λ (l : List ℕ). c.loop-byte.name ++ l ∷ []) c.deref-then-byte-eq46.ensures.value) c.clear.ensures.items

pub returns-in_default-byte_at : goal.returns-in_default-byte_at
returns-in_default-byte_at c =
    bad_byte c.args.text.now c.loop-byte.rest.now c.loop-byte.label.items c.in-Some.behind.now c.loop-byte.name c.args.origin.now c.in-Some.byte.now c.requires
    c.loop-byte.invariant c.in-Some.ensures.cases.0 c.if-byte-eq46.false (sym c.byte_at.ensures.value ∙ c.in_default-byte_at.is)

pub loop-byte-preserved : goal.loop-byte-preserved
loop-byte-preserved c =
    after_byte _ c.loop-byte.name c.loop-byte.label.items c.push_byte.new.label.items c.loop-byte.rest.now c.in-Some.behind.now _ c.in-Some.byte.now c.in-Some-byte_at.value c.in-Some-byte_at.size
    c.loop-byte.invariant c.in-Some.ensures.cases.0 c.if-byte-eq46.false (sym c.byte_at.ensures.value ∙ c.in-Some-byte_at.is) c.in_ok-push_byte.ensures
    (take_rest c.in-Some.behind.now c.in-Some-byte_at.size)

pub returns : goal.returns
returns c =
    reads_completed c.args.text.now c.args.origin.now c.loop-byte.name c.loop-byte.label.items c.completed.result
    (at_end c.args.text.now c.loop-byte.rest.now c.loop-byte.label.items c.loop-byte.name c.args.origin.now c.requires c.loop-byte.invariant c.in_default.ensures.cases)
    (subst (λ (l : List ℕ). Completes c.loop-byte.name l c.args.origin.now c.completed.result) c.deref-2.ensures.value c.completed.ensures)
