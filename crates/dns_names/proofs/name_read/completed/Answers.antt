use Rattle.std.proofs.Common.{arith, ◌++◌, List, ℕ, ap, refl, ◌∙◌, length}
use Rattle.std.proofs.lemmas.Bool.{false≢true}
use Rattle.std.proofs.lemmas.List.{nil_from_length}
use Rattle.dns_names.specs.NameLaws.{proper, is_wire, view_of, length-spelled}
use Rattle.dns_names.proofs.ReadNames.{ended, none_read, last_misfit, last_too_long, last_fits}
use Rattle.dns_names.proofs.name_read.completed.Goals as goal

pub returns-then-wire_len-gt1 : goal.returns-then-wire_len-gt1
returns-then-wire_len-gt1 c =
    ended c.args.name c.args.origin.now c.args.label.now (nil_from_length c.args.label.now c.if-label-eq0.true) c.wire_len.ensures.proper (omega (arith, c.if-wire_len-gt1.true, c.wire_len.ensures.value))

pub returns-then-label-eq0 : goal.returns-then-label-eq0
returns-then-label-eq0 c =
    none_read c.args.name c.args.origin.now c.args.label.now (nil_from_length c.args.label.now c.if-label-eq0.true) (omega (arith, c.if-wire_len-gt1.false, c.wire_len.ensures.value))

pub returns-then-not-has_room : goal.returns-then-not-has_room
returns-then-not-has_room c =
    last_misfit c.args.name c.args.origin.now c.args.label.now (proper c.name-2.inside.wire c.args.name c.name-2.invariant c.name-2.view_is) c.if-label-eq0.false (λ fits. false≢true (c.if-not-has_room.ensures.1 fits))

pub returns-then-wire_len : goal.returns-then-wire_len
returns-then-wire_len c =
    last_too_long c.args.name c.push.new.self c.args.origin.now c.args.label.now (proper c.name-2.inside.wire c.args.name c.name-2.invariant c.name-2.view_is) c.if-label-eq0.false
    c.in_ok-push.ensures.ok (omega (arith, c.if-wire_len.true, c.wire_len-2.ensures.value, c.wire_len-3.ensures.value))

pub append-requires-clause-labels : goal.append-requires-clause-labels
append-requires-clause-labels c = is_wire c.as_wire.result.now c.args.origin.now c.as_wire.ensures.value c.as_wire.ensures.proper

pub append-requires-clause-room : goal.append-requires-clause-room
append-requires-clause-room c =
    omega (arith, c.if-wire_len.false, c.wire_len-2.ensures.value, c.wire_len-3.ensures.value, ap length c.as_wire.ensures.value, length-spelled c.args.origin.now)

pub returns : goal.returns
returns c =
    last_fits c.args.name c.push.new.self c.args.origin.now c.append.new.self c.args.label.now (proper c.name-2.inside.wire c.args.name c.name-2.invariant c.name-2.view_is) c.as_wire.ensures.proper
    c.if-label-eq0.false (c.if-not-has_room.ensures.0 refl) c.in_ok-push.ensures.ok (omega (arith, c.if-wire_len.false, c.wire_len-2.ensures.value, c.wire_len-3.ensures.value))
    (c.in_ok-append.ensures.ok ∙ ap (λ (t : List (List ℕ)). c.push.new.self ++ t) (view_of c.as_wire.result.now c.args.origin.now c.as_wire.ensures.value))
