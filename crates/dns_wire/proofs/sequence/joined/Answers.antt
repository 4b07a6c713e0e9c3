use Rattle.std.proofs.Common.{ap, subst, ◌∙◌, ◌++◌, List, ℕ, arith}
use Rattle.dns_names.specs.Name.{IsName}
use Rattle.dns_wire.proofs.Joining.{spelled_wire, both_fit, spelled_room, labels_again}
use Rattle.dns_wire.proofs.sequence.joined.Goals as goal

pub returns-then-wire_len : goal.returns-then-wire_len
returns-then-wire_len c = λ whole h.
    omega (arith, both_fit c.args.front c.args.rest.now (subst IsName h.0 h.1), c.if-wire_len.true, c.wire_len.ensures.value, c.wire_len-2.ensures.value)

pub append-requires-clause-labels : goal.append-requires-clause-labels
append-requires-clause-labels c = spelled_wire c.as_wire.result.now c.args.rest.now c.as_wire.ensures.value c.as_wire.ensures.proper

pub append-requires-clause-room : goal.append-requires-clause-room
append-requires-clause-room c =
    spelled_room c.args.front c.args.rest.now c.as_wire.result.now c.as_wire.ensures.value (omega (arith, c.if-wire_len.false, c.wire_len.ensures.value, c.wire_len-2.ensures.value))

pub returns : goal.returns
returns c = (
  c.in_ok-append.ensures.ok ∙ ap (λ (l : List (List ℕ)). c.args.front ++ l) (labels_again c.as_wire.result.now c.args.rest.now c.as_wire.ensures.value),
  c.wire_len-3.ensures.proper,
)
