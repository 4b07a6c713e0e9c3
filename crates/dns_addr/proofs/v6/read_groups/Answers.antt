use Rattle.std.proofs.Common.{◌∷◌, [], arith, sym, ap, ◌∙◌, length, length-append}
use Rattle.dns_addr.proofs.ReadAddrs.{cut_shorter, no_room, next_group, bad_group, last_group, bad_last, last_two, no_second}
use Rattle.dns_addr.proofs.v6.read_groups.Goals as goal

pub returns-in_err-read_group : goal.returns-in_err-read_group
returns-in_err-read_group c =
    c.from_residual.ensures
    ∙ sym (c.loop-piece.invariant.says ∙ bad_group c.args.tail c.loop-piece.groups c.loop-piece.rest.now c.in-Some.piece.now c.in-Some.behind.now c.loop-piece.invariant.few (sym c.in-Some.ensures) (sym c.in_err-read_group.ensures))

pub returns-in_err-push : goal.returns-in_err-push
returns-in_err-push c =
    c.from_residual-in_err-push.ensures ∙ sym (c.loop-piece.invariant.says ∙ no_room c.args.tail c.loop-piece.groups c.loop-piece.rest.now c.in_err-push.ensures.none)

pub loop-piece-smaller : goal.loop-piece-smaller
loop-piece-smaller c = cut_shorter 58 c.loop-piece.rest.now c.in-Some.piece.now c.in-Some.behind.now (sym c.in-Some.ensures)

pub loop-piece-preserved : goal.loop-piece-preserved
loop-piece-preserved c = record {
  few = omega (arith, ap length c.in_ok-push.ensures.some, length-append c.loop-piece.groups (c.in_ok-read_group.field-0 ∷ []), c.in_ok-push.ensures.room);
  says = c.loop-piece.invariant.says
      ∙ next_group c.args.tail c.loop-piece.groups c.push.new.self c.loop-piece.rest.now c.in-Some.piece.now c.in-Some.behind.now c.in_ok-read_group.field-0 c.in_ok-push.ensures.room (sym c.in-Some.ensures)
      (sym c.in_ok-read_group.ensures) c.in_ok-push.ensures.some;
}

pub returns-in_err-read_group-2 : goal.returns-in_err-read_group-2
returns-in_err-read_group-2 c =
    c.from_residual-in_err-read_group-2.ensures
    ∙ sym (c.loop-piece.invariant.says ∙ bad_last c.args.tail c.loop-piece.groups c.loop-piece.rest.now c.loop-piece.invariant.few (sym c.in_default.ensures) (sym c.in_default-read_v4_if.ensures) (sym c.in_err-read_group-2.ensures))

pub returns-in_err-push-2 : goal.returns-in_err-push-2
returns-in_err-push-2 c =
    c.from_residual-in_err-push-2.ensures ∙ sym (c.loop-piece.invariant.says ∙ no_room c.args.tail c.loop-piece.groups c.loop-piece.rest.now c.in_err-push-2.ensures.none)

pub returns-in_default-read_v4_if : goal.returns-in_default-read_v4_if
returns-in_default-read_v4_if c =
    sym (c.loop-piece.invariant.says
    ∙ last_group c.args.tail c.loop-piece.groups c.push-in_default-read_v4_if.new.self c.loop-piece.rest.now c.in_ok-read_group-2.field-0 c.in_ok-push-2.ensures.room (sym c.in_default.ensures)
    (sym c.in_default-read_v4_if.ensures) (sym c.in_ok-read_group-2.ensures) c.in_ok-push-2.ensures.some)

pub returns-in_err-push-3 : goal.returns-in_err-push-3
returns-in_err-push-3 c =
    c.from_residual-in_err-push-3.ensures ∙ sym (c.loop-piece.invariant.says ∙ no_room c.args.tail c.loop-piece.groups c.loop-piece.rest.now c.in_err-push-3.ensures.none)

pub returns-in_err-push-4 : goal.returns-in_err-push-4
returns-in_err-push-4 c =
    c.from_residual-in_err-push-4.ensures
    ∙ sym (c.loop-piece.invariant.says ∙ no_second c.args.tail c.loop-piece.groups c.push-2.new.self c.loop-piece.rest.now c.in-Some-read_v4_if.addr c.in_ok-push-3.ensures.room c.in_ok-push-3.ensures.some
    c.in_err-push-4.ensures.none (sym c.in_default.ensures) (sym c.in-Some-read_v4_if.ensures))

pub returns : goal.returns
returns c =
    sym (c.loop-piece.invariant.says
    ∙ last_two c.args.tail c.loop-piece.groups c.push-2.new.self c.push-3.new.self c.loop-piece.rest.now c.in-Some-read_v4_if.addr c.in_ok-push-3.ensures.room c.in_ok-push-4.ensures.room c.in_ok-push-3.ensures.some
    (sym c.in_default.ensures) (sym c.in-Some-read_v4_if.ensures) c.in_ok-push-4.ensures.some)
