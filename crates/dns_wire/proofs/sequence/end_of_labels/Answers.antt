use Rattle.std.proofs.Common.{◌+◌, refl, inl, arith}
use Rattle.dns_wire.proofs.Names.{limit_is, walk_starts, walks_on, no_label}
use Rattle.dns_wire.proofs.sequence.end_of_labels.Goals as goal

pub loop-at-init : goal.loop-at-init
loop-at-init c = rw c.min.ensures (walk_starts c.args.bytes.now c.args.start _ c.requires (limit_is c.args.bytes.now c.args.start c.requires))

pub returns-then-size-gt-LABEL_BYTES-clause-none : goal.returns-then-size-gt-LABEL_BYTES-clause-none
returns-then-size-gt-LABEL_BYTES-clause-none c = λ name behind proper h.
    no_label c.args.bytes.now c.args.start c.loop-at.at (c.loop-at.invariant.read c.loop-at-test.true) (λ zero. omega (arith, c.if-size-eq0.false)) (omega (arith, c.if-size-ge-POINTER.false)) (inl c.if-size-gt-LABEL_BYTES.true) name behind h

pub loop-at-preserved : goal.loop-at-preserved
loop-at-preserved c =
    walks_on c.args.bytes.now c.args.start (c.args.start + c.min.result) c.loop-at.at _ c.loop-at.invariant c.loop-at-test.true refl (omega (arith, c.if-size-eq0.false)) (omega (arith, c.if-size-gt-LABEL_BYTES.false))
