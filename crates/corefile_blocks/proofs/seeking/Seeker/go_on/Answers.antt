use Rattle.std.proofs.Common.{Some, ◌-◌, ◌∙◌, refl, sym, ap, arith}
use Rattle.corefile_blocks.specs.Blocks.{read}
use Rattle.corefile_blocks.specs.PlacedLines.{stream_of}
use Rattle.corefile_blocks.specs.Reader.{reading_of}
use Rattle.corefile_blocks.specs.Seeking.{with_all}
use Rattle.corefile_blocks.proofs.SeekLemmas.{line_stopped, line_taken, missing_import, says_all, says_limit, seeks_as, stopped_at}
use Rattle.corefile_blocks.proofs.seeking.Seeker.go_on.Goals as goal

pub returns-in_default : goal.returns-in_default
returns-in_default c =
    let next = rw c.in_default.is at c.in_ok-taken.ensures in
    stopped_at c.args.bundle.now c.args.self.now _ c.requires.seeks c.requires.there refl refl refl refl (ap stream_of c.new.ensures)
    (λ more. says_all (with_all c.args.bundle.now more) c.args.self.now.left (reading_of c.args.self.now.reader) _ next)

pub returns-then-self-eq0 : goal.returns-then-self-eq0
returns-then-self-eq0 c =
    let next = rw c.in-Some.is at c.in_ok-taken.ensures in
    stopped_at c.args.bundle.now c.args.self.now _ c.requires.seeks c.requires.there refl refl refl refl (ap stream_of c.new-then-self-eq0.ensures)
    (λ more. says_limit (with_all c.args.bundle.now more) c.args.self.now.left (reading_of c.args.self.now.reader) _ _ _ c.if-self-eq0.true next)

pub returns-in-Some-lacked : goal.returns-in-Some-lacked
returns-in-Some-lacked c =
    let next = rw c.in-Some.is at c.in_ok-taken.ensures in
    let seeker = c.args.self.now in (
      seeks_as c.args.bundle.now seeker _ c.requires.seeks refl refl (omega arith) refl
          (λ more. ap (λ stream. (read seeker.left (with_all c.args.bundle.now more) 0 (reading_of seeker.reader) stream).named) (next ∙ sym c.in_ok-put_back.ensures)),
      missing_import c.args.bundle.now seeker (seeker.left - 1) _ _ c.in-Some-lacked.name.now c.requires.seeks c.requires.there (omega (arith, c.if-self-eq0.false)) next (sym c.in-Some-lacked.ensures)
          ∙ ap Some (sym c.in_ok-name.ensures),
    )

pub returns-in-Some-2 : goal.returns-in-Some-2
returns-in-Some-2 c =
    let next = rw c.in-Some.is at c.in_ok-taken.ensures in
    let follows = rw c.in-Some-2.is at c.in_ok-take.ensures.follows in
    let seeker = c.args.self.now in
    line_stopped c.args.bundle.now seeker _ (seeker.left - 1) c.next_line.new.frames c.take.new.self c.in-Some.taken c.in-Some-2.field-0 c.requires.seeks (omega (arith, c.if-self-eq0.false)) refl refl next
    (sym c.in_default-lacked.ensures) follows c.in_ok-take.ensures.texts c.in_ok-take.ensures.nesting refl refl (ap stream_of c.new-in-Some-2.ensures)

pub returns : goal.returns
returns c =
    let next = rw c.in-Some.is at c.in_ok-taken.ensures in
    let follows = rw c.in_default-2.is at c.in_ok-take.ensures.follows in
    let seeker = c.args.self.now in
    line_taken c.args.bundle.now seeker _ (seeker.left - 1) c.next_line.new.frames c.in-Some.taken c.requires.seeks (omega (arith, c.if-self-eq0.false)) refl refl next
    (sym c.in_default-lacked.ensures) follows c.in_ok-take.ensures.texts c.in_ok-take.ensures.nesting
