use Rattle.std.proofs.Common.{sym, ap, subst, ◌∙◌, ◌∷◌, inl, inr, arith}
use Rattle.std.proofs.lemmas.List.{nil_from_length}
use Rattle.outside.specs.declared.mark.Mark.TheVariants.{Got}
use Rattle.audit_run.specs.Walks.{FailsAt}
use Rattle.audit_run.specs.Walking.{TurnsSo}
use Rattle.audit_run.proofs.Turned.{no_pin, pin_bad, pin_same, pins_turn}
use Rattle.audit_run.proofs.turning.take_turn.Goals as goal

pub returns-in_default : goal.returns-in_default
returns-in_default g c = λ most end take.
    let serves = g.M.TurnMeaning.serves c.args.meaning.now in
    let starves = g.met.M.TurnMeaning.starves c.args.meaning.now c.args.walk.now.last
    c.args.datagram.now c.requires in
    subst (λ l. FailsAt serves most end c.args.walk.now (Got c.args.datagram.now ∷ l) 1)
    (sym (nil_from_length c.args.marks.now c.in_default.ensures.cases))
    (inr (no_pin serves most end (g.met.M.TurnMeaning.own c.args.meaning.now) c.args.walk.now
    c.args.datagram.now take starves))

pub returns-in_default-pinned : goal.returns-in_default-pinned
returns-in_default-pinned g c = λ most end take.
    let serves = g.M.TurnMeaning.serves c.args.meaning.now in
    let starves = g.met.M.TurnMeaning.starves c.args.meaning.now c.args.walk.now.last
    c.args.datagram.now c.requires in
    subst (λ l. FailsAt serves most end c.args.walk.now (Got c.args.datagram.now ∷ l) 1)
    (sym c.in-Some.ensures.cases.0)
    (inl (pin_bad serves most end (g.met.M.TurnMeaning.own c.args.meaning.now) c.args.walk.now
    c.args.datagram.now take starves c.in-Some.first.now c.in-Some.behind.now
    (λ serial marks served is low so. c.in_default-pinned.ensures serial is)))

pub returns-then-serial-walk : goal.returns-then-serial-walk
returns-then-serial-walk g c = λ most end take.
    let serves = g.M.TurnMeaning.serves c.args.meaning.now in
    let starves = g.met.M.TurnMeaning.starves c.args.meaning.now c.args.walk.now.last
    c.args.datagram.now c.requires in
    subst (λ l. FailsAt serves most end c.args.walk.now (Got c.args.datagram.now ∷ l) 1)
    (sym c.in-Some.ensures.cases.0)
    (inl (pin_bad serves most end (g.met.M.TurnMeaning.own c.args.meaning.now) c.args.walk.now
    c.args.datagram.now take starves c.in-Some.first.now c.in-Some.behind.now
    (λ serial marks served is low so.
    let same = pin_same c.in-Some-pinned.serial serial (sym c.in-Some-pinned.ensures ∙ is) in
    absurd (omega (arith, low, same, c.if-serial-walk.true)))))

pub returns-then-count-serial : goal.returns-then-count-serial
returns-then-count-serial g c = λ most end take.
    let serves = g.M.TurnMeaning.serves c.args.meaning.now in
    let starves = g.met.M.TurnMeaning.starves c.args.meaning.now c.args.walk.now.last
    c.args.datagram.now c.requires in
    subst (λ l. FailsAt serves most end c.args.walk.now (Got c.args.datagram.now ∷ l) 1)
    (sym c.in-Some.ensures.cases.0)
    (inl (pin_bad serves most end (g.met.M.TurnMeaning.own c.args.meaning.now) c.args.walk.now
    c.args.datagram.now take starves c.in-Some.first.now c.in-Some.behind.now
    (λ serial marks served is low so.
    let same = pin_same c.in-Some-pinned.serial serial (sym c.in-Some-pinned.ensures ∙ is) in
    let within = g.met.M.TurnMeaning.within c.args.meaning.now serial c.args.datagram.now marks
    served so in
    absurd (omega (arith, within, same, c.if-count-serial.true, c.count.ensures)))))

pub returns : goal.returns
returns g c = λ most end take.
    let serves = g.M.TurnMeaning.serves c.args.meaning.now in
    subst (λ l. TurnsSo serves most end c.args.walk.now c.args.datagram.now l c.in_ok-step.step)
    (sym (c.in-Some.ensures.cases.0
    ∙ ap (λ m. m ∷ c.in-Some.behind.now) c.in-Some-pinned.ensures))
    (pins_turn serves most end (g.met.M.TurnMeaning.own c.args.meaning.now) c.args.walk.now
    c.args.datagram.now c.in-Some-pinned.serial c.in-Some.behind.now c.in_ok-step.step
    c.if-serial-walk.false c.in_ok-step.ensures take)
