use Rattle.std.proofs.Common.{sym, subst, ◌∙◌, ◌∷◌}
use Rattle.std.proofs.lemmas.Bool.{false≢true}
use Rattle.std.proofs.lemmas.List.{nil_from_length}
use Rattle.audit_run.specs.declared.walk.Tail.TheVariants as tail
use Rattle.audit_run.specs.Walking.{EndsTurn}
use Rattle.audit_run.proofs.Tails.{no_reply_bad, none_early, reply_bad, sent_ends}
use Rattle.audit_run.proofs.walking.tail_of.Goals as goal

pub returns-in_default : goal.returns-in_default
returns-in_default c =
    subst (λ l. EndsTurn c.args.reply.now c.args.serial l (tail.Fails 0))
    (sym (nil_from_length c.args.marks.now c.in_default.ensures.cases))
    (none_early c.args.reply.now c.args.serial)

pub returns-in_default-reply : goal.returns-in_default-reply
returns-in_default-reply c =
    subst (λ l. EndsTurn c.args.reply.now c.args.serial l (tail.Fails 0))
    (sym c.in-Some.ensures.cases.0)
    (subst (λ o. EndsTurn o c.args.serial (c.in-Some.first.now ∷ c.in-Some.rest.now) (tail.Fails 0))
    (sym c.in_default-reply.is)
    (no_reply_bad c.args.serial c.in-Some.first.now c.in-Some.rest.now
    (λ e. false≢true (sym c.if-is_unpinned.false ∙ c.is_unpinned.ensures.1 e))))

pub returns-then-not-is_sent : goal.returns-then-not-is_sent
returns-then-not-is_sent c =
    subst (λ l. EndsTurn c.args.reply.now c.args.serial l (tail.Fails 0))
    (sym c.in-Some.ensures.cases.0)
    (subst (λ o. EndsTurn o c.args.serial (c.in-Some.first.now ∷ c.in-Some.rest.now) (tail.Fails 0))
    (sym c.in-Some-reply.is)
    (reply_bad c.args.serial c.in-Some.first.now c.in-Some.rest.now c.in-Some-reply.reply
    (λ e. false≢true (sym c.if-is_unpinned.false ∙ c.is_unpinned.ensures.1 e))
    (λ e. false≢true (sym c.if-not-is_sent.true ∙ c.is_sent.ensures.1 e))))

pub returns : goal.returns
returns c =
    let sent = c.is_sent.ensures.0 c.if-not-is_sent.false in
    subst (λ l. EndsTurn c.args.reply.now c.args.serial l c.sent_tail.result)
    (sym c.in-Some.ensures.cases.0)
    (subst (λ o. EndsTurn o c.args.serial (c.in-Some.first.now ∷ c.in-Some.rest.now)
    c.sent_tail.result) (sym c.in-Some-reply.is)
    (sent_ends c.args.serial c.in-Some.first.now c.in-Some.rest.now c.in-Some-reply.reply sent.0
    sent.1 c.sent_tail.result c.sent_tail.ensures))
