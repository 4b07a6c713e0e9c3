use Rattle.std.proofs.Common.{◌∙◌, sym, ap}
use Rattle.outside.specs.Meanings.{onward}
use Rattle.forward_plugin.specs.Forward.{ask_bytes, judge, most_more, take_ask, take_word, try_of}
use Rattle.forward_plugin.proofs.CallLaws.{behind, fails, renamed, starved}
use Rattle.forward_plugin.proofs.Judging.{try_answer-err, judge-nothing, sent, try_as}
use Rattle.forward_plugin.proofs.rounds.try_of.Goals as goal

pub returns-in_err-id : goal.returns-in_err-id
returns-in_err-id g c =
    renamed _ (try_of c.args.to.now c.args.round.now.by c.args.round.now.query.now) (try_as _ _ _)
    (fails take_word (λ word left. onward (take_ask c.args.to.now c.args.round.now.by (ask_bytes word c.args.round.now.query.now) left) (judge (most_more c.args.round.now.by) word c.args.round.now.query.now))
    (try_answer-err _ _ c.from_residual.ensures.0) c.in_err-id.ensures (λ word. tt))

pub returns-in_err-message : goal.returns-in_err-message
returns-in_err-message g c =
    renamed _ (try_of c.args.to.now c.args.round.now.by c.args.round.now.query.now) (try_as _ _ _)
    (behind take_word (λ word left. onward (take_ask c.args.to.now c.args.round.now.by (ask_bytes word c.args.round.now.query.now) left) (judge (most_more c.args.round.now.by) word c.args.round.now.query.now)) c.in_ok-id.ensures
    (starved _ (try_answer-err _ _ c.from_residual-in_err-message.ensures.0) (tt)))

pub returns-in_err-outcome : goal.returns-in_err-outcome
returns-in_err-outcome g c =
    renamed _ (try_of c.args.to.now c.args.round.now.by c.args.round.now.query.now) (try_as _ _ _)
    (behind take_word (λ word left. onward (take_ask c.args.to.now c.args.round.now.by (ask_bytes word c.args.round.now.query.now) left) (judge (most_more c.args.round.now.by) word c.args.round.now.query.now)) c.in_ok-id.ensures
    (fails (take_ask c.args.to.now c.args.round.now.by (ask_bytes c.in_ok-id.id c.args.round.now.query.now)) (judge (most_more c.args.round.now.by) c.in_ok-id.id c.args.round.now.query.now) (try_answer-err _ _ c.from_residual-in_err-outcome.ensures.0)
    (renamed _ (take_ask c.args.to.now c.args.round.now.by (ask_bytes c.in_ok-id.id c.args.round.now.query.now)) (sent c.args.to.now c.args.round.now.by (c.as_slice.ensures ∙ c.in_ok-message.ensures.text)) c.in_err-outcome.ensures)
    (λ came. judge-nothing _ _ _ came)))

pub returns : goal.returns
returns g c =
    renamed _ (try_of c.args.to.now c.args.round.now.by c.args.round.now.query.now) (try_as _ _ _)
    (behind take_word (λ word left. onward (take_ask c.args.to.now c.args.round.now.by (ask_bytes word c.args.round.now.query.now) left) (judge (most_more c.args.round.now.by) word c.args.round.now.query.now)) c.in_ok-id.ensures
    (behind (take_ask c.args.to.now c.args.round.now.by (ask_bytes c.in_ok-id.id c.args.round.now.query.now)) (judge (most_more c.args.round.now.by) c.in_ok-id.id c.args.round.now.query.now)
    (renamed _ (take_ask c.args.to.now c.args.round.now.by (ask_bytes c.in_ok-id.id c.args.round.now.query.now)) (sent c.args.to.now c.args.round.now.by (c.as_slice.ensures ∙ c.in_ok-message.ensures.text)) c.in_ok-outcome.ensures)
    (renamed _ (judge (most_more c.args.round.now.by) c.in_ok-id.id c.args.round.now.query.now c.in_ok-outcome.outcome)
    (λ marks. ap (λ most. judge most c.in_ok-id.id c.args.round.now.query.now c.in_ok-outcome.outcome marks) (sym c.most_more.ensures)) c.judge.ensures)))
