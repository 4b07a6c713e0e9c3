use Rattle.std.proofs.Common.{◌≡◌, ℕ, List, IfOk, subst, ◌∙◌}
use Rattle.forward_plugin.specs.Forward.{ask_bytes, judge, most_more, take_ask}
use Rattle.plain_marks.specs.Meant.{IsDone, Means}
use Rattle.plain_marks.specs.MeantLaws.{followed-by}
use Rattle.plain_marks.proofs.asking.asked.Goals as goal

pub returns-in-Done : goal.returns-in-Done
returns-in-Done c =
    let q = c.args.passed.now.query.now in
    let marks = c.args.marks.now in
    let left = c.in-Done.left.now in
    let same : c.as_slice.result.now ≡ ask_bytes c.args.word q = c.as_slice.ensures ∙ c.in_ok-message.ensures.text in
    let sent : IsDone (take_ask c.args.upstream.now.upstream c.args.passed.now.by c.as_slice.result.now) marks c.in-Done.outcome left
    = subst (Means (take_ask c.args.upstream.now.upstream c.args.passed.now.by c.as_slice.result.now) marks) c.in-Done.is c.in_ok-outcome.ensures in
    let done : IsDone (take_ask c.args.upstream.now.upstream c.args.passed.now.by (ask_bytes c.args.word q)) marks c.in-Done.outcome left
    = subst (λ (m : List ℕ). IsDone (take_ask c.args.upstream.now.upstream c.args.passed.now.by m) marks c.in-Done.outcome left) same sent in
    let judged : IfOk c.judge.result (Means (judge (most_more c.args.passed.now.by) c.args.word q c.in-Done.outcome) left)
    = subst (λ (n : ℕ). IfOk c.judge.result (Means (judge n c.args.word q c.in-Done.outcome) left)) c.most_more.ensures c.judge.ensures in
    followed-by (take_ask c.args.upstream.now.upstream c.args.passed.now.by (ask_bytes c.args.word q)) (judge (most_more c.args.passed.now.by) c.args.word q) marks left c.in-Done.outcome c.judge.result done judged
