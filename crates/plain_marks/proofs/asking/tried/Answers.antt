use Rattle.std.proofs.Common.{subst}
use Rattle.forward_plugin.specs.Forward.{report_means, try_of}
use Rattle.plain_marks.specs.Meant.{IsDone, Means}
use Rattle.plain_marks.specs.MeantLaws.{followed}
use Rattle.plain_marks.proofs.asking.tried.Goals as goal

pub returns-in-Done : goal.returns-in-Done
returns-in-Done c =
    let means = try_of c.args.upstream.now.upstream c.args.passed.now.by c.args.passed.now.query.now in
    let done : IsDone means c.args.marks.now c.in-Done.answer c.in-Done.left.now = subst (Means means c.args.marks.now) c.in-Done.is c.in_ok-answer.ensures in
    followed means (report_means c.args.passed.now.is_pooled c.args.upstream.now.number) c.args.marks.now c.in-Done.left.now c.in-Done.answer c.report_means.result done c.report_means.ensures
