use Rattle.std.proofs.Common.{◌≡◌, Bool, IfOk, subst, ◌∙◌}
use Rattle.dns_data.specs.declared.message.Transport.{Transport}
use Rattle.outside.specs.Meanings.{More, onward}
use Rattle.chain_meaning.specs.Mean.{forward_answered}
use Rattle.forward_plugin.specs.Forward.{draw_means, plan_means, plan_turn, turn_means}
use Rattle.forward_plugin.specs.Options.{is_pooled}
use Rattle.plain_marks.specs.Meant.{IsDone, IsOff, Means}
use Rattle.plain_marks.specs.MeantLaws.{followed-by, meant-as, means-as, stopped, wanting}
use Rattle.plain_marks.specs.declared.meant.Meant.TheVariants as meant
use Rattle.plain_marks.proofs.Orders.{behind_draw, plan-drawn}
use Rattle.plain_marks.proofs.forwarding.plan_means.Goals as goal

pub returns-in-Done : goal.returns-in-Done
returns-in-Done c =
    let plan = c.args.plan.now in
    let q = c.args.query.now in
    let means = draw_means (is_pooled plan) in
    let next = behind_draw plan q in
    let left = c.in-Done.left.now in
    let done : IsDone means c.args.marks.now c.in-Done.drawn left = subst (λ (b : Bool). IsDone (draw_means b) c.args.marks.now c.in-Done.drawn left) c.is_pooled.ensures c.in-Done.ensures in
    let pooled : IfOk c.turn_means.result (Means (λ some. onward (turn_means c.by.result q (is_pooled plan) plan.upstreams (plan_turn plan c.in-Done.drawn) some) forward_answered) left)
    = subst (λ (b : Bool). IfOk c.turn_means.result (Means (λ some. onward (turn_means c.by.result q b plan.upstreams (plan_turn plan c.in-Done.drawn) some) forward_answered) left)) c.is_pooled-in-Done.ensures c.turn_means.ensures in
    let behind : IfOk c.turn_means.result (Means (next c.in-Done.drawn) left)
    = subst (λ (by : Transport). IfOk c.turn_means.result (Means (λ some. onward (turn_means by q (is_pooled plan) plan.upstreams (plan_turn plan c.in-Done.drawn) some) forward_answered) left)) c.by.ensures pooled in
    meant-as c.turn_means.result (λ some. onward (means some) next) (λ some. onward (plan_means plan q some) forward_answered) c.args.marks.now
    (plan-drawn plan q)
    (followed-by means next c.args.marks.now left c.in-Done.drawn c.turn_means.result done behind)

pub returns-in-More : goal.returns-in-More
returns-in-More c =
    let means = draw_means (is_pooled c.args.plan.now) in
    let more : means c.args.marks.now ≡ More = subst (λ (b : Bool). draw_means b c.args.marks.now ≡ More) c.is_pooled.ensures c.in-More.ensures in
    plan-drawn c.args.plan.now c.args.query.now c.args.marks.now ∙ wanting means (behind_draw c.args.plan.now c.args.query.now) c.args.marks.now more

pub returns-in-Off : goal.returns-in-Off
returns-in-Off c =
    let means = draw_means (is_pooled c.args.plan.now) in
    let next = behind_draw c.args.plan.now c.args.query.now in
    let off : IsOff means c.args.marks.now c.in-Off.left.now = subst (λ (b : Bool). IsOff (draw_means b) c.args.marks.now c.in-Off.left.now) c.is_pooled.ensures c.in-Off.ensures in
    means-as (λ some. onward (means some) next) (λ some. onward (plan_means c.args.plan.now c.args.query.now some) forward_answered) c.args.marks.now (meant.Off c.in-Off.left)
    (plan-drawn c.args.plan.now c.args.query.now)
    (stopped means next c.args.marks.now c.in-Off.left.now off)
