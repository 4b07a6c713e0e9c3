use Rattle.std.proofs.Common.{◌≡◌, Some, ap, rules, ◌∙◌}
use Rattle.chain_meaning.specs.Serving.{answer_in}
use Rattle.chain_build.specs.Replying.{whole_answer}
use Rattle.chain_build.specs.Walking.{decision_of}
use Rattle.chain_build.proofs.Served.{replied}
use Rattle.chain_build.proofs.serving.finish.Goals as goal

pub returns-in-Ok : goal.returns-in-Ok
returns-in-Ok c =
    let v = decision_of c.args.ended c.args.room.now.front.walk.plugins.slot in
    let says : answer_in v ≡ Some (whole_answer c.args.ended c.settle.new.slot) = search rules in
    replied c.args.ended c.upper_code.ensures c.opt_reply-opt.ensures (ap (λ r. r.query) c.take_reply-free.ensures.rest ∙ c.requires.asked) (ap (λ r. r.front.walk.plugins.slot) c.take_reply-free.ensures.rest)
    c.limit_of-limit.ensures.value c.reply_message-parts.ensures.message says c.in-Ok.ensures
