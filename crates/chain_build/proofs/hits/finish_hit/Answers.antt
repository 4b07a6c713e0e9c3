use Rattle.std.proofs.Common.{ap, ◌∙◌}
use Rattle.chain_meaning.specs.Serving.{reply_message}
use Rattle.chain_build.specs.Giving.{hit_entry}
use Rattle.chain_build.proofs.Givings.{replied_hit}
use Rattle.chain_build.proofs.hits.finish_hit.Goals as goal

pub returns-in-Ok : goal.returns-in-Ok
returns-in-Ok c =
    let hit = c.args.hit in
    replied_hit hit.plan.now (hit_entry hit) hit.moment c.upper_code.ensures c.opt_reply-opt.ensures (ap (λ r. r.query) c.take_reply-free.ensures.rest ∙ c.requires.asked) c.limit_of-limit.ensures.value
    c.deref-entry.ensures (c.kept_message-parts.ensures.message ∙ ap (reply_message c.args.beside.id c.args.beside.class c.opt_reply-opt.result c.take_reply-free.new.self.query) c.answer_of.ensures) c.ttl_of-ttl.ensures.value c.in-Ok.ensures
