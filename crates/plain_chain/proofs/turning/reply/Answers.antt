use Rattle.std.proofs.Common.{◌≡◌, ◌∙◌, inr, sym, subst, rules}
use Rattle.chain_meaning.specs.Serving.{Replies, query_decides}
use Rattle.chain_meaning.specs.Steps.{steps_of}
use Rattle.chain_meaning.specs.declared.decision.Decision.TheVariants as decision
use Rattle.plain_marks.specs.Meant.{Means}
use Rattle.plain_chain.proofs.Turned.{decides-so, stops-at, wants-more}
use Rattle.plain_chain.proofs.turning.reply.Goals as goal

pub returns-in-More : goal.returns-in-More
returns-in-More c said =
    let read = c.args.read.now in
    let a = c.args.asked in
    let steps = steps_of said read.files.now in
    let q = c.query_of-query.result in
    let without = sym c.asks_extra.ensures ∙ c.if-asks_extra.false in
    wants-more steps read.blocks c.args.datagram.now a c.args.marks.now q c.query_of-query.ensures c.requires.asks without
    (subst (Means (query_decides a.opt a.question.class steps read.blocks q) c.args.marks.now) c.in-More.is (c.in_ok-decision.ensures said))

pub returns-in-Off : goal.returns-in-Off
returns-in-Off c said =
    let read = c.args.read.now in
    let a = c.args.asked in
    let steps = steps_of said read.files.now in
    let q = c.query_of-query.result in
    let without = sym c.asks_extra.ensures ∙ c.if-asks_extra.false in
    stops-at steps read.blocks c.args.datagram.now a c.args.marks.now q c.query_of-query.ensures c.requires.asks without c.in-Off.left.now
    (subst (Means (query_decides a.opt a.question.class steps read.blocks q) c.args.marks.now) c.in-Off.is (c.in_ok-decision.ensures said))

pub returns-then-not-branch : goal.returns-then-not-branch
returns-then-not-branch c said =
    let read = c.args.read.now in
    let a = c.args.asked in
    let steps = steps_of said read.files.now in
    let q = c.query_of-query.result in
    let without = sym c.asks_extra.ensures ∙ c.if-asks_extra.false in
    let done = subst (Means (query_decides a.opt a.question.class steps read.blocks q) c.args.marks.now) c.in-Done.is (c.in_ok-decision.ensures said) in
    let dropped : c.in-Done.decision ≡ decision.Drop = search rules in
    inr (decides-so steps read.blocks c.args.datagram.now a c.args.marks.now q c.query_of-query.ensures c.requires.asks without (λ asked v. v ≡ decision.Drop) c.in-Done.decision c.in-Done.left.now done dropped)

pub returns : goal.returns
returns c said =
    let read = c.args.read.now in
    let a = c.args.asked in
    let d = c.args.datagram.now in
    let steps = steps_of said read.files.now in
    let q = c.query_of-query.result in
    let without = sym c.asks_extra.ensures ∙ c.if-asks_extra.false in
    let done = subst (Means (query_decides a.opt a.question.class steps read.blocks q) c.args.marks.now) c.in-Done.is (c.in_ok-decision.ensures said) in
    let replies : Replies d c.in_ok-bytes.bytes a c.in-Done.decision = search rules in
    inr (decides-so steps read.blocks d a c.args.marks.now q c.query_of-query.ensures c.requires.asks without (Replies d c.in_ok-bytes.bytes) c.in-Done.decision c.in-Done.left.now done replies)
