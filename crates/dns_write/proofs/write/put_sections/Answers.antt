use Rattle.std.proofs.Common.{◌≡◌, ℕ, ◌<◌, ◌≤◌, ◌++◌, rules, subst, sym, ap, take, length, arith}
use Rattle.dns_data.specs.Message.{MessageData}
use Rattle.dns_write.specs.Assembled.{message_of}
use Rattle.dns_write.specs.Putting.{Sectioned}
use Rattle.dns_write.specs.Tails.{Knows, PutsAll}
use Rattle.dns_write.specs.Timed.{message_timed, all_timed}
use Rattle.dns_write.proofs.Timing.{length_timed, some_of}
use Rattle.dns_write.proofs.Truncating.{answer_truncated, authority_truncated, additional_truncated, as_kept, same_end, still_knows, tail_put}
use Rattle.dns_write.proofs.write.put_sections.Goals as goal

pub returns-then-answer-parts : goal.returns-then-answer-parts
returns-then-answer-parts g c =
    let f = g.T.Ttls.ttl_of c.args.times.now in
    let m = message_timed f (message_of c.args.parts.now) in
    let low : c.in_ok-answer.answer < length c.args.parts.now.answer.now = search rules in
    as_kept (answer_truncated m (search rules) (omega (arith, low, length_timed f c.args.parts.now.answer.now)))

pub put_tail-requires-clause-known : goal.put_tail-requires-clause-known
put_tail-requires-clause-known g c =
    let m = message_timed (g.T.Ttls.ttl_of c.args.times.now) (message_of c.args.parts.now) in
    subst (Knows c.args.parts.now.name.now) (sym c.in_ok-answer.ensures.text) (still_knows c.args.parts.now.name.now c.args.writer.now (take c.in_ok-answer.answer m.answer) c.requires.known)

pub returns-then-put_tail : goal.returns-then-put_tail
returns-then-put_tail g c =
    let f = g.T.Ttls.ttl_of c.args.times.now in
    let m = message_timed f (message_of c.args.parts.now) in
    let same : m ≡ message_of c.args.parts.now = (some_of _ _ c.requires.tail (c.put_tail.ensures.some (search rules))).1.1 in
    let whole : length c.args.parts.now.answer.now ≤ c.in_ok-answer.answer = search rules in
    let put = c.put_tail.ensures.put (search rules) in
    let all = tail_put {mid = c.put_records.new.writer} m c.in_ok-answer.ensures (omega (arith, whole, length_timed f c.args.parts.now.answer.now))
    (subst (λ (n : MessageData). PutsAll c.put_records.new.writer c.put_tail.new.writer (n.authority ++ n.additional) c.args.room) (sym same) put) in
    let b = length_timed f c.args.parts.now.authority.now in
    let d = length_timed f c.args.parts.now.additional.now in
    subst (λ (k : ℕ × ℕ). Sectioned c.args.writer.now c.put_tail.new.writer m c.args.room (record { answer = c.in_ok-answer.answer; authority = k.0; additional = k.1 })) (λ i. (b i, d i)) all

pub returns-then-authority-parts : goal.returns-then-authority-parts
returns-then-authority-parts g c =
    let f = g.T.Ttls.ttl_of c.args.times.now in
    let m = message_timed f (message_of c.args.parts.now) in
    let first = same_end c.in_ok-answer.ensures (c.put_tail.ensures.none c.if-put_tail.false) in
    let whole : length c.args.parts.now.answer.now ≤ c.in_ok-answer.answer = search rules in
    let low : c.in_ok-authority.authority < length c.args.parts.now.authority.now = search rules in
    as_kept (authority_truncated {mid = c.put_tail.new.writer} m first (omega (arith, whole, length_timed f c.args.parts.now.answer.now))
    c.in_ok-authority.ensures (omega (arith, low, length_timed f c.args.parts.now.authority.now)))

pub returns : goal.returns
returns g c =
    let f = g.T.Ttls.ttl_of c.args.times.now in
    let m = message_timed f (message_of c.args.parts.now) in
    let first = same_end c.in_ok-answer.ensures (c.put_tail.ensures.none c.if-put_tail.false) in
    let whole : length c.args.parts.now.answer.now ≤ c.in_ok-answer.answer = search rules in
    let full : length c.args.parts.now.authority.now ≤ c.in_ok-authority.authority = search rules in
    as_kept (additional_truncated {mid = c.put_tail.new.writer} {end = c.put_records-2.new.writer} m first
    (omega (arith, whole, length_timed f c.args.parts.now.answer.now)) c.in_ok-authority.ensures
    (omega (arith, full, length_timed f c.args.parts.now.authority.now)) c.in_ok-additional.ensures)
