use Rattle.std.proofs.Common.{◌≡◌, ◌≤◌, ◌++◌, List, ℕ, ap, subst, sym, ◌∙◌, arith}
use Rattle.dns_write.specs.Written.{Draft, empty, size, put_question, header, truncated, opt_bytes, IsLongest}
use Rattle.dns_write.specs.Assembled.{message_of}
use Rattle.dns_write.specs.Putting.{total}
use Rattle.dns_write.specs.Timed.{message_timed}
use Rattle.dns_write.proofs.Timing.{behind_timed, header_timed, last_timed, taken_timed}
use Rattle.dns_write.specs.Tails.{Knows}
use Rattle.dns_write.proofs.Lending.{question_known}
use Rattle.dns_write.proofs.RespeltMessage.{Fits, fits_truncated, longest_spelt, whole_spelt}
use Rattle.dns_write.proofs.Compressing.{all_compressed}
use Rattle.dns_write.proofs.Truncating.{is_longest, is_written, few, question_most}
use Rattle.dns_write.proofs.write.write_behind.Goals as goal

pub put_sections-requires-clause-fits : goal.put_sections-requires-clause-fits
put_sections-requires-clause-fits g c =
    let q = (message_of c.args.parts.now).question in
    let text : c.put_question.new.writer ≡ put_question empty q = c.in_ok-put_question.ensures.text ∙ ap (λ (d : Draft). put_question d q) c.over-writer.ensures in
    omega (arith, ap (λ (d : Draft). size d) text, question_most empty q c.in_ok-put_question.ensures.fits.name, c.requires.limit.0, c.room_for_records-room_for_records.ensures.most)

pub put_sections-requires-clause-known : goal.put_sections-requires-clause-known
put_sections-requires-clause-known g c =
    let q = (message_of c.args.parts.now).question in
    let text : c.put_question.new.writer ≡ put_question empty q = c.in_ok-put_question.ensures.text ∙ ap (λ (d : Draft). put_question d q) c.over-writer.ensures in
    subst (Knows q.name) (sym text) (question_known q c.in_ok-put_question.ensures.fits.name)

pub header_bytes-requires-clause-few : goal.header_bytes-requires-clause-few
header_bytes-requires-clause-few g c =
    let small : c.room_for_records-room_for_records.result ≤ 65535 = omega (arith, c.requires.limit.1, c.room_for_records-room_for_records.ensures.sum) in
    omega (arith, few c.in_ok-kept.ensures.kept small)

pub header_bytes-requires-clause-answer : goal.header_bytes-requires-clause-answer
header_bytes-requires-clause-answer g c =
    let f = g.T.Ttls.ttl_of c.args.times.now in
    let m = message_of c.args.parts.now in
    c.in_ok-kept.ensures.kept.answer ∙ taken_timed f (total c.in_ok-kept.kept) m.answer

pub header_bytes-requires-clause-authority : goal.header_bytes-requires-clause-authority
header_bytes-requires-clause-authority g c =
    let f = g.T.Ttls.ttl_of c.args.times.now in
    let m = message_of c.args.parts.now in
    c.in_ok-kept.ensures.kept.authority ∙ behind_timed f (total c.in_ok-kept.kept) m.answer m.authority

pub header_bytes-requires-clause-additional : goal.header_bytes-requires-clause-additional
header_bytes-requires-clause-additional g c =
    let f = g.T.Ttls.ttl_of c.args.times.now in
    c.in_ok-kept.ensures.kept.additional ∙ last_timed f (message_of c.args.parts.now) (total c.in_ok-kept.kept)

pub returns : goal.returns
unfolding is_longest
returns g c =
    let f = g.T.Ttls.ttl_of c.args.times.now in
    let own = message_of c.args.parts.now in
    let m = message_timed f own in
    let n = total c.in_ok-kept.kept in
    let text : c.put_question.new.writer ≡ put_question empty m.question = c.in_ok-put_question.ensures.text ∙ ap (λ (d : Draft). put_question d m.question) c.over-writer.ensures in
    let kept = c.in_ok-kept.ensures in
    let head = c.header_bytes.ensures.text ∙ sym (header_timed f own n) in
    let whole : c.into_message.result ≡ header (truncated m n) ++ (kept.end.bytes ++ opt_bytes m.opt) =
    c.into_message.ensures ∙ (λ i. head i ++ (c.in_ok-put_opt.ensures.text i).bytes)
    ∙ ap (λ (t : List ℕ). header (truncated m n) ++ (t ++ opt_bytes m.opt)) kept.bytes in
    let longest = is_longest {k = c.in_ok-kept.kept} c.into_message.result kept.kept text c.room_for_records-room_for_records.ensures.sum whole in
    let small : c.room_for_records-room_for_records.result ≤ 65535 = omega (arith, c.requires.limit.1, c.room_for_records-room_for_records.ensures.sum) in
    let fits = fits_truncated m n c.header_bytes.ensures.fits c.requires.codes c.in_ok-put_question.ensures.fits c.in_ok-put_opt.ensures.fits kept.kept.all.proper (omega (arith, few kept.kept small)) in
    record {
      text = is_written longest;
      longest = longest;
      spelt = longest_spelt longest fits;
      whole = λ inside. whole_spelt longest fits inside;
      compressed = all_compressed;
    }
