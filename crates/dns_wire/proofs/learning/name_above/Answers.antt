use Rattle.std.proofs.Common.{◌≡◌, ◌++◌, ◌-◌, ℕ, List, length, take, drop, slice_range, ap, ◌∙◌, arith}
use Rattle.dns_wire.proofs.Joining.{behind_none, known_above}
use Rattle.dns_wire.proofs.Reading.{if_read}
use Rattle.dns_wire.proofs.learning.name_above.Goals as goal

pub returns-then-start-end : goal.returns-then-start-end
returns-then-start-end c =
    let sequence = c.in-Some.ensures.found in
    let far = c.in-Some-target_at.ensures in
    let start = c.args.start in
    let bytes = c.args.bytes.now in
    let none : length (slice_range bytes start c.in-Some.end) ≡ 0 = ap (λ (n : ℕ). length (take n (drop start bytes))) (let zero : c.in-Some.end - start ≡ 0 = omega (arith, c.if-start-end.true) in zero) in
    known_above c.if-bytes-start.false sequence far.found far.low far.less c.if-target-below.false c.requires.here (behind_none (slice_range bytes start c.in-Some.end) c.args.name none, c.wire_len.ensures.proper)

pub returns : goal.returns
returns c =
    let sequence = c.in-Some.ensures.found in
    let far = c.in-Some-target_at.ensures in
    if_read c.joined.result
    (λ whole is. known_above c.if-bytes-start.false sequence far.found far.low far.less c.if-target-below.false c.requires.here (is.0 ∙ ap (λ (l : List (List ℕ)). l ++ c.args.name) c.in_ok-front.ensures, is.1))
    c.joined.ensures
