use Rattle.std.proofs.Common.{◌≡◌, ℕ, ◌+◌, length, take, drop, sym, ap, ◌∙◌, arith, rules}
use Rattle.dns_write.specs.Written.{Draft, put}
use Rattle.dns_write.proofs.Ending.{put_there}
use Rattle.dns_write.proofs.writer.Writer.put_few.Goals as goal

pub returns : goal.returns
returns c = λ d.
    let out = d.self.inside.out.items in
    let end = d.self.inside.end in
    let size : length d.args.bytes ≡ c.row.N = (search rules) in
    let there : drop 12 (take (end + c.row.N) d.overwrite.new.out.items) ≡ drop 12 (take (end + length d.args.bytes) d.overwrite.new.out.items) =
    ap (λ (n : ℕ). drop 12 (take (end + n) d.overwrite.new.out.items)) (sym size) in
    let bytes = there ∙ put_there out d.overwrite.new.out.items d.args.bytes end d.self.invariant.0 (omega (arith, size, d.len.ensures, d.self.invariant.1, d.if-len-self.false)) d.overwrite.ensures in
    (λ i. record { bytes = bytes i; offsets = d.self.inside.offsets }) ∙ ap (λ (e : Draft). put e d.args.bytes) d.self.view_is
