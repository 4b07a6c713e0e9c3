use Rattle.std.proofs.Common.{◌≡◌, ◌++◌, ℕ, List, length, take, drop, ap, ◌∙◌, rules}
use Rattle.dns_write.specs.Written.{Draft}
use Rattle.dns_write.proofs.Ending.{headed}
use Rattle.dns_write.proofs.writer.Writer.into_message.Goals as goal

pub returns : goal.returns
returns c =
    let out = c.self.inside.out.items in
    let end = c.self.inside.end in
    let size : length c.args.header.now ≡ 12 = (search rules) in
    let view : drop 12 (take end out) ≡ c.args.self.bytes = ap (λ (d : Draft). d.bytes) c.self.view_is in
    c.front.ensures ∙ headed out c.overwrite.new.out.items c.args.header.now end size c.self.invariant.0 c.overwrite.ensures ∙ ap (λ (t : List ℕ). c.args.header.now ++ t) view
