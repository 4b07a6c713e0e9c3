use Rattle.std.proofs.Common.{◌≡◌, ◌≤◌, ◌-◌, length, take, drop, ap, ◌∙◌, arith, length-drop}
use Rattle.std.proofs.lemmas.List.{length-take-le}
use Rattle.dns_write.specs.Written.{Draft, size}
use Rattle.dns_write.proofs.Ending.{taken_off}
use Rattle.dns_write.proofs.writer.Writer.back_to.Goals as goal

pub returns : goal.returns
returns c =
    let out = c.self.inside.out.items in
    let end = c.self.inside.end in
    let mark = c.args.mark in
    let room : end ≤ length out = omega (arith, c.self.invariant.1) in
    let view : drop 12 (take end out) ≡ c.args.self.now.bytes = ap (λ (d : Draft). d.bytes) c.self.view_is in
    let whole : end ≡ size c.args.self.now = omega (arith, c.self.invariant, length-drop 12 (take end out), length-take-le end out room, ap length view) in
    let bytes : drop 12 (take mark.bytes out) ≡ take (mark.bytes - 12) c.args.self.now.bytes =
    taken_off out end mark.bytes c.requires.header (omega (arith, whole, c.requires.inside)) ∙ ap (take (mark.bytes - 12)) view in
    let offsets : c.truncate.new.self ≡ take mark.offsets c.args.self.now.offsets = c.truncate.ensures ∙ ap (λ (d : Draft). take mark.offsets d.offsets) c.self.view_is in
    λ i. record { bytes = bytes i; offsets = offsets i }
