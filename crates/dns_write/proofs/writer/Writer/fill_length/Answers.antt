use Rattle.std.proofs.Common.{◌≡◌, ◌≤◌, ◌-◌, ◌++◌, length, take, drop, ap, ◌∙◌, arith, length-drop}
use Rattle.std.proofs.lemmas.List.{length-take-le}
use Rattle.std.specs.Int.{w16, to_be_bytes}
use Rattle.dns_write.specs.Written.{Draft, size}
use Rattle.dns_write.proofs.Ending.{fills_before}
use Rattle.dns_write.proofs.writer.Writer.fill_length.Goals as goal

pub returns : goal.returns
returns c =
    let out = c.self.inside.out.items in
    let end = c.self.inside.end in
    let at = c.args.at in
    let room : end ≤ length out = omega (arith, c.self.invariant.1) in
    let view : drop 12 (take end out) ≡ c.args.self.now.bytes = ap (λ (d : Draft). d.bytes) c.self.view_is in
    let whole : end ≡ size c.args.self.now = omega (arith, c.self.invariant, length-drop 12 (take end out), length-take-le end out room, ap length view) in
    let inside : at ≤ end = omega (arith, whole, c.requires.inside) in
    let left : end - at ≡ size c.args.self.now - at = omega (arith, whole) in
    let text : c.to_be_bytes.result ≡ to_be_bytes w16 (size c.args.self.now - at) = c.to_be_bytes.ensures ∙ ap (to_be_bytes w16) left in
    let same : drop 12 (take end c.overwrite.new.out.items) ≡ take (at - 14) (drop 12 (take end out)) ++ (c.to_be_bytes.result ++ drop (at - 12) (drop 12 (take end out))) =
    fills_before out c.overwrite.new.out.items c.to_be_bytes.result at end c.requires.behind inside room (ap length text) c.overwrite.ensures in
    let bytes : drop 12 (take end c.overwrite.new.out.items) ≡ take (at - 14) c.args.self.now.bytes ++ (to_be_bytes w16 (size c.args.self.now - at) ++ drop (at - 12) c.args.self.now.bytes) =
    same ∙ (λ i. take (at - 14) (view i) ++ (text i ++ drop (at - 12) (view i))) in
    let offsets : c.self.inside.offsets ≡ c.args.self.now.offsets = ap (λ (d : Draft). d.offsets) c.self.view_is in
    λ i. record { bytes = bytes i; offsets = offsets i }
