use Rattle.std.proofs.Common.{◌≡◌, ◌≤◌, ◌+◌, ◌++◌, length, take, drop, sym, ap, ◌∙◌, arith, length-append, length-drop}
use Rattle.std.proofs.lemmas.List.{length-take-le}
use Rattle.dns_write.specs.Tails.{patched}
use Rattle.dns_write.proofs.Patching.{patched_long}
use Rattle.dns_write.proofs.writer.Writer.put_filled.Goals as goal

pub invariant_of-self : goal.invariant_of-self
invariant_of-self c =
    let i = c.self.inside in
    let n = length c.args.text.now in
    let room : i.end + n ≤ length i.out.items = omega (arith, c.len.ensures, c.if-len-tail.false, c.self.invariant.1) in
    let long : length c.overwrite.new.out.items ≡ length i.out.items =
    ap length c.overwrite.ensures ∙ omega (arith, room, length-take-le i.end i.out.items (omega (arith, room)), length-append (take i.end i.out.items) (c.args.text.now ++ drop (i.end + n) i.out.items), length-append c.args.text.now (drop (i.end + n) i.out.items), length-drop (i.end + n) i.out.items) in
    let filled : length c.fill_spots.new.out.items ≡ length i.out.items =
    ap length c.fill_spots.ensures ∙ patched_long c.args.anchor i.end n c.args.spots.now c.overwrite.new.out.items c.requires.spots (omega (arith, long, room)) ∙ long in
    (omega (arith, c.self.invariant.0), omega (arith, filled, room))

pub returns-clause-filled : goal.returns-clause-filled
returns-clause-filled c = λ done.
    let i = c.self.inside in
    let out = i.out.items in
    let n = length c.args.text.now in
    let room : i.end ≤ length out = omega (arith, c.self.invariant.1) in
    let bytes : drop 12 (take i.end out) ≡ c.args.self.now.bytes = ap (λ d. d.bytes) c.self.view_is in
    let front : i.end ≡ 12 + length c.args.self.now.bytes = omega (arith, c.self.invariant.0, length-drop 12 (take i.end out), length-take-le i.end out room, ap length bytes) in
    record {
      front = take i.end out;
      behind = drop (i.end + n) out;
      begins = omega (arith, front, length-take-le i.end out room);
      bytes = sym bytes;
      filled = ap (λ t. drop 12 (take (i.end + n) t)) (c.fill_spots.ensures ∙ ap (patched c.args.anchor i.end c.args.spots.now) c.overwrite.ensures)
          ∙ ap (λ e. drop 12 (take (e + n) (patched c.args.anchor e c.args.spots.now (take i.end out ++ (c.args.text.now ++ drop (i.end + n) out))))) front;
    }
