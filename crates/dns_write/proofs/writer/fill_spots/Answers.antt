use Rattle.std.proofs.Common.{◌≡◌, ◌+◌, ◌++◌, false, length, take, drop, get_or, refl, sym, ap, ◌∙◌, arith, length-append, length-drop}
use Rattle.std.proofs.lemmas.List.{drop_all, length-take-le}
use Rattle.dns_write.specs.declared.layout.Spot.{Spot}
use Rattle.dns_write.specs.Tails.{leads_to, patched, pointer_bytes}
use Rattle.dns_write.proofs.Patching.{spot_inside, patch_next}
use Rattle.dns_write.proofs.writer.fill_spots.Goals as goal

pub loop-spot-init : goal.loop-spot-init
loop-spot-init c = record { inside = omega (arith, c.requires.inside); left = refl }

pub target_of-at-requires-clause-near : goal.target_of-at-requires-clause-near
target_of-at-requires-clause-near c =
    let s = spot_inside c.args.size c.args.spots.now c.loop-spot.spot-index (record { at = 0; behind = 0; in_anchor = false }) c.requires.spots c.loop-spot-test.true in
    omega (arith, s.behind, c.requires.near)

pub overwrite-requires : goal.overwrite-requires
overwrite-requires c =
    let s = spot_inside c.args.size c.args.spots.now c.loop-spot.spot-index (record { at = 0; behind = 0; in_anchor = false }) c.requires.spots c.loop-spot-test.true in
    omega (arith, s.at, c.loop-spot.invariant.inside)

pub loop-spot-preserved : goal.loop-spot-preserved
loop-spot-preserved c =
    let none : Spot = record { at = 0; behind = 0; in_anchor = false } in
    let i = c.loop-spot.spot-index in
    let s = get_or c.args.spots.now i none in
    let out = c.loop-spot.out.items in
    let inside = spot_inside c.args.size c.args.spots.now i none c.requires.spots c.loop-spot-test.true in
    let at = c.args.tail + s.at in
    let new : c.overwrite.new.out.items ≡ take at out ++ (pointer_bytes (leads_to c.args.anchor c.args.tail s) ++ drop (at + 2) out) =
    c.overwrite.ensures ∙ ap (λ n. take at out ++ (pointer_bytes n ++ drop (at + 2) out)) c.target_of-at.ensures.value in
    let long : length c.overwrite.new.out.items ≡ length out =
    ap length new ∙ omega (arith, inside.at, c.loop-spot.invariant.inside, length-take-le at out (omega (arith, inside.at, c.loop-spot.invariant.inside)), length-append (take at out) (pointer_bytes (leads_to c.args.anchor c.args.tail s) ++ drop (at + 2) out), length-drop (at + 2) out) in
    record {
      inside = omega (arith, long, c.loop-spot.invariant.inside);
      left = ap (patched c.args.anchor c.args.tail (drop (i + 1) c.args.spots.now)) new ∙ patch_next c.args.anchor c.args.tail c.args.spots.now i none out c.loop-spot-test.true ∙ c.loop-spot.invariant.left;
    }

pub returns : goal.returns
returns c = ap (λ ss. patched c.args.anchor c.args.tail ss c.loop-spot.out.items) (sym (drop_all c.loop-spot.spot-index c.args.spots.now c.loop-spot-test.false)) ∙ c.loop-spot.invariant.left
