use Rattle.std.proofs.Common.{◌≡◌, ◌++◌, List, length, take, ap, ◌∙◌, arith}
use Rattle.outside.specs.declared.datagram.Upstream.{Upstream}
use Rattle.forward_plugin.specs.declared.numbered.Numbered.{Numbered}
use Rattle.forward_plugin.specs.Forward.{numbered}
use Rattle.forward_plugin.specs.Options.{ForwardData}
use Rattle.forward_plugin.proofs.Rings.{half_ring, length_numbered}
use Rattle.forward_plugin.proofs.plan.ForwardPlan.numbered.Goals as goal

pub slice_bounds-result-end : goal.slice_bounds-result-end
slice_bounds-result-end c =
    let same = ap (λ (p : ForwardData). p.upstreams) c.self.view_is in
    let us = c.args.self.now.upstreams in
    let ring : c.self.inside.ring ≡ numbered us ++ numbered us = c.self.invariant.ring ∙ ap (λ (us : List Upstream). numbered us ++ numbered us) same in
    let count = c.len-count.ensures ∙ ap (λ (us : List Upstream). length us) same in
    let part : take c.len-count.result c.as_slice.result.now ≡ numbered us =
    ap (λ n. take n c.as_slice.result.now) count ∙ ap (λ (l : List Numbered). take (length us) l) c.as_slice.ensures ∙ half_ring us c.self.inside.ring ring in
    let long = ap (λ (l : List Numbered). length l) part in
    let number = length_numbered 0 us in
    omega (arith, count, long, number)

pub returns : goal.returns
returns c =
    let same = ap (λ (p : ForwardData). p.upstreams) c.self.view_is in
    let ring : c.self.inside.ring ≡ numbered c.args.self.now.upstreams ++ numbered c.args.self.now.upstreams =
    c.self.invariant.ring ∙ ap (λ (us : List Upstream). numbered us ++ numbered us) same in
    ap (λ n. take n c.as_slice.result.now) (c.len-count.ensures ∙ ap (λ (us : List Upstream). length us) same)
    ∙ ap (λ (l : List Numbered). take (length c.args.self.now.upstreams) l) c.as_slice.ensures
    ∙ half_ring c.args.self.now.upstreams c.self.inside.ring ring
