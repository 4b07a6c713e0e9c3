use Rattle.std.proofs.Common.{◌≡◌, ◌+◌, ◌-◌, ◌++◌, List, length, take, drop, ap, ◌∙◌, arith}
use Rattle.outside.specs.declared.datagram.Upstream.{Upstream}
use Rattle.forward_plugin.specs.declared.numbered.Numbered.{Numbered}
use Rattle.forward_plugin.specs.Forward.{numbered}
use Rattle.forward_plugin.specs.Options.{ForwardData}
use Rattle.forward_plugin.proofs.Rings.{ring_long, round}
use Rattle.forward_plugin.proofs.plan.ForwardPlan.from_on.Goals as goal

pub slice_bounds-result-end : goal.slice_bounds-result-end
slice_bounds-result-end c =
    let long = ring_long c.self.inside.upstreams c.self.inside.ring c.self.invariant.ring in
    let up = ap (λ (p : ForwardData). length p.upstreams) c.self.view_is in
    let ring = ap (λ (l : List Numbered). length l) c.as_slice.ensures in
    omega (arith, long, up, ring, c.len-count.ensures, c.requires)

pub returns : goal.returns
returns c =
    let same = ap (λ (p : ForwardData). p.upstreams) c.self.view_is in
    let ring : c.self.inside.ring ≡ numbered c.args.self.now.upstreams ++ numbered c.args.self.now.upstreams =
    c.self.invariant.ring ∙ ap (λ (us : List Upstream). numbered us ++ numbered us) same in
    let count = c.len-count.ensures ∙ ap (λ (us : List Upstream). length us) same in
    ap (λ n. take (c.args.start + n - c.args.start) (drop c.args.start c.as_slice.result.now)) count
    ∙ ap (λ (l : List Numbered). take (c.args.start + length c.args.self.now.upstreams - c.args.start) (drop c.args.start l)) (c.as_slice.ensures ∙ ring)
    ∙ round c.args.self.now.upstreams c.args.start c.requires
