use Rattle.std.proofs.Common.{◌≡◌, ◌<◌, length, get_or, List, [], ◌∷◌, ℕ, zero, suc, sym, ap, ◌∙◌, arith}
use Rattle.lent_caches.specs.declared.uses.HeldCache.{HeldCache}
use Rattle.lent_caches.specs.Held.{caches_data}
use Rattle.lent_caches.specs.ApartLaws.{one_goes, one_stays}
use Rattle.lent_caches.proofs.caches.Caches.let_go.Goals as goal

same_item : (items : List HeldCache) (at : ℕ) (h k : HeldCache) → at < length items → h ≡ get_or items at h → k ≡ get_or items at k → h ≡ k
same_item [] at h k low is other = absurd (omega (arith, low))
same_item (x ∷ items) zero h k low is other = is ∙ sym other
same_item (x ∷ items) (suc at) h k low is other = same_item items at h k (omega (arith, low)) is other

pub loop-at-preserved : goal.loop-at-preserved
loop-at-preserved c =
    let items = c.loop-at.self.held.items in
    let low : c.loop-at.at < length items = omega (arith, c.loop-at-test.true, c.len.ensures) in
    one_stays (caches_data c.args.self.now) c.loop-at.at items c.index.result.now c.loop-at.invariant low c.index.ensures c.if-index-eq0.false

pub loop-at-preserved-then-index-eq0 : goal.loop-at-preserved-then-index-eq0
loop-at-preserved-then-index-eq0 c =
    let items = c.loop-at.self.held.items in
    let low : c.loop-at.at < length items = omega (arith, c.loop-at-test.true, c.len.ensures) in
    let same = same_item items c.loop-at.at c.remove.result c.index.result.now low c.remove.ensures.value c.index.ensures in
    one_goes (caches_data c.args.self.now) c.loop-at.at items c.remove.result c.remove.new.self.items c.loop-at.invariant low c.remove.ensures.value (ap (λ (h : HeldCache). h.out) same ∙ c.if-index-eq0.true) c.settle.ensures c.remove.ensures.items
