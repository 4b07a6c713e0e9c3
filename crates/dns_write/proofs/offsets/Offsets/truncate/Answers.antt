use Rattle.std.proofs.Common.{◌≡◌, ◌≤◌, ◌-◌, min, ℕ, List, ◌++◌, length, take, map, ap, ◌∙◌, arith}
use Rattle.dns_names.specs.Name.{labels_of}
use Rattle.dns_write.specs.Written.{OffsetData}
use Rattle.dns_write.specs.Offsets.{offset_of, suffixes_at}
use Rattle.dns_write.proofs.FirstName.{length-suffixes}
use Rattle.dns_write.proofs.Searching.{Stored, truncated_near, truncated_far, truncated_behind}
use Rattle.dns_write.proofs.offsets.Offsets.truncate.Goals as goal

pub returns-then-behind-near : goal.returns-then-behind-near
returns-then-behind-near c =
    let i = c.self.inside in
    let k = c.min-self-inside.result in
    let count = c.args.count in
    let front = suffixes_at 12 (labels_of i.first.now) in
    let behind = map offset_of (take i.count i.near ++ i.far.items) in
    let is : k ≡ min i.kept count = c.min-self-inside.ensures in
    let few : i.kept ≤ length front = omega (arith, length-suffixes 12 (labels_of i.first.now), c.self.invariant.few) in
    let part : map offset_of (take (count - k) i.near ++ c.clear.new.self.items) ≡ take (count - k) behind =
    ap (λ (far : List Stored). map offset_of (take (count - k) i.near ++ far)) c.clear.ensures.items
    ∙ truncated_near (count - k) i.count i.near i.far.items c.if-behind-near.true (omega (arith, c.self.invariant.inside, c.self.invariant.long)) in
    (λ j. take (is j) front ++ part j) ∙ truncated_behind front behind count i.kept (count - k) few (ap (λ (n : ℕ). count - n) is)
    ∙ ap (λ (ps : List OffsetData). take count ps) c.self.view_is

pub returns-else-behind-near : goal.returns-else-behind-near
returns-else-behind-near c =
    let i = c.self.inside in
    let k = c.min-self-inside.result in
    let count = c.args.count in
    let front = suffixes_at 12 (labels_of i.first.now) in
    let behind = map offset_of (take i.count i.near ++ i.far.items) in
    let is : k ≡ min i.kept count = c.min-self-inside.ensures in
    let few : i.kept ≤ length front = omega (arith, length-suffixes 12 (labels_of i.first.now), c.self.invariant.few) in
    let part : map offset_of (take i.count i.near ++ c.truncate.new.self.items) ≡ take (count - k) behind =
    ap (λ (far : List Stored). map offset_of (take i.count i.near ++ far)) c.truncate.ensures.items
    ∙ truncated_far (count - k) i.count i.near i.far.items (omega (arith, c.if-behind-near.false)) (omega (arith, c.self.invariant.inside, c.self.invariant.long)) in
    (λ j. take (is j) front ++ part j) ∙ truncated_behind front behind count i.kept (count - k) few (ap (λ (n : ℕ). count - n) is)
    ∙ ap (λ (ps : List OffsetData). take count ps) c.self.view_is
