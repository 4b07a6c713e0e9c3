use Rattle.std.proofs.Common.{◌≡◌, ◌++◌, length, take, map, ap, arith, length-append}
use Rattle.std.proofs.lemmas.List.{length-take-le, length-map}
use Rattle.dns_names.specs.Name.{labels_of}
use Rattle.dns_write.specs.Offsets.{offset_of, suffixes_at}
use Rattle.dns_write.proofs.FirstName.{few_labels, length-suffixes}
use Rattle.dns_write.proofs.offsets.Offsets.len.Goals as goal

pub overflow_add-result : goal.overflow_add-result
overflow_add-result c = omega (arith, few_labels c.self.inside.first.now c.self.invariant.wire, c.self.invariant.few, c.self.invariant.inside)

pub overflow_add-result-2 : goal.overflow_add-result-2
overflow_add-result-2 c = omega (arith, few_labels c.self.inside.first.now c.self.invariant.wire, c.self.invariant.few, c.self.invariant.inside, c.len.ensures, c.self.inside.far.small)

pub returns : goal.returns
returns c =
    let i = c.self.inside in
    let front = suffixes_at 12 (labels_of i.first.now) in
    let near = take i.count i.near in
    let kept : length (take i.kept front) ≡ i.kept = length-take-le i.kept front (omega (arith, length-suffixes 12 (labels_of i.first.now), c.self.invariant.few)) in
    let count : length near ≡ i.count = length-take-le i.count i.near (omega (arith, c.self.invariant.inside, c.self.invariant.long)) in
    omega (arith, kept, count, length-append (take i.kept front) (map offset_of (near ++ i.far.items)), length-map (near ++ i.far.items) offset_of, length-append near i.far.items, c.len.ensures, ap length c.self.view_is)
