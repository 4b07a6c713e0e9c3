use Rattle.std.proofs.Common.{◌≡◌, ◌++◌, ℕ, List, [], take, map, length, ap, ◌∙◌, arith}
use Rattle.std.proofs.lemmas.List.{append-nil}
use Rattle.dns_names.specs.Name.{labels_of}
use Rattle.dns_names.specs.NameLaws.{is_wire, view_of}
use Rattle.dns_write.specs.Offsets.{offset_of, suffixes_at}
use Rattle.dns_write.proofs.FirstName.{all_suffixes}
use Rattle.dns_write.proofs.Searching.{nothing_behind}
use Rattle.dns_write.proofs.offsets.Offsets.set_first.Goals as goal

pub invariant_of-self : goal.invariant_of-self
invariant_of-self c =
    let name = c.as_wire-self-inside in
    let view = view_of name.result.now c.args.name.now name.ensures.value in
    let i = c.self.invariant in
    record {
      wire = is_wire name.result.now c.args.name.now name.ensures.value name.ensures.proper;
      few = omega (arith, c.label_count-self-inside.ensures, ap length view);
      inside = i.inside;
      long = i.long;
      none_far = i.none_far;
      near_are = i.near_are;
      far_are = i.far_are;
    }

pub returns : goal.returns
returns c =
    let name = c.as_wire-self-inside in
    let view = view_of name.result.now c.args.name.now name.ensures.value in
    let count = c.label_count-self-inside.result in
    let behind = map offset_of (take c.self.inside.count c.self.inside.near ++ c.self.inside.far.items) in
    let front = take c.self.inside.kept (suffixes_at 12 (labels_of c.self.inside.first.now)) in
    let nothing : behind ≡ [] = nothing_behind front behind (c.self.view_is ∙ c.requires) in
    let all : take count (suffixes_at 12 (labels_of name.result.now)) ≡ suffixes_at 12 c.args.name.now =
    ap (λ (ls : List (List ℕ)). take count (suffixes_at 12 ls)) view ∙ all_suffixes count 12 c.args.name.now c.label_count-self-inside.ensures in
    (λ i. all i ++ nothing i) ∙ append-nil (suffixes_at 12 c.args.name.now)
