use Rattle.std.proofs.Common.{◌≡◌, ◌++◌, List, None, take, map, refl, sym, ap, ◌∙◌}
use Rattle.dns_names.specs.Name.{labels_of}
use Rattle.dns_write.specs.Written.{OffsetData, earliest}
use Rattle.dns_write.specs.Offsets.{offset_of, suffixes_at}
use Rattle.dns_write.proofs.Searching.{Stored, none_left, first_of_all, earliest_of_all}
use Rattle.dns_write.proofs.offsets.Offsets.find.Goals as goal

pub returns-in-Some-clause-value : goal.returns-in-Some-clause-value
returns-in-Some-clause-value c =
    let s = labels_of c.args.suffix.now in
    let behind = map offset_of (take c.self.inside.count c.self.inside.near ++ c.self.inside.far.items) in
    sym (first_of_all c.self.inside.kept (suffixes_at 12 (labels_of c.self.inside.first.now)) behind s c.in-Some.at (sym c.in-Some.ensures.value)) ∙ ap (λ (ps : List OffsetData). earliest ps s) c.self.view_is

pub returns-in-Some-find_among-clause-value : goal.returns-in-Some-find_among-clause-value
returns-in-Some-find_among-clause-value c =
    let s = labels_of c.args.suffix.now in
    earliest_of_all _ _ c.self.inside.far.items s c.in_default.ensures.value c.in-Some-find_among.ensures.value refl ∙ ap (λ (ps : List OffsetData). earliest ps s) c.self.view_is

pub returns-then-self-lt-NEAR-clause-value : goal.returns-then-self-lt-NEAR-clause-value
returns-then-self-lt-NEAR-clause-value c =
    let s = labels_of c.args.suffix.now in
    let none : None ≡ earliest (map offset_of c.self.inside.far.items) s = sym (none_left s) ∙ ap (λ (ps : List Stored). earliest (map offset_of ps) s) (sym (c.self.invariant.none_far c.if-self-lt-NEAR.true)) in
    earliest_of_all _ _ c.self.inside.far.items s c.in_default.ensures.value c.in_default-find_among.ensures.value none ∙ ap (λ (ps : List OffsetData). earliest ps s) c.self.view_is

pub returns-clause-value : goal.returns-clause-value
returns-clause-value c =
    let s = labels_of c.args.suffix.now in
    let far : c.find_far.result ≡ earliest (map offset_of c.self.inside.far.items) s = c.find_far.ensures.value ∙ ap (λ (ps : List Stored). earliest (map offset_of ps) s) c.deref.ensures.value in
    earliest_of_all _ _ c.self.inside.far.items s c.in_default.ensures.value c.in_default-find_among.ensures.value far ∙ ap (λ (ps : List OffsetData). earliest ps s) c.self.view_is
