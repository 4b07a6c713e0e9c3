use Rattle.std.proofs.Common.{rules}
use Rattle.std.proofs.lemmas.List.Sorted.{answers_always, IsNonDecreasingBy-from_sort}
use Rattle.zone_tree.proofs.Sorting.{type_at, by_type_from_sort}
use Rattle.zone_tree.proofs.sets.sort_by_type.Goals as goal

pub returns : goal.returns
returns c =
    let keys = answers_always _ _ _ (λ f a r next called. search rules) in
    let stable = c.sort_by_key.ensures.stable type_at keys in
    by_type_from_sort _ _ (IsNonDecreasingBy-from_sort type_at _ (c.in_ok-sort_by_key.ensures.sorted type_at keys)) stable
