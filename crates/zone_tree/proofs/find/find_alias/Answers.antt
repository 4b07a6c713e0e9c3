use Rattle.std.proofs.Common.{◌++◌, ◌∙◌, ap, refl, take}
use Rattle.std.specs.List.{filter}
use Rattle.std.proofs.lemmas.List.{length-take-le}
use Rattle.zone_tree.specs.Sets.{is_kind, picked}
use Rattle.zone_tree.proofs.Filling.{alias_tells}
use Rattle.zone_tree.proofs.find.find_alias.Goals as goal

pub returns : goal.returns
returns c =
    let set = filter (is_kind 5) (picked c.args.records.now c.args.set.now) in
    let copied = c.in_ok-copy_kind.ensures.ok ∙ ap (λ rs. rs ++ set) c.truncate.ensures in
    alias_tells set _ (take c.args.from c.args.out.now) c.copy_kind.new.out c.args.from (length-take-le c.args.from c.args.out.now c.requires) refl copied c.in_ok-target.ensures
