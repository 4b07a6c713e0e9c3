use Rattle.std.proofs.Common.{option_map, IfSome, subst}
use Rattle.pattern.specs.Searches.{IsPartOf}
use Rattle.template_plugin.specs.Made.{spans_by}
use Rattle.template_plugin.proofs.filling.put_group.Goals as goal

pub part-requires : goal.part-requires
part-requires c =
    subst (λ g. IfSome (spans_by (option_map (λ s. s.now) g) c.args.filling.now.name.now c.args.number) (IsPartOf c.args.filling.now.name.now))
    c.in-Some.is (c.requires.parts c.args.number)
