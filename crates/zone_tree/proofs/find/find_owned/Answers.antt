use Rattle.std.proofs.Common.{sym, ap, ◌∙◌, refl, drop}
use Rattle.zone_lookup.specs.ZoneAnswer.{target_of}
use Rattle.zone_tree.specs.Sets.{picked}
use Rattle.zone_tree.proofs.Filling.{alias_finds_as, set_finds_as}
use Rattle.zone_tree.proofs.find.find_owned.Goals as goal

pub returns-then-is_alias_in : goal.returns-then-is_alias_in
returns-then-is_alias_in c =
    alias_finds_as c.args.name.now (picked c.args.records.now c.args.set.now) c.args.kind _ _ _ (sym c.is_alias_in.ensures ∙ c.if-is_alias_in.true) refl c.in_ok-copy_owned.ensures
    (c.in_ok-target.ensures ∙ ap (λ n. target_of (drop n c.copy_owned.new.out)) c.len-start.ensures)

pub returns : goal.returns
returns c = set_finds_as c.args.name.now (picked c.args.records.now c.args.set.now) c.args.kind _ _ _ (sym c.is_alias_in.ensures ∙ c.if-is_alias_in.false) c.no_target.ensures.absent c.no_target.ensures.target c.in_ok-copy_owned-2.ensures
