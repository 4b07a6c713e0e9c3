use Rattle.std.proofs.Common.{sym, ap, ◌∙◌, refl, drop}
use Rattle.zone_lookup.specs.ZoneAnswer.{target_of}
use Rattle.zone_lookup.proofs.Finding.{finds_alias, finds_set}
use Rattle.zone_lookup.proofs.store.ZoneStore.find_at.Goals as goal

pub returns-then-is_alias : goal.returns-then-is_alias
returns-then-is_alias g c =
    finds_alias _ _ _ _ _ _ (sym c.is_alias.ensures ∙ c.if-is_alias.true) refl c.in_ok-copy_set.ensures.ok (c.in_ok-target.ensures ∙ ap (λ n. target_of (drop n c.copy_set.new.out)) c.len-start.ensures)

pub returns : goal.returns
returns g c = finds_set _ _ _ _ _ _ (sym c.is_alias.ensures ∙ c.if-is_alias.false) refl refl c.in_ok-copy_set-2.ensures.ok
