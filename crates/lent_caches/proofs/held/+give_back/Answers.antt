use Rattle.std.proofs.Common.{◌≡◌, List, ◌∷◌, map, true, sym, ap, ◌∙◌, subst}
use Rattle.lent_caches.specs.declared.uses.HeldCache.{HeldCache}
use Rattle.lent_caches.specs.Names.{same_name}
use Rattle.lent_caches.specs.Held.{AreApart, HeldData, IsHeldAs, given_back, held_data, lent_data, with_log}
use Rattle.lent_caches.specs.ApartLaws.{first_changes, held_cache}
use Rattle.lent_caches.proofs.held.+give_back.Goals as goal

pub take-requires : goal.take-requires
take-requires t c =
    let u = lent_data c.args.lent in
    let is : c.args.held.now ≡ c.in-Some.first.now ∷ c.in-Some.rest.now = c.in-Some.ensures.cases.0 in
    held_cache u (held_data c.in-Some.first.now) (map held_data c.in-Some.rest.now)
    (subst (λ (l : List HeldCache). AreApart (map held_data l)) is c.requires.apart)
    (subst (λ (l : List HeldCache). IsHeldAs u (map held_data l)) is c.requires.held)
    (sym c.is_same.ensures ∙ c.if-is_same.true)

pub returns-then-is_same : goal.returns-then-is_same
returns-then-is_same t c =
    let u = lent_data c.args.lent in
    let is : c.args.held.now ≡ c.in-Some.first.now ∷ c.in-Some.rest.now = c.in-Some.ensures.cases.0 in
    let same : same_name c.in-Some.first.now.name u.name ≡ true = sym c.is_same.ensures ∙ c.if-is_same.true in
    let first : given_back u (held_data c.in-Some.first.now ∷ map held_data c.in-Some.rest.now) ≡ with_log u (held_data c.in-Some.first.now) ∷ map held_data c.in-Some.rest.now =
    first_changes u.name (with_log u) (held_data c.in-Some.first.now) (map held_data c.in-Some.rest.now) (subst (λ (l : List HeldCache). AreApart (map held_data l)) is c.requires.apart) same in
    ap (λ (x : HeldData). x ∷ map held_data c.in-Some.rest.now) c.take.ensures ∙ (sym first ∙ ap (λ (l : List HeldCache). given_back u (map held_data l)) (sym is))
