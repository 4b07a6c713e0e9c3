use Rattle.std.proofs.Common.{◌≡◌, List, ◌∷◌, map, true, sym, ap, ◌∙◌, subst}
use Rattle.lent_caches.specs.declared.uses.HeldCache.{HeldCache}
use Rattle.lent_caches.specs.Names.{same_name}
use Rattle.lent_caches.specs.Held.{AreApart, CanLend, HeldData, held_data, lent_one, lent_to}
use Rattle.lent_caches.specs.ApartLaws.{first_changes}
use Rattle.lent_caches.specs.LendingLaws.{can_first, if_ok}
use Rattle.lent_caches.proofs.held.+lend_at.Goals as goal

pub lend-requires : goal.lend-requires
lend-requires t c =
    let is : c.args.held.now ≡ c.in-Some.first.now ∷ c.in-Some.rest.now = c.in-Some.ensures.cases.0 in
    can_first c.args.name (held_data c.in-Some.first.now) (map held_data c.in-Some.rest.now)
    (subst (λ (l : List HeldCache). AreApart (map held_data l)) is c.requires.apart)
    (subst (λ (l : List HeldCache). CanLend c.args.name (map held_data l)) is c.requires.can)
    (sym c.is_same.ensures ∙ c.if-is_same.true)

pub returns-then-is_same-clause-lent : goal.returns-then-is_same-clause-lent
returns-then-is_same-clause-lent t c =
    let is : c.args.held.now ≡ c.in-Some.first.now ∷ c.in-Some.rest.now = c.in-Some.ensures.cases.0 in
    let same : same_name c.in-Some.first.now.name c.args.name ≡ true = sym c.is_same.ensures ∙ c.if-is_same.true in
    let tail = map held_data c.in-Some.rest.now in
    let first : lent_one c.args.name (held_data c.in-Some.first.now ∷ tail) ≡ lent_to (held_data c.in-Some.first.now) ∷ tail =
    first_changes c.args.name lent_to (held_data c.in-Some.first.now) tail (subst (λ (l : List HeldCache). AreApart (map held_data l)) is c.requires.apart) same in
    if_ok c.lend.result (λ u. held_data c.lend.new.self ≡ lent_to (held_data c.in-Some.first.now)) (λ u. ◌≡◌ {A = List HeldData} (held_data c.lend.new.self ∷ tail) (lent_one c.args.name (map held_data c.args.held.now)))
    (λ u e. ap (λ (x : HeldData). x ∷ tail) e ∙ (sym first ∙ ap (λ (l : List HeldCache). lent_one c.args.name (map held_data l)) (sym is)))
    c.lend.ensures.held
