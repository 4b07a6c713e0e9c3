-- The published generations are served so behind each publication.
use Rattle.std.proofs.Common.{◌≡◌, ◌<◌, ℕ, suc, ◌+◌, List, [], ◌∷◌, ◌++◌, map, length, refl, sym, ap, ◌∙◌, subst, arith}
use Rattle.std.specs.List.{All}
use Rattle.std.proofs.lemmas.List.Elements.{All-cons, All-head, All-nil, All-push}
use Rattle.chain_build.specs.declared.chain.Chain.{Chain}
use Rattle.chain_build.specs.declared.naming.Generation.{Generation}
use Rattle.chain_build.specs.declared.naming.Naming.{Naming}
use Rattle.chain_build.specs.{ArePlans, PlansData, plans_of}
use Rattle.chain_build.specs.History.{FollowOn, no_generation}
use Rattle.chain_build.specs.Naming.{Change, GenerationData, IsNone, IsOfPlans, NamesPlans, generation_by, generation_data, plans_generation}
use Rattle.plugin_api.specs.{Sayings, Takings}
use Rattle.plugin_api.specs.declared.extra.Extra as extra
use Rattle.plugin_api.specs.declared.rulebook.Rulebook as rulebook
use Rattle.reload_watch.specs.Filled.{EndsWith}
use Rattle.reload_watch.specs.Named.{AreBy, AreNamed, HaveCaches, NamesOn}

-- the last of these generations, or the one before
abbrev last_of : GenerationData → List PlansData → GenerationData
last_of before [] = before
last_of before (plans ∷ generations) = last_of (plans_generation plans) generations

on-push : (before : GenerationData) (serial : ℕ) (generations : List PlansData) (next : PlansData) → FollowOn before serial (map plans_generation generations) → NamesOn (last_of before generations) (serial + length generations) next
    → FollowOn before serial (map plans_generation (generations ++ next ∷ []))
on-push before serial [] next are names =
    let same : serial + 0 ≡ serial = omega arith in
    (subst (λ (n : ℕ). NamesOn before n next) same names, tt)
on-push before serial (plans ∷ generations) next are names =
    let same : serial + suc (length generations) ≡ serial + 1 + length generations = omega arith in
    (are.0, on-push (plans_generation plans) (serial + 1) generations next are.1 (subst (λ (n : ℕ). NamesOn (last_of (plans_generation plans) generations) n next) same names))

-- what a generation of plans has
pub of_plans : (plans : PlansData) (g : Generation) → IsOfPlans plans g → generation_data g ≡ plans_generation plans
of_plans plans g of = λ i. generation_by (of.files i) (of.blocks i) (of.chains i)

pub of_none : (g : Generation) → IsNone g → generation_data g ≡ no_generation
of_none g none = λ i. generation_by (none.files i) (none.blocks i) (none.chains i)

-- plans whose blocks were named behind a generation
pub names_on : (naming : Naming) (c : Change) (next : PlansData) (before : GenerationData) (serial : ℕ) → generation_data naming.before ≡ before → naming.serial ≡ serial → NamesPlans naming c next → NamesOn before serial next
names_on naming c next before serial same serial_is names = subst (λ (n : ℕ). NamesOn before n next) serial_is (subst (λ (g : GenerationData). NamesOn g naming.serial next) same names.reads.names)

-- and whose blocks have their caches
pub have_caches : (taken : Takings) (said : Sayings) (naming : Naming) (c : Change) (next : PlansData) → ArePlans taken said next → NamesPlans naming c next → HaveCaches taken said next
have_caches taken said naming c next are names = record { are = are; named = names.has; made = names.reads.made }

module _ {B E : Type 0} {bk : rulebook.Ghosts B} {ex : extra.Ghosts E} where
  by-push : (generations : List PlansData) (filled : List (List (Chain B E bk ex))) (next : PlansData) (chains : List (Chain B E bk ex)) → AreBy generations filled → All (λ chain. plans_of chain ≡ next) chains → AreBy (generations ++ next ∷ []) (filled ++ chains ∷ [])
  by-push [] [] next chains by all = (all, tt)
  by-push [] (cs ∷ filled) next chains by all = absurd by
  by-push (plans ∷ generations) [] next chains by all = absurd by
  by-push (plans ∷ generations) (cs ∷ filled) next chains by all = (by.0, by-push generations filled next chains by.1 all)

  pub by_long : (generations : List PlansData) (filled : List (List (Chain B E bk ex))) → AreBy generations filled → length generations ≡ length filled
  by_long [] [] by = refl
  by_long [] (cs ∷ filled) by = absurd by
  by_long (plans ∷ generations) [] by = absurd by
  by_long (plans ∷ generations) (cs ∷ filled) by = ap suc (by_long generations filled by.1)

  one_plans : (plans current : PlansData) (chains : List (Chain B E bk ex)) → 0 < length chains → All (λ chain. plans_of chain ≡ plans) chains → All (λ chain. plans_of chain ≡ current) chains → plans ≡ current
  one_plans plans current [] some one other = absurd (omega (arith, some))
  one_plans plans current (c ∷ cs) some one other =
      sym (All-head (λ (x : Chain B E bk ex). plans_of x ≡ plans) c cs one) ∙ All-head (λ (x : Chain B E bk ex). plans_of x ≡ current) c cs other

  -- the last generation is of the plans of the last chains
  by_last : (before : GenerationData) (generations : List PlansData) (earlier : List (List (Chain B E bk ex))) (chains : List (Chain B E bk ex)) (current : PlansData) → 0 < length chains → AreBy generations (earlier ++ chains ∷ []) → All (λ chain. plans_of chain ≡ current) chains
      → last_of before generations ≡ plans_generation current
  by_last before [] [] chains current some by all = absurd by
  by_last before (plans ∷ []) [] chains current some by all = ap (λ (p : PlansData). plans_generation p) (one_plans plans current chains some by.0 all)
  by_last before (plans ∷ other ∷ generations) [] chains current some by all = absurd by.1
  by_last before [] (cs ∷ earlier) chains current some by all = absurd by
  by_last before (plans ∷ generations) (cs ∷ earlier) chains current some by all = by_last (plans_generation plans) generations earlier chains current some by.1 all

  -- one generation more
  pub named-push : (filled : List (List (Chain B E bk ex))) (current next : PlansData) (chains : List (Chain B E bk ex)) (serial : ℕ) → AreNamed filled → (ends : EndsWith filled current) → 0 < length ends.chains → length filled ≡ serial → NamesOn (plans_generation current) serial next → HaveCaches bk.taken bk.said next → All (λ chain. plans_of chain ≡ next) chains
      → AreNamed (filled ++ chains ∷ [])
  named-push filled current next chains serial are ends some long names have all =
      let last = by_last no_generation are.generations ends.earlier ends.chains current some (subst (AreBy are.generations) ends.last_is are.by) ends.serve in
      let at : serial ≡ 0 + length are.generations = sym long ∙ sym (by_long are.generations filled are.by) ∙ omega arith in
      record {
        generations = are.generations ++ next ∷ [];
        by = by-push are.generations filled next chains are.by all;
        have = All-push (HaveCaches bk.taken bk.said) are.generations next are.have have;
        names = on-push no_generation 0 are.generations next are.names (subst (λ (n : ℕ). NamesOn (last_of no_generation are.generations) n next) at (subst (λ (g : GenerationData). NamesOn g serial next) (sym last) names));
      }

  -- the first one
  pub named_first : (next : PlansData) (chains : List (Chain B E bk ex)) → NamesOn no_generation 0 next → HaveCaches bk.taken bk.said next → All (λ chain. plans_of chain ≡ next) chains → AreNamed (chains ∷ [])
  named_first next chains names have all =
      record { generations = next ∷ []; by = (all, tt); have = All-cons (HaveCaches bk.taken bk.said) next [] have (All-nil (HaveCaches bk.taken bk.said)); names = (names, tt) }
