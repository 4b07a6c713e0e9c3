-- Reading the directives of a block one by one.
use Rattle.std.proofs.Common.{◌≡◌, ℕ, ◌+◌, ◌<◌, ◌≤◌, List, [], ◌∷◌, ◌++◌, length, take, drop, get_or, Option, None, Some, Err, refl, sym, ap, subst, ◌∙◌, arith}
use Rattle.std.proofs.lemmas.List.{drop_all, drop_more, take_more}
use Rattle.dns_data.specs.declared.block.Block.{Block}
use Rattle.dns_data.specs.declared.directive.Directive.{Directive}
use Rattle.dns_data.specs.declared.file.FileText.{FileText}
use Rattle.pattern_judging.specs.{IsFault, IsWell, Task}
use Rattle.pattern_judging.specs.Tasks.{Carries}
use Rattle.pattern_judging.specs.TasksLaws.{carries-on, well-plain}
use Rattle.plugin_api.specs.{rank_of}
use Rattle.plugin_api.specs.declared.ranks.Rank.{Rank}
use Rattle.plugin_api.specs.declared.ranks.Rank.TheVariants as rank
use Rattle.chain_meaning.specs.Accepting.{Behind, behind_one, block_task, directive_task, directives_task, rank_patterns, told}
use Rattle.chain_meaning.specs.AcceptingLaws.{directive-refused, directives-on}
use Rattle.chain_meaning.specs.Steps.{Context, context_of}
use Rattle.chain_meaning.specs.Grounds.{Brought}
use Rattle.chain_meaning.specs.declared.refusal.Refusal.{Refusal}
use Rattle.chain_build.specs.declared.fault.CheckFault.{CheckFault}
use Rattle.chain_build.specs.declared.fault.CheckFault.TheVariants as fault
use Rattle.chain_build.specs.declared.places.Places.{Places}
use Rattle.chain_build.specs.Places.{ReadsBlock, ReadsMore, behind_in, no_places, placed, placed_by}
use Rattle.chain_build.specs.PlacesLaws.{placed-push}

one_more : (all : List Directive) (i : ℕ) (d : Directive) → i < length all → d ≡ get_or all i d → take (i + 1) all ≡ take i all ++ d ∷ []
one_more all i d inside is = take_more all i d inside ∙ ap (λ (x : Directive). take i all ++ x ∷ []) (sym is)

one_left : (all : List Directive) (i : ℕ) (d : Directive) → i < length all → d ≡ get_or all i d → drop i all ≡ d ∷ drop (i + 1) all
one_left all i d inside is = drop_more all i d inside ∙ ap (λ (x : Directive). x ∷ drop (i + 1) all) (sym is)

-- how many patterns stand behind a directive
counted : (r : Option Rank) (c : Context) (d : Directive) (p : Places) → (placed_by r c d p).patterns ≡ p.patterns + length (rank_patterns r d)
counted None c d p = omega arith
counted (Some rank.Rewrite) c d p = omega arith
counted (Some rank.Template) c d p = omega arith
counted (Some other) c d p = omega arith

module _ (brought : Brought) (context own : Context) (all : List Directive) (i : ℕ) (d : Directive) (old new : Places) (same : own ≡ context) (inside : i < length all) (is : d ≡ get_or all i d) where
  task_here : directive_task brought (behind_in own (take i all) old) d ≡ directive_task brought (behind_in context (take i all) old) d
  task_here = ap (λ (c : Context). directive_task brought (behind_in c (take i all) old) d) same

  -- a directive that is refused is the refusal of those that are left
  pub refused_here : (last : Option (List ℕ)) (why : Refusal) → IsFault told (directive_task brought (behind_in own (take i all) old) d) last why
      → IsFault told (directives_task brought (behind_in context (take i all) old) (drop i all)) last why
  refused_here last why h =
      subst (λ ds. IsFault told (directives_task brought (behind_in context (take i all) old) ds) last why) (sym (one_left all i d inside is))
      (directive-refused brought (behind_in context (take i all) old) d (drop (i + 1) all) last why (subst (λ t. IsFault told t last why) task_here h))

  module _ (now : new ≡ placed_by (rank_of d.name) own d old) where
    behind_here : behind_one (behind_in context (take i all) old) d ≡ behind_in context (take (i + 1) all) new
    behind_here = λ j. record {
      patterns = (sym (counted (rank_of d.name) own d old) ∙ ap (λ (p : Places). p.patterns) (sym now)) j;
      before = sym (one_more all i d inside is) j;
      context = context;
    }

    rest_here : Carries told (directives_task brought (behind_one (behind_in context (take i all) old) d) (drop (i + 1) all)) (directives_task brought (behind_in context (take i all) old) (d ∷ drop (i + 1) all))
        → Carries told (directives_task brought (behind_in context (take (i + 1) all) new) (drop (i + 1) all)) (directives_task brought (behind_in context (take i all) old) (drop i all))
    rest_here h = subst (λ b. Carries told (directives_task brought b (drop (i + 1) all)) (directives_task brought (behind_in context (take i all) old) (drop i all))) behind_here
        (subst (λ ds. Carries told (directives_task brought (behind_one (behind_in context (take i all) old) d) (drop (i + 1) all)) (directives_task brought (behind_in context (take i all) old) ds)) (sym (one_left all i d inside is)) h)

    -- behind one that isn't refused, what becomes of the others becomes of all
    pub carried_on : (whole : Task Refusal) → IsWell (directive_task brought (behind_in own (take i all) old) d) → Carries told (directives_task brought (behind_in context (take i all) old) (drop i all)) whole
        → Carries told (directives_task brought (behind_in context (take (i + 1) all) new) (drop (i + 1) all)) whole
    carried_on whole w on =
        carries-on told (directives_task brought (behind_in context (take (i + 1) all) new) (drop (i + 1) all)) (directives_task brought (behind_in context (take i all) old) (drop i all)) whole
        (rest_here (directives-on brought (behind_in context (take i all) old) d (drop (i + 1) all) (subst IsWell task_here w))) on

    -- and it is put in its place
    pub placed_on : (n : ℕ) → old ≡ placed context (take i all) (no_places n) → new ≡ placed context (take (i + 1) all) (no_places n)
    placed_on n was =
        now ∙ (λ j. placed_by (rank_of d.name) (same j) d (was j)) ∙ sym (placed-push context (take i all) d (no_places n)) ∙ ap (λ (ds : List Directive). placed context ds (no_places n)) (sym (one_more all i d inside is))

-- no directive is left
pub none_left : (brought : Brought) (b : Behind) (all : List Directive) (i : ℕ) → length all ≤ i → IsWell (directives_task brought b (drop i all))
none_left brought b all i h = subst (λ ds. IsWell (directives_task brought b ds)) (sym (drop_all i all h)) (well-plain (directives_task brought b []) refl (λ judgement. refl))

-- a fault of a directive is one of its block
pub block_err : (brought : Brought) (patterns : ℕ) (files : List FileText) (block : Block) (own : Context) (all : List Directive) (i : ℕ) (d : Directive) (old new : Places) (last : Option (List ℕ)) (e : CheckFault) → own ≡ context_of files block
    → i < length all → d ≡ get_or all i d → Carries told (directives_task brought (behind_in (context_of files block) (take i all) old) (drop i all)) (block_task brought patterns files block)
    → (P : Type 0) → ReadsMore (directive_task brought (behind_in own (take i all) old) d) P last (Err e) → ReadsBlock brought patterns files block last (Err e)
block_err brought patterns files block own all i d old new last (fault.Refused why) same inside is on P h =
    on.refused last why (refused_here brought (context_of files block) own all i d old new same inside is last why h)
block_err brought patterns files block own all i d old new last fault.NoMemory same inside is on P h = tt
