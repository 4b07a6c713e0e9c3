-- What is read of a block's directives is its chain.
use Rattle.std.proofs.Common.{◌≡◌, ℕ, ◌+◌, length, arith, Bool, true, false, List, [], ◌∷◌, ◌++◌, map, Option, Some, None, refl, sym, ap, ◌∙◌, append_assoc}
use Rattle.std.specs.Prelude.{◌||◌}
use Rattle.std.proofs.lemmas.List.{append-nil, length-append}
use Rattle.std.specs.List.{filter}
use Rattle.std.specs.Option.{option_or}
use Rattle.dns_data.specs.declared.block.Block.{Block}
use Rattle.dns_data.specs.declared.directive.Directive.{Directive}
use Rattle.dns_data.specs.declared.file.FileText.{FileText}
use Rattle.plugin_api.specs.{Sayings, rank_of}
use Rattle.plugin_api.specs.declared.ranks.Rank.{Rank}
use Rattle.plugin_api.specs.declared.ranks.Rank.TheVariants as rank
use Rattle.chain_meaning.specs.Accepting.{patterns_in, rank_patterns}
use Rattle.chain_meaning.specs.Steps.{Context, Step, acl_steps, any_steps, cache_plan, cache_steps, context_of, dns64_in, dns64_steps, error_steps, extra_steps, extras_of, file_plan, file_plans, forward_plan, forward_plans, has_rank, hosts_plan, hosts_plans, log_steps, plan_in, plans_of, rewrite_steps, some_has, steps_of, key_zones}
use Rattle.chain_build.specs.declared.block_chain.BackAnswerer.{BackAnswerer}
use Rattle.chain_build.specs.declared.block_chain.FrontAnswerer.{FrontAnswerer}
use Rattle.chain_build.specs.declared.block_chain.FrontStep.{FrontStep}
use Rattle.chain_build.specs.declared.places.Places.{Places}
use Rattle.block_readings.specs.Behind.{block_behind}
use Rattle.chain_build.specs.Compiled.{back_steps, back_of, front_of, head_of, inner_steps, middle_of, whole_by}
use Rattle.chain_build.specs.Places.{answers_in, back_in, front_in, middle_in, no_places, placed, placed_by}

-- what was read before, with what further directives are
abbrev with_all : Context → List Directive → Places → Places
with_all c ds p = record {
  errors = p.errors || some_has rank.Errors ds;
  logs = p.logs ++ plans_of rank.Log c.zones ds;
  dns64 = option_or p.dns64 (dns64_in ds);
  acls = p.acls ++ plans_of rank.Acl c.zones ds;
  any = p.any || some_has rank.Any ds;
  extras = p.extras ++ extras_of ds;
  cache = option_or p.cache (cache_plan c.zones ds);
  rewrites = p.rewrites ++ filter (has_rank rank.Rewrite) ds;
  templates = p.templates ++ plans_of rank.Template c.zones ds;
  hosts = p.hosts ++ hosts_plans c ds;
  files = p.files ++ file_plans c ds;
  forwards = p.forwards ++ forward_plans c ds;
  whoami = p.whoami || some_has rank.Whoami ds;
  patterns = p.patterns + length (patterns_in ds);
}

or_true : (b : Bool) → (b || true) ≡ true
or_true true = refl
or_true false = refl

or_false : (b : Bool) → (b || false) ≡ b
or_false true = refl
or_false false = refl

or_none : {A : Type 0} (o : Option A) → option_or o None ≡ o
or_none None = refl
or_none (Some plan) = refl

or_first : {A : Type 0} (o : Option A) (plan : A) (later : Option A) → option_or (option_or o (Some plan)) later ≡ option_or o (Some plan)
or_first None plan later = refl
or_first (Some first) plan later = refl

plus_none : (n : ℕ) → n + 0 ≡ n
plus_none n = omega arith

counts_on : (n : ℕ) (xs ys : List (List ℕ)) → (n + length xs) + length ys ≡ n + length (xs ++ ys)
counts_on n xs ys = omega (arith, length-append xs ys)

step : (c : Context) (d : Directive) (ds : List Directive) (p : Places) (r : Option Rank) → rank_of d.name ≡ r → with_all c ds (placed_by r c d p) ≡ with_all c (d ∷ ds) p
step c d ds p None e = rw e (ap (λ x. record (with_all c ds p) { extras = x }) (append_assoc p.extras (d ∷ []) (extras_of ds)))
step c d ds p (Some rank.Passive) e = rw e refl
step c d ds p (Some rank.Reload) e = rw e refl
step c d ds p (Some rank.Errors) e = rw e (ap (λ x. record (with_all c ds p) { errors = x }) (sym (or_true p.errors)))
step c d ds p (Some rank.Log) e = rw e (ap (λ x. record (with_all c ds p) { logs = x }) (append_assoc p.logs (plan_in c.zones d ∷ []) (plans_of rank.Log c.zones ds)))
step c d ds p (Some rank.Dns64) e = rw e (ap (λ x. record (with_all c ds p) { dns64 = x }) (or_first p.dns64 d (dns64_in ds)))
step c d ds p (Some rank.Acl) e = rw e (ap (λ x. record (with_all c ds p) { acls = x }) (append_assoc p.acls (plan_in c.zones d ∷ []) (plans_of rank.Acl c.zones ds)))
step c d ds p (Some rank.Any) e = rw e (ap (λ x. record (with_all c ds p) { any = x }) (sym (or_true p.any)))
step c d ds p (Some rank.Extra) e = rw e refl
step c d ds p (Some rank.Cache) e = rw e (ap (λ x. record (with_all c ds p) { cache = x }) (or_first p.cache (plan_in c.zones d) (cache_plan c.zones ds)))
step c d ds p (Some rank.Rewrite) e = rw e (λ i. record (with_all c ds p) {
  rewrites = append_assoc p.rewrites (d ∷ []) (filter (has_rank rank.Rewrite) ds) i;
  patterns = counts_on p.patterns (rank_patterns (Some rank.Rewrite) d) (patterns_in ds) i;
})
step c d ds p (Some rank.Template) e = rw e (λ i. record (with_all c ds p) {
  templates = append_assoc p.templates (plan_in c.zones d ∷ []) (plans_of rank.Template c.zones ds) i;
  patterns = counts_on p.patterns (rank_patterns (Some rank.Template) d) (patterns_in ds) i;
})
step c d ds p (Some rank.Hosts) e = rw e (ap (λ x. record (with_all c ds p) { hosts = x }) (append_assoc p.hosts (hosts_plan c d ∷ []) (hosts_plans c ds)))
step c d ds p (Some rank.File) e = rw e (ap (λ x. record (with_all c ds p) { files = x }) (append_assoc p.files (file_plan c d ∷ []) (file_plans c ds)))
step c d ds p (Some rank.Forward) e = rw e (ap (λ x. record (with_all c ds p) { forwards = x }) (append_assoc p.forwards (forward_plan c d ∷ []) (forward_plans c ds)))
step c d ds p (Some rank.Whoami) e = rw e (ap (λ x. record (with_all c ds p) { whoami = x }) (sym (or_true p.whoami)))

all : (c : Context) (ds : List Directive) (p : Places) → placed c ds p ≡ with_all c ds p
all c [] p = λ i. record {
  errors = sym (or_false p.errors) i;
  logs = sym (append-nil p.logs) i;
  dns64 = sym (or_none p.dns64) i;
  acls = sym (append-nil p.acls) i;
  any = sym (or_false p.any) i;
  extras = sym (append-nil p.extras) i;
  cache = sym (or_none p.cache) i;
  rewrites = sym (append-nil p.rewrites) i;
  templates = sym (append-nil p.templates) i;
  hosts = sym (append-nil p.hosts) i;
  files = sym (append-nil p.files) i;
  forwards = sym (append-nil p.forwards) i;
  whoami = sym (or_false p.whoami) i;
  patterns = sym (plus_none p.patterns) i;
}
all c (d ∷ ds) p = all c ds (placed_by (rank_of d.name) c d p) ∙ step c d ds p (rank_of d.name) refl

-- the plans of `file` that were read of directives
pub files-placed : (c : Context) (ds : List Directive) (n : ℕ) → (placed c ds (no_places n)).files ≡ file_plans c ds
files-placed c ds n = ap (λ (p : Places). p.files) (all c ds (no_places n))

-- and the directives of extras
pub extras-placed : (c : Context) (ds : List Directive) (n : ℕ) → (placed c ds (no_places n)).extras ≡ extras_of ds
extras-placed c ds n = ap (λ (p : Places). p.extras) (all c ds (no_places n))

-- how many patterns stand behind them
pub patterns-placed : (c : Context) (ds : List Directive) (n : ℕ) → (placed c ds (no_places n)).patterns ≡ n + length (patterns_in ds)
patterns-placed c ds n = ap (λ (p : Places). p.patterns) (all c ds (no_places n))

placed_more : (c : Context) (before ds : List Directive) (p : Places) → placed c (before ++ ds) p ≡ placed c ds (placed c before p)
placed_more c [] ds p = refl
placed_more c (d ∷ before) ds p = placed_more c before ds (placed_by (rank_of d.name) c d p)

-- with one directive more
pub placed-push : (c : Context) (before : List Directive) (d : Directive) (p : Places) → placed c (before ++ d ∷ []) p ≡ placed_by (rank_of d.name) c d (placed c before p)
placed-push c before d p = placed_more c before (d ∷ []) p

-- the steps of what was read of a block are its chain
pub places-steps : (said : Sayings) (files : List FileText) (block : Block) (n : ℕ) (places : Places) → places ≡ placed (context_of files block) block.directives (no_places n)
    → (front_in places ++ (dns64_steps places.dns64 ++ middle_in places)) ++ (extra_steps said places.extras ++ back_in places) ≡ steps_of said files block
unfolding steps_of
places-steps said files block n places is =
    let read = is ∙ all (context_of files block) block.directives (no_places n) in
    let zones = (context_of files block).zones in
    let ds = block.directives in
    (λ i. (ap front_in read i ++ (dns64_steps (read i).dns64 ++ ap middle_in read i)) ++ (extra_steps said (read i).extras ++ ap back_in read i))
    ∙ ap (λ (head : List Step). head ++ (extra_steps said (extras_of ds) ++ back_in (with_all (context_of files block) ds (no_places n))))
    (append_assoc (error_steps (some_has rank.Errors ds)) (log_steps (plans_of rank.Log zones ds)) (dns64_steps (dns64_in ds) ++ (acl_steps (plans_of rank.Acl zones ds) ++ any_steps (some_has rank.Any ds))))

-- and so are the compiled ones
module _ (said : Sayings) (files : List FileText) (block : Block) (n : ℕ) (places : Places) (is : places ≡ placed (context_of files block) block.directives (no_places n)) where
  pub steps-placed : (front : List FrontStep) (middle : List FrontAnswerer) (back : List BackAnswerer) → map front_of front ≡ front_in places → map middle_of middle ≡ middle_in places → map back_of back ≡ answers_in places
      → whole_by said (head_of front places.dns64 middle) places.extras (inner_steps places.cache places.rewrites back) ≡ steps_of said files block
  steps-placed front middle back f m b =
      let compiled : whole_by said (head_of front places.dns64 middle) places.extras (inner_steps places.cache places.rewrites back)
      ≡ (front_in places ++ (dns64_steps places.dns64 ++ middle_in places)) ++ (extra_steps said places.extras ++ back_in places)
      = λ i. (f i ++ (dns64_steps places.dns64 ++ m i)) ++ (extra_steps said places.extras ++ (cache_steps places.cache ++ (rewrite_steps places.rewrites ++ b i))) in
      compiled ∙ places-steps said files block n places is

-- and so are those behind its cache
module _ (files : List FileText) (block : Block) (n : ℕ) (places : Places) (is : places ≡ placed (context_of files block) block.directives (no_places n)) where
  pub behind-placed : (back : List BackAnswerer) → map back_of back ≡ answers_in places → back_steps places.rewrites back ≡ block_behind files block
  behind-placed back b =
      let read = is ∙ all (context_of files block) block.directives (no_places n) in
      (λ i. rewrite_steps places.rewrites ++ b i) ∙ (λ i. rewrite_steps (read i).rewrites ++ ap answers_in read i)

  pub cache-placed : places.cache ≡ cache_plan (key_zones block) block.directives
  cache-placed = ap (λ (p : Places). p.cache) (is ∙ all (context_of files block) block.directives (no_places n))
