-- Each step of a block's chain has a name.
use Rattle.std.proofs.Common.{◌≡◌, ◌∙◌, ℕ, ◌+◌, Bool, true, false, ◌||◌, if◌then◌else◌, List, [], ◌∷◌}
use Rattle.std.proofs.Common.{◌++◌, map, length, take, Option, Some, refl, sym, ap}
use Rattle.std.proofs.lemmas.List.{length-append, length-map}
use Rattle.std.specs.Prelude.{find, option_map}
use Rattle.std.specs.List.{filter, list_any}
use Rattle.dns_data.specs.declared.block.Block.{Block}
use Rattle.dns_data.specs.declared.directive.Directive.{Directive}
use Rattle.dns_data.specs.declared.file.FileText.{FileText}
use Rattle.file_plugin.specs.{FileData}
use Rattle.forward_plugin.specs.{ForwardData}
use Rattle.plugin_api.specs.{PlanData, Sayings}
use Rattle.plugin_api.specs.declared.ranks.Rank.{Rank}
use Rattle.plugin_api.specs.declared.ranks.Rank.TheVariants as rank
use Rattle.chain_meaning.specs.Steps.{Step, Errors, Answers, Any, Whoami, Log}
use Rattle.chain_meaning.specs.Steps.{acl_steps, any_steps, back_steps, block_extras, cache_plan}
use Rattle.chain_meaning.specs.Steps.{cache_steps, context_of, dns64_in, dns64_steps, error_steps}
use Rattle.chain_meaning.specs.Steps.{extra_step, extra_steps, extras_of, file_plan, file_plans}
use Rattle.chain_meaning.specs.Steps.{file_steps, forward_plan, forward_plans, forward_steps}
use Rattle.chain_meaning.specs.Steps.{front_steps, has_rank, hosts_plan, hosts_plans, hosts_step}
use Rattle.chain_meaning.specs.Steps.{hosts_steps, key_zones, log_steps, plan_in, plans_of}
use Rattle.chain_meaning.specs.Steps.{rewrite_steps, some_has, steps_of, template_steps}
use Rattle.chain_meaning.specs.Steps.{whoami_steps, Context}
use Rattle.chain_trail.specs.Names.{all_names, back_names, first_name, front_names, name_by}
use Rattle.chain_trail.specs.Names.{step_names}

-- as many as the first item of a list
abbrev ones : {A : Type 0} → List A → ℕ
ones xs = length (take 1 xs)

ones_map : {A B : Type 0} (f : A → B) (xs : List A) → ones (map f xs) ≡ ones xs
ones_map f [] = refl
ones_map f (x ∷ xs) = refl

acl_ones : (xs : List PlanData) → length (acl_steps xs) ≡ ones xs
acl_ones [] = refl
acl_ones (x ∷ xs) = refl

rewrite_ones : (xs : List Directive) → length (rewrite_steps xs) ≡ ones xs
rewrite_ones [] = refl
rewrite_ones (x ∷ xs) = refl

template_ones : (xs : List PlanData) → length (template_steps xs) ≡ ones xs
template_ones [] = refl
template_ones (x ∷ xs) = refl

file_ones : (xs : List FileData) → length (file_steps xs) ≡ ones xs
file_ones [] = refl
file_ones (x ∷ xs) = refl

forward_ones : (xs : List ForwardData) → length (forward_steps xs) ≡ ones xs
forward_ones [] = refl
forward_ones (x ∷ xs) = refl

-- one step where an item of the list has it
flag_at : (t any : Bool) (d : Directive) (step : Step) (xs : List Directive)
    → length (if any then step ∷ [] else []) ≡ ones xs
    → length (if t || any then step ∷ [] else []) ≡ ones (if t then d ∷ xs else xs)
flag_at true any d step xs h = refl
flag_at false any d step xs h = h

flag_ones : (f : Directive → Bool) (step : Step) (ds : List Directive)
    → length (if list_any f ds then step ∷ [] else []) ≡ ones (filter f ds)
flag_ones f step [] = refl
flag_ones f step (d ∷ ds) =
    flag_at (f d) (list_any f ds) d step (filter f ds) (flag_ones f step ds)

found_at : (t : Bool) (d : Directive) (found : Option Directive) (xs : List Directive)
    → length (dns64_steps found) ≡ ones xs
    → length (dns64_steps (if t then Some d else found)) ≡ ones (if t then d ∷ xs else xs)
found_at true d found xs h = refl
found_at false d found xs h = h

found_ones : (f : Directive → Bool) (ds : List Directive)
    → length (dns64_steps (find f ds)) ≡ ones (filter f ds)
found_ones f [] = refl
found_ones f (d ∷ ds) = found_at (f d) d (find f ds) (filter f ds) (found_ones f ds)

cached_at : (zones : List (List (List ℕ))) (t : Bool) (d : Directive) (found : Option Directive)
    (xs : List Directive)
    → length (cache_steps (option_map (plan_in zones) found)) ≡ ones xs
    → length (cache_steps (option_map (plan_in zones) (if t then Some d else found)))
    ≡ ones (if t then d ∷ xs else xs)
cached_at zones true d found xs h = refl
cached_at zones false d found xs h = h

cached_ones : (zones : List (List (List ℕ))) (f : Directive → Bool) (ds : List Directive)
    → length (cache_steps (option_map (plan_in zones) (find f ds))) ≡ ones (filter f ds)
cached_ones zones f [] = refl
cached_ones zones f (d ∷ ds) =
    cached_at zones (f d) d (find f ds) (filter f ds) (cached_ones zones f ds)

-- lengths of two lists behind each other
both : {A B : Type 0} (xs ys : List A) (us vs : List B) → length xs ≡ length us
    → length ys ≡ length vs → length (xs ++ ys) ≡ length (us ++ vs)
both xs ys us vs p q =
    length-append xs ys ∙ ap (λ n. n + length ys) p ∙ ap (λ n. length us + n) q
    ∙ sym (length-append us vs)

module _ (zones : List (List (List ℕ))) (context : Context) (ds : List Directive) where
  -- the names of a rank whose directives are one step
  first : (rank : Rank) → length (first_name rank ds) ≡ ones (filter (has_rank rank) ds)
  first rank = length-map (take 1 (filter (has_rank rank) ds)) name_by

  planned : (rank : Rank) → ones (plans_of rank zones ds) ≡ ones (filter (has_rank rank) ds)
  planned rank = ones_map (plan_in zones) (filter (has_rank rank) ds)

  errors_fit : length (first_name rank.Errors ds)
      ≡ length (error_steps (some_has rank.Errors ds))
  errors_fit = first rank.Errors ∙ sym (flag_ones (has_rank rank.Errors) Errors ds)

  any_fit : length (first_name rank.Any ds) ≡ length (any_steps (some_has rank.Any ds))
  any_fit = first rank.Any ∙ sym (flag_ones (has_rank rank.Any) (Answers Any) ds)

  whoami_fit : length (first_name rank.Whoami ds)
      ≡ length (whoami_steps (some_has rank.Whoami ds))
  whoami_fit = first rank.Whoami ∙ sym (flag_ones (has_rank rank.Whoami) (Answers Whoami) ds)

  log_fit : length (all_names rank.Log ds) ≡ length (log_steps (plans_of rank.Log zones ds))
  log_fit =
      length-map (filter (has_rank rank.Log) ds) name_by
      ∙ sym (length-map (filter (has_rank rank.Log) ds) (plan_in zones))
      ∙ sym (length-map (plans_of rank.Log zones ds) Log)

  dns64_fit : length (first_name rank.Dns64 ds) ≡ length (dns64_steps (dns64_in ds))
  dns64_fit = first rank.Dns64 ∙ sym (found_ones (has_rank rank.Dns64) ds)

  acl_fit : length (first_name rank.Acl ds) ≡ length (acl_steps (plans_of rank.Acl zones ds))
  acl_fit =
      first rank.Acl ∙ sym (planned rank.Acl) ∙ sym (acl_ones (plans_of rank.Acl zones ds))

  front_fit : length (front_names ds) ≡ length (front_steps zones ds)
  front_fit =
      both (first_name rank.Errors ds) _ (error_steps (some_has rank.Errors ds)) _ errors_fit
      (both (all_names rank.Log ds) _ (log_steps (plans_of rank.Log zones ds)) _ log_fit
      (both (first_name rank.Dns64 ds) _ (dns64_steps (dns64_in ds)) _ dns64_fit
      (both (first_name rank.Acl ds) (first_name rank.Any ds)
      (acl_steps (plans_of rank.Acl zones ds)) (any_steps (some_has rank.Any ds)) acl_fit
      any_fit)))

  cache_fit : length (first_name rank.Cache ds) ≡ length (cache_steps (cache_plan zones ds))
  cache_fit = first rank.Cache ∙ sym (cached_ones zones (has_rank rank.Cache) ds)

  rewrite_fit : length (first_name rank.Rewrite ds)
      ≡ length (rewrite_steps (filter (has_rank rank.Rewrite) ds))
  rewrite_fit = first rank.Rewrite ∙ sym (rewrite_ones (filter (has_rank rank.Rewrite) ds))

  hosts_fit : length (all_names rank.Hosts ds) ≡ length (hosts_steps (hosts_plans context ds))
  hosts_fit =
      length-map (filter (has_rank rank.Hosts) ds) name_by
      ∙ sym (length-map (filter (has_rank rank.Hosts) ds) (hosts_plan context))
      ∙ sym (length-map (hosts_plans context ds) hosts_step)

  file_fit : length (first_name rank.File ds) ≡ length (file_steps (file_plans context ds))
  file_fit =
      first rank.File ∙ sym (ones_map (file_plan context) (filter (has_rank rank.File) ds))
      ∙ sym (file_ones (file_plans context ds))

  forward_fit : length (first_name rank.Forward ds)
      ≡ length (forward_steps (forward_plans context ds))
  forward_fit =
      first rank.Forward
      ∙ sym (ones_map (forward_plan context) (filter (has_rank rank.Forward) ds))
      ∙ sym (forward_ones (forward_plans context ds))

template_fit : (context : Context) (ds : List Directive) → length (first_name rank.Template ds)
    ≡ length (template_steps (plans_of rank.Template context.zones ds))
template_fit context ds =
    first context.zones context ds rank.Template ∙ sym (planned context.zones context ds rank.Template)
    ∙ sym (template_ones (plans_of rank.Template context.zones ds))

back_fit : (context : Context) (ds : List Directive)
    → length (back_names ds) ≡ length (back_steps context ds)
back_fit context ds =
    both (first_name rank.Rewrite ds) _ (rewrite_steps (filter (has_rank rank.Rewrite) ds)) _
    (rewrite_fit context.zones context ds)
    (both (first_name rank.Template ds) _
    (template_steps (plans_of rank.Template context.zones ds)) _ (template_fit context ds)
    (both (all_names rank.Hosts ds) _ (hosts_steps (hosts_plans context ds)) _
    (hosts_fit context.zones context ds)
    (both (first_name rank.File ds) _ (file_steps (file_plans context ds)) _
    (file_fit context.zones context ds)
    (both (first_name rank.Forward ds) (first_name rank.Whoami ds)
    (forward_steps (forward_plans context ds)) (whoami_steps (some_has rank.Whoami ds))
    (forward_fit context.zones context ds) (whoami_fit context.zones context ds)))))

pub names-fit : (said : Sayings) (files : List FileText) (block : Block)
    → length (step_names block.directives) ≡ length (steps_of said files block)
unfolding step_names steps_of
names-fit said files block =
    let zones = key_zones block in
    let ds = block.directives in
    both (front_names ds) _ (front_steps zones ds) _ (front_fit zones (context_of files block) ds)
    (both (map name_by (extras_of ds)) _ (extra_steps said (block_extras block)) _
    (length-map (extras_of ds) name_by ∙ sym (length-map (extras_of ds) (extra_step said)))
    (both (first_name rank.Cache ds) (back_names ds) (cache_steps (cache_plan zones ds))
    (back_steps (context_of files block) ds)
    (cache_fit zones (context_of files block) ds) (back_fit (context_of files block) ds)))
