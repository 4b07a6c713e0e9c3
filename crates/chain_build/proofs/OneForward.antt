-- A chain that is compiled has one step of `forward` at most.
use Rattle.std.proofs.Common.{◌≡◌, ◌∙◌, ℕ, Bool, true, false, List, [], ◌∷◌, ◌++◌, map, refl, sym, ap, subst}
use Rattle.std.specs.List.{All}
use Rattle.std.proofs.lemmas.List.Elements.{All-cons, All-nil, All-tail}
use Rattle.file_plugin.specs.{FileData}
use Rattle.forward_plugin.specs.{ForwardData, pool_count}
use Rattle.hosts_plugin.specs.{HostsData}
use Rattle.plugin_api.specs.{PlanData}
use Rattle.chain_meaning.specs.Steps.{Step, Answers, Template, File, Forward, Whoami, file_steps, forward_steps, hosts_step, hosts_steps, template_steps, whoami_steps}
use Rattle.chain_build.specs.declared.block_chain.BackAnswerer.{BackAnswerer}
use Rattle.chain_build.specs.declared.places.Places.{Places}
use Rattle.chain_build.specs.Compiled.{back_of}
use Rattle.chain_build.specs.Places.{answers_in}
use Rattle.chain_build.specs.Pools.{AllTake, HasLoneForward, HasNoForward, HasOneForward, TakesPools, forwards_in, pools_in}

-- which directives stand among the steps
past_templates : (plans : List PlanData) (rest : List Step) → forwards_in (template_steps plans ++ rest) ≡ forwards_in rest
past_templates [] rest = refl
past_templates (plan ∷ plans) rest = refl

past_hosts : (plans : List HostsData) (rest : List Step) → forwards_in (hosts_steps plans ++ rest) ≡ forwards_in rest
past_hosts [] rest = refl
past_hosts (plan ∷ plans) rest = past_hosts plans rest

past_files : (plans : List FileData) (rest : List Step) → forwards_in (file_steps plans ++ rest) ≡ forwards_in rest
past_files [] rest = refl
past_files (plan ∷ plans) rest = refl

in_whoami : (stands : Bool) → forwards_in (whoami_steps stands) ≡ []
in_whoami true = refl
in_whoami false = refl

in_forwards : (plans : List ForwardData) (stands : Bool) → forwards_in (forward_steps plans ++ whoami_steps stands) ≡ plans
in_forwards [] stands = in_whoami stands
in_forwards (plan ∷ plans) stands = refl

in_places : (places : Places) → forwards_in (answers_in places) ≡ places.forwards
in_places places =
    past_templates places.templates (hosts_steps places.hosts ++ (file_steps places.files ++ (forward_steps places.forwards ++ whoami_steps places.whoami)))
    ∙ past_hosts places.hosts (file_steps places.files ++ (forward_steps places.forwards ++ whoami_steps places.whoami))
    ∙ past_files places.files (forward_steps places.forwards ++ whoami_steps places.whoami)
    ∙ in_forwards places.forwards places.whoami

module _ (n : ℕ) where
  take_templates : (plans : List PlanData) (rest : List Step) → All (TakesPools n) rest → All (TakesPools n) (template_steps plans ++ rest)
  take_templates [] rest all = all
  take_templates (plan ∷ plans) rest all = All-cons (TakesPools n) (Answers (Template (plan ∷ plans))) rest refl all

  take_hosts : (plans : List HostsData) (rest : List Step) → All (TakesPools n) rest → All (TakesPools n) (hosts_steps plans ++ rest)
  take_hosts [] rest all = all
  take_hosts (plan ∷ plans) rest all = All-cons (TakesPools n) (hosts_step plan) (hosts_steps plans ++ rest) refl (take_hosts plans rest all)

  take_files : (plans : List FileData) (rest : List Step) → All (TakesPools n) rest → All (TakesPools n) (file_steps plans ++ rest)
  take_files [] rest all = all
  take_files (plan ∷ plans) rest all = All-cons (TakesPools n) (Answers (File (plan ∷ plans))) rest refl all

  take_whoami : (stands : Bool) → All (TakesPools n) (whoami_steps stands)
  take_whoami true = All-cons (TakesPools n) (Answers Whoami) [] refl (All-nil (TakesPools n))
  take_whoami false = All-nil (TakesPools n)

  take_forwards : (plans : List ForwardData) (rest : List Step) → pool_count plans ≡ n → All (TakesPools n) rest → All (TakesPools n) (forward_steps plans ++ rest)
  take_forwards [] rest is all = all
  take_forwards (plan ∷ plans) rest is all = All-cons (TakesPools n) (Answers (Forward (plan ∷ plans))) rest is all

take_places : (places : Places) → All (TakesPools (pool_count places.forwards)) (answers_in places)
take_places places =
    let n = pool_count places.forwards in
    take_templates n places.templates _ (take_hosts n places.hosts _ (take_files n places.files _ (take_forwards n places.forwards _ refl (take_whoami n places.whoami))))

-- what was compiled of places has one
pub compiled_one : (back : List BackAnswerer) (places : Places) → map back_of back ≡ answers_in places → HasOneForward back
compiled_one back places is =
    let count : pools_in back ≡ pool_count places.forwards = ap (λ s. pool_count (forwards_in s)) is ∙ ap pool_count (in_places places) in
    subst (λ (n : ℕ). All (TakesPools n) (map back_of back)) (sym count) (subst (λ (s : List Step). All (TakesPools (pool_count places.forwards)) s) (sym is) (take_places places))

-- as many pools as it has are what each of its steps takes
pub all_take : (back : List BackAnswerer) (n : ℕ) → HasOneForward back → n ≡ pools_in back → AllTake n back
all_take back n one is = subst (λ (m : ℕ). AllTake m back) (sym is) one

-- the steps behind one take as many
pub rest_takes : (n m : ℕ) (steps rest : List BackAnswerer) (plugin : BackAnswerer) → steps ≡ plugin ∷ rest → m ≡ n → AllTake n steps → AllTake m rest
rest_takes n m steps rest plugin is same all =
    let here : All (TakesPools n) (map back_of (plugin ∷ rest)) = subst (λ (s : List BackAnswerer). All (TakesPools n) (map back_of s)) is all in
    subst (λ (k : ℕ). All (TakesPools k) (map back_of rest)) (sym same) (All-tail (TakesPools n) (back_of plugin) (map back_of rest) here)

-- and no step of `forward` stands behind another
lone_templates : (plans : List PlanData) (rest : List Step) → HasLoneForward rest → HasLoneForward (template_steps plans ++ rest)
lone_templates [] rest lone = lone
lone_templates (plan ∷ plans) rest lone = lone

lone_hosts : (plans : List HostsData) (rest : List Step) → HasLoneForward rest → HasLoneForward (hosts_steps plans ++ rest)
lone_hosts [] rest lone = lone
lone_hosts (plan ∷ plans) rest lone = lone_hosts plans rest lone

lone_files : (plans : List FileData) (rest : List Step) → HasLoneForward rest → HasLoneForward (file_steps plans ++ rest)
lone_files [] rest lone = lone
lone_files (plan ∷ plans) rest lone = lone

none_whoami : (stands : Bool) → HasNoForward (whoami_steps stands)
none_whoami true = refl
none_whoami false = refl

lone_whoami : (stands : Bool) → HasLoneForward (whoami_steps stands)
lone_whoami true = refl
lone_whoami false = refl

lone_forwards : (plans : List ForwardData) (stands : Bool) → HasLoneForward (forward_steps plans ++ whoami_steps stands)
lone_forwards [] stands = lone_whoami stands
lone_forwards (plan ∷ plans) stands = none_whoami stands

pub compiled_lone : (back : List BackAnswerer) (places : Places) → map back_of back ≡ answers_in places → HasLoneForward (map back_of back)
compiled_lone back places is =
    subst HasLoneForward (sym is)
    (lone_templates places.templates _ (lone_hosts places.hosts _ (lone_files places.files _ (lone_forwards places.forwards places.whoami))))
