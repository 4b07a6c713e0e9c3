-- Behind the cache of a block stands the same for all blocks that read the same: a law of what the
-- chain of a block means.
use Rattle.std.proofs.Common.{◌≡◌, ◌∙◌, ℕ, Bool, true, false, cond, ◌||◌, List, [], ◌∷◌, ◌++◌, Option, None, refl, sym, ap}
use Rattle.std.specs.Prelude.{map, unwrap_or, option_map}
use Rattle.std.specs.List.{filter}
use Rattle.corefile_blocks.specs.Blocks.{file_of}
use Rattle.corefile_blocks.specs.WantedFiles.{file_word}
use Rattle.dns_data.specs.declared.block.Block.{Block}
use Rattle.dns_data.specs.declared.block.BlockKey.{BlockKey}
use Rattle.dns_data.specs.declared.directive.Directive.{Directive}
use Rattle.dns_data.specs.declared.file.FileText.{FileText}
use Rattle.dns_data.specs.declared.query.Query.{Query}
use Rattle.file_plugin.specs.Reading.{data_of}
use Rattle.file_plugin.specs.Zones.{Served, answer_from, file_say, file_zones, longest, longest_of, origins_of, read_well, served_of, served_with, zones_from}
use Rattle.forward_plugin.specs.{forward_means}
use Rattle.hosts_plugin.specs.{hosts_say}
use Rattle.outside.specs.Meanings.{Done, onward}
use Rattle.outside.specs.declared.mark.Mark.{Mark}
use Rattle.plugin_api.specs.{PlanData, fallthrough_of}
use Rattle.plugin_api.specs.declared.ranks.Rank.{Rank}
use Rattle.plugin_api.specs.declared.ranks.Rank.TheVariants as rank
use Rattle.rewrite_plugin.specs.declared.plan_data.Changed.{Changed}
use Rattle.chain_meaning.specs.declared.decision.Decision.{Decision}
use Rattle.chain_meaning.specs.declared.decision.Decision.TheVariants as decision
use Rattle.chain_meaning.specs.Mean.{answer_of, forward_answered, hosts_answer, mean, or_rest, reply_restored, rule, template_answer}
use Rattle.chain_meaning.specs.Steps.{Answerer, Context, File, Forward, Hosts, Step, Answers, Rewrite, Template, back_steps, context_of, file_in, file_plan, file_steps, forward_plan, forward_steps, has_rank, hosts_plan, hosts_steps, key_zones, plan_in, rewrite_steps, some_has, template_steps, whoami_steps}
use Rattle.block_readings.specs.Behind.{block_behind, steps_behind}
use Rattle.block_readings.specs.FilesLaws.{Agree, Each, agree, file_stands, hosts_stands, upstreams_stay}
use Rattle.block_readings.specs.PlansLaws.{bare_forward, bare_hosts, bare_plan, forward_stays, hosts_stays, served_stays, template_stays}
use Rattle.block_readings.specs.Readings.{BlockReading, bare, bare_key, block_reading}
use Rattle.block_readings.specs.RulesLaws.{changed_stays, restored_stays}
use Rattle.block_readings.specs.WordsLaws.{fallthrough_stays}

-- two chains with steps that mean the same mean the same
answers_alike : (a b : Answerer) (x y : List Step) → ((q : Query) (marks : List Mark) → answer_of a q marks ≡ answer_of b q marks) → mean x ≡ mean y → mean (Answers a ∷ x) ≡ mean (Answers b ∷ y)
unfolding mean rule
answers_alike a b x y same rest = λ i q marks. onward (same q marks i) (or_rest (rest i) q)

restored_alike : (ds : List Directive) (changed : Changed) (v : Decision) (left : List Mark) → reply_restored (map bare ds) changed v left ≡ reply_restored ds changed v left
restored_alike ds changed (decision.Reply a) left = λ i. Done (decision.Reply (restored_stays ds changed.steps a i)) left
restored_alike ds changed (decision.Code code cause) left = refl
restored_alike ds changed decision.Drop left = refl

rewrites_alike : (ds : List Directive) (x y : List Step) → mean x ≡ mean y → mean (Rewrite (map bare ds) ∷ x) ≡ mean (Rewrite ds ∷ y)
unfolding mean rule
rewrites_alike ds x y rest = λ i q marks.
    onward (rest i (changed_stays ds q i).query marks) (λ v left. restored_alike ds (changed_stays ds q i) v left i)

-- directives of a rank
bare_by : (ds others : List Directive) (d : Directive) (t : Bool) → others ≡ map bare ds → cond t (bare d ∷ others) others ≡ map bare (cond t (d ∷ ds) ds)
bare_by ds others d true same = ap (λ them. bare d ∷ them) same
bare_by ds others d false same = same

filtered : (r : Rank) (ds : List Directive) → filter (has_rank r) (map bare ds) ≡ map bare (filter (has_rank r) ds)
filtered r [] = refl
filtered r (d ∷ ds) = bare_by (filter (has_rank r) ds) (filter (has_rank r) (map bare ds)) d (has_rank r d) (filtered r ds)

some_stay : (r : Rank) (ds : List Directive) → some_has r (map bare ds) ≡ some_has r ds
some_stay r [] = refl
some_stay r (d ∷ ds) = ap (λ t. has_rank r d || t) (some_stay r ds)

-- what holds of each directive holds of each of a rank, with its rank
abbrev Ranked : Rank → (Directive → Type 0) → Directive → Type 0
Ranked r P d = (has_rank r d ≡ true) × P d

ranked_by : (r : Rank) (P : Directive → Type 0) (d : Directive) (ds : List Directive) (t : Bool) → has_rank r d ≡ t → P d → Each (Ranked r P) ds → Each (Ranked r P) (cond t (d ∷ ds) ds)
ranked_by r P d ds true e p each = ((e, p), each)
ranked_by r P d ds false e p each = each

ranked : (r : Rank) (P : Directive → Type 0) (ds : List Directive) → Each P ds → Each (Ranked r P) (filter (has_rank r) ds)
ranked r P [] each = tt
ranked r P (d ∷ ds) each = ranked_by r P d (filter (has_rank r) ds) (has_rank r d) refl each.0 (ranked r P ds each.1)

-- rewrite
rewrite_alike : (ds : List Directive) (x y : List Step) → mean x ≡ mean y → mean (rewrite_steps (map bare ds) ++ x) ≡ mean (rewrite_steps ds ++ y)
rewrite_alike [] x y rest = rest
rewrite_alike (d ∷ ds) x y rest = rewrites_alike (d ∷ ds) x y rest

-- template
templates_are : (zones : List (List (List ℕ))) (ds : List Directive) → map (plan_in zones) (map bare ds) ≡ map bare_plan (map (plan_in zones) ds)
templates_are zones [] = refl
templates_are zones (d ∷ ds) = ap (λ plans. plan_in zones (bare d) ∷ plans) (templates_are zones ds)

template_means : (plans : List PlanData) (q : Query) (marks : List Mark) → answer_of (Template (map bare_plan plans)) q marks ≡ answer_of (Template plans) q marks
unfolding answer_of
template_means plans q marks = λ i. Done (template_answer (template_stays plans q i)) marks

templates_alike : (plans : List PlanData) (x y : List Step) → mean x ≡ mean y → mean (template_steps (map bare_plan plans) ++ x) ≡ mean (template_steps plans ++ y)
templates_alike [] x y rest = rest
templates_alike (plan ∷ plans) x y rest = answers_alike _ _ x y (template_means (plan ∷ plans)) rest

module _ (zones : List (List (List ℕ))) (files others : List FileText) where
  abbrev was : Context
  was = record { zones = zones; files = files }

  abbrev is : Context
  is = record { zones = zones; files = others }

  -- hosts
  hosts_is : (d : Directive) → Ranked rank.Hosts (Agree files others) d → hosts_plan is (bare d) ≡ bare_hosts (hosts_plan was d)
  hosts_is d h = λ i. record { directive = bare d; zones = zones; text = unwrap_or (hosts_stands files others d h.0 h.1 i) [] }

  hosts_means : (d : Directive) → Ranked rank.Hosts (Agree files others) d → (q : Query) (marks : List Mark) → answer_of (Hosts (hosts_plan is (bare d))) q marks ≡ answer_of (Hosts (hosts_plan was d)) q marks
  unfolding answer_of
  hosts_means d h q marks =
      (λ i. Done (hosts_answer (hosts_say (hosts_is d h i) q)) marks)
      ∙ (λ i. Done (hosts_answer (hosts_stays (hosts_plan was d) q i)) marks)

  hosts_alike : (ds : List Directive) → Each (Ranked rank.Hosts (Agree files others)) ds → (x y : List Step) → mean x ≡ mean y
      → mean (hosts_steps (map (hosts_plan is) (map bare ds)) ++ x) ≡ mean (hosts_steps (map (hosts_plan was) ds) ++ y)
  hosts_alike [] each x y rest = rest
  hosts_alike (d ∷ ds) each x y rest = answers_alike _ _ _ _ (hosts_means d each.0) (hosts_alike ds each.1 x y rest)

  -- file: a directive that names no file has no zone, whatever it reads
  no_words : (d : Directive) (text other : Option (List ℕ)) → d.args ≡ [] → served_of (data_of (bare d) zones text) ≡ served_of (data_of d zones other)
  unfolding file_zones
  no_words d text other e =
      (λ i. map (served_with (fallthrough_stays d.body i)) (read_well (zones_from (unwrap_or text []) [] (origins_of zones (e i)))))
      ∙ sym (λ i. map (served_with (fallthrough_of d.body)) (read_well (zones_from (unwrap_or other []) [] (origins_of zones (e i)))))

  served_by : (d : Directive) → Ranked rank.File (Agree files others) d → (args : List (List ℕ)) → d.args ≡ args → served_of (file_plan is (bare d)) ≡ served_of (file_plan was d)
  served_by d h [] e = no_words d (file_in others (bare d)) (file_in files d) e
  served_by d h (word ∷ words) e =
      let same = ap (λ args. file_of (file_word args) others) e ∙ file_stands files others d word words h.0 e h.1 ∙ sym (ap (λ args. file_of (file_word args) files) e) in
      (λ i. served_of (data_of (bare d) zones (same i))) ∙ served_stays (file_plan was d)

  files_alike : (ds : List Directive) → Each (Ranked rank.File (Agree files others)) ds → (name : List (List ℕ)) (before : Option Served)
      → longest_of name before (map (file_plan is) (map bare ds)) ≡ longest_of name before (map (file_plan was) ds)
  files_alike [] each name before = refl
  files_alike (d ∷ ds) each name before =
      files_alike ds each.1 name (longest name before (served_of (file_plan is (bare d))))
      ∙ (λ i. longest_of name (longest name before (served_by d each.0 d.args refl i)) (map (file_plan was) ds))

  file_means : (ds : List Directive) → Each (Ranked rank.File (Agree files others)) ds → (q : Query) (marks : List Mark)
      → answer_of (File (map (file_plan is) (map bare ds))) q marks ≡ answer_of (File (map (file_plan was) ds)) q marks
  unfolding answer_of file_say
  file_means ds each q marks = λ i. Done (option_map decision.Reply (answer_from q (files_alike ds each q.name None i))) marks

  file_alike : (ds : List Directive) → Each (Ranked rank.File (Agree files others)) ds → (x y : List Step) → mean x ≡ mean y
      → mean (file_steps (map (file_plan is) (map bare ds)) ++ x) ≡ mean (file_steps (map (file_plan was) ds) ++ y)
  file_alike [] each x y rest = rest
  file_alike (d ∷ ds) each x y rest = answers_alike _ _ x y (file_means (d ∷ ds) each) rest

  -- forward
  forward_is : (d : Directive) → Ranked rank.Forward (Agree files others) d → forward_plan is (bare d) ≡ bare_forward (forward_plan was d)
  forward_is d h = λ i. record { directive = bare d; upstreams = upstreams_stay files others d h.0 h.1 i }

  forwards_are : (ds : List Directive) → Each (Ranked rank.Forward (Agree files others)) ds → map (forward_plan is) (map bare ds) ≡ map bare_forward (map (forward_plan was) ds)
  forwards_are [] each = refl
  forwards_are (d ∷ ds) each = λ i. forward_is d each.0 i ∷ forwards_are ds each.1 i

  forward_as : (ds : List Directive) → Each (Ranked rank.Forward (Agree files others)) ds → (q : Query) (marks : List Mark)
      → answer_of (Forward (map (forward_plan is) (map bare ds))) q marks ≡ answer_of (Forward (map (forward_plan was) ds)) q marks
  unfolding answer_of
  forward_as ds each q marks =
      (λ i. onward (forward_means (forwards_are ds each i) q marks) forward_answered)
      ∙ (λ i. onward (forward_stays (map (forward_plan was) ds) q marks i) forward_answered)

  forward_alike : (ds : List Directive) → Each (Ranked rank.Forward (Agree files others)) ds → (x y : List Step) → mean x ≡ mean y
      → mean (forward_steps (map (forward_plan is) (map bare ds)) ++ x) ≡ mean (forward_steps (map (forward_plan was) ds) ++ y)
  forward_alike [] each x y rest = rest
  forward_alike (d ∷ ds) each x y rest = answers_alike _ _ x y (forward_as (d ∷ ds) each) rest

  -- the steps of directives without the numbers of their lines, with the files that agree
  abbrev back_of : List Directive → List Step
  back_of ds =
      rewrite_steps (map bare (filter (has_rank rank.Rewrite) ds))
      ++ (template_steps (map (plan_in zones) (map bare (filter (has_rank rank.Template) ds)))
      ++ (hosts_steps (map (hosts_plan is) (map bare (filter (has_rank rank.Hosts) ds)))
      ++ (file_steps (map (file_plan is) (map bare (filter (has_rank rank.File) ds)))
      ++ (forward_steps (map (forward_plan is) (map bare (filter (has_rank rank.Forward) ds)))
      ++ whoami_steps (some_has rank.Whoami ds)))))

  bare_back : (ds : List Directive) → back_steps is (map bare ds) ≡ back_of ds
  bare_back ds = λ i.
      rewrite_steps (filtered rank.Rewrite ds i)
      ++ (template_steps (map (plan_in zones) (filtered rank.Template ds i))
      ++ (hosts_steps (map (hosts_plan is) (filtered rank.Hosts ds i))
      ++ (file_steps (map (file_plan is) (filtered rank.File ds i))
      ++ (forward_steps (map (forward_plan is) (filtered rank.Forward ds i))
      ++ whoami_steps (some_stay rank.Whoami ds i)))))

  template_alike : (ds : List Directive) (x y : List Step) → mean x ≡ mean y
      → mean (template_steps (map (plan_in zones) (map bare ds)) ++ x) ≡ mean (template_steps (map (plan_in zones) ds) ++ y)
  template_alike ds x y rest = (λ i. mean (template_steps (templates_are zones ds i) ++ x)) ∙ templates_alike (map (plan_in zones) ds) x y rest

  back_alike : (ds : List Directive) → Each (Agree files others) ds → mean (back_steps is (map bare ds)) ≡ mean (back_steps was ds)
  back_alike ds each =
      ap mean (bare_back ds)
      ∙ rewrite_alike (filter (has_rank rank.Rewrite) ds) _ _
      (template_alike (filter (has_rank rank.Template) ds) _ _
      (hosts_alike (filter (has_rank rank.Hosts) ds) (ranked rank.Hosts (Agree files others) ds each) _ _
      (file_alike (filter (has_rank rank.File) ds) (ranked rank.File (Agree files others) ds each) _ _
      (forward_alike (filter (has_rank rank.Forward) ds) (ranked rank.Forward (Agree files others) ds each) _ _ refl))))

zones_stay : (keys : List BlockKey) → map (λ key. key.zone) (map bare_key keys) ≡ map (λ key. key.zone) keys
zones_stay [] = refl
zones_stay (key ∷ keys) = ap (λ zones. key.zone ∷ zones) (zones_stay keys)

-- what stands behind the cache of a block means what its reading says
pub behind_stays : (files : List FileText) (block : Block) → mean (steps_behind (block_reading files block)) ≡ mean (block_behind files block)
behind_stays files block =
    (λ i. mean (back_steps (record { zones = zones_stay block.keys i; files = (block_reading files block).files }) (map bare block.directives)))
    ∙ back_alike (key_zones block) files (block_reading files block).files block.directives (agree files block.directives)

-- blocks that read the same mean the same there
pub read_alike : (files others : List FileText) (a b : Block) → block_reading files a ≡ block_reading others b → mean (block_behind files a) ≡ mean (block_behind others b)
read_alike files others a b same = sym (behind_stays files a) ∙ ap (λ reading. mean (steps_behind reading)) same ∙ behind_stays others b
