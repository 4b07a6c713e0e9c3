-- The chain of a block: a list of steps, each with what its plugin reads, directives and the zones
-- of the block's keys, and for `hosts`, `file` and `forward` files. All `acl` directives are one
-- step, and so are all those of `rewrite`, of `template`, of `file` and of `forward`; each of an
-- extra is a step of its own.
use Rattle.std.specs.Prelude.{ℕ, nat_eq, Bool, false, List, [], ◌∷◌, ◌++◌, map, find, Option}
use Rattle.std.specs.Prelude.{Some, None, is_none, option_map, if◌then◌else◌}
use Rattle.std.specs.List.{filter, list_any}
use Rattle.dns_data.specs.declared.block.Block.{Block}
use Rattle.dns_data.specs.declared.directive.Directive.{Directive}
use Rattle.dns_data.specs.declared.file.FileText.{FileText}
use Rattle.dns_data.specs.declared.query.Query.{Query}
use Rattle.corefile_blocks.specs.Blocks.{file_of}
use Rattle.corefile_blocks.specs.WantedFiles.{file_word, hosts_word}
use Rattle.file_plugin.specs.{FileData}
use Rattle.file_plugin.specs.Reading.{data_of}
use Rattle.forward_plugin.specs.{ForwardData, forward_data}
use Rattle.hosts_plugin.specs.{HostsData}
use Rattle.hosts_plugin.specs.Reading.{data_of as hosts_data}
use Rattle.plugin_api.specs.{PlanData, Sayings, order_of, rank_of}
use Rattle.plugin_api.specs.declared.ranks.Rank.{Rank}
use Rattle.plugin_api.specs.declared.ranks.Rank.TheVariants as rank
use Rattle.plugin_api.specs.declared.verdict.Cause.TheVariants as cause
use Rattle.plugin_api.specs.declared.verdict.Verdict.{Verdict}
use Rattle.plugin_api.specs.declared.verdict.Verdict.TheVariants as verdict
use Rattle.chain_meaning.specs.declared.decision.Decision.{Decision}
use Rattle.chain_meaning.specs.declared.decision.Decision.TheVariants as decision

-- a plugin that answers or goes on
pub data Answerer : Type 0 where
  Acl : List PlanData → Answerer
  Any : Answerer
  Template : List PlanData → Answerer
  Hosts : HostsData → Answerer
  File : List FileData → Answerer
  Forward : List ForwardData → Answerer
  Whoami : Answerer

-- a step of a chain. `Others` is a plugin that a program brings besides those of this server, with
-- what it says of a query; where it says nothing, it goes on
pub data Step : Type 0 where
  Errors : Step
  Log : PlanData → Step
  Dns64 : Directive → Step
  Cache : PlanData → Step
  Rewrite : List Directive → Step
  Answers : Answerer → Step
  Others : (Query → Option Decision) → Step

-- what plugins say that always go on
abbrev pub none_said : Query → Option Decision
none_said q = None

-- what the verdict of an extra decides: to pass is to go on
abbrev pub verdict_decides : Verdict → Option Decision
verdict_decides (verdict.Reply answer) = Some (decision.Reply answer)
verdict_decides verdict.Pass = None
verdict_decides verdict.Drop = Some decision.Drop
verdict_decides (verdict.Code code) = Some (decision.Code code cause.ExtraCode)

-- what the extra of a directive decides
abbrev pub extra_says : Sayings → Directive → Query → Option Decision
extra_says said d q = verdict_decides (said d.name d q)

-- the zones for which a directive stands that names none: those of its block's keys
abbrev pub key_zones : Block → List (List (List ℕ))
key_zones block = map (λ key. key.zone) block.keys

-- what the directives of a block are read in: the zones of its keys, and the files of its bundle
pub record Context : Type 0 where
  pub zones : List (List (List ℕ))
  pub files : List FileText

abbrev pub context_of : List FileText → Block → Context
context_of files block = record { zones = key_zones block; files = files }

-- whether a directive's rank is this one
abbrev pub is_rank : Rank → Option Rank → Bool
is_rank rank None = false
is_rank rank (Some other) = nat_eq (order_of other) (order_of rank)

abbrev pub has_rank : Rank → Directive → Bool
has_rank rank d = is_rank rank (rank_of d.name)

-- whether one of the directives has this rank
abbrev pub some_has : Rank → List Directive → Bool
some_has rank directives = list_any (has_rank rank) directives

-- what the plan of a directive in a block with these zones reads
abbrev pub plan_in : List (List (List ℕ)) → Directive → PlanData
plan_in zones d = record { directive = d; zones = zones }

-- the plans of the directives of a rank, in the order of the text
abbrev pub plans_of : Rank → List (List (List ℕ)) → List Directive → List PlanData
plans_of rank zones directives = map (plan_in zones) (filter (has_rank rank) directives)

-- what the file of a `file` directive has, where it isn't missing
abbrev pub file_in : List FileText → Directive → Option (List ℕ)
file_in files d = file_of (file_word d.args) files

-- what the plan of a `hosts` directive reads: its file, where it isn't missing
abbrev pub hosts_plan : Context → Directive → HostsData
hosts_plan context d = hosts_data d context.zones (file_of (hosts_word d.args) context.files)

-- the directive `dns64`, which stands once
abbrev pub dns64_in : List Directive → Option Directive
dns64_in directives = find (has_rank rank.Dns64) directives

-- the plan of the directive `cache`, which stands once
abbrev pub cache_plan : List (List (List ℕ)) → List Directive → Option PlanData
cache_plan zones directives = option_map (plan_in zones) (find (has_rank rank.Cache) directives)

-- the plans of the `hosts` directives, in the order of the text
abbrev pub hosts_plans : Context → List Directive → List HostsData
hosts_plans context directives = map (hosts_plan context) (filter (has_rank rank.Hosts) directives)

-- what the plan of a `file` directive reads
abbrev pub file_plan : Context → Directive → FileData
file_plan context d = data_of d context.zones (file_in context.files d)

-- the plans of the `file` directives, in the order of the text
abbrev pub file_plans : Context → List Directive → List FileData
file_plans context directives = map (file_plan context) (filter (has_rank rank.File) directives)

-- what the plan of a `forward` directive reads
abbrev pub forward_plan : Context → Directive → ForwardData
forward_plan context d = forward_data d context.files

-- the plans of the `forward` directives, in the order of the text
abbrev pub forward_plans : Context → List Directive → List ForwardData
forward_plans context directives =
    map (forward_plan context) (filter (has_rank rank.Forward) directives)

-- the directives whose names this server's own plugins don't have: those of extras, in the order of
-- the text
abbrev pub is_extra : Directive → Bool
is_extra d = is_none (rank_of d.name)

abbrev pub extras_of : List Directive → List Directive
extras_of directives = filter is_extra directives

abbrev pub block_extras : Block → List Directive
block_extras block = extras_of block.directives

-- the steps of the plans of a rank; without a plan there is none
abbrev pub error_steps : Bool → List Step
error_steps stands = if stands then Errors ∷ [] else []

abbrev pub log_steps : List PlanData → List Step
log_steps plans = map Log plans

abbrev pub dns64_steps : Option Directive → List Step
dns64_steps None = []
dns64_steps (Some d) = Dns64 d ∷ []

abbrev pub acl_steps : List PlanData → List Step
acl_steps [] = []
acl_steps (plan ∷ plans) = Answers (Acl (plan ∷ plans)) ∷ []

abbrev pub any_steps : Bool → List Step
any_steps stands = if stands then Answers Any ∷ [] else []

abbrev pub extra_step : Sayings → Directive → Step
extra_step said d = Others (extra_says said d)

abbrev pub extra_steps : Sayings → List Directive → List Step
extra_steps said directives = map (extra_step said) directives

abbrev pub cache_steps : Option PlanData → List Step
cache_steps None = []
cache_steps (Some plan) = Cache plan ∷ []

abbrev pub rewrite_steps : List Directive → List Step
rewrite_steps [] = []
rewrite_steps (plan ∷ plans) = Rewrite (plan ∷ plans) ∷ []

abbrev pub template_steps : List PlanData → List Step
template_steps [] = []
template_steps (plan ∷ plans) = Answers (Template (plan ∷ plans)) ∷ []

abbrev pub hosts_step : HostsData → Step
hosts_step plan = Answers (Hosts plan)

abbrev pub hosts_steps : List HostsData → List Step
hosts_steps plans = map hosts_step plans

abbrev pub file_steps : List FileData → List Step
file_steps [] = []
file_steps (plan ∷ plans) = Answers (File (plan ∷ plans)) ∷ []

abbrev pub forward_steps : List ForwardData → List Step
forward_steps [] = []
forward_steps (plan ∷ plans) = Answers (Forward (plan ∷ plans)) ∷ []

abbrev pub whoami_steps : Bool → List Step
whoami_steps stands = if stands then Answers Whoami ∷ [] else []

-- what stands in front of the extras, and behind a cache, which is asked between them
abbrev pub front_steps : List (List (List ℕ)) → List Directive → List Step
front_steps zones directives =
    error_steps (some_has rank.Errors directives)
    ++ (log_steps (plans_of rank.Log zones directives)
    ++ (dns64_steps (dns64_in directives)
    ++ (acl_steps (plans_of rank.Acl zones directives)
    ++ any_steps (some_has rank.Any directives))))

abbrev pub back_steps : Context → List Directive → List Step
back_steps context directives =
    rewrite_steps (filter (has_rank rank.Rewrite) directives)
    ++ (template_steps (plans_of rank.Template context.zones directives)
    ++ (hosts_steps (hosts_plans context directives)
    ++ (file_steps (file_plans context directives)
    ++ (forward_steps (forward_plans context directives)
    ++ whoami_steps (some_has rank.Whoami directives)))))

-- the chain of a block in a bundle with these files, where extras say this: rank by rank, whatever
-- the order of the text
unfoldable pub steps_of : Sayings → List FileText → Block → List Step
steps_of said files block =
    front_steps (key_zones block) block.directives
    ++ (extra_steps said (block_extras block)
    ++ (cache_steps (cache_plan (key_zones block) block.directives)
    ++ back_steps (context_of files block) block.directives))
