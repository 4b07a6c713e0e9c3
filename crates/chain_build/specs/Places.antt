-- What is read of a block's directives, each rank in a place of its own, and the steps of that.
use Rattle.std.specs.Prelude.{◌≡◌, ℕ, ◌+◌, true, false, List, [], ◌∷◌, ◌++◌, length, Option}
use Rattle.std.specs.Prelude.{None, Some, Result, Ok, Err}
use Rattle.std.specs.List.{All}
use Rattle.std.specs.Option.{option_or}
use Rattle.dns_data.specs.declared.block.Block.{Block}
use Rattle.dns_data.specs.declared.directive.Directive.{Directive}
use Rattle.plugin_api.specs.{PlanData, Takings, rank_of}
use Rattle.plugin_api.specs.declared.ranks.Rank.{Rank}
use Rattle.plugin_api.specs.declared.ranks.Rank.TheVariants as rank
use Rattle.dns_data.specs.declared.file.FileText.{FileText}
use Rattle.pattern_judging.specs.{IsFault, IsWell, Task}
use Rattle.chain_meaning.specs.Accepting.{Behind, block_task, rank_patterns, told}
use Rattle.chain_meaning.specs.Steps.{Context, Step, acl_steps, any_steps, cache_steps}
use Rattle.chain_meaning.specs.Steps.{context_of, error_steps}
use Rattle.chain_meaning.specs.Steps.{file_plan, file_steps, forward_plan, forward_steps, hosts_plan}
use Rattle.chain_meaning.specs.Steps.{hosts_steps}
use Rattle.chain_meaning.specs.Steps.{log_steps, plan_in, rewrite_steps, template_steps}
use Rattle.chain_meaning.specs.Steps.{whoami_steps}
use Rattle.chain_meaning.specs.Grounds.{Brought}
use Rattle.chain_meaning.specs.declared.refusal.Refusal.{Refusal}
use Rattle.chain_build.specs.declared.fault.CheckFault.{CheckFault}
use Rattle.chain_build.specs.declared.fault.CheckFault.TheVariants as fault
use Rattle.chain_build.specs.declared.places.Places.{Places}
use Rattle.chain_build.specs.declared.places.Reading.{Reading}

-- nothing was read, behind so many patterns
abbrev pub no_places : ℕ → Places
no_places patterns = record {
  errors = false;
  logs = [];
  dns64 = None;
  acls = [];
  any = false;
  extras = [];
  cache = None;
  rewrites = [];
  templates = [];
  hosts = [];
  files = [];
  forwards = [];
  whoami = false;
  patterns = patterns;
}

-- what the directives of a block with these zones are read in, in a bundle with these files
abbrev pub context_in : List (List (List ℕ)) → List FileText → Context
context_in zones files = record { zones = zones; files = files }

-- with the plan of one more directive of a rank without a reader of its own
abbrev pub placed_plain : Option Rank → PlanData → Places → Places
placed_plain (Some rank.Errors) plan places = record places { errors = true }
placed_plain (Some rank.Log) plan places = record places { logs = places.logs ++ plan ∷ [] }
placed_plain (Some rank.Any) plan places = record places { any = true }
placed_plain (Some rank.Whoami) plan places = record places { whoami = true }
placed_plain other plan places = places

-- with the plan of one more directive of a rank; one without a rank is an extra's
abbrev pub placed_by : Option Rank → Context → Directive → Places → Places
placed_by (Some rank.Dns64) context d places =
    record places { dns64 = option_or places.dns64 (Some d) }
placed_by (Some rank.Acl) context d places =
    record places { acls = places.acls ++ plan_in context.zones d ∷ [] }
placed_by (Some rank.Cache) context d places =
    record places { cache = option_or places.cache (Some (plan_in context.zones d)) }
placed_by (Some rank.Rewrite) context d places = record places {
  rewrites = places.rewrites ++ d ∷ [];
  patterns = places.patterns + length (rank_patterns (Some rank.Rewrite) d);
}
placed_by (Some rank.Template) context d places = record places {
  templates = places.templates ++ plan_in context.zones d ∷ [];
  patterns = places.patterns + length (rank_patterns (Some rank.Template) d);
}
placed_by (Some rank.Hosts) context d places =
    record places { hosts = places.hosts ++ hosts_plan context d ∷ [] }
placed_by (Some rank.File) context d places =
    record places { files = places.files ++ file_plan context d ∷ [] }
placed_by (Some rank.Forward) context d places =
    record places { forwards = places.forwards ++ forward_plan context d ∷ [] }
placed_by None context d places = record places { extras = places.extras ++ d ∷ [] }
placed_by other context d places = placed_plain other (plan_in context.zones d) places

-- with what is read of the directives of a block
abbrev pub placed : Context → List Directive → Places → Places
placed context [] places = places
placed context (d ∷ directives) places =
    placed context directives (placed_by (rank_of d.name) context d places)

-- the steps of what was read, in front of the extras and behind these
abbrev pub front_in : Places → List Step
front_in places = error_steps places.errors ++ log_steps places.logs

abbrev pub middle_in : Places → List Step
middle_in places = acl_steps places.acls ++ any_steps places.any

abbrev pub answers_in : Places → List Step
answers_in places =
    template_steps places.templates
    ++ (hosts_steps places.hosts
    ++ (file_steps places.files
    ++ (forward_steps places.forwards ++ whoami_steps places.whoami)))

abbrev pub back_in : Places → List Step
back_in places =
    cache_steps places.cache ++ (rewrite_steps places.rewrites ++ answers_in places)

-- what the next directive of a block stands behind, where this was read of those before it
abbrev pub behind_in : Context → List Directive → Places → Behind
behind_in context before places =
    record { patterns = places.patterns; before = before; context = context }

-- what a directive is read in, and what it stands behind, where this was read of those before it
abbrev pub context_at : Reading → Context
context_at reading = context_in reading.zones.now reading.files.now

abbrev pub behind_at : Reading → Places → Behind
behind_at reading places = behind_in (context_at reading) reading.before.now places

-- reading what has this task, where the maker refused this text last: it is well, and a fact of
-- what was read, or its fault
abbrev pub ReadsMore : Task Refusal → Type 0 → Option (List ℕ) → Result (Unit {0}) CheckFault
    → Type 0
ReadsMore task P last (Ok done) = IsWell task × P
ReadsMore task P last (Err (fault.Refused why)) = IsFault told task last why
ReadsMore task P last (Err fault.NoMemory) = Unit {0}

-- the extras of each name take these directives of it
abbrev pub AreTaken : Takings → List Directive → Type 0
AreTaken taken directives = All (λ d. taken d.name d ≡ true) directives

-- what was read of the directives of a block in a bundle with these files, behind so many patterns
pub record IsBlockRead (brought : Brought) (patterns : ℕ) (files : List FileText) (block : Block)
    (places : Places) : Type 0 where
  pub well : IsWell (block_task brought patterns files block)
  pub is : places ≡ placed (context_of files block) block.directives (no_places patterns)
  pub taken : AreTaken brought.taken places.extras

-- reading them, where the maker refused this text last
abbrev pub ReadsBlock : Brought → ℕ → List FileText → Block → Option (List ℕ)
    → Result Places CheckFault → Type 0
ReadsBlock brought patterns files block last (Ok places) =
    IsBlockRead brought patterns files block places
ReadsBlock brought patterns files block last (Err (fault.Refused why)) =
    IsFault told (block_task brought patterns files block) last why
ReadsBlock brought patterns files block last (Err fault.NoMemory) = Unit {0}
