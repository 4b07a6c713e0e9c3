-- The names of the steps of a block's chain, in the order of the steps: of each the line and the
-- name of the first directive that makes it. And the line of the key by which a block is picked.
use Rattle.std.specs.Prelude.{ℕ, List, [], ◌∷◌, ◌++◌, map, take, find, Option, None, option_map}
use Rattle.std.specs.List.{filter}
use Rattle.std.specs.Option.{option_or}
use Rattle.dns_data.specs.declared.block.Block.{Block}
use Rattle.dns_data.specs.declared.block.BlockKey.{BlockKey}
use Rattle.dns_data.specs.declared.directive.Directive.{Directive}
use Rattle.plugin_api.specs.Picking.{is_key, longest_of}
use Rattle.plugin_api.specs.declared.ranks.Rank.{Rank}
use Rattle.plugin_api.specs.declared.ranks.Rank.TheVariants as rank
use Rattle.chain_meaning.specs.Steps.{extras_of, has_rank}
use Rattle.chain_trail.specs.declared.reached.StepName.{StepName}

abbrev pub name_by : Directive → StepName
name_by d = record { line = d.line; name = d.name }

-- of a rank whose directives are one step
abbrev pub first_name : Rank → List Directive → List StepName
first_name rank ds = map name_by (take 1 (filter (has_rank rank) ds))

-- of a rank each of whose directives is a step of its own
abbrev pub all_names : Rank → List Directive → List StepName
all_names rank ds = map name_by (filter (has_rank rank) ds)

abbrev pub front_names : List Directive → List StepName
front_names ds =
    first_name rank.Errors ds
    ++ (all_names rank.Log ds
    ++ (first_name rank.Dns64 ds ++ (first_name rank.Acl ds ++ first_name rank.Any ds)))

abbrev pub back_names : List Directive → List StepName
back_names ds =
    first_name rank.Rewrite ds
    ++ (first_name rank.Template ds
    ++ (all_names rank.Hosts ds
    ++ (first_name rank.File ds
    ++ (first_name rank.Forward ds ++ first_name rank.Whoami ds))))

unfoldable pub step_names : List Directive → List StepName
step_names ds =
    front_names ds
    ++ (map name_by (extras_of ds) ++ (first_name rank.Cache ds ++ back_names ds))

-- the first key of a block with this port and this zone
abbrev pub key_in : ℕ → List (List ℕ) → Block → Option BlockKey
key_in port zone block = find (is_key port zone) block.keys

-- that of the first block that has one
abbrev pub first_key : ℕ → List (List ℕ) → List Block → Option BlockKey
first_key port zone [] = None
first_key port zone (block ∷ blocks) =
    option_or (key_in port zone block) (first_key port zone blocks)

abbrev pub key_line : List Block → ℕ → List (List ℕ) → Option ℕ
key_line blocks port zone = option_map (λ key. key.line) (first_key port zone blocks)

-- the line of the key by which the block is picked that serves a name on a port
abbrev pub picked_line : List Block → ℕ → List (List ℕ) → Option ℕ
picked_line blocks port name = longest_of (key_line blocks port) name
