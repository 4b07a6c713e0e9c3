-- Whether blocks are to be looked at again, and how often. This server's own rule.
use Rattle.std.specs.Prelude.{Bool, true, false, List, [], ◌∷◌, Option, Some, None}
use Rattle.std.specs.Prelude.{if◌then◌else◌, unwrap_or}
use Rattle.std.specs.List.{list_any}
use Rattle.std.specs.Option.{option_or}
use Rattle.dns_data.specs.declared.block.Block.{Block}
use Rattle.dns_data.specs.declared.directive.Directive.{Directive}
use Rattle.plain_plugins.specs.declared.reload.ReloadTimes.{ReloadTimes}
use Rattle.plain_plugins.specs.{reload_times}
use Rattle.plugin_api.specs.declared.ranks.Rank.{Rank}
use Rattle.plugin_api.specs.declared.ranks.Rank.TheVariants as rank
use Rattle.plugin_api.specs.Ranks.{rank_of}

-- whether this is the rank of `reload`
abbrev pub is_reload_rank : Option Rank → Bool
is_reload_rank None = false
is_reload_rank (Some rank.Reload) = true
is_reload_rank (Some other) = false

-- whether a directive is `reload`
abbrev pub is_reload : Directive → Bool
is_reload d = is_reload_rank (rank_of d.name)

-- whether one of these directives is
abbrev pub has_reload : List Directive → Bool
has_reload directives = list_any is_reload directives

-- whether blocks are to be looked at again: one of them has `reload`
abbrev pub reloads : List Block → Bool
reloads blocks = list_any (λ block. has_reload block.directives) blocks

-- the times of the first `reload` among these directives
abbrev pub times_in : List Directive → Option ReloadTimes
times_in [] = None
times_in (d ∷ directives) =
    if is_reload d then Some (reload_times d.args) else times_in directives

-- the times of the first block that has a `reload`
abbrev pub first_times : List Block → Option ReloadTimes
first_times [] = None
first_times (block ∷ blocks) = option_or (times_in block.directives) (first_times blocks)

-- how often what these blocks say is looked at: the times of the first `reload` in the order of the
-- text
abbrev pub times_of : List Block → ReloadTimes
times_of blocks = unwrap_or (first_times blocks) (reload_times [])
