-- Which bundles are accepted: the first fault of the Corefile's language, and then, block by block
-- and directive by directive in the order of the text, a name that no plugin has, a second
-- directive of a name that may stand once, and what a directive's reader refuses, the faults of its
-- file last. What becomes of patterns is judged by their maker. This server's own rule.
use Rattle.std.specs.Prelude.{◌≡◌, ℕ, ◌+◌, nat_eq, Bool, ◌&&◌, List, [], ◌∷◌, ◌++◌}
use Rattle.std.specs.Prelude.{length, Option, Some, None, Result, Ok, Err, if◌then◌else◌}
use Rattle.std.specs.Cmp.Lexicographic.{pointwise}
use Rattle.std.specs.List.{list_any}
use Rattle.std.specs.Option.{option_or}
use Rattle.dns_data.specs.declared.block.Block.{Block}
use Rattle.dns_data.specs.declared.directive.Directive.{Directive}
use Rattle.corefile_blocks.specs.declared.bundle.Bundle.{Bundle}
use Rattle.corefile_blocks.specs.declared.fault.CorefileFault.{CorefileFault}
use Rattle.corefile_blocks.specs.{blocks_of}
use Rattle.dns_data.specs.declared.file.FileText.{FileText}
use Rattle.file_plugin.specs.{file_fault}
use Rattle.file_plugin.specs.declared.fault.FileFault.{FileFault}
use Rattle.file_plugin.specs.declared.fault.FileFault.TheVariants as file
use Rattle.acl_plugin.specs.{acl_fault}
use Rattle.cache_rules.specs.{cache_fault}
use Rattle.dns64_plugin.specs.{dns64_fault}
use Rattle.forward_plugin.specs.{forward_fault}
use Rattle.hosts_plugin.specs.{hosts_fault}
use Rattle.pattern_judging.specs.{IsFault, IsWell, Judgement, Task}
use Rattle.plain_plugins.specs.{plain_fault}
use Rattle.plugin_api.specs.{is_once, rank_of}
use Rattle.plugin_api.specs.declared.fault.DirectiveFault.{DirectiveFault}
use Rattle.plugin_api.specs.declared.fault.DirectiveFault.TheVariants as fault
use Rattle.plugin_api.specs.declared.fault.DirectiveWhy.{DirectiveWhy}
use Rattle.plugin_api.specs.declared.fault.DirectiveWhy.TheVariants as why
use Rattle.plugin_api.specs.declared.ranks.Rank.{Rank}
use Rattle.plugin_api.specs.declared.ranks.Rank.TheVariants as rank
use Rattle.chain_meaning.specs.declared.refusal.Refusal.{Refusal}
use Rattle.chain_meaning.specs.declared.refusal.Refusal.TheVariants as refusal
use Rattle.rewrite_plugin.specs.{rewrite_fault}
use Rattle.rewrite_plugin.specs.{patterns_of as rewrite_patterns}
use Rattle.template_plugin.specs.{template_fault}
use Rattle.template_plugin.specs.{patterns_of as template_patterns}
use Rattle.chain_meaning.specs.Steps.{Context, context_of, file_in, file_plans, plan_in}
use Rattle.chain_meaning.specs.Grounds.{Brought, Terms}

-- whether one of these directives has the name
abbrev pub stands_in : List Directive → List ℕ → Bool
stands_in before name = list_any (λ d. pointwise nat_eq d.name name) before

abbrev pub refused_by : Option DirectiveFault → Option Refusal
refused_by None = None
refused_by (Some (fault.Why line why)) = Some (refusal.Directive line why)
refused_by (Some (fault.TooMany what number)) = Some (refusal.TooMany what number)
refused_by (Some fault.NoMemory) = None

-- the same of `file`, whose zone file may be at fault
abbrev pub refused_by_file : Option FileFault → Option Refusal
refused_by_file None = None
refused_by_file (Some (file.Directive refused)) = refused_by (Some refused)
refused_by_file (Some (file.Zone line at why)) = Some (refusal.Zone line at why)

-- the patterns in the words of a directive of this rank
abbrev pub rank_patterns : Option Rank → Directive → List (List ℕ)
rank_patterns (Some rank.Rewrite) d = rewrite_patterns d
rank_patterns (Some rank.Template) d = template_patterns d.body
rank_patterns other d = []

-- the patterns of directives, in the order of the text
abbrev pub patterns_in : List Directive → List (List ℕ)
patterns_in [] = []
patterns_in (d ∷ directives) = rank_patterns (rank_of d.name) d ++ patterns_in directives

-- the patterns of blocks
abbrev pub blocks_patterns : List Block → List (List ℕ)
blocks_patterns [] = []
blocks_patterns (block ∷ blocks) = patterns_in block.directives ++ blocks_patterns blocks

-- what a directive stands behind: so many patterns of the configuration, and the directives that
-- stand before it in its block
pub record Behind : Type 0 where
  pub patterns : ℕ
  pub before : List Directive
  pub context : Context

-- the first directive of a block
abbrev pub at_front : ℕ → Context → Behind
at_front patterns context = record { patterns = patterns; before = []; context = context }

-- with one directive more
abbrev pub behind_one : Behind → Directive → Behind
behind_one b d = record {
  patterns = b.patterns + length (rank_patterns (rank_of d.name) d);
  before = b.before ++ d ∷ [];
  context = b.context;
}

-- an extra's directive is refused where the extras of its name don't take it, or there are none
abbrev pub extra_refusal : Brought → Directive → Option Refusal
extra_refusal brought d =
    if brought.named d.name then
    if brought.taken d.name d then None else Some (refusal.Directive d.line why.Extra)
    else Some (refusal.Unknown d.line)

-- what the reader of a directive without patterns refuses. One rank has no reader yet, and its name
-- is unknown; no name has the rank of extras.
abbrev pub fixed_refusal : Rank → Behind → Directive → Option Refusal
fixed_refusal rank.Acl b d = refused_by (acl_fault d b.context.zones)
fixed_refusal rank.Hosts b d = refused_by (hosts_fault d b.context.zones)
fixed_refusal rank.File b d =
    refused_by_file
    (file_fault (file_plans b.context b.before) d b.context.zones (file_in b.context.files d))
fixed_refusal rank.Dns64 b d = refused_by (dns64_fault d)
fixed_refusal rank.Extra b d = Some (refusal.Unknown d.line)
fixed_refusal rank.Cache b d = refused_by (cache_fault d b.context.zones)
fixed_refusal rank.Forward b d = refused_by (forward_fault d b.context.files)
fixed_refusal rank b d = refused_by (plain_fault rank d b.context.zones)

-- what the reader of a directive refuses
abbrev pub reader_refusal : Judgement → Rank → Behind → Directive → Option Refusal
reader_refusal judgement rank.Rewrite b d = refused_by (rewrite_fault judgement b.patterns d)
reader_refusal judgement rank.Template b d =
    refused_by (template_fault judgement b.patterns (plan_in b.context.zones d))
reader_refusal judgement rank b d = fixed_refusal rank b d

-- a second one, or what the reader refuses
abbrev pub read_refusal : Judgement → Bool → Rank → Behind → Directive → Option Refusal
read_refusal judgement second rank b d =
    if second then Some (refusal.Directive d.line why.Twice)
    else reader_refusal judgement rank b d

-- why a directive of this rank is refused, behind those that stand before it
abbrev pub rank_refusal : Judgement → Brought → Option Rank → Behind → Directive
    → Option Refusal
rank_refusal judgement brought None b d = extra_refusal brought d
rank_refusal judgement brought (Some rank) b d =
    read_refusal judgement (is_once rank && stands_in b.before d.name) rank b d

-- why a directive is refused
abbrev pub directive_refusal : Judgement → Brought → Behind → Directive → Option Refusal
directive_refusal judgement brought b d = rank_refusal judgement brought (rank_of d.name) b d

-- why the first of the directives of a block is refused that is
abbrev pub directives_refusal : Judgement → Brought → Behind → List Directive → Option Refusal
directives_refusal judgement brought b [] = None
directives_refusal judgement brought b (d ∷ directives) =
    option_or (directive_refusal judgement brought b d)
    (directives_refusal judgement brought (behind_one b d) directives)

-- why a block is refused, behind so many patterns
abbrev pub block_refusal : Judgement → Brought → ℕ → List FileText → Block → Option Refusal
block_refusal judgement brought patterns files block =
    directives_refusal judgement brought (at_front patterns (context_of files block))
    block.directives

-- why the first of the blocks is refused that is
abbrev pub blocks_refusal : Judgement → Brought → ℕ → List FileText → List Block
    → Option Refusal
blocks_refusal judgement brought patterns files [] = None
blocks_refusal judgement brought patterns files (block ∷ blocks) =
    option_or (block_refusal judgement brought patterns files block)
    (blocks_refusal judgement brought (patterns + length (patterns_in block.directives)) files
    blocks)

-- how a pattern that is refused is told: at its line
abbrev pub told : ℕ → DirectiveWhy → Refusal
told line why = refusal.Directive line why

-- the patterns of a directive, and why it is refused
abbrev pub directive_task : Brought → Behind → Directive → Task Refusal
directive_task brought b d = record {
  number = b.patterns;
  patterns = rank_patterns (rank_of d.name) d;
  fault = λ judgement. directive_refusal judgement brought b d;
}

-- those of the directives of a block that are left
abbrev pub directives_task : Brought → Behind → List Directive → Task Refusal
directives_task brought b directives = record {
  number = b.patterns;
  patterns = patterns_in directives;
  fault = λ judgement. directives_refusal judgement brought b directives;
}

-- those of a block
abbrev pub block_task : Brought → ℕ → List FileText → Block → Task Refusal
block_task brought patterns files block =
    directives_task brought (at_front patterns (context_of files block)) block.directives

-- those of blocks
abbrev pub blocks_task : Brought → ℕ → List FileText → List Block → Task Refusal
blocks_task brought patterns files blocks = record {
  number = patterns;
  patterns = blocks_patterns blocks;
  fault = λ judgement. blocks_refusal judgement brought patterns files blocks;
}

-- a bundle is accepted, and these are its blocks: all patterns are good, and nothing is refused
-- where all of them are made
pub record IsAccepted (terms : Terms) (bundle : Bundle) (blocks : List Block) : Type 0 where
  pub read : blocks_of bundle terms.default_port ≡ Ok blocks
  pub well : IsWell (blocks_task terms.brought 0 bundle.files blocks)

-- why what was read of a bundle with these files is refused, where the maker of patterns refused
-- this text last
abbrev pub IsRefusedFor : Brought → List FileText → Result (List Block) CorefileFault
    → Option (List ℕ) → Refusal → Type 0
IsRefusedFor brought files (Ok blocks) last why =
    IsFault told (blocks_task brought 0 files blocks) last why
IsRefusedFor brought files (Err fault) last why = why ≡ refusal.Corefile fault

-- why a bundle is refused, where the maker of patterns refused this text last
abbrev pub IsRefusedWith : Terms → Bundle → Option (List ℕ) → Refusal → Type 0
IsRefusedWith terms bundle last why =
    IsRefusedFor terms.brought bundle.files (blocks_of bundle terms.default_port) last why

-- why a bundle is refused, whatever text was refused last
abbrev pub IsRefused : Terms → Bundle → Refusal → Type 0
IsRefused terms bundle why =
    (last : Option (List ℕ)) × IsRefusedWith terms bundle last why
