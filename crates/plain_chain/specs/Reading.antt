-- What is read of a bundle once, and what that leaves of the maker of patterns.
use Rattle.std.specs.Prelude.{◌≡◌, ◌<◌, ℕ, ◌^◌, nat_eq, ◌&&◌, Bool, true, false, List, [], ◌∷◌, length, map}
use Rattle.std.specs.Prelude.{Option, None, Some, Result, Ok, Err, if◌then◌else◌}
use Rattle.dns_data.specs.declared.block.Block.{Block}
use Rattle.dns_data.specs.declared.directive.Directive.{Directive}
use Rattle.dns_data.specs.declared.query.Query.{Query}
use Rattle.corefile_blocks.specs.declared.bundle.Bundle.{Bundle}
use Rattle.outside.specs.{WatchState, raised, with_refusals}
use Rattle.chain_meaning.specs.Accepting.{IsAccepted, IsRefusedWith}
use Rattle.plugin_api.specs.{Sayings}
use Rattle.plugin_api.specs.declared.verdict.Verdict.TheVariants as verdict
use Rattle.chain_meaning.specs.Steps.{Step, block_extras, steps_of}
use Rattle.dns_data.specs.declared.class.TheConstants as classes
use Rattle.dns_data.specs.declared.message.Opt.{Opt}
use Rattle.chain_meaning.specs.Serving.{block_of, is_known_version}
use Rattle.chain_meaning.specs.Grounds.{Terms, brought_of, terms_by}
use Rattle.chain_build.specs.{is_of_pattern}
use Rattle.chain_build.specs.Plans.{extras_in, steps_in}
use Rattle.chain_build.specs.declared.fault.CheckFault.{CheckFault}
use Rattle.chain_build.specs.declared.fault.CheckFault.TheVariants as check
use Rattle.plain_chain.specs.declared.fault.PlainFault.{PlainFault}
use Rattle.plain_chain.specs.declared.fault.PlainFault.TheVariants as fault
use Rattle.plain_chain.specs.declared.reading.PlainRead.{PlainRead}

-- the refusals of a maker behind a fault: they rise by one where it refused a pattern
abbrev pub refusals_behind : PlainFault → ℕ → ℕ
refusals_behind (fault.Refused why) before = if is_of_pattern why then raised before else before
refusals_behind other before = before

-- a maker behind reading: nothing but its refusals is another
abbrev pub plain_behind : {X : Type 0} → Result X PlainFault → WatchState → WatchState
plain_behind (Ok x) state = state
plain_behind (Err refused) state =
    with_refusals state (refusals_behind refused state.refusals)

-- the chains are those of the blocks, which can be counted
pub record IsWhole (read : PlainRead) : Type 0 where
  pub few : length read.blocks < 2 ^ 32
  pub chains : (said : Sayings)
      → map (steps_in said) read.chains ≡ map (steps_of said read.files.now) read.blocks
  pub extras : map extras_in read.chains ≡ map block_extras read.blocks

-- each directive of a name that no plugin has is taken for that of an extra. What they say matters
-- to no bundle's acceptance.
abbrev pub plain_terms : ℕ → Terms
plain_terms default_port =
    terms_by default_port (brought_of (λ name. true) (λ name d. true)) (λ name d q. verdict.Pass)

-- this was read of a bundle, which is accepted
pub record IsReadOf (bundle : Bundle) (default_port : ℕ) (read : PlainRead) : Type 0 where
  pub accepted : IsAccepted (plain_terms default_port) bundle read.blocks
  pub files : read.files.now ≡ bundle.files
  pub whole : IsWhole read

-- reading a bundle, where the maker refused this text last
abbrev pub ReadsPlain : Bundle → ℕ → Option (List ℕ) → Result PlainRead CheckFault → Type 0
ReadsPlain bundle default_port last (Ok read) = IsReadOf bundle default_port read
ReadsPlain bundle default_port last (Err (check.Refused why)) =
    IsRefusedWith (plain_terms default_port) bundle last why
ReadsPlain bundle default_port last (Err check.NoMemory) = Unit {0}

-- whether a block has an extra's directive
abbrev pub is_some_extra : List Directive → Bool
is_some_extra [] = false
is_some_extra (d ∷ directives) = true

abbrev pub has_extra : Option Block → Bool
has_extra None = false
has_extra (Some block) = is_some_extra (block_extras block)

-- whether a query with this OPT record and class is for a block, and that has one
abbrev pub asks_extra : Option Opt → ℕ → List Block → Query → Bool
asks_extra opt class blocks q =
    is_known_version opt && (nat_eq class classes.IN && has_extra (block_of blocks q))

-- whether there is no step
abbrev pub has_none : List Step → Bool
has_none [] = true
has_none (step ∷ steps) = false
