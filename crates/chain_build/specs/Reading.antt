-- What the parts of reading a directive do, and what they leave of the maker of patterns.
use Rattle.std.specs.Prelude.{◌≡◌, ℕ, ◌+◌, Bool, true, false, List, [], ◌∷◌, ◌++◌, Option}
use Rattle.std.specs.Prelude.{Some, None}
use Rattle.std.specs.Prelude.{Result, Ok, Err, if◌then◌else◌}
use Rattle.outside.specs.{WatchState, raised, with_refusals}
use Rattle.dns_data.specs.declared.directive.Directive.{Directive}
use Rattle.plugin_api.specs.declared.fault.DirectiveFault.{DirectiveFault}
use Rattle.plugin_api.specs.declared.ranks.Rank.{Rank}
use Rattle.plugin_api.specs.declared.ranks.Rank.TheVariants as rank
use Rattle.pattern_judging.specs.{IsFault, IsWell, Task}
use Rattle.plugin_api.specs.declared.fault.DirectiveFault.TheVariants as directive
use Rattle.chain_meaning.specs.Accepting.{extra_refusal, fixed_refusal, rank_patterns}
use Rattle.chain_meaning.specs.Accepting.{reader_refusal, refused_by}
use Rattle.chain_meaning.specs.Accepting.{Behind, told}
use Rattle.chain_meaning.specs.Grounds.{Brought}
use Rattle.chain_meaning.specs.declared.refusal.Refusal.{Refusal}
use Rattle.chain_meaning.specs.declared.refusal.Refusal.TheVariants as refusal
use Rattle.plugin_api.specs.declared.fault.DirectiveWhy.TheVariants as why
use Rattle.chain_build.specs.declared.fault.CheckFault.{CheckFault}
use Rattle.chain_build.specs.declared.fault.CheckFault.TheVariants as fault
use Rattle.chain_build.specs.declared.places.Places.{Places}
use Rattle.chain_build.specs.Places.{placed_by}

-- whether a refusal is that of a pattern
abbrev pub is_of_pattern : Refusal → Bool
is_of_pattern (refusal.Directive line why.Pattern) = true
is_of_pattern (refusal.Directive line why.PatternSize) = true
is_of_pattern other = false

-- the refusals of a maker behind a fault: they rise by one where it refused a pattern
abbrev pub refusals_behind : CheckFault → ℕ → ℕ
refusals_behind (fault.Refused refused) before =
    if is_of_pattern refused then raised before else before
refusals_behind fault.NoMemory before = before

-- a maker behind a check: nothing but its refusals is another
abbrev pub check_behind : {X : Type 0} → Result X CheckFault → WatchState → WatchState
check_behind (Ok x) state = state
check_behind (Err refused) state =
    with_refusals state (refusals_behind refused state.refusals)

-- whether the directives of a rank have no patterns
abbrev pub IsFixed : Rank → Type 0
IsFixed rank.Rewrite = ⊥
IsFixed rank.Template = ⊥
IsFixed other = Unit {0}

-- reading a directive of this rank, which has no patterns
abbrev pub ReadsAs : Rank → Behind → Directive → Places → Places
    → Result (Unit {0}) CheckFault → Type 0
ReadsAs rank b d old new (Ok done) =
    (fixed_refusal rank b d ≡ None) × (new ≡ placed_by (Some rank) b.context d old)
ReadsAs rank b d old new (Err (fault.Refused refused)) =
    fixed_refusal rank b d ≡ Some refused
ReadsAs rank b d old new (Err fault.NoMemory) = Unit {0}

-- reading the directive of an extra, which has no patterns
abbrev pub ReadsExtra : Brought → Directive → Places → Places → Result (Unit {0}) CheckFault
    → Type 0
ReadsExtra brought d old new (Ok done) =
    (brought.named d.name ≡ true) × (brought.taken d.name d ≡ true)
    × (new ≡ record old { extras = old.extras ++ d ∷ [] })
ReadsExtra brought d old new (Err (fault.Refused refused)) =
    extra_refusal brought d ≡ Some refused
ReadsExtra brought d old new (Err fault.NoMemory) = Unit {0}

-- so many more patterns are read
abbrev pub CountsOn : ℕ → Places → Places → Result (Unit {0}) CheckFault → Type 0
CountsOn count old new (Ok done) = new ≡ record old { patterns = old.patterns + count }
CountsOn count old new (Err refused) = refused ≡ fault.NoMemory

-- a fault of a directive is a refusal, unless it is want of memory
abbrev pub Refuses : DirectiveFault → CheckFault → Type 0
Refuses why (fault.Refused refused) = refused_by (Some why) ≡ Some refused
Refuses why fault.NoMemory = why ≡ directive.NoMemory

-- why a directive of this rank is refused, by what becomes of its patterns
abbrev pub reader_task : Rank → Behind → Directive → Task Refusal
reader_task rank b d = record {
  number = b.patterns;
  patterns = rank_patterns (Some rank) d;
  fault = λ judgement. reader_refusal judgement rank b d;
}

-- what becomes of the patterns of a directive of this rank, where the maker refused this text last
abbrev pub ReadsRank : Rank → Behind → Directive → Option (List ℕ)
    → Result (Unit {0}) CheckFault → Type 0
ReadsRank rank b d last (Ok done) = IsWell (reader_task rank b d)
ReadsRank rank b d last (Err (fault.Refused refused)) =
    IsFault told (reader_task rank b d) last refused
ReadsRank rank b d last (Err fault.NoMemory) = Unit {0}
