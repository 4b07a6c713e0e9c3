-- A watch goes on, and its refusals are counted.
use Rattle.std.proofs.Common.{◌≡◌, ◌∙◌, ◌≤◌, ◌⊎◌, ℕ, Bool, true, false, Result, refl, sym, ap, subst, inl, inr, arith}
use Rattle.std.specs.Prelude.{OnSome, if◌then◌else◌}
use Rattle.outside.specs.Causes.{raised}
use Rattle.outside.specs.States.{WatchJournal, WatchState, WatchStays, with_refusals}
use Rattle.outside.specs.WatchMarks.{watch_added}
use Rattle.corefile_blocks.specs.declared.bundle.Bundle.{Bundle}
use Rattle.corefile_bundle.specs.declared.fault.GatherFault.{GatherFault}
use Rattle.corefile_bundle.specs.Gathering.{Source, TellsGathering, marks_of}
use Rattle.chain_meaning.specs.declared.refusal.Refusal.{Refusal}
use Rattle.chain_build.specs.{PlansData, is_of_pattern}
use Rattle.chain_build.specs.declared.chain.Chain.{Chain}
use Rattle.plugin_api.specs.declared.extra.Extra as extra
use Rattle.plugin_api.specs.declared.rulebook.Rulebook as rulebook
use Rattle.run_meaning.specs.declared.looking.Looking.{Looking}
use Rattle.run_meaning.specs.declared.looking.Looking.TheVariants as looking
use Rattle.reload_watch.specs.Going.{CountsRefusals, WatchGoesOn, kept_behind, refusals_by}
use Rattle.reload_watch.specs.Look.{NotesLook, PublishesNext}
use Rattle.reload_watch.specs.States.{Serving}

pub goes_then : {a b c : WatchState} → WatchGoesOn a b → WatchGoesOn b c → WatchGoesOn a c
goes_then p q = record {
  later = record { reads = omega (arith, p.later.reads, q.later.reads); notes = omega (arith, p.later.notes, q.later.notes) };
  script = q.script ∙ p.script;
  refusals = omega (arith, p.refusals, q.refusals);
}

pub stays_goes : {a b : WatchState} → WatchStays a b → WatchGoesOn a b
stays_goes p = record { later = p.later; script = p.script; refusals = omega (arith, p.refusals) }

more_behind : (of_pattern : Bool) (n : ℕ) → n ≤ (if of_pattern then raised n else n)
more_behind true n = omega arith
more_behind false n = omega arith

-- nothing but the refusals is another, and none is gone
goes_on : (before after : WatchState) (n : ℕ) → after ≡ with_refusals before n → before.refusals ≤ n → WatchGoesOn before after
goes_on before after n is more =
    let reads : after.counts.reads ≡ before.counts.reads = ap (λ (s : WatchState). s.counts.reads) is in
    let notes : after.counts.notes ≡ before.counts.notes = ap (λ (s : WatchState). s.counts.notes) is in
    let refusals : after.refusals ≡ n = ap (λ (s : WatchState). s.refusals) is in
    record {
      later = record { reads = omega (arith, reads); notes = omega (arith, notes) };
      script = ap (λ (s : WatchState). s.script) is;
      refusals = omega (arith, refusals, more);
    }

pub goes_same : (before after : WatchState) → after ≡ before → WatchGoesOn before after
goes_same before after is = goes_on before after before.refusals is (omega arith)

pub goes_refused : (why : Refusal) (before after : WatchState) → after ≡ with_refusals before (refusals_by why before.refusals) → WatchGoesOn before after
goes_refused why before after is = goes_on before after (refusals_by why before.refusals) is (more_behind (is_of_pattern why) before.refusals)

pub kept_goes : (answer : Looking) (before after : WatchState) → after ≡ kept_behind answer before → WatchGoesOn before after
kept_goes (looking.Refused why) before after is = goes_refused why before after is
kept_goes other before after is = goes_same before after is

-- what was told of a gathering stays so
tells_on : {source : Source} {old mid new : WatchState} {gives : Result Bundle GatherFault} → new.journal ≡ mid.journal → TellsGathering source old mid gives → TellsGathering source old new gives
tells_on {source} {old} {mid} {new} same tells = record {
  reads = tells.reads;
  told = record { told = subst (λ (j : WatchJournal). OnSome j (j ≡ watch_added old.journal (marks_of tells.reads))) (sym same) tells.told.told };
  gathers = tells.gathers;
}

pub tells_same : {source : Source} {old mid new : WatchState} {gives : Result Bundle GatherFault} → new ≡ mid → TellsGathering source old mid gives → TellsGathering source old new gives
tells_same is tells = tells_on (ap (λ (s : WatchState). s.journal) is) tells

pub tells_refused : {source : Source} {old mid new : WatchState} {gives : Result Bundle GatherFault} (n : ℕ) → new ≡ with_refusals mid n → TellsGathering source old mid gives → TellsGathering source old new gives
tells_refused n is tells = tells_on (ap (λ (s : WatchState). s.journal) is) tells

kept_journal : (answer : Looking) (state : WatchState) → (kept_behind answer state).journal ≡ state.journal
kept_journal (looking.Refused why) state = refl
kept_journal other state = refl

pub tells_kept : {source : Source} {old mid new : WatchState} {gives : Result Bundle GatherFault} (answer : Looking) → new ≡ kept_behind answer mid → TellsGathering source old mid gives → TellsGathering source old new gives
tells_kept {mid = mid} answer is tells = tells_on (ap (λ (s : WatchState). s.journal) is ∙ kept_journal answer mid) tells

-- the refusals behind an answer whose line was noted
kept_counts : (answer : Looking) (state : WatchState) (n : ℕ) → n ≡ (kept_behind answer state).refusals → CountsRefusals answer state.refusals n
kept_counts (looking.Refused why) state n is = is
kept_counts looking.NoMemory state n is = inl is
kept_counts other state n is = is

refused_or_not : (of_pattern : Bool) (before n : ℕ) → n ≡ (if of_pattern then raised before else before) → (n ≡ before) ⊎ (n ≡ raised before)
refused_or_not true before n is = inr is
refused_or_not false before n is = inl is

-- behind one for whose line there was no memory
unnoted_counts : (answer : Looking) (state : WatchState) (n : ℕ) → n ≡ (kept_behind answer state).refusals → CountsRefusals looking.NoMemory state.refusals n
unnoted_counts (looking.Refused why) state n is = refused_or_not (is_of_pattern why) state.refusals n is
unnoted_counts other state n is = inl is

pub noted_counts : (answer result : Looking) (state mid after : WatchState) → mid ≡ kept_behind answer state → after.refusals ≡ mid.refusals → NotesLook mid after answer result → CountsRefusals result state.refusals after.refusals
noted_counts answer result state mid after found same notes =
    let is : after.refusals ≡ (kept_behind answer state).refusals = same ∙ ap (λ (s : WatchState). s.refusals) found in
    elim notes.either [
      | inl w ↦ rw w.0 (kept_counts answer state after.refusals is)
      | inr w ↦ rw w.0 (unnoted_counts answer state after.refusals is)
    ]

module _ {B E : Type 0} {bk : rulebook.Ghosts B} {ex : extra.Ghosts E} where
  -- behind plans that are to serve next
  pub next_counts : (old new : Serving (Chain B E bk ex)) (before after : WatchState) (plans : PlansData) (result : Looking) (n m : ℕ) → m ≡ n → PublishesNext old new before after plans result → CountsRefusals result n m
  next_counts old new before after plans (looking.Refused why) n m same is = absurd is
  next_counts old new before after plans looking.NoMemory n m same is = inl same
  next_counts old new before after plans other n m same is = same
