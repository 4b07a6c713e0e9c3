-- A run of which no call failed ends by no status that a failing call brings.
use Rattle.std.proofs.Common.{◌≡◌, ◌≢◌, ◌⊎◌, ℕ, List, [], ◌∷◌, Option, None, Some, IfSome, option_map, refl, sym, ap, ◌∙◌, subst, inl, inr, ⊎_elim, arith}
use Rattle.std.specs.List.{AllByRecursion}
use Rattle.one_history.specs.Calls.{Call}
use Rattle.outside.specs.declared.datagram.Wrote.{Wrote}
use Rattle.outside.specs.declared.mark.Mark.{Mark}
use Rattle.outside.specs.declared.datagram.Wrote.TheVariants as wrote
use Rattle.outside.specs.Causes.{Rose}
use Rattle.outside.specs.Hosts.{HostState, TellsOneLine}
use Rattle.outside.specs.States.{WatchState}
use Rattle.outside_mem.specs.Never.{never_state, never_watch_state}
use Rattle.outside_mem.specs.declared.never_side.NeverSide.{NeverSide}
use Rattle.outside_mem.specs.declared.never_watch.NeverWatch.{NeverWatch}
use Rattle.corefile_blocks.specs.declared.bundle.Bundle.{Bundle}
use Rattle.corefile_words.specs.declared.word.Pair.{Pair}
use Rattle.server_tests.specs.Serving.{LoadsNothing}
use Rattle.dns_server.specs.declared.report.Done.{Done}
use Rattle.dns_server.specs.declared.status.Status.{Status}
use Rattle.dns_server.specs.declared.status.Status.TheVariants as status
use Rattle.dns_server.specs.Messages.{status_text}
use Rattle.dns_server.specs.Report.{RunData, CauseOf, RunsCommand, SomeFailed, TellEach}
use Rattle.dns_server.specs.States.{RunSetup, SideRun, side_runs}
use Rattle.dns_server.specs.Stocking.{Program}
use Rattle.dns_server.specs.Telling.{IsToldRun, TellsLine, TellsStatus, after_tell}
use Rattle.dns_server.specs.Words.{IsByCommand, IsByLoad}

abbrev pub Receives : SideRun → Type 0
Receives side = side.state.counts.recv ≡ 0

-- no call of a run's sides, of its watch or of its host failed
pub record NoneFailed (run : RunData) (before after : HostState) : Type 0 where
  pub sides : AllByRecursion Receives run.sides
  pub watch : IfSome run.watch (λ w. w.counts.reads ≡ 0)
  pub closed : before.counts.opens ≡ 0
  pub opens : after.counts.opens ≡ 0
  pub tells : after.counts.tells ≡ 0

no_side : (setup : RunSetup) (bundles : List Bundle) (pinned : List (List ℕ)) (calls : List (List (Call Mark))) (sides : List SideRun) → TellEach setup bundles pinned calls sides → AllByRecursion Receives sides → SomeFailed sides → ⊥
no_side setup bundles [] [] [] tell all some = some
no_side setup bundles [] [] (side ∷ sides) tell all some = tell
no_side setup bundles [] (c ∷ calls) sides tell all some = tell
no_side setup bundles (serials ∷ pinned) [] sides tell all some = tell
no_side setup bundles (serials ∷ pinned) (c ∷ calls) [] tell all some = some
no_side setup bundles (serials ∷ pinned) (c ∷ calls) (side ∷ sides) tell all (inl is) =
    let rose = tell.0.failed is in let none = all.0 in absurd (omega (arith, rose, none))
no_side setup bundles (serials ∷ pinned) (c ∷ calls) (side ∷ sides) tell all (inr some) = no_side setup bundles pinned calls sides tell.1 all.1 some

went_out : {line : List ℕ} {named final : Status} {before after : HostState} (result : Wrote) → TellsOneLine before after line result → final ≡ after_tell result named → after.counts.tells ≡ 0 → final ≡ named
went_out wrote.Ok tells is none = is
went_out wrote.Failed tells is none = let rose = ap (λ c. c.tells) tells.counts in absurd (omega (arith, rose, none))

line_so : (named final : Status) (before after : HostState) (line : List ℕ) → TellsLine line named final before after → after.counts.tells ≡ 0 → final ≡ named
line_so named final before after [] told none = told.final_is
line_so named final before after (byte ∷ bytes) told none = went_out told.result told.tells told.final_is none

opens_one : {line : List ℕ} {before after : HostState} (result : Wrote) → TellsOneLine before after line result → after.counts.opens ≡ 0 → before.counts.opens ≡ 0
opens_one wrote.Ok tells none = sym (ap (λ c. c.opens) tells.counts) ∙ none
opens_one wrote.Failed tells none = sym (ap (λ c. c.opens) tells.counts) ∙ none

opens_so : (named final : Status) (before after : HostState) (line : List ℕ) → TellsLine line named final before after → after.counts.opens ≡ 0 → before.counts.opens ≡ 0
opens_so named final before after [] told none = sym (ap (λ h. h.counts.opens) told.host) ∙ none
opens_so named final before after (byte ∷ bytes) told none = opens_one told.result told.tells none

-- a status that came to be told stands, or that of want of memory
stands : {how final : Status} {before after : HostState} → TellsStatus how final before after → after.counts.tells ≡ 0 → (final ≡ how) ⊎ (final ≡ status.NoMemory)
stands {how} {final} {before} {after} told none = let is = line_so told.named final before after (status_text told.named) told.tells none in ⊎_elim (λ e. inl (is ∙ e)) (λ e. inr (is ∙ e)) told.either

no_read : (watch : Option WatchState) → IfSome watch (λ w. w.counts.reads ≡ 0) → watch ≢ None → IfSome watch (λ w. Rose 0 w.counts.reads) → ⊥
no_read None zero some rose = some refl
no_read (Some w) zero some rose = absurd (omega (arith, zero, rose))

module _ {program : Program} {words : List (List ℕ)} {env : List Pair} {run : RunData} {before after : HostState} (told : IsToldRun program words env run before after) (loads : LoadsNothing words) (none : NoneFailed run before after) where
  -- where the run ended so before it was told, that is for a cause
  caused : (how : Status) → told.how ≡ how → how ≢ status.Usage → ((setup : RunSetup) → RunsCommand setup (record run { status = told.how }) before told.quiet → ⊥) → ⊥
  caused how is other none_so = ⊎_elim (λ idle. other (sym is ∙ idle.status_is)) (⊎_elim (λ serves. none_so _ serves.runs) (λ load. absurd (loads load.count load.words_are))) told.runs

  ends : (how : Status) → how ≢ status.NoMemory → run.status ≡ how → told.how ≡ how
  ends how other is = ⊎_elim (λ e. sym e ∙ is) (λ e. absurd (other (sym is ∙ e))) (stands told.tells none.tells)

  -- the cause of such a status
  cause_of : {setup : RunSetup} (how : Status) → told.how ≡ how → RunsCommand setup (record run { status = told.how }) before told.quiet → CauseOf how setup (record run { status = told.how }) before.counts told.quiet.counts
  cause_of {setup} how is runs = subst (λ s. CauseOf s setup (record run { status = told.how }) before.counts told.quiet.counts) is runs.cause

  pub no_worker_fails : run.status ≢ status.WorkerFailed
  no_worker_fails is =
      let how = ends status.WorkerFailed (λ e. absurd cc) is in
      caused status.WorkerFailed how (λ e. absurd cc) (λ setup runs.
      no_side setup runs.served.bundles runs.served.pinned runs.served.calls run.sides runs.served.sides none.sides (cause_of status.WorkerFailed how runs).some)

  pub no_read_fails : (name : List ℕ) → run.status ≢ status.ReadFailed name
  no_read_fails name is =
      let how = ends (status.ReadFailed name) (λ e. absurd cc) is in
      caused (status.ReadFailed name) how (λ e. absurd cc) (λ setup runs.
      let failed = cause_of (status.ReadFailed name) how runs in no_read run.watch none.watch failed.watch failed.why.0)

  pub no_open_fails : run.status ≢ status.OpenFailed
  no_open_fails is =
      let how = ends status.OpenFailed (λ e. absurd cc) is in
      caused status.OpenFailed how (λ e. absurd cc) (λ setup runs.
      let rose = (cause_of status.OpenFailed how runs).1 in
      let was = none.closed in
      let now = opens_so told.tells.named run.status told.quiet after (status_text told.tells.named) told.tells.tells none.opens in
      absurd (omega (arith, rose, was, now)))

  pub no_tell_fails : run.status ≢ status.TellFailed
  no_tell_fails is =
      let how = ends status.TellFailed (λ e. absurd cc) is in
      caused status.TellFailed how (λ e. absurd cc) (λ setup runs. cause_of status.TellFailed how runs)

-- what a report of such sides and such a watch tells
pub receive : (dones : List (Done NeverSide)) → AllByRecursion Receives (side_runs never_state dones)
receive [] = tt
receive (done ∷ dones) = (refl, receive dones)

pub reads : (watch : Option NeverWatch) → IfSome (option_map never_watch_state watch) (λ w. w.counts.reads ≡ 0)
reads None = tt
reads (Some watch) = refl
