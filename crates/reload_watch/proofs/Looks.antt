-- How a look comes to its answer.
use Rattle.std.specs.Prelude.{map}
use Rattle.std.proofs.Common.{◌≡◌, ◌*◌, ◌+◌, ℕ, true, List, [], ◌++◌, length, Result, append-nil, refl, sym, ap, subst, ◌∙◌, inl, inr}
use Rattle.outside.specs.declared.mark.WatchMark.{WatchMark}
use Rattle.outside.specs.Journals.{watch-adds-then}
use Rattle.outside.specs.States.{WatchState}
use Rattle.outside.specs.WatchMarks.{AddsWatch}
use Rattle.corefile_blocks.specs.declared.bundle.Bundle.{Bundle}
use Rattle.corefile_bundle.specs.declared.fault.GatherFault.{GatherFault}
use Rattle.corefile_bundle.specs.Gathering.{TellsGathering, marks_of}
use Rattle.chain_build.specs.{PlansData, terms_in}
use Rattle.chain_meaning.specs.{Ground, terms_on}
use Rattle.chain_build.specs.declared.chain.Chain.{Chain}
use Rattle.plugin_api.specs.declared.extra.Extra as extra
use Rattle.plugin_api.specs.declared.rulebook.Rulebook as rulebook
use Rattle.plugin_api.specs.{Sayings, Takings}
use Rattle.run_meaning.specs.declared.looking.Looking.{Looking}
use Rattle.run_meaning.specs.declared.looking.Looking.TheVariants as looking
use Rattle.chain_meaning.specs.Accepting.{IsAccepted}
use Rattle.chain_meaning.specs.Steps.{block_extras}
use Rattle.extra_stock.specs.{IsShort, asked_by, is_named, names_weigh}
use Rattle.run_meaning.specs.Reloads.{reloads}
use Rattle.dns_data.specs.declared.directive.Directive.{Directive}
use Rattle.reload_watch.specs.Shortage.{Around, OfExtras, SaysStock, TellsStock, around_of, extras_at}
use Rattle.reload_watch.specs.States.{Serving, serving_of}
use Rattle.reload_watch.specs.declared.watcher.Watcher.{Watcher}
use Rattle.corefile_bundle.specs.Gathering.{Source}
use Rattle.pin_table.specs.{plan_of}
use Rattle.std.specs.Arc.{arc_value}
use Rattle.reload_watch.specs.Look.{standing_of, ServesBehind, ServesGathered, LooksOver, Starves}
use Rattle.reload_watch.specs.Look.{LooksOnce, AnswersKept, IsNext, IsNoted, NotesLook}
use Rattle.reload_watch.specs.Look.{PublishesNext}
use Rattle.run_meaning.specs.Answers.{AnswersLook, note_marks, publication}
use Rattle.run_meaning.specs.Messages.{look_text}

accepted_next : (taken : Takings) (said : Sayings) (current : PlansData) (gives : Result Bundle GatherFault) (plans : PlansData) → IsNext taken said current gives plans → IsAccepted (terms_in taken said current) plans.bundle plans.blocks
accepted_next taken said current gives plans next = subst (λ (g : Ground). IsAccepted (terms_on taken said g) plans.bundle plans.blocks) next.basis next.are.accepted

-- what is to serve next, and what is said of the stock by its directives of extras
of_next : (taken : Takings) (said : Sayings) (current : PlansData) (gives : Result Bundle GatherFault) (plans : PlansData) (P : List (List Directive) → Type 0) → IsNext taken said current gives plans → P plans.extras
    → OfExtras (terms_in taken said current) gives P
of_next taken said current gives plans P next says = record {
  bundle = plans.bundle;
  got = next.got;
  blocks = plans.blocks;
  accepted = accepted_next taken said current gives plans next;
  is = subst P (next.are.extras ∙ next.are.extras_are) says;
}

-- how many are asked for, by the blocks of what was read
asked_next : (taken : Takings) (said : Sayings) (around : Around) (current : PlansData) (gives : Result Bundle GatherFault) (plans : PlansData) (name : List ℕ) (asked had : ℕ) → IsNext taken said current gives plans
    → IsShort around.workers plans.extras around.found name asked had → asked ≡ around.workers * asked_by (is_named name) (map block_extras plans.blocks)
asked_next taken said around current gives plans name asked had next short =
    short.asks_is ∙ ap (λ (blocks : List (List Directive)). around.workers * asked_by (is_named name) blocks) (next.are.extras ∙ next.are.extras_are)

next_stock : (taken : Takings) (said : Sayings) (around : Around) (current : PlansData) (gives : Result Bundle GatherFault) (plans : PlansData) (result : Looking) → IsNext taken said current gives plans → SaysStock around.workers plans.extras around.found result
    → TellsStock (terms_in taken said current) around gives result
next_stock taken said around current gives plans (looking.StockShort name asked had) next says =
    of_next taken said current gives plans (λ blocks. SaysStock around.workers blocks around.found (looking.StockShort name asked had)) next says
next_stock taken said around current gives plans (looking.Published serial) next says =
    of_next taken said current gives plans (λ blocks. SaysStock around.workers blocks around.found (looking.Published serial)) next says
next_stock taken said around current gives plans looking.NoReload next says = tt
next_stock taken said around current gives plans (looking.ReadFailed name) next says = tt
next_stock taken said around current gives plans looking.Same next says = tt
next_stock taken said around current gives plans (looking.Refused why) next says = tt
next_stock taken said around current gives plans (looking.PortsDiffer ports others) next says = tt
next_stock taken said around current gives plans looking.SerialsSpent next says = tt
next_stock taken said around current gives plans (looking.AllPinned first second third) next says = tt
next_stock taken said around current gives plans looking.NoMemory next says = tt

module _ {B E : Type 0} {bk : rulebook.Ghosts B} {ex : extra.Ghosts E} where
  -- a look that publishes nothing
  over : {around : Around} {old : Serving (Chain B E bk ex)} {before mid after : WatchState} {gives : Result Bundle GatherFault} (answer : Looking) → publication answer ≡ []
      → reloads old.plans.blocks ≡ true → TellsGathering around.source before mid gives → IsNoted mid after answer
      → AnswersLook (standing_of bk.taken bk.said old.plans old.published) gives answer → ServesBehind old old gives answer → TellsStock (terms_in bk.taken bk.said old.plans) around gives answer
      → LooksOver around old old before after answer
  over {around} {old} {before} {mid} {after} {gives} answer quiet again read noted answers behind stock =
      let all = watch-adds-then read.told noted.told in
      let marks : marks_of read.reads ++ note_marks (look_text answer) noted.flag ≡ marks_of read.reads ++ (publication answer ++ note_marks (look_text answer) noted.flag) =
      ap (λ (m : List WatchMark). marks_of read.reads ++ (m ++ note_marks (look_text answer) noted.flag)) (sym quiet) in
      record { reads = read.reads; gives = gives; gathers = read.gathers; flag = noted.flag; told = subst (AddsWatch before after) marks all; answers = answers; behind = behind; stock = stock; again = again }

  -- want of memory, behind the reads
  starves : {around : Around} {old : Serving (Chain B E bk ex)} {before mid after : WatchState} {gives : Result Bundle GatherFault} → reloads old.plans.blocks ≡ true → TellsGathering around.source before mid gives → AddsWatch mid after []
      → Starves around old old before after
  starves {around} {old} {before} {mid} {after} {gives} again read none = record {
    gathered = record {
      gives = gives;
      tells = record { reads = read.reads; told = subst (AddsWatch before after) (append-nil (marks_of read.reads)) (watch-adds-then read.told none); gathers = read.gathers };
      is = tt;
    };
    same = refl;
    again = again;
  }

  -- an answer before anything is published, and its note
  pub kept_looks : (around : Around) (old : Serving (Chain B E bk ex)) (before mid after : WatchState) (gives : Result Bundle GatherFault) (answer result : Looking) → reloads old.plans.blocks ≡ true
      → TellsGathering around.source before mid gives → AnswersKept bk.taken bk.said old.plans gives answer → NotesLook mid after answer result → LooksOnce around old old before after result
  kept_looks around old before mid after gives looking.NoReload result again read kept notes = absurd kept
  kept_looks around old before mid after gives (looking.ReadFailed name) result again read kept notes = elim notes.either [
    | inl w ↦ rw w.0 (over (looking.ReadFailed name) refl again read w.1 kept refl tt)
    | inr w ↦ rw w.0 (starves again read w.1)
  ]
  kept_looks around old before mid after gives looking.Same result again read kept notes = elim notes.either [
    | inl w ↦ rw w.0 (over looking.Same refl again read w.1 kept refl tt)
    | inr w ↦ rw w.0 (starves again read w.1)
  ]
  kept_looks around old before mid after gives (looking.Refused why) result again read kept notes = elim notes.either [
    | inl w ↦ rw w.0 (over (looking.Refused why) refl again read w.1 kept refl tt)
    | inr w ↦ rw w.0 (starves again read w.1)
  ]
  kept_looks around old before mid after gives (looking.PortsDiffer ports others) result again read kept notes = elim notes.either [
    | inl w ↦ rw w.0 (over (looking.PortsDiffer ports others) refl again read w.1 (record { bundle = kept.bundle; got = kept.got; differs = kept.differs; blocks = kept.blocks; accepted = kept.accepted; is = kept.is }) refl tt)
    | inr w ↦ rw w.0 (starves again read w.1)
  ]
  kept_looks around old before mid after gives looking.SerialsSpent result again read kept notes = absurd kept
  kept_looks around old before mid after gives (looking.AllPinned first second third) result again read kept notes = absurd kept
  kept_looks around old before mid after gives (looking.StockShort name asked had) result again read kept notes = absurd kept
  kept_looks around old before mid after gives (looking.Published serial) result again read kept notes = absurd kept
  kept_looks around old before mid after gives looking.NoMemory result again read kept notes = elim notes.either [
    | inl w ↦ rw w.0 (starves again read w.1.told)
    | inr w ↦ rw w.0 (starves again read w.1)
  ]

  -- a chain that is to serve next, and what its publication came to
  pub next_looks : (around : Around) (old new : Serving (Chain B E bk ex)) (before mid after : WatchState) (gives : Result Bundle GatherFault) (plans : PlansData) (result : Looking) → reloads old.plans.blocks ≡ true
      → TellsGathering around.source before mid gives → IsNext bk.taken bk.said old.plans gives plans → PublishesNext old new mid after plans result → SaysStock around.workers plans.extras around.found result
      → LooksOnce around old new before after result
  next_looks around old new before mid after gives plans looking.NoReload again read next is stock = absurd is
  next_looks around old new before mid after gives plans (looking.ReadFailed name) again read next is stock = absurd is
  next_looks around old new before mid after gives plans looking.Same again read next is stock = absurd is
  next_looks around old new before mid after gives plans (looking.Refused why) again read next is stock = absurd is
  next_looks around old new before mid after gives plans (looking.PortsDiffer ports others) again read next is stock = absurd is
  next_looks around old new before mid after gives plans looking.SerialsSpent again read next is stock =
      rw is.1 (over looking.SerialsSpent refl again read is.2
      (record { bundle = plans.bundle; got = next.got; differs = next.differs; blocks = plans.blocks; accepted = accepted_next bk.taken bk.said old.plans gives plans next; is = (next.ports, is.0) }) refl tt)
  next_looks around old new before mid after gives plans (looking.AllPinned first second third) again read next is stock =
      rw is.0 (over (looking.AllPinned first second third) refl again read is.1.noted
      (record { bundle = plans.bundle; got = next.got; differs = next.differs; blocks = plans.blocks; accepted = accepted_next bk.taken bk.said old.plans gives plans next; is = record { ports = next.ports; few = is.1.few; one = is.1.one; two = is.1.two; three = is.1.three } }) refl tt)
  next_looks around old new before mid after gives plans (looking.StockShort name asked had) again read next is stock =
      rw is.0 (over (looking.StockShort name asked had) refl again read is.1.noted
      (record { bundle = plans.bundle; got = next.got; differs = next.differs; blocks = plans.blocks; accepted = accepted_next bk.taken bk.said old.plans gives plans next; is = record { ports = next.ports; few = is.1.few; workers = around.workers; asked_is = asked_next bk.taken bk.said around old.plans gives plans name asked had next stock; short = is.1.short } }) refl (next_stock bk.taken bk.said around old.plans gives plans (looking.StockShort name asked had) next stock))
  next_looks around old new before mid after gives plans (looking.Published serial) again read next is stock =
      record {
        reads = read.reads;
        gives = gives;
        gathers = read.gathers;
        flag = is.flag;
        told = watch-adds-then read.told is.told;
        answers = record { bundle = plans.bundle; got = next.got; differs = next.differs; blocks = plans.blocks; accepted = accepted_next bk.taken bk.said old.plans gives plans next; is = (next.ports, is.few, is.serial_is) };
        behind = subst (ServesGathered old new) (sym next.got) is.replaces;
        stock = next_stock bk.taken bk.said around old.plans gives plans (looking.Published serial) next stock;
        again = again;
      }
  next_looks around old new before mid after gives plans looking.NoMemory again read next is stock = rw is.0 (starves again read is.1)

module _ {W B E : Type 0} {bk : rulebook.Ghosts B} {ex : extra.Ghosts E} where
  -- what a look comes to behind a sweep, beside what was there before it
  pub swept_looks : (state : W → WatchState) (source : Source) (old mid new : Watcher W B E bk ex) (answer : Looking) → (plan_of mid.publisher).past ≡ (plan_of old.publisher).past → mid.current ≡ old.current → mid.watch ≡ old.watch → mid.workers ≡ old.workers
      → LooksOnce (around_of source mid new) (serving_of mid) (serving_of new) (state mid.watch) (state new.watch) answer
      → LooksOnce (around_of source old new) (serving_of old) (serving_of new) (state old.watch) (state new.watch) answer
  swept_looks state source old mid new answer past current watch workers h =
      let around : around_of source mid new ≡ around_of source old new = λ i. record {
        source = source;
        workers = workers i;
        found = λ name. names_weigh ex.title (is_named name) new.stock.spare.items + extras_at (plan_of new.publisher).past.filled name (length (past i).published);
      } in
      let serving : serving_of mid ≡ serving_of old = λ i. record { published = length (past i).published; filled = (past i).filled; plans = arc_value (current i) } in
      subst (λ (w : W). LooksOnce (around_of source old new) (serving_of old) (serving_of new) (state w) (state new.watch) answer) watch
      (subst (λ (s : Serving (Chain B E bk ex)). LooksOnce (around_of source old new) s (serving_of new) (state mid.watch) (state new.watch) answer) serving
      (subst (λ (a : Around). LooksOnce a (serving_of mid) (serving_of new) (state mid.watch) (state new.watch) answer) around h))
