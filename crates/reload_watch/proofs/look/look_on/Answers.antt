use Rattle.std.proofs.Common.{true, ◌≡◌, ℕ, ap, refl, subst, sym, ◌∙◌, rules}
use Rattle.outside.specs.States.{WatchState}
use Rattle.chain_build.specs.{PlansData}
use Rattle.corefile_bundle.specs.{GathersFrom, TellsGathering, gathered-in-order, read_again}
use Rattle.reload_watch.specs.Going.{CountsRefusals}
use Rattle.reload_watch.specs.Look.{AnswersKept, IsNext}
use Rattle.run_meaning.specs.Reloads.{reloads}
use Rattle.reload_watch.specs.States.{serving_of, source_data}
use Rattle.reload_watch.proofs.Going.{goes_same, goes_then, kept_goes, next_counts, noted_counts, stays_goes, tells_kept, tells_same}
use Rattle.reload_watch.proofs.Looks.{kept_looks, next_looks}
use Rattle.pin_table.specs.{plan_of}
use Rattle.reload_watch.proofs.Stocked.{kept_searched}
use Rattle.reload_watch.proofs.look.look_on.Goals as goal

pub returns-in-Kept-clause-look : goal.returns-in-Kept-clause-look
returns-in-Kept-clause-look g c =
    let state = g.W.PatternMaker.state in
    let old = serving_of c.args.watcher.now in
    let before = state c.args.watcher.now.watch in
    let mid = state c.gather_again-gathered.new.watch in
    let found = state c.find-found.new.watch in
    let after = state c.note_look.new.watch in
    let again : reloads old.plans.blocks ≡ true = c.requires.again in
    let again_read = c.gather_again-gathered.result in
    let gives = read_again old.plans.bundle again_read in
    let told : TellsGathering (source_data c.args.source) before mid gives =
    subst (λ (x : PlansData). TellsGathering (source_data c.args.source) before mid (read_again x.bundle again_read)) c.deref.ensures c.gather_again-gathered.ensures.told in
    let kept = subst (λ (x : PlansData). AnswersKept g.B.Rulebook.taken g.B.Rulebook.said x (read_again x.bundle again_read) c.in-Kept.looking) c.deref-2.ensures c.in-Kept.ensures.finds in
    record {
      own = search rules;
      workers = search rules;
      looks = kept_looks _ old before found after gives c.in-Kept.looking c.note_look.result again
          (tells_kept c.in-Kept.looking c.in-Kept.ensures.watch told) kept c.note_look.ensures.notes;
      searches = kept_searched (plan_of c.args.watcher.now.publisher) (plan_of c.args.watcher.now.publisher) g.B.Rulebook.taken g.B.Rulebook.said old.plans gives found after c.in-Kept.looking c.note_look.result refl kept c.note_look.ensures.notes;
      extras = search rules;
      sweeps = search rules;
      goes = goes_then (stays_goes c.gather_again-gathered.ensures.stays)
          (goes_then (kept_goes c.in-Kept.looking mid found c.in-Kept.ensures.watch) (stays_goes c.note_look.ensures.stays));
      refusals = subst (λ (n : ℕ). CountsRefusals c.note_look.result n after.refusals) c.gather_again-gathered.ensures.stays.refusals
          (noted_counts c.in-Kept.looking c.note_look.result mid found after c.in-Kept.ensures.watch c.note_look.ensures.stays.refusals c.note_look.ensures.notes);
      read = search rules;
    }

pub returns-in-Next-clause-look : goal.returns-in-Next-clause-look
returns-in-Next-clause-look g c =
    let state = g.W.PatternMaker.state in
    let old = serving_of c.args.watcher.now in
    let new = serving_of c.publish_next.new.watcher in
    let before = state c.args.watcher.now.watch in
    let mid = state c.gather_again-gathered.new.watch in
    let found = state c.find-found.new.watch in
    let after = state c.publish_next.new.watcher.watch in
    let again : reloads old.plans.blocks ≡ true = c.requires.again in
    let again_read = c.gather_again-gathered.result in
    let gives = read_again old.plans.bundle again_read in
    let told : TellsGathering (source_data c.args.source) before mid gives =
    subst (λ (x : PlansData). TellsGathering (source_data c.args.source) before mid (read_again x.bundle again_read)) c.deref.ensures c.gather_again-gathered.ensures.told in
    let next = subst (λ (x : PlansData). IsNext g.B.Rulebook.taken g.B.Rulebook.said x (read_again x.bundle again_read) c.in-Next.plans) c.deref-2.ensures c.in-Next.ensures.finds in
    record {
      own = search rules;
      workers = search rules;
      looks = next_looks _ old new before found after gives c.in-Next.plans c.publish_next.result again
          (tells_same c.in-Next.ensures.watch told) next c.publish_next.ensures.publishes c.publish_next.ensures.stock;
      searches = search rules;
      extras = search rules;
      sweeps = search rules;
      goes = goes_then (stays_goes c.gather_again-gathered.ensures.stays)
          (goes_then (goes_same mid found c.in-Next.ensures.watch) (stays_goes c.publish_next.ensures.stays));
      refusals = next_counts old new found after c.in-Next.plans c.publish_next.result before.refusals after.refusals
          (c.publish_next.ensures.stays.refusals ∙ ap (λ (s : WatchState). s.refusals) c.in-Next.ensures.watch ∙ c.gather_again-gathered.ensures.stays.refusals) c.publish_next.ensures.publishes;
      read = search rules;
    }

-- what is to serve next came in order, as it was read
pub publish_next-requires-clause-gathered : goal.publish_next-requires-clause-gathered
publish_next-requires-clause-gathered g c =
    let source = source_data c.args.source in
    let again_read = c.gather_again-gathered.result in
    let bundle = c.deref.result.now.bundle in
    let told = c.gather_again-gathered.ensures.told in
    let same : c.deref-2.result.now ≡ c.deref.result.now = c.deref-2.ensures ∙ sym c.deref.ensures in
    let next = subst (λ (x : PlansData). IsNext g.B.Rulebook.taken g.B.Rulebook.said x (read_again x.bundle again_read) c.in-Next.plans) same c.in-Next.ensures.finds in
    gathered-in-order source told.reads c.in-Next.plans.bundle (subst (GathersFrom source told.reads) next.got told.gathers)
