-- How a run opens and ends.
use Rattle.std.proofs.Common.{◌≡◌, ◌≤◌, ◌≢◌, ℕ, suc, List, [], ◌∷◌, ◌++◌, length, map, Option, Some, None, Result, Ok, Err, append-nil, refl, sym, ap, subst, ◌∙◌, inl, inr, arith, ◌⊎◌}
use Rattle.std.specs.Prelude.{IfSome}
use Rattle.std.specs.List.{flat_map, AllByRecursion}
use Rattle.std.proofs.lemmas.List.Concat.{flat_map-cons}
use Rattle.dns_data.specs.declared.block.Block.{Block}
use Rattle.dns_data.specs.declared.limit.TheConstants as limits
use Rattle.outside.specs.declared.mark.WatchMark.{WatchMark}
use Rattle.outside.specs.declared.mark.WatchMark.TheVariants.{Published}
use Rattle.outside.specs.Causes.{Rose, HostCounts, WatchCounts}
use Rattle.outside.specs.Hosts.{HostState, OpenedSide, SupplyData, AddsHost, FailsToOpen, IsFreshWatch, OpensNothing, OpensTheWatch, TakesWatch, all_told, no_telling, told_watch}
use Rattle.outside.specs.Journals.{host-adds-nothing, host-adds-then, rose_failed, watch-adds-then, watch_tells_since}
use Rattle.outside.specs.Script.{SideScriptData}
use Rattle.outside.specs.States.{SideState, WatchState}
use Rattle.outside.specs.WatchMarks.{AddsWatch}
use Rattle.corefile_blocks.specs.declared.bundle.Bundle.{Bundle}
use Rattle.corefile_bundle.specs.declared.fault.GatherFault.{GatherFault}
use Rattle.corefile_bundle.specs.declared.fault.GatherFault.TheVariants as unread
use Rattle.corefile_bundle.specs.Gathering.{GathersFrom, OneRead, Source, TellsGathering, marks_of}
use Rattle.chain_build.specs.{ArePlans, PlansData, ground_of}
use Rattle.chain_meaning.specs.{Ground, Terms, terms_on}
use Rattle.chain_meaning.specs.Accepting.{IsAccepted}
use Rattle.chain_meaning.specs.declared.refusal.Refusal.{Refusal}
use Rattle.reload_watch.specs.declared.fault.ReadFault.{ReadFault}
use Rattle.reload_watch.specs.declared.fault.ReadFault.TheVariants as fault
use Rattle.run_meaning.specs.declared.looking.Looking.{Looking}
use Rattle.run_meaning.specs.declared.looking.Looking.TheVariants as looking
use Rattle.run_meaning.specs.Answers.{AnswersLook, Standing}
use Rattle.reload_watch.specs.{ReadsFirst, ReadsPlans, RoseWithin, all_refused, refusals_first}
use Rattle.reload_watch.specs.{refusals_by}
use Rattle.run_meaning.specs.WatchTurn.{AreLooks, all_starved, bundles_of, published_by}
use Rattle.run_meaning.specs.WatchTurn.{watch_marks}
use Rattle.run_meaning.specs.WatchRun.{EndsWatch, IsReading, TellsLooks}
use Rattle.run_meaning.specs.WatchTurn.{WatchTurn, IsLook, gathered, looked, published_as, starved}
use Rattle.dns_server.specs.declared.status.Status.{Status}
use Rattle.dns_server.specs.declared.status.Status.TheVariants as status
use Rattle.outside.specs.declared.host.OpenFault.{OpenFault}
use Rattle.outside.specs.declared.host.OpenFault.TheVariants as unopened
use Rattle.chain_build.specs.declared.building.BuildFault.{BuildFault}
use Rattle.chain_build.specs.declared.building.BuildFault.TheVariants as unbuilt
use Rattle.chain_build.specs.{Builds}
use Rattle.dns_server.specs.Opening.{BeginsSides, OpensAll, OpensPlaces, OpensSome, RefusesSides, TakesSides, scripts_of, side_count, sides_of, told_sides}
use Rattle.pin_core.specs.{OnePinRun}
use Rattle.dns_server.specs.States.{run_terms}
use Rattle.dns_server.specs.Stocking.{StockData, count_name}
use Rattle.dns_data.specs.declared.directive.Directive.{Directive}
use Rattle.extra_stock.specs.{IsShort}
use Rattle.chain_meaning.specs.Steps.{block_extras}
use Rattle.dns_server.specs.Report.{RunData, CauseOf, Finishes, IsEndStatus, IsFirstStatus, IsServed, Left, ReadGave, RefusesNone, RunsBehind, RunsCommand, Supplies, WasAccepted, build_status, open_status, opened_by, side_pins, status_refusals, stopped_run}
use Rattle.dns_server.specs.States.{RunSetup, SideRun}
use Rattle.dns_server.specs.WatchRun.{Tells}
use Rattle.dns_server.proofs.Histories.{no_history}
use Rattle.dns_server.proofs.Opened.{none_taken, sides_count}

-- nothing was published and nothing pinned
no_pins : OnePinRun 0 0 (side_pins [])
no_pins = record { steps = []; lawful = tt; pins = λ w. refl; count = refl }

-- the reads were told, and nothing was published
reading_told : (source : Source) (journal : Option (List WatchMark)) (reads : List OneRead) (gives : Result Bundle GatherFault) → GathersFrom source reads gives → IfSome journal (λ told. told ≡ marks_of reads)
    → IfSome journal (IsReading source)
reading_told source None reads gives gathers told = tt
reading_told source (Some journal) reads gives gathers told = record { reads = reads; gives = gives; gathers = gathers; is = told }

pub opens_nothing : (source : Source) (old new : WatchState) (gives : Result Bundle GatherFault) → IsFreshWatch old → TellsGathering source old new gives → Tells (Some new) (IsReading source)
opens_nothing source old new gives fresh tells = reading_told source new.journal tells.reads gives tells.gathers (watch_tells_since fresh tells.told)

-- what the reads gave
gave : {stock : StockData} (setup : RunSetup) (old new : WatchState) (how : Status) (gives : Result Bundle GatherFault) (P : Result Bundle GatherFault → Type 0) → IsFreshWatch old → TellsGathering setup.source old new gives → P gives
    → ReadGave setup (stopped_run how (Some new) stock) P
gave setup old new how gives P fresh tells is =
    record { reads = tells.reads; read = watch_tells_since fresh tells.told; gives = gives; gathers = tells.gathers; is = is }

-- a run that stopped before it served, behind the opening of its watch
pub stops_open : {stock : StockData} {setup : RunSetup} {before after : HostState} (how : Status) (watch back : WatchState) (places : List OpenedSide) (scripts : List (Option SideScriptData))
    → back.script ≡ watch.script → back.refusals ≡ status_refusals how → Tells (Some back) (IsReading setup.source)
    → (places ≡ []) ⊎ ReadGave setup (stopped_run how (Some back) stock) (BeginsSides (run_terms setup) setup.workers places) → length scripts ≡ length places
    → AddsHost before after (told_sides places) → TakesSides before.supply after.supply scripts → CauseOf how setup (stopped_run how (Some back) stock) before.counts after.counts
    → RunsBehind setup (stopped_run how (Some back) stock) watch before after
stops_open {stock} {setup} {before} {after} how watch back places scripts script refused opening wanted each told supply cause = record {
  served = record {
    bundles = [];
    count = refl;
    accepted = tt;
    handed = back;
    watch_is = refl;
    script = script;
    looks = [];
    watched = (refl, refl, opening);
    places = places;
    opened = wanted;
    told = told;
    scripts = scripts;
    supplied = supply;
    one_each = each;
    back = inl (refl, refl);
    pinned = [];
    calls = [];
    sides = tt;
    held = tt;
    lent = tt;
    pins = no_pins;
    history = no_history (run_terms setup);
  };
  refused = λ none. refused;
  cause = cause;
}

-- a run that stopped before it opened a side
pub stops : {stock : StockData} {setup : RunSetup} {before after : HostState} (how : Status) (watch back : WatchState) → back.script ≡ watch.script → back.refusals ≡ status_refusals how → Tells (Some back) (IsReading setup.source)
    → AddsHost before after no_telling → after.supply ≡ before.supply → CauseOf how setup (stopped_run how (Some back) stock) before.counts after.counts
    → RunsBehind setup (stopped_run how (Some back) stock) watch before after
stops {stock} {setup} {before} {after} how watch back script refused opening told supply cause =
    stops_open how watch back [] [] script refused opening (inl refl) refl told (none_taken before.supply after.supply supply) cause

end_cause : (stock : StockData) (setup : RunSetup) (before after : HostCounts) (watch : Option WatchState) (sides : List SideRun) (published starving : ℕ) (how : Status) → published ≢ 0 → IsEndStatus sides starving how
    → CauseOf how setup (record { status = how; sides = sides; watch = watch; published = published; stock = stock; starved = starving; load = None }) before after
end_cause stock setup before after watch sides published starving status.Usage some is = absurd is
end_cause stock setup before after watch sides published starving (status.ReadFailed name) some is = absurd is
end_cause stock setup before after watch sides published starving status.OpenFailed some is = absurd is
end_cause stock setup before after watch sides published starving status.TellFailed some is = absurd is
end_cause stock setup before after watch sides published starving (status.Refused refusal) some is = absurd is
end_cause stock setup before after watch sides published starving (status.StockShort name asked had) some is = absurd is
end_cause stock setup before after watch sides published starving status.NoMemory some is = tt
end_cause stock setup before after watch sides published starving status.WorkerFailed some is =
    record { sides = is.0; none_starved = is.2; some = is.1 }
end_cause stock setup before after watch sides published starving status.Ended some is =
    record { sides = is.0; none_starved = is.1; nothing = λ e. absurd (some e) }

-- what a look publishes is accepted
gathered_accepted : (terms : Terms) (gives : Result Bundle GatherFault) (bundle : Bundle) (blocks : List Block) → gives ≡ Ok bundle → IsAccepted terms bundle blocks → AllByRecursion (IsServed terms) (gathered gives)
gathered_accepted terms (Ok other) bundle blocks got is =
    let same : other ≡ bundle = cc in
    (record { blocks = blocks; accepted = subst (λ (b : Bundle). IsAccepted terms b blocks) (sym same) is }, tt)
gathered_accepted terms (Err fault) bundle blocks got is = tt

answer_accepted : (standing : Standing) (gives : Result Bundle GatherFault) (answer : Looking) → AnswersLook standing gives answer
    → AllByRecursion (IsServed standing.terms) (published_as gives answer)
answer_accepted standing gives looking.NoReload is = tt
answer_accepted standing gives (looking.ReadFailed name) is = tt
answer_accepted standing gives looking.Same is = tt
answer_accepted standing gives (looking.Refused why) is = tt
answer_accepted standing gives (looking.PortsDiffer ports others) is = tt
answer_accepted standing gives looking.SerialsSpent is = tt
answer_accepted standing gives (looking.AllPinned one two three) is = tt
answer_accepted standing gives (looking.StockShort name asked had) is = tt
answer_accepted standing gives (looking.Published serial) is = gathered_accepted standing.terms gives is.bundle is.blocks is.got is.accepted
answer_accepted standing gives looking.NoMemory is = tt

look_accepted : (source : Source) (terms : Terms) (bundles : List Bundle) (look : WatchTurn) → IsLook source terms bundles look → AllByRecursion (IsServed terms) (published_by look)
look_accepted source terms bundles (looked times reads gives answer flag) is =
    answer_accepted (record { terms = terms; bundle = is.1.last; blocks = is.1.blocks; published = length bundles }) gives answer is.1.is
look_accepted source terms bundles (starved times reads gives) is = tt

both_accepted : (terms : Terms) (xs ys : List Bundle) → AllByRecursion (IsServed terms) xs → AllByRecursion (IsServed terms) ys → AllByRecursion (IsServed terms) (xs ++ ys)
both_accepted terms [] ys first then = then
both_accepted terms (x ∷ xs) ys first then = (first.0, both_accepted terms xs ys first.1 then)

looks_accepted : (source : Source) (terms : Terms) (bundles : List Bundle) (looks : List WatchTurn) → AreLooks source terms bundles looks → AllByRecursion (IsServed terms) (flat_map published_by looks)
looks_accepted source terms bundles [] are = tt
looks_accepted source terms bundles (look ∷ looks) are =
    subst (AllByRecursion (IsServed terms)) (sym (flat_map-cons published_by look looks))
    (both_accepted terms (published_by look) (flat_map published_by looks) (look_accepted source terms bundles look are.0) (looks_accepted source terms (bundles ++ published_by look) looks are.1))

tells_looks : (source : Source) (terms : Terms) (first : Bundle) (looks : List WatchTurn) (ending : List WatchMark) (journal : Option (List WatchMark)) (reads : List OneRead) → GathersFrom source reads (Ok first)
    → IfSome journal (λ told. told ≡ marks_of reads ++ Published 0 ∷ (flat_map watch_marks looks ++ ending)) → EndsWatch terms (bundles_of first looks) ending
    → IfSome journal (TellsLooks source terms first looks)
tells_looks source terms first looks ending None reads gathers told ends = tt
tells_looks source terms first looks ending (Some journal) reads gathers told ends = record { reads = reads; gathers = gathers; ending = ending; told = told; ends = ends }

scripts_count : (l : List SideState) → length (scripts_of l) ≡ length l
scripts_count [] = refl
scripts_count (x ∷ l) = ap suc (scripts_count l)

-- ports that want few enough sides have few enough
few_sides : (workers : ℕ) (ports : List ℕ) (sides : List OpenedSide) → side_count workers ports ≤ limits.WORKERS → sides_of workers ports ≡ sides → length sides ≤ limits.WORKERS
few_sides workers ports sides few are =
    let count = sides_count workers ports in
    let same = ap (λ (l : List OpenedSide). length l) are in
    omega (arith, few, count, same)

-- a run that served
pub serves : (setup : RunSetup) (before after : HostState) (how : Status) (fresh read published : WatchState) (plans : PlansData) (places : List OpenedSide) (sides : List SideState) (left : Left)
    → IsFreshWatch fresh → RefusesNone fresh read → ReadsPlans setup.source setup.footing fresh read plans → plans.ports ≢ [] → side_count setup.workers plans.ports ≤ limits.WORKERS
    → AddsWatch read published (Published 0 ∷ []) → RefusesNone read published
    → places ≡ sides_of setup.workers plans.ports → OpensAll before after places sides
    → Finishes setup plans.bundle sides published left → IsEndStatus left.sides left.starved how
    → RunsBehind setup (record { status = how; sides = left.sides; watch = Some left.watch; published = left.published; stock = left.stock; starved = left.starved; load = None }) fresh before after
serves setup before after how fresh read published plans places sides left is_fresh script reads some_ports few publishes kept places_are opens by stands =
    let accepted : IsAccepted (run_terms setup) plans.bundle plans.blocks = subst (λ (g : Ground). IsAccepted (terms_on setup.footing.taken setup.footing.said g) plans.bundle plans.blocks) reads.ground_is reads.are.accepted in
    let count : length (bundles_of plans.bundle by.looks) ≡ left.published = by.count in
    let some : left.published ≢ 0 = λ e. omega (arith, e, count) in
    let told = watch-adds-then reads.tells.told (watch-adds-then publishes by.told) in
    let one_each : length (scripts_of sides) ≡ length places = scripts_count sides ∙ opens.each in
    record {
      served = record {
        bundles = bundles_of plans.bundle by.looks;
        count = count;
        accepted = (record { blocks = plans.blocks; accepted = accepted }, looks_accepted setup.source (run_terms setup) (plans.bundle ∷ []) by.looks by.are);
        handed = left.watch;
        watch_is = refl;
        script = by.goes.script ∙ kept.0 ∙ script.0;
        looks = by.looks;
        watched = record {
          published = refl;
          are = by.are;
          starved_is = by.starved;
          refused = subst (λ (n : ℕ). RoseWithin (all_refused by.looks) (all_starved by.looks) n left.watch.refusals) (kept.1 ∙ script.1 ∙ is_fresh.none_refused) by.refused;
          told = tells_looks setup.source (run_terms setup) plans.bundle by.looks by.ending left.watch.journal reads.tells.reads reads.tells.gathers (watch_tells_since is_fresh told) by.ends;
        };
        places = places;
        opened = record { blocks = plans.blocks; accepted = accepted; ports = plans.ports; ports_are = reads.are.ports; some = some_ports; few = few_sides setup.workers plans.ports places few (sym places_are); are = places_are };
        told = opens.told;
        scripts = scripts_of sides;
        supplied = opens.supply;
        one_each = one_each;
        back = inr by.scripts;
        pinned = by.pinned;
        calls = by.calls;
        sides = by.tell;
        held = by.held;
        lent = by.lent;
        pins = by.pins;
        history = by.history;
      };
      refused = λ none. absurd (some none);
      cause = end_cause left.stock setup before.counts after.counts (Some left.watch) left.sides left.published left.starved how some stands;
    }

-- the first reads gave no chain
pub first_stops : {stock : StockData} (setup : RunSetup) (old new : WatchState) (why : ReadFault) (how : Status) (host : HostState)
    → IsFreshWatch old → new.script ≡ old.script → new.refusals ≡ refusals_first {X = PlansData} (Err why) old.refusals → ReadsFirst setup.source setup.footing old new (Err why) → IsFirstStatus why how
    → RunsBehind setup (stopped_run how (Some new) stock) old host host
first_stops setup old new (fault.Refused why) how host fresh script refused reads is =
    rw is (stops (status.Refused why) old new script (refused ∙ ap (λ (n : ℕ). refusals_by why n) fresh.none_refused) (opens_nothing setup.source old new reads.gives fresh reads.tells) (host-adds-nothing host) refl
    (record { published = refl; watch = λ e. absurd cc; why = gave setup old new (status.Refused why) reads.gives _ fresh reads.tells (inl reads.is) }))
first_stops setup old new (fault.ReadFailed name) how host fresh script refused reads is =
    let rose : Rose 0 new.counts.reads = let none = ap (λ (c : WatchCounts). c.reads) fresh.no_fault in let r = reads.1 in omega (arith, none, r) in
    rw is (stops (status.ReadFailed name) old new script (refused ∙ fresh.none_refused) (opens_nothing setup.source old new (Err (unread.ReadFailed name)) fresh reads.0) (host-adds-nothing host) refl
    (record { published = refl; watch = λ e. absurd cc; why = (rose, gave setup old new (status.ReadFailed name) (Err (unread.ReadFailed name)) (λ gives. gives ≡ Err (unread.ReadFailed name)) fresh reads.0 refl) }))
first_stops setup old new fault.NoMemory how host fresh script refused reads is =
    rw is (stops status.NoMemory old new script (refused ∙ fresh.none_refused) (opens_nothing setup.source old new reads.gives fresh reads.tells) (host-adds-nothing host) refl tt)

-- the first bundle is accepted, with these ports
accepted_ports : (setup : RunSetup) (plans : PlansData) (P : List ℕ → Type 0) → ground_of plans ≡ setup.footing.basis → ArePlans setup.footing.taken setup.footing.said plans → P plans.ports → WasAccepted setup (Ok plans.bundle) P
accepted_ports setup plans P same is holds =
    record { bundle = plans.bundle; got = refl; blocks = plans.blocks; accepted = subst (λ (g : Ground). IsAccepted (terms_on setup.footing.taken setup.footing.said g) plans.bundle plans.blocks) same is.accepted; ports = plans.ports; ports_are = is.ports; is = holds }

-- the first chain has no port, so that nothing is to be served
pub no_port_stops : {stock : StockData} (setup : RunSetup) (old new : WatchState) (plans : PlansData) (host : HostState)
    → IsFreshWatch old → RefusesNone old new → ReadsPlans setup.source setup.footing old new plans → plans.ports ≡ []
    → RunsBehind setup (stopped_run status.Ended (Some new) stock) old host host
no_port_stops setup old new plans host fresh script reads none =
    stops status.Ended old new script.0 (script.1 ∙ fresh.none_refused) (opens_nothing setup.source old new (Ok plans.bundle) fresh reads.tells) (host-adds-nothing host) refl
    (record {
      sides = tt;
      none_starved = refl;
      nothing = λ e. record {
        watch = λ f. absurd cc;
        gave = gave setup old new status.Ended (Ok plans.bundle) _ fresh reads.tells (accepted_ports setup plans (λ ports. ports ≡ []) reads.ground_is reads.are none);
      };
    })

-- sides are refused for their number alone
sides_refuse_none : (ports : List ℕ) (workers : ℕ) (why : Refusal) → RefusesSides ports workers why → refusals_by why 0 ≡ 0
sides_refuse_none ports workers why refused = rw refused.1 refl

-- the sides of the first chain are refused
pub sides_stop : {stock : StockData} (setup : RunSetup) (old new : WatchState) (plans : PlansData) (why : Refusal) (host : HostState)
    → IsFreshWatch old → RefusesNone old new → ReadsPlans setup.source setup.footing old new plans → RefusesSides plans.ports setup.workers why
    → RunsBehind setup (stopped_run (status.Refused why) (Some new) stock) old host host
sides_stop setup old new plans why host fresh script reads refused =
    stops (status.Refused why) old new script.0 (script.1 ∙ fresh.none_refused ∙ sym (sides_refuse_none plans.ports setup.workers why refused)) (opens_nothing setup.source old new (Ok plans.bundle) fresh reads.tells) (host-adds-nothing host) refl
    (record {
      published = refl;
      watch = λ e. absurd cc;
      why = gave setup old new (status.Refused why) (Ok plans.bundle) _ fresh reads.tells (inr (accepted_ports setup plans (λ ports. RefusesSides ports setup.workers why) reads.ground_is reads.are refused));
    })

-- the stock is short of a name for the first bundle
pub short_stops : {stock : StockData} (setup : RunSetup) (old new : WatchState) (plans : PlansData) (name : List ℕ) (asked had : ℕ) (host : HostState)
    → IsFreshWatch old → RefusesNone old new → ReadsPlans setup.source setup.footing old new plans
    → IsShort (side_count setup.workers plans.ports) plans.extras (λ n. count_name n stock.spare) name asked had
    → RunsBehind setup (stopped_run (status.StockShort name asked had) (Some new) stock) old host host
short_stops {stock} setup old new plans name asked had host fresh script reads short =
    let is = reads.are in
    let extras : plans.extras ≡ map block_extras plans.blocks = is.extras ∙ is.extras_are in
    stops (status.StockShort name asked had) old new script.0 (script.1 ∙ fresh.none_refused) (opens_nothing setup.source old new (Ok plans.bundle) fresh reads.tells) (host-adds-nothing host) refl
    (record {
      published = refl;
      watch = λ e. absurd cc;
      why = gave setup old new (status.StockShort name asked had) (Ok plans.bundle) _ fresh reads.tells (record {
        bundle = plans.bundle;
        got = refl;
        blocks = plans.blocks;
        accepted = subst (λ (g : Ground). IsAccepted (terms_on setup.footing.taken setup.footing.said g) plans.bundle plans.blocks) reads.ground_is is.accepted;
        ports = plans.ports;
        ports_are = is.ports;
        is = subst (λ (l : List (List Directive)). IsShort (side_count setup.workers plans.ports) l (λ n. count_name n stock.spare) name asked had) extras short;
      });
    })

-- nothing could be opened, or memory ran out, behind the first reads
pub read_stops : {stock : StockData} {setup : RunSetup} {old new : WatchState} {plans : PlansData} {before after : HostState} (how : Status)
    → IsFreshWatch old → RefusesNone old new → ReadsPlans setup.source setup.footing old new plans → AddsHost before after no_telling → after.supply ≡ before.supply
    → CauseOf how setup (stopped_run how (Some new) stock) before.counts after.counts
    → status_refusals how ≡ 0 → RunsBehind setup (stopped_run how (Some new) stock) old before after
read_stops {stock} {setup} {old} {new} {plans} how fresh script reads told supply cause none =
    stops how old new script.0 (script.1 ∙ fresh.none_refused ∙ sym none) (opens_nothing setup.source old new (Ok plans.bundle) fresh reads.tells) told supply cause

-- the first sides of the bundle that was read are those of its ports
begins : {stock : StockData} (setup : RunSetup) (old new : WatchState) (how : Status) (plans : PlansData) (places others : List OpenedSide) → IsFreshWatch old → ReadsPlans setup.source setup.footing old new plans
    → plans.ports ≢ [] → side_count setup.workers plans.ports ≤ limits.WORKERS → sides_of setup.workers plans.ports ≡ places ++ others
    → ReadGave setup (stopped_run how (Some new) stock) (BeginsSides (run_terms setup) setup.workers places)
begins setup old new how plans places others fresh reads some few are =
    let is = reads.are in
    gave setup old new how (Ok plans.bundle) (BeginsSides (run_terms setup) setup.workers places) fresh reads.tells (record {
      bundle = plans.bundle;
      got = refl;
      others = others;
      wants = record {
        blocks = plans.blocks;
        accepted = subst (λ (g : Ground). IsAccepted (terms_on setup.footing.taken setup.footing.said g) plans.bundle plans.blocks) reads.ground_is is.accepted;
        ports = plans.ports;
        ports_are = is.ports;
        some = some;
        few = few_sides setup.workers plans.ports (places ++ others) few are;
        are = sym are;
      };
    })

-- memory ran out behind the opening of the sides
pub opened_stops : {stock : StockData} {setup : RunSetup} {old new : WatchState} {plans : PlansData} {before after : HostState} (places others : List OpenedSide) (sides : List SideState) (how : Status)
    → IsFreshWatch old → RefusesNone old new → ReadsPlans setup.source setup.footing old new plans → plans.ports ≢ [] → side_count setup.workers plans.ports ≤ limits.WORKERS
    → sides_of setup.workers plans.ports ≡ places ++ others → OpensAll before after places sides
    → CauseOf how setup (stopped_run how (Some new) stock) before.counts after.counts
    → status_refusals how ≡ 0 → RunsBehind setup (stopped_run how (Some new) stock) old before after
opened_stops {stock} {setup} {old} {new} {plans} places others sides how fresh script reads some few are opens cause none =
    stops_open how old new places (scripts_of sides) script.0 (script.1 ∙ fresh.none_refused ∙ sym none) (opens_nothing setup.source old new (Ok plans.bundle) fresh reads.tells)
    (inr (begins setup old new how plans places others fresh reads some few are)) (scripts_count sides ∙ opens.each) opens.told opens.supply cause

told_same : {a b c : HostState} (places : List OpenedSide) → AddsHost a b (told_sides places) → AddsHost b c no_telling → AddsHost a c (told_sides places)
told_same {a} {c = c} places first none = subst (AddsHost a c) (λ i. record { lines = []; opens = append-nil places i; watches = 0 }) (host-adds-then first none)

-- behind some sides, one failed to open
pub fails_stops : {stock : StockData} {setup : RunSetup} {old new : WatchState} {plans : PlansData} {before after : HostState}
    → IsFreshWatch old → RefusesNone old new → ReadsPlans setup.source setup.footing old new plans → plans.ports ≢ [] → side_count setup.workers plans.ports ≤ limits.WORKERS
    → (some : OpensSome before after (sides_of setup.workers plans.ports) (λ mid. FailsToOpen mid after))
    → RunsBehind setup (stopped_run status.OpenFailed (Some new) stock) old before after
fails_stops {stock} {setup} {old} {new} {plans} {before} {after} fresh script reads ports few some =
    let f = some.fails in
    let rose : Rose before.counts.opens after.counts.opens = subst (λ (c : HostCounts). Rose c.opens after.counts.opens) some.opens.counts (rose_failed f) in
    stops_open status.OpenFailed old new some.places (scripts_of some.sides) script.0 (script.1 ∙ fresh.none_refused) (opens_nothing setup.source old new (Ok plans.bundle) fresh reads.tells)
    (inr (begins setup old new status.OpenFailed plans some.places some.others fresh reads ports few some.all_are)) (scripts_count some.sides ∙ some.opens.each)
    (told_same some.places some.opens.told f.told) (subst (λ (s : Option SupplyData). TakesSides before.supply s (scripts_of some.sides)) (sym f.supply) some.opens.supply) (refl, rose)

-- behind some sides, memory ran out
pub starves_stops : {stock : StockData} {setup : RunSetup} {old new : WatchState} {plans : PlansData} {before after : HostState}
    → IsFreshWatch old → RefusesNone old new → ReadsPlans setup.source setup.footing old new plans → plans.ports ≢ [] → side_count setup.workers plans.ports ≤ limits.WORKERS
    → (some : OpensSome before after (sides_of setup.workers plans.ports) (λ mid. OpensNothing mid after))
    → RunsBehind setup (stopped_run status.NoMemory (Some new) stock) old before after
starves_stops {stock} {setup} {old} {new} {plans} {before} {after} fresh script reads ports few some =
    let f = some.fails in
    stops_open status.NoMemory old new some.places (scripts_of some.sides) script.0 (script.1 ∙ fresh.none_refused) (opens_nothing setup.source old new (Ok plans.bundle) fresh reads.tells)
    (inr (begins setup old new status.NoMemory plans some.places some.others fresh reads ports few some.all_are)) (scripts_count some.sides ∙ some.opens.each)
    (told_same some.places some.opens.told f.told) (subst (λ (s : Option SupplyData). TakesSides before.supply s (scripts_of some.sides)) (sym f.supply) some.opens.supply) tt

-- the sides could not all be opened
pub open_fails : {stock : StockData} {setup : RunSetup} {old new : WatchState} {plans : PlansData} {before after : HostState} (sides : List SideState) (fault : OpenFault)
    → IsFreshWatch old → RefusesNone old new → ReadsPlans setup.source setup.footing old new plans → plans.ports ≢ [] → side_count setup.workers plans.ports ≤ limits.WORKERS
    → OpensPlaces before after (sides_of setup.workers plans.ports) sides (Err fault)
    → RunsBehind setup (stopped_run (open_status fault) (Some new) stock) old before after
open_fails sides unopened.Failed fresh script reads ports few some = fails_stops fresh script reads ports few some
open_fails sides unopened.NoMemory fresh script reads ports few some = starves_stops fresh script reads ports few some

-- no chains were built
pub build_fails : (T : Type 0) (stock : StockData) {setup : RunSetup} {old new : WatchState} {plans : PlansData} (host : HostState) (fault : BuildFault)
    → IsFreshWatch old → RefusesNone old new → ReadsPlans setup.source setup.footing old new plans
    → Builds {T = T} (side_count setup.workers plans.ports) plans.extras (λ n. count_name n stock.spare) (Err fault)
    → RunsBehind setup (stopped_run (build_status fault) (Some new) stock) old host host
build_fails T stock {setup} {old} {new} {plans} host (unbuilt.StockShort name asked had) fresh script reads short =
    short_stops {stock = stock} setup old new plans name asked had host fresh script reads short
build_fails T stock host unbuilt.NoMemory fresh script reads short =
    read_stops {stock = stock} status.NoMemory fresh script reads (host-adds-nothing host) refl tt refl

-- the watch could not be opened
supply_kept : (before after : Option SupplyData) → after ≡ before → Supplies before after None []
supply_kept None after same = same
supply_kept (Some before) None same = absurd cc
supply_kept (Some before) (Some after) same =
    let is : after ≡ before = cc in
    record { watch_is = ap (λ (x : SupplyData). x.watch) is; taken = []; before_is = sym (ap (λ (x : SupplyData). x.sides) is); are = refl }

pub not_opened : {stock : StockData} {setup : RunSetup} {before after : HostState} (how : Status) → AddsHost before after no_telling → after.supply ≡ before.supply
    → CauseOf how setup (stopped_run how None stock) before.counts after.counts → RunsCommand setup (stopped_run how None stock) before after
not_opened {stock} {setup} {before} {after} how told supply cause = record {
  served = record {
    bundles = [];
    count = refl;
    accepted = tt;
    watch = λ some. absurd (some refl);
    looks = [];
    watched = (refl, refl, tt);
    places = [];
    opened = inl refl;
    told = told;
    scripts = [];
    supplied = supply_kept before.supply after.supply supply;
    one_each = refl;
    back = inl (refl, refl);
    pinned = [];
    calls = [];
    sides = tt;
    held = tt;
    lent = tt;
    pins = no_pins;
    history = no_history (run_terms setup);
  };
  refused = λ none. tt;
  cause = cause;
}

-- the watch was opened before
watch_taken : (first before after : Option SupplyData) (watch : WatchState) (handed : Option WatchState) (scripts : List (Option SideScriptData)) (back : WatchState) → handed ≡ Some back → back.script ≡ watch.script
    → TakesWatch first before watch.script → TakesSides before after scripts → Supplies first after handed scripts
watch_taken None before after watch handed scripts back is script takes supplied =
    let none : before ≡ None = takes in
    subst (λ (b : Option SupplyData). TakesSides b after scripts) none supplied
watch_taken (Some first) None after watch handed scripts back is script takes supplied = absurd (let e = takes.2 in cc)
watch_taken (Some first) (Some before) None watch handed scripts back is script takes supplied = absurd supplied
watch_taken (Some first) (Some before) (Some after) watch handed scripts back is script takes supplied =
    let mid : before ≡ record first { watch = None } = let e = takes.2 in cc in
    let gone : before.watch ≡ None = ap (λ (x : SupplyData). x.watch) mid in
    let sides : before.sides ≡ first.sides = ap (λ (x : SupplyData). x.sides) mid in
    record {
      watch_is = rw is (supplied.watch ∙ gone, script ∙ takes.3 ∙ sym takes.1);
      taken = supplied.taken;
      before_is = sym sides ∙ supplied.before_is;
      are = supplied.are;
    }

opened_told : (watch : Option WatchState) (back : WatchState) (endpoints : List OpenedSide) → watch ≡ Some back → all_told told_watch (opened_by None endpoints) ≡ opened_by watch endpoints
opened_told watch back endpoints is = rw is refl

pub opened_before : {setup : RunSetup} {run : RunData} {first before after : HostState} (watch : WatchState)
    → OpensTheWatch first before watch → RunsBehind setup run watch before after → RunsCommand setup run first after
opened_before {setup} {run} {first} {before} {after} watch opens runs =
    let behind = runs.served in
    record {
      served = record {
        bundles = behind.bundles;
        count = behind.count;
        accepted = behind.accepted;
        watch = λ some none. let e = behind.watch_is in absurd cc;
        looks = behind.looks;
        watched = behind.watched;
        places = behind.places;
        opened = behind.opened;
        told = subst (AddsHost first after) (opened_told run.watch behind.handed behind.places behind.watch_is) (host-adds-then opens.told behind.told);
        scripts = behind.scripts;
        supplied = watch_taken first.supply before.supply after.supply watch run.watch behind.scripts behind.handed behind.watch_is behind.script opens.supply behind.supplied;
        one_each = behind.one_each;
        back = behind.back;
        pinned = behind.pinned;
        calls = behind.calls;
        sides = behind.sides;
        held = behind.held;
        lent = behind.lent;
        pins = behind.pins;
        history = behind.history;
      };
      refused = runs.refused;
      cause = subst (λ (c : HostCounts). CauseOf run.status setup run c after.counts) opens.counts runs.cause;
    }
