-- What a run reports: how each side worked, what was published, and the cause of its status. This
-- server's own rule.
use Rattle.std.specs.Prelude.{◌≡◌, ◌≤◌, ◌<◌, ◌≢◌, ◌⊎◌, ℕ, nat_lt, Bool, true, false, List, [], ◌∷◌}
use Rattle.std.specs.Prelude.{◌++◌}
use Rattle.std.specs.Prelude.{length, map, reverse}
use Rattle.std.specs.Prelude.{Option, None, Some, IfSome, option_map, Result, Ok, Err}
use Rattle.std.specs.List.{flat_map, AllByRecursion}
use Rattle.dns_data.specs.declared.limit.TheConstants as limits
use Rattle.one_history.specs.Calls.{Call}
use Rattle.outside.specs.declared.mark.Mark.{Mark}
use Rattle.outside.specs.declared.mark.WatchMark.{WatchMark}
use Rattle.outside.specs.Causes.{Rose, RoseBy, RoseJust, HostCounts}
use Rattle.outside.specs.Hosts.{HostState, HostTold, IsFreshWatch, OpenedSide, SupplyData, AddsHost}
use Rattle.outside.specs.declared.host.OpenFault.{OpenFault}
use Rattle.outside.specs.declared.host.OpenFault.TheVariants as unopened
use Rattle.outside.specs.Script.{SideScriptData, WatchScriptData}
use Rattle.outside.specs.States.{SideState, WatchState}
use Rattle.outside.specs.WatchMarks.{AddsWatch}
use Rattle.corefile_blocks.specs.declared.bundle.Bundle.{Bundle}
use Rattle.dns_data.specs.declared.block.Block.{Block}
use Rattle.corefile_blocks.specs.Ports.{ArePorts}
use Rattle.corefile_bundle.specs.declared.fault.GatherFault.{GatherFault}
use Rattle.corefile_bundle.specs.declared.fault.GatherFault.TheVariants as unread
use Rattle.corefile_bundle.specs.Gathering.{GathersFrom, OneRead, marks_of}
use Rattle.run_meaning.specs.declared.work_end.WorkEnd.{WorkEnd}
use Rattle.run_meaning.specs.declared.work_end.WorkEnd.TheVariants as ends
use Rattle.pin_core.specs.{OnePinRun, PinMark, pin_marks}
use Rattle.query_worker.specs.{MakeCalls, last_seen}
use Rattle.run_meaning.specs.Turn.{IsLawful}
use Rattle.run_meaning.specs.Workers.{Worked, WorkerRun}
use Rattle.reload_watch.specs.declared.fault.ReadFault.{ReadFault}
use Rattle.reload_watch.specs.declared.fault.ReadFault.TheVariants as fault
use Rattle.chain_build.specs.{PlansData}
use Rattle.chain_build.specs.declared.building.BuildFault.{BuildFault}
use Rattle.chain_build.specs.declared.building.BuildFault.TheVariants as unbuilt
use Rattle.run_meaning.specs.WatchTurn.{WatchTurn}
use Rattle.reload_watch.specs.{ReadsPlans, RoseWithin, WatchGoesOn}
use Rattle.run_meaning.specs.WatchTurn.{AreLooks}
use Rattle.run_meaning.specs.WatchRun.{EndsWatch}
use Rattle.run_meaning.specs.Answers.{Refuses}
use Rattle.reload_watch.specs.{all_refused, refusals_by}
use Rattle.reload_watch.specs.Histories.{HaveOneHistory}
use Rattle.run_meaning.specs.WatchTurn.{all_starved, bundles_of, watch_marks}
use Rattle.dns_server.specs.declared.report.Ran.{Ran}
use Rattle.chain_meaning.specs.declared.refusal.Refusal.{Refusal}
use Rattle.dns_server.specs.declared.status.Status.{Status}
use Rattle.dns_server.specs.declared.status.Status.TheVariants as status
use Rattle.chain_meaning.specs.{Terms}
use Rattle.chain_meaning.specs.Accepting.{IsAccepted}
use Rattle.chain_meaning.specs.Steps.{block_extras}
use Rattle.extra_stock.specs.{IsShort}
use Rattle.dns_server.specs.Each.{Each3}
use Rattle.dns_server.specs.Holding.{AreHeld, AreHeldBehind}
use Rattle.dns_server.specs.Lending.{AreLent, AreLentBehind, lent_by}
use Rattle.dns_server.specs.Opening.{BeginsSides, RefusesSides, TakesSides, WantsSides}
use Rattle.dns_server.specs.Opening.{scripts_of, side_count}
use Rattle.dns_server.specs.States.{LoadData, RunSetup, SideRun, run_terms, side_runs}
use Rattle.dns_server.specs.Stocking.{StockData, count_name, stock_data}
use Rattle.dns_server.specs.WatchRun.{WatchRun}

-- what a report has; of its stock the names alone
pub record RunData : Type 0 where
  pub status : Status
  pub sides : List SideRun
  pub watch : Option WatchState
  pub published : ℕ
  pub stock : StockData
  pub starved : ℕ
  pub load : Option LoadData

-- what a run leaves, by what the types of its sides, its watch and its extras tell. It is no load.
abbrev pub run_data : {S W E : Type 0} → (S → SideState) → (W → WatchState) → (E → List ℕ)
    → Ran S W E → RunData
run_data side watch title ran = record {
  status = ran.status;
  sides = side_runs side ran.sides.items;
  watch = option_map watch ran.watch;
  published = ran.published;
  stock = stock_data title ran.stock;
  starved = ran.starved;
  load = None;
}

-- a worker's run by the published bundles, under pins of these serials, the last one first, and its
-- calls of what workers share: those that its datagrams made, one turn's behind another's
pub record RunsWith (setup : RunSetup) (bundles : List Bundle) (pinned : List ℕ)
    (calls : List (Call Mark)) (worked : Worked) (journal : List Mark) : Type 0 where
  pub run : WorkerRun (IsLawful bundles (run_terms setup)) setup.most pinned worked journal
  pub each : List (List (Call Mark))
  pub made : MakeCalls bundles (run_terms setup) run.turns each
  pub calls_are : calls ≡ flat_map (λ of_turn. of_turn) each

-- a side that tells its journal tells a worker's run by the published bundles, under pins of these
-- serials, the last one first, with these calls; the worker took no more than it was told, and has
-- seen the last of these serials; one that could not receive met 64 failing calls; and the side was
-- told once that its worker has ended
pub record TellsRun (setup : RunSetup) (bundles : List Bundle) (pinned : List ℕ)
    (calls : List (Call Mark)) (side : SideRun) : Type 0 where
  pub run : IfSome side.state.journal (RunsWith setup bundles pinned calls side.worked)
  pub at_most : side.worked.taken ≤ setup.most
  pub seen : side.worked.seen < length bundles
  pub last : side.worked.seen ≡ last_seen pinned
  pub failed : side.worked.end ≡ ends.RecvFailed → RoseBy limits.FAILURES 0 side.state.counts.recv
  pub starved : side.worked.end ≡ ends.NoMemory → 0 < side.worked.starved
  pub left : side.state.left ≡ 1

-- each side does, under pins of these serials, with these calls
abbrev pub TellEach : RunSetup → List Bundle → List (List ℕ) → List (List (Call Mark))
    → List SideRun → Type 0
TellEach setup bundles pinned calls sides = Each3 (TellsRun setup bundles) pinned calls sides

-- the marks of pins of these serials, the last one first, by side
abbrev pub side_pins : List (List ℕ) → List (List PinMark)
side_pins pinned = map (λ serials. pin_marks (reverse serials)) pinned

-- what the workers and the watcher leave: the sides, the watch, how many generations were
-- published, the stock to which all extras came home, and how many looks met want of memory
pub record Left : Type 0 where
  pub sides : List SideRun
  pub watch : WatchState
  pub published : ℕ
  pub stock : StockData
  pub starved : ℕ

-- workers and a watcher that have ended behind the publication of the first bundle: these looks,
-- and each side's run by what they published
pub record Finishes (setup : RunSetup) (first : Bundle) (sides : List SideState)
    (watch : WatchState) (left : Left) : Type 0 where
  pub looks : List WatchTurn
  pub ending : List WatchMark
  pub told : AddsWatch watch left.watch (flat_map watch_marks looks ++ ending)
  pub are : AreLooks setup.source (run_terms setup) (first ∷ []) looks
  pub ends : EndsWatch (run_terms setup) (bundles_of first looks) ending
  pub count : length (bundles_of first looks) ≡ left.published
  pub starved : RoseJust (all_starved looks) 0 left.starved
  pub refused : RoseWithin (all_refused looks) (all_starved looks) watch.refusals
      left.watch.refusals
  pub goes : WatchGoesOn watch left.watch
  pub scripts : map (λ side. side.state.script) left.sides ≡ scripts_of sides
  pub pinned : List (List ℕ)
  pub calls : List (List (Call Mark))
  pub tell : TellEach setup (bundles_of first looks) pinned calls left.sides
  pub held : AreHeld pinned (first ∷ []) looks
  pub lent : AreLent (lent_by setup (length left.sides) left.stock) pinned (first ∷ []) looks
  pub pins : OnePinRun (length left.sides) left.published (side_pins pinned)
  pub history : HaveOneHistory (run_terms setup) (bundles_of first looks) calls

-- each published bundle is accepted
pub record IsServed (terms : Terms) (bundle : Bundle) : Type 0 where
  pub blocks : List Block
  pub accepted : IsAccepted terms bundle blocks

-- what a host tells of a run: the watch where one was opened, and these sides
abbrev pub opened_by : Option WatchState → List OpenedSide → HostTold
opened_by None sides = record { lines = []; opens = sides; watches = 0 }
opened_by (Some watch) sides = record { lines = []; opens = sides; watches = 1 }

-- the watch's script is the one that was supplied, and none is left; without a watch it is left
abbrev pub SuppliesWatch : Option WatchScriptData → Option WatchScriptData → Option WatchState
    → Type 0
SuppliesWatch before after None = after ≡ before
SuppliesWatch before after (Some watch) = (after ≡ None) × (watch.script ≡ before)

-- where the host's supply is told, what was handed out and what is left of it
pub record SuppliesRun (before after : SupplyData) (watch : Option WatchState)
    (scripts : List (Option SideScriptData)) : Type 0 where
  pub watch_is : SuppliesWatch before.watch after.watch watch
  pub taken : List SideScriptData
  pub before_is : before.sides ≡ taken ++ after.sides
  pub are : scripts ≡ map Some taken

abbrev pub Supplies : Option SupplyData → Option SupplyData → Option WatchState
    → List (Option SideScriptData) → Type 0
Supplies None after watch scripts = after ≡ None
Supplies (Some before) None watch scripts = ⊥
Supplies (Some before) (Some after) watch scripts = SuppliesRun before after watch scripts

-- a run that published hands back the sides that it opened, whose scripts are these; any other
-- hands back none
abbrev pub HandsBack : ℕ → List SideRun → List (Option SideScriptData) → Type 0
HandsBack published sides scripts =
    ((published ≡ 0) × (sides ≡ [])) ⊎ (map (λ side. side.state.script) sides ≡ scripts)

-- where the watch tells its journal, it is these reads of the first bundle
abbrev pub HasRead : Option WatchState → List OneRead → Type 0
HasRead watch reads = IfSome watch (λ w. IfSome w.journal (λ told. told ≡ marks_of reads))

-- the reads of the first bundle came to this, and a fact of that
pub record ReadGave (setup : RunSetup) (run : RunData) (P : Result Bundle GatherFault → Type 0)
    : Type 0 where
  pub reads : List OneRead
  pub read : HasRead run.watch reads
  pub gives : Result Bundle GatherFault
  pub gathers : GathersFrom setup.source reads gives
  pub is : P gives

-- a run that published opened the sides of its first bundle; one that didn't opened none, or the
-- first ones of the bundle that it read
abbrev pub OpensSides : RunSetup → RunData → List Bundle → List OpenedSide → Type 0
OpensSides setup run [] sides =
    (sides ≡ []) ⊎ ReadGave setup run (BeginsSides (run_terms setup) setup.workers sides)
OpensSides setup run (bundle ∷ others) sides =
    WantsSides (run_terms setup) setup.workers bundle sides

-- a run by a command: one list of published bundles stands behind the watch's looks, the sides that
-- were opened, and each side's journal; the pins and unpins of all sides and the publications are
-- one run of the machine of pins, and the calls of all sides one history of each cache. A watch
-- that was opened is handed back.
pub record ServesBy (setup : RunSetup) (run : RunData) (before after : HostState) : Type 0 where
  pub bundles : List Bundle
  pub count : length bundles ≡ run.published
  pub accepted : AllByRecursion (IsServed (run_terms setup)) bundles
  pub watch : run.published ≢ 0 → run.watch ≢ None
  pub looks : List WatchTurn
  pub watched : WatchRun setup bundles looks run.watch run.starved
  pub places : List OpenedSide
  pub opened : OpensSides setup run bundles places
  pub told : AddsHost before after (opened_by run.watch places)
  pub scripts : List (Option SideScriptData)
  pub supplied : Supplies before.supply after.supply run.watch scripts
  pub one_each : length scripts ≡ length places
  pub back : HandsBack run.published run.sides scripts
  pub pinned : List (List ℕ)
  pub calls : List (List (Call Mark))
  pub sides : TellEach setup bundles pinned calls run.sides
  pub held : AreHeldBehind pinned bundles looks
  pub lent : AreLentBehind (lent_by setup (length run.sides) run.stock) pinned bundles looks
  pub pins : OnePinRun (length run.sides) run.published (side_pins pinned)
  pub history : HaveOneHistory (run_terms setup) bundles calls

-- nothing was published
pub record IsRefused (run : RunData) (P : Type 0) : Type 0 where
  pub published : run.published ≡ 0
  pub watch : run.watch ≢ None
  pub why : P

-- the first bundle is accepted, with these blocks and ports, and a fact of them
pub record WasAcceptedAs (setup : RunSetup) (gives : Result Bundle GatherFault)
    (P : List Block → List ℕ → Type 0) : Type 0 where
  pub bundle : Bundle
  pub got : gives ≡ Ok bundle
  pub blocks : List Block
  pub accepted : IsAccepted (run_terms setup) bundle blocks
  pub ports : List ℕ
  pub ports_are : ArePorts blocks ports
  pub is : P blocks ports

-- the first bundle is accepted, with these ports, and a fact of them
pub record WasAccepted (setup : RunSetup) (gives : Result Bundle GatherFault)
    (P : List ℕ → Type 0) : Type 0 where
  pub bundle : Bundle
  pub got : gives ≡ Ok bundle
  pub blocks : List Block
  pub accepted : IsAccepted (run_terms setup) bundle blocks
  pub ports : List ℕ
  pub ports_are : ArePorts blocks ports
  pub is : P ports

-- the first bundle asks for more extras of a name than these spares have: as many as its directives
-- of that name times the sides. It is the first such name in the order of the text.
abbrev pub WasShort : RunSetup → List (List ℕ) → List ℕ → ℕ → ℕ → Result Bundle GatherFault → Type 0
WasShort setup spare name asked had gives =
    WasAcceptedAs setup gives (λ blocks ports. IsShort (side_count setup.workers ports)
    (map block_extras blocks) (λ n. count_name n spare) name asked had)

-- what was read is refused for this, or its sides are
abbrev pub ReadWasRefused : RunSetup → Refusal → Result Bundle GatherFault → Type 0
ReadWasRefused setup why gives =
    Refuses (run_terms setup) gives why
    ⊎ WasAccepted setup gives (λ ports. RefusesSides ports setup.workers why)

-- the first bundle has no port, so that there is nothing to serve
pub record HasNoPort (setup : RunSetup) (run : RunData) : Type 0 where
  pub watch : run.watch ≢ None
  pub gave : ReadGave setup run (λ gives. WasAccepted setup gives (λ ports. ports ≡ []))

-- a worker took its last datagram, and met no want of memory
pub record TookAll (side : SideRun) : Type 0 where
  pub end : side.worked.end ≡ ends.End
  pub none_starved : side.worked.starved ≡ 0

-- a worker took its last datagram or could not receive any more, and met no want of memory
pub record NeverStarved (side : SideRun) : Type 0 where
  pub end : (side.worked.end ≡ ends.End) ⊎ (side.worked.end ≡ ends.RecvFailed)
  pub none_starved : side.worked.starved ≡ 0

-- whether a worker that counted so much want of memory, and ended so, met any
abbrev pub is_starved : ℕ → WorkEnd → Bool
is_starved starved ends.NoMemory = true
is_starved starved other = nat_lt 0 starved

-- whether a worker could not receive any more
abbrev pub is_failed : WorkEnd → Bool
is_failed ends.RecvFailed = true
is_failed other = false

abbrev pub SomeFailed : List SideRun → Type 0
SomeFailed [] = ⊥
SomeFailed (side ∷ sides) = (side.worked.end ≡ ends.RecvFailed) ⊎ SomeFailed sides

-- every worker took its last datagram; without a side there was nothing to serve
pub record HasEnded (setup : RunSetup) (run : RunData) : Type 0 where
  pub sides : AllByRecursion TookAll run.sides
  pub none_starved : run.starved ≡ 0
  pub nothing : run.published ≡ 0 → HasNoPort setup run

-- some worker could not receive any more, and nothing met want of memory
pub record HasFailed (run : RunData) : Type 0 where
  pub sides : AllByRecursion NeverStarved run.sides
  pub none_starved : run.starved ≡ 0
  pub some : SomeFailed run.sides

-- the cause of each status that a run comes to, before that is told, by the counts of its host
-- before and after. Want of memory is always allowed.
abbrev pub CauseOf : Status → RunSetup → RunData → HostCounts → HostCounts → Type 0
CauseOf status.Usage setup run before after = ⊥
CauseOf (status.ReadFailed name) setup run before after =
    IsRefused run (IfSome run.watch (λ w. Rose 0 w.counts.reads)
    × ReadGave setup run (λ gives. gives ≡ Err (unread.ReadFailed name)))
CauseOf status.OpenFailed setup run before after =
    (run.published ≡ 0) × Rose before.opens after.opens
CauseOf status.TellFailed setup run before after = ⊥
CauseOf (status.Refused why) setup run before after =
    IsRefused run (ReadGave setup run (ReadWasRefused setup why))
CauseOf (status.StockShort name asked had) setup run before after =
    IsRefused run (ReadGave setup run (WasShort setup run.stock.spare name asked had))
CauseOf status.NoMemory setup run before after = Unit {0}
CauseOf status.WorkerFailed setup run before after = HasFailed run
CauseOf status.Ended setup run before after = HasEnded setup run

-- a run behind the opening of its watch, which stood so then: the watch is handed back, and only
-- sides are opened
pub record ServesBehind (setup : RunSetup) (run : RunData) (watch : WatchState)
    (before after : HostState) : Type 0 where
  pub bundles : List Bundle
  pub count : length bundles ≡ run.published
  pub accepted : AllByRecursion (IsServed (run_terms setup)) bundles
  pub handed : WatchState
  pub watch_is : run.watch ≡ Some handed
  pub script : handed.script ≡ watch.script
  pub looks : List WatchTurn
  pub watched : WatchRun setup bundles looks run.watch run.starved
  pub places : List OpenedSide
  pub opened : OpensSides setup run bundles places
  pub told : AddsHost before after (opened_by None places)
  pub scripts : List (Option SideScriptData)
  pub supplied : TakesSides before.supply after.supply scripts
  pub one_each : length scripts ≡ length places
  pub back : HandsBack run.published run.sides scripts
  pub pinned : List (List ℕ)
  pub calls : List (List (Call Mark))
  pub sides : TellEach setup bundles pinned calls run.sides
  pub held : AreHeldBehind pinned bundles looks
  pub lent : AreLentBehind (lent_by setup (length run.sides) run.stock) pinned bundles looks
  pub pins : OnePinRun (length run.sides) run.published (side_pins pinned)
  pub history : HaveOneHistory (run_terms setup) bundles calls

-- how many patterns a watch refused in a run that published nothing, by its status
abbrev pub status_refusals : Status → ℕ
status_refusals (status.Refused why) = refusals_by why 0
status_refusals other = 0

-- where nothing was published, the watch refused so many
abbrev pub IsRefusing : RunData → Type 0
IsRefusing run =
    run.published ≡ 0 → IfSome run.watch (λ w. w.refusals ≡ status_refusals run.status)

pub record RunsBehind (setup : RunSetup) (run : RunData) (watch : WatchState)
    (before after : HostState) : Type 0 where
  pub served : ServesBehind setup run watch before after
  pub refused : IsRefusing run
  pub cause : CauseOf run.status setup run before.counts after.counts

-- the script is as it was, and no pattern was refused
abbrev pub RefusesNone : WatchState → WatchState → Type 0
RefusesNone before after = (after.script ≡ before.script) × (after.refusals ≡ before.refusals)

-- a run by what a first bundle serves by, wherever its watch was opened and the bundle read
abbrev pub RunsPlans : RunSetup → PlansData → RunData → WatchState → HostState → HostState → Type 0
RunsPlans setup plans run watch before after =
    (fresh : WatchState) → IsFreshWatch fresh → RefusesNone fresh watch
    → ReadsPlans setup.source setup.footing fresh watch plans
    → RunsBehind setup run fresh before after

-- a run by a command
pub record RunsCommand (setup : RunSetup) (run : RunData) (before after : HostState) : Type 0 where
  pub served : ServesBy setup run before after
  pub refused : IsRefusing run
  pub cause : CauseOf run.status setup run before.counts after.counts

-- the status of a run by how its workers ended and how often they and the looks met want of memory
abbrev pub IsEndStatus : List SideRun → ℕ → Status → Type 0
IsEndStatus sides looking status.Usage = ⊥
IsEndStatus sides looking (status.ReadFailed name) = ⊥
IsEndStatus sides looking status.OpenFailed = ⊥
IsEndStatus sides looking status.TellFailed = ⊥
IsEndStatus sides looking (status.Refused refusal) = ⊥
IsEndStatus sides looking (status.StockShort name asked had) = ⊥
IsEndStatus sides looking status.NoMemory = Unit {0}
IsEndStatus sides looking status.WorkerFailed =
    AllByRecursion NeverStarved sides × SomeFailed sides × (looking ≡ 0)
IsEndStatus sides looking status.Ended = AllByRecursion TookAll sides × (looking ≡ 0)

-- the status of a run without a first configuration
abbrev pub IsFirstStatus : ReadFault → Status → Type 0
IsFirstStatus (fault.Refused why) how = how ≡ status.Refused why
IsFirstStatus (fault.ReadFailed name) how = how ≡ status.ReadFailed name
IsFirstStatus fault.NoMemory how = how ≡ status.NoMemory

-- a run that ended before anything was served, with this stock
abbrev pub stopped_run : Status → Option WatchState → StockData → RunData
stopped_run how watch stock = record {
  status = how;
  sides = [];
  watch = watch;
  published = 0;
  stock = stock;
  starved = 0;
  load = None;
}

-- the status of a run whose first chains could not be built
abbrev pub build_status : BuildFault → Status
build_status (unbuilt.StockShort name asked had) = status.StockShort name asked had
build_status unbuilt.NoMemory = status.NoMemory

-- that of one whose sides could not be opened
abbrev pub open_status : OpenFault → Status
open_status unopened.Failed = status.OpenFailed
open_status unopened.NoMemory = status.NoMemory
