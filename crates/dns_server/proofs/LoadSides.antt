-- What the sides of a load took, by their scripts and their laws.
use Rattle.std.proofs.Common.{◌≡◌, ◌≢◌, ◌∙◌, ◌≤◌, ◌<◌, ◌+◌, ◌⊎◌, ℕ, zero, suc, cond, List, [], ◌∷◌, ◌++◌, length, map, take, Option, Some, None, append-nil, option_map, refl, sym, ap, subst, inl, inr, arith}
use Rattle.std.specs.Prelude.{IfSome}
use Rattle.std.specs.List.{AllByRecursion, flat_map}
use Rattle.std.proofs.lemmas.List.Concat.{flat_map-cons}
use Rattle.std.proofs.lemmas.List.Sums.{sum_by-append, sum_by-cons}
use Rattle.one_history.specs.Calls.{Call}
use Rattle.outside.specs.declared.datagram.Datagram.{Datagram}
use Rattle.outside.specs.declared.mark.Mark.{Mark}
use Rattle.outside.specs.declared.mark.Mark.TheVariants.{Got, Pinned, RecvEnd, Sent, Unpinned}
use Rattle.outside.specs.Causes.{HostCounts}
use Rattle.outside.specs.Hosts.{SupplyData}
use Rattle.outside.specs.Script.{AnsweredSide, FollowsScript, HasNoOtherFaults, QuietSide, SideScriptData, gets_alone, recvs_in}
use Rattle.outside.specs.States.{WatchState}
use Rattle.outside.specs.WatchMarks.{AnsweredWatch}
use Rattle.outside_mem.specs.{side_state, watch_state}
use Rattle.outside_mem.specs.SideTold.{answered}
use Rattle.outside_mem.specs.WatchTold.{watch_answered}
use Rattle.outside_mem.specs.declared.side.MemSide.{MemSide}
use Rattle.outside_mem.specs.declared.watch.MemWatch.{MemWatch}
use Rattle.corefile_blocks.specs.declared.bundle.Bundle.{Bundle}
use Rattle.load_maker.specs.{datagrams_in}
use Rattle.load_maker.specs.Summary.{is_taken, taken_in}
use Rattle.load_maker.specs.TakenLaws.{taken_count, took_all, took_first}
use Rattle.run_meaning.specs.declared.work_end.WorkEnd.{WorkEnd}
use Rattle.run_meaning.specs.declared.work_end.WorkEnd.TheVariants as ends
use Rattle.run_meaning.specs.Turn.{IsLawful, Turn, datagrams, failed, marks_of, replied, silenced, starved, total, unread}
use Rattle.run_meaning.specs.Workers.{Ending, WorkerRun}
use Rattle.dns_server.specs.declared.report.Done.{Done}
use Rattle.dns_server.specs.declared.status.Status.{Status}
use Rattle.dns_server.specs.declared.status.Status.TheVariants as status
use Rattle.dns_server.specs.Loading.{EndsLoad, HasNoFault}
use Rattle.dns_server.specs.Report.{CauseOf, RunData, RunsWith, SomeFailed, Supplies, TellEach, TookAll}
use Rattle.dns_server.specs.States.{RunSetup, SideRun, run_terms, side_runs}

-- the laws of a side in memory
pub record IsMemory (side : SideRun) : Type 0 where
  pub answers : AnsweredSide side.state.script side.state.journal
  pub quiet : QuietSide side.state.script side.state.counts

pub all_memory : (dones : List (Done MemSide)) → AllByRecursion IsMemory (side_runs side_state dones)
all_memory [] = tt
all_memory (done ∷ dones) =
    let s = done.side in (
      record {
        answers = answered s.feed s.journal s.tells;
        quiet = record { recv = s.quiet_recv; send = s.quiet_send; note = s.quiet_note; ask = s.quiet_ask };
      },
      all_memory dones,
    )

-- the law of a watch in memory
abbrev pub IsMemoryWatch : WatchState → Type 0
IsMemoryWatch watch = AnsweredWatch watch.script watch.journal

pub memory_watch : (watch : Option MemWatch) → IfSome (option_map watch_state watch) IsMemoryWatch
memory_watch None = tt
memory_watch (Some w) = watch_answered w.feed w.journal w.tells

-- a script that gives datagrams, and by which no call fails
pub record GivesAlone (script : SideScriptData) : Type 0 where
  pub gets : List Datagram
  pub is : script ≡ gets_alone gets

pub front_all : {X : Type 0} (P : X → Type 0) (xs ys : List X) → AllByRecursion P (xs ++ ys) → AllByRecursion P xs
front_all P [] ys all = tt
front_all P (x ∷ xs) ys all = (all.0, front_all P xs ys all.1)

head_is : {X : Type 0} (x y : X) (xs ys : List X) → x ∷ xs ≡ y ∷ ys → x ≡ y
head_is x y xs ys e = cc

tail_is : {X : Type 0} (x y : X) (xs ys : List X) → x ∷ xs ≡ y ∷ ys → xs ≡ ys
tail_is x y xs ys e = cc

quiet_one : (side : SideRun) (script : SideScriptData) → side.state.script ≡ Some script → GivesAlone script → IsMemory side → HasNoFault side
quiet_one side script is alone memory =
    let all : HasNoOtherFaults (gets_alone alone.gets) side.state.counts = subst (λ (s : Option SideScriptData). QuietSide s side.state.counts) (is ∙ ap (λ (s : SideScriptData). Some s) alone.is) memory.quiet in
    record { recv = all.recv refl; send = all.send refl; note = all.note refl; ask = all.ask refl (λ call e. absurd cc) }

-- no call of a side has failed
pub all_quiet : (sides : List SideRun) (taken : List SideScriptData) → map (λ (side : SideRun). side.state.script) sides ≡ map (λ (s : SideScriptData). Some s) taken → AllByRecursion GivesAlone taken → AllByRecursion IsMemory sides → AllByRecursion HasNoFault sides
all_quiet [] taken e alone memory = tt
all_quiet (side ∷ sides) [] e alone memory = absurd cc
all_quiet (side ∷ sides) (script ∷ taken) e alone memory =
    (quiet_one side script (head_is side.state.script (Some script) _ _ e) alone.0 memory.0, all_quiet sides taken (tail_is side.state.script (Some script) _ _ e) alone.1 memory.1)

-- so no worker could not receive any more
none_failed : (setup : RunSetup) (bundles : List Bundle) (pinned : List (List ℕ)) (calls : List (List (Call Mark))) (sides : List SideRun) → TellEach setup bundles pinned calls sides → AllByRecursion HasNoFault sides → SomeFailed sides → ⊥
none_failed setup bundles [] [] [] tell quiet some = some
none_failed setup bundles [] [] (side ∷ sides) tell quiet some = tell
none_failed setup bundles [] (c ∷ calls) sides tell quiet some = tell
none_failed setup bundles (serials ∷ pinned) [] sides tell quiet some = tell
none_failed setup bundles (serials ∷ pinned) (c ∷ calls) [] tell quiet some = tell
none_failed setup bundles (serials ∷ pinned) (c ∷ calls) (side ∷ sides) tell quiet (inl end) =
    let rose = tell.0.failed end in
    let none = quiet.0.recv in
    omega (arith, rose, none)
none_failed setup bundles (serials ∷ pinned) (c ∷ calls) (side ∷ sides) tell quiet (inr some) = none_failed setup bundles pinned calls sides tell.1 quiet.1 some

pub ends_load : (how : Status) (setup : RunSetup) (run : RunData) (before after : HostCounts) (bundles : List Bundle) (pinned : List (List ℕ)) (calls : List (List (Call Mark))) → CauseOf how setup run before after → run.published ≢ 0
    → TellEach setup bundles pinned calls run.sides → AllByRecursion HasNoFault run.sides → EndsLoad how
ends_load status.Usage setup run before after bundles pinned calls cause some tell quiet = cause
ends_load (status.ReadFailed name) setup run before after bundles pinned calls cause some tell quiet = some cause.published
ends_load status.OpenFailed setup run before after bundles pinned calls cause some tell quiet = some cause.0
ends_load status.TellFailed setup run before after bundles pinned calls cause some tell quiet = cause
ends_load (status.Refused why) setup run before after bundles pinned calls cause some tell quiet = some cause.published
ends_load (status.StockShort name asked had) setup run before after bundles pinned calls cause some tell quiet = some cause.published
ends_load status.NoMemory setup run before after bundles pinned calls cause some tell quiet = tt
ends_load status.WorkerFailed setup run before after bundles pinned calls cause some tell quiet = none_failed setup bundles pinned calls run.sides tell quiet cause.some
ends_load status.Ended setup run before after bundles pinned calls cause some tell quiet = tt

-- what was supplied
pub record Supplied (before : SupplyData) (scripts : List (Option SideScriptData)) : Type 0 where
  pub taken : List SideScriptData
  pub others : List SideScriptData
  pub before_is : before.sides ≡ taken ++ others
  pub are : scripts ≡ map (λ (s : SideScriptData). Some s) taken

pub supplied : (before : SupplyData) (after : Option SupplyData) (watch : Option WatchState) (scripts : List (Option SideScriptData)) → Supplies (Some before) after watch scripts → Supplied before scripts
supplied before None watch scripts runs = absurd runs
supplied before (Some after) watch scripts runs = record { taken = runs.taken; others = after.sides; before_is = runs.before_is; are = runs.are }

take_le : (n : ℕ) (xs : List Datagram) → length (take n xs) ≤ length xs
take_le zero xs = omega arith
take_le (suc n) [] = omega arith
take_le (suc n) (x ∷ xs) = let rest = take_le n xs in omega (arith, rest)

-- a turn tells the datagram that it took
turn_took : (turn : Turn) → datagrams turn ≤ taken_in (marks_of turn)
turn_took failed = omega arith
turn_took unread = omega arith
turn_took (replied serial d marks reply out) =
    let rest = Pinned serial ∷ (marks ++ Sent reply out ∷ Unpinned serial ∷ []) in
    let e : taken_in (Got d ∷ rest) ≡ 1 + taken_in rest = sum_by-cons (λ m. cond (is_taken m) 1 0) (Got d) rest in
    omega (arith, e)
turn_took (silenced serial d marks why) =
    let rest = Pinned serial ∷ (marks ++ Unpinned serial ∷ []) in
    let e : taken_in (Got d ∷ rest) ≡ 1 + taken_in rest = sum_by-cons (λ m. cond (is_taken m) 1 0) (Got d) rest in
    omega (arith, e)
turn_took (starved serial d marks) =
    let rest = Pinned serial ∷ (marks ++ Unpinned serial ∷ []) in
    let e : taken_in (Got d ∷ rest) ≡ 1 + taken_in rest = sum_by-cons (λ m. cond (is_taken m) 1 0) (Got d) rest in
    omega (arith, e)

turns_took : (turns : List Turn) → total datagrams turns ≤ taken_in (flat_map marks_of turns)
turns_took [] = omega arith
turns_took (turn ∷ turns) =
    let e : taken_in (flat_map marks_of (turn ∷ turns)) ≡ taken_in (marks_of turn ++ flat_map marks_of turns) = ap (λ (l : List Mark). taken_in l) (flat_map-cons marks_of turn turns) in
    let parts : taken_in (marks_of turn ++ flat_map marks_of turns) ≡ taken_in (marks_of turn) + taken_in (flat_map marks_of turns) = sum_by-append (λ m. cond (is_taken m) 1 0) (marks_of turn) (flat_map marks_of turns) in
    let here = turn_took turn in
    let rest = turns_took turns in
    omega (arith, e, parts, here, rest)

-- a side whose worker has ended took all of its datagrams
took_side : (setup : RunSetup) (bundles : List Bundle) (pinned : List ℕ) (calls : List (Call Mark)) (side : SideRun) (gets : List Datagram) (journal : List Mark) → side.state.script ≡ Some (gets_alone gets) → side.state.journal ≡ Some journal → IsMemory side
    → IfSome side.state.journal (RunsWith setup bundles pinned calls side.worked) → side.worked.end ≡ ends.End → length gets < setup.most → datagrams_in journal ≡ gets
took_side setup bundles pinned calls side gets journal script told memory run end few =
    let follows : FollowsScript (gets_alone gets) journal = subst (λ (x : Option SideScriptData × Option (List Mark)). AnsweredSide x.0 x.1) (λ i. (script i, told i)) memory.answers in
    let told_run : RunsWith setup bundles pinned calls side.worked journal = subst (λ (j : Option (List Mark)). IfSome j (RunsWith setup bundles pinned calls side.worked)) told run in
    let is = told_run.run in
    by is follows (subst (λ (e : WorkEnd). Ending setup.most side.worked is.turns e is.ending) end is.ends).1
  where
    by : (is : WorkerRun (IsLawful bundles (run_terms setup)) setup.most pinned side.worked journal) → FollowsScript (gets_alone gets) journal
        → ((is.ending ≡ RecvEnd ∷ []) × (side.worked.taken < setup.most)) ⊎ ((is.ending ≡ []) × (side.worked.taken ≡ setup.most)) → datagrams_in journal ≡ gets
    by is follows (inl e) = took_all gets journal (flat_map marks_of is.turns) follows (is.told ∙ ap (λ (l : List Mark). flat_map marks_of is.turns ++ l) e.0)
    by is follows (inr e) =
        let whole : journal ≡ flat_map marks_of is.turns = is.told ∙ (ap (λ (l : List Mark). flat_map marks_of is.turns ++ l) e.0 ∙ append-nil (flat_map marks_of is.turns)) in
        let least = turns_took is.turns in
        let count = ap (λ (l : List Mark). taken_in l) whole in
        let taken = taken_count journal in
        let first = ap (λ (l : List Datagram). length l) (took_first gets journal follows) in
        let short = take_le (recvs_in journal) gets in
        let all = is.are.datagrams_are in
        let most_is = e.1 in
        absurd (omega (arith, least, count, taken, first, short, all, most_is, few))

-- sides whose workers have ended took all of their datagrams
pub took_each : (setup : RunSetup) (bundles : List Bundle) (pinned : List (List ℕ)) (calls : List (List (Call Mark))) (sides : List SideRun) (taken others : List SideScriptData) (gets : List (List Datagram)) (journals : List (List Mark))
    → map (λ (side : SideRun). side.state.script) sides ≡ map (λ (s : SideScriptData). Some s) taken → map gets_alone gets ≡ taken ++ others
    → map (λ (side : SideRun). side.state.journal) sides ≡ map (λ (j : List Mark). Some j) journals
    → AllByRecursion IsMemory sides → TellEach setup bundles pinned calls sides → AllByRecursion TookAll sides → AllByRecursion (λ (l : List Datagram). length l < setup.most) gets
    → map datagrams_in journals ≡ take (length journals) gets
took_each setup bundles pinned calls sides taken others gets [] scripts given told memory tell ended few = refl
took_each setup bundles pinned calls [] taken others gets (journal ∷ journals) scripts given told memory tell ended few = absurd cc
took_each setup bundles pinned calls (side ∷ sides) [] others gets (journal ∷ journals) scripts given told memory tell ended few = absurd cc
took_each setup bundles pinned calls (side ∷ sides) (script ∷ taken) others [] (journal ∷ journals) scripts given told memory tell ended few = absurd cc
took_each setup bundles [] [] (side ∷ sides) (script ∷ taken) others (first ∷ gets) (journal ∷ journals) scripts given told memory tell ended few = absurd tell
took_each setup bundles [] (c ∷ calls) (side ∷ sides) (script ∷ taken) others (first ∷ gets) (journal ∷ journals) scripts given told memory tell ended few = absurd tell
took_each setup bundles (serials ∷ pinned) [] (side ∷ sides) (script ∷ taken) others (first ∷ gets) (journal ∷ journals) scripts given told memory tell ended few = absurd tell
took_each setup bundles (serials ∷ pinned) (c ∷ calls) (side ∷ sides) (script ∷ taken) others (first ∷ gets) (journal ∷ journals) scripts given told memory tell ended few =
    let own : side.state.script ≡ Some (gets_alone first) = head_is side.state.script (Some script) _ _ scripts ∙ ap (λ (s : SideScriptData). Some s) (sym (head_is (gets_alone first) script _ _ given)) in
    let here = took_side setup bundles serials c side first journal own (head_is side.state.journal (Some journal) _ _ told) memory.0 tell.0.run ended.0.end few.0 in
    let rest = took_each setup bundles pinned calls sides taken others gets journals (tail_is side.state.script (Some script) _ _ scripts) (tail_is (gets_alone first) script _ _ given) (tail_is side.state.journal (Some journal) _ _ told) memory.1 tell.1 ended.1 few.1 in
    λ i. here i ∷ rest i
