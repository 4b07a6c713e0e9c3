-- What a load leaves, by its run over memory.
use Rattle.std.proofs.Common.{◌≡◌, ◌≢◌, ◌∙◌, ◌<◌, ◌^◌, ℕ, List, [], ◌∷◌, length, map, Option, None, Some, refl, sym, ap, subst, inl, inr, arith}
use Rattle.std.specs.List.{AllByRecursion}
use Rattle.dns_data.specs.declared.message.Transport.TheVariants.{Udp, Tcp}
use Rattle.outside.specs.declared.datagram.Datagram.{Datagram}
use Rattle.outside.specs.declared.mark.Mark.{Mark}
use Rattle.outside.specs.declared.mark.WatchMark.{WatchMark}
use Rattle.outside.specs.Hosts.{HostState, SupplyData}
use Rattle.outside.specs.Script.{SideScriptData, WatchScriptData, gets_alone, looks_alone}
use Rattle.outside.specs.States.{WatchState}
use Rattle.outside.specs.WatchMarks.{AnsweredWatch}
use Rattle.std.specs.Prelude.{IfSome}
use Rattle.load_maker.specs.{datagrams_in, host_of, load_of, looks_of, queries_by, summary_of}
use Rattle.load_maker.specs.Queries.{queries_of}
use Rattle.load_maker.specs.TakenLaws.{all_queries, both_ways, taken_count}
use Rattle.load_maker.specs.declared.load.Load.{Load}
use Rattle.dns_server.specs.declared.status.Status.{Status}
use Rattle.dns_server.specs.declared.status.Status.TheVariants as status
use Rattle.dns_server.specs.Loading.{HasNoFault, LoadsBy, RunsInMemory, SumsUp, TellBoth, TellsLoad, TellsRun, TookQueries, load_setup, run_of, with_load}
use Rattle.dns_server.specs.LoadCounts.{load_summary}
use Rattle.dns_server.specs.Report.{CauseOf, HandsBack, HasEnded, RunData, Supplies, stopped_run}
use Rattle.dns_server.specs.States.{LoadData, SideRun}
use Rattle.dns_server.specs.Stocking.{Program, StockData}
use Rattle.dns_server.proofs.LoadEnds.{all_known, bundle_forms, script_by, two_published, two_sum}
use Rattle.dns_server.proofs.LoadSides.{GivesAlone, IsMemory, IsMemoryWatch, Supplied, all_quiet, ends_load, front_all, supplied, took_each}

-- the stock comes back
pub told_stock : (load : Load) (inner run : RunData) (told : Option LoadData) (before after : HostState) → TellsRun load inner run told before after → run.stock ≡ inner.stock
told_stock load inner run None before after tells = ap (λ (r : RunData). r.stock) tells.1
told_stock load inner run (Some told) before after left = ap (λ (r : RunData). r.stock) left.alone_is

-- memory ran out before the load ran
pub load_starves : (program : Program) (count : ℕ) (run : RunData) (stock : StockData) (host : HostState) → run ≡ stopped_run status.NoMemory None stock → LoadsBy program count (with_load run None) host host
load_starves program count run stock host is = record {
  sides = ap (λ (r : RunData). r.sides) is;
  watch = ap (λ (r : RunData). r.watch) is;
  published = ap (λ (r : RunData). r.published) is;
  loads = (refl, inl (ap (λ (r : RunData). r.status) is));
}

-- a fact of the lines that sum a load up
pub sums_to : (load : LoadData) (lines : List (List ℕ)) (P : List (List ℕ) → Type 0) → SumsUp load (λ l. l ≡ lines) → P lines → SumsUp load P
sums_to load lines P sums is = record { udp = sums.udp; tcp = sums.tcp; journals = sums.journals; watch = sums.watch; is = subst P (sym sums.is) is }

-- a run that published hands back its sides
handed : (published : ℕ) (sides : List SideRun) (scripts : List (Option SideScriptData)) → published ≢ 0 → HandsBack published sides scripts → map (λ (side : SideRun). side.state.script) sides ≡ scripts
handed published sides scripts some (inl none) = absurd (some none.0)
handed published sides scripts some (inr are) = are

module _ (program : Program) (count : ℕ) (inner : RunData) (runs : RunsInMemory program count inner) (some : inner.published ≢ 0) (memory : AllByRecursion IsMemory inner.sides) (few : count < 2 ^ 32) where
  abbrev made : SupplyData
  made = record {
    sides = gets_alone (queries_by Udp (queries_of count)) ∷ gets_alone (queries_by Tcp (queries_of count)) ∷ [];
    watch = Some (looks_alone (looks_of (load_of count)));
  }

  abbrev given : Supplied made runs.runs.served.scripts
  given = supplied made runs.left.supply inner.watch runs.runs.served.scripts runs.runs.served.supplied

  scripts : map (λ (side : SideRun). side.state.script) inner.sides ≡ map (λ (s : SideScriptData). Some s) given.taken
  scripts = handed inner.published inner.sides runs.runs.served.scripts some runs.runs.served.back ∙ given.are

  both_alone : AllByRecursion GivesAlone (gets_alone (queries_by Udp (queries_of count)) ∷ gets_alone (queries_by Tcp (queries_of count)) ∷ [])
  both_alone = (record { gets = queries_by Udp (queries_of count); is = refl }, (record { gets = queries_by Tcp (queries_of count); is = refl }, tt))

  -- no call of its sides has failed
  pub quiet : AllByRecursion HasNoFault inner.sides
  quiet = all_quiet inner.sides given.taken scripts (front_all GivesAlone given.taken given.others (subst (AllByRecursion GivesAlone) given.before_is both_alone)) memory

  -- where it has ended, its sides took all queries
  pub took : inner.status ≡ status.Ended → (udp tcp : List Mark) → TellBoth inner.sides udp tcp → TookQueries (load_of count) count udp tcp
  took ended udp tcp told =
      let by : HasEnded (load_setup program) inner = subst (λ (how : Status). CauseOf how (load_setup program) inner (host_of (load_of count)).counts runs.left.counts) ended runs.runs.cause in
      let way = both_ways (queries_of count) in
      let all = all_queries count in
      let each : map datagrams_in (udp ∷ tcp ∷ []) ≡ queries_by Udp (queries_of count) ∷ queries_by Tcp (queries_of count) ∷ [] =
      took_each (load_setup program) runs.runs.served.bundles runs.runs.served.pinned runs.runs.served.calls inner.sides given.taken given.others (queries_by Udp (queries_of count) ∷ queries_by Tcp (queries_of count) ∷ []) (udp ∷ tcp ∷ [])
      scripts given.before_is told memory runs.runs.served.sides by.sides (omega (arith, way, all, few), (omega (arith, way, all, few), tt)) in
      let first : datagrams_in udp ≡ queries_by Udp (queries_of count) = cc in
      let second : datagrams_in tcp ≡ queries_by Tcp (queries_of count) = cc in
      let one = taken_count udp in
      let two = taken_count tcp in
      let one_is = ap (λ (l : List Datagram). length l) first in
      let two_is = ap (λ (l : List Datagram). length l) second in
      record { udp_took = first; tcp_took = second; all = omega (arith, one, two, one_is, two_is, way, all) }

  -- and their summary is that which the number of queries gives
  pub says : inner.status ≡ status.Ended → IfSome inner.watch IsMemoryWatch → (watch : WatchState) → inner.watch ≡ Some watch → watch.journal ≢ None → (udp tcp : List Mark) → TellBoth inner.sides udp tcp
      → summary_of udp tcp inner.published ≡ load_summary count
  says ended answered watch is journaled udp tcp told = by watch.journal refl
    where
      by : (o : Option (List WatchMark)) → watch.journal ≡ o → summary_of udp tcp inner.published ≡ load_summary count
      by None none = absurd (journaled none)
      by (Some journal) told_is =
          let serves = runs.runs.served in
          let ended_by : HasEnded (load_setup program) inner = subst (λ (how : Status). CauseOf how (load_setup program) inner (host_of (load_of count)).counts runs.left.counts) ended runs.runs.cause in
          let script = script_by made runs.left.supply watch serves.scripts (subst (λ (o : Option WatchState). Supplies (Some made) runs.left.supply o serves.scripts) is serves.supplied) in
          let answers : IsMemoryWatch watch = subst (λ (o : Option WatchState). IfSome o IsMemoryWatch) is answered in
          let follows = subst (λ (x : Option WatchScriptData × Option (List WatchMark)). AnsweredWatch x.0 x.1) (λ i. (script i, told_is i)) answers in
          let forms = bundle_forms program journal serves.bundles serves.looks inner.watch inner.starved watch is told_is follows serves.watched in
          let alone = front_all GivesAlone given.taken given.others (subst (AllByRecursion GivesAlone) given.before_is both_alone) in
          two_sum program count inner.published serves.bundles forms serves.count some serves.pinned serves.calls inner.sides udp tcp serves.sides serves.history
          (all_known inner.sides given.taken (udp ∷ tcp ∷ []) scripts told alone memory ended_by.sides) (took ended udp tcp told)
          (two_published program journal serves.bundles serves.looks inner.watch inner.starved inner.published watch serves.pinned is told_is follows serves.watched forms serves.held ended_by.none_starved serves.count some)

pub load_ran : (program : Program) (count : ℕ) (load : Load) (inner run : RunData) (told : Option LoadData) {before after : HostState} → load ≡ load_of count → inner.load ≡ None → RunsInMemory program count inner
    → AllByRecursion IsMemory inner.sides → IfSome inner.watch IsMemoryWatch → count < 2 ^ 32 → TellsRun load inner run told before after → LoadsBy program count (with_load run told) before after
load_ran program count load inner run None is none runs memory answered few tells = record {
  sides = ap (λ (r : RunData). r.sides) tells.1;
  watch = ap (λ (r : RunData). r.watch) tells.1;
  published = ap (λ (r : RunData). r.published) tells.1;
  loads = (
    tells.2,
    inr (record {
      inner = inner;
      none = tells.0;
      status_is = ap (λ (r : RunData). r.status) tells.1;
      stock_is = ap (λ (r : RunData). r.stock) tells.1;
      starved_is = ap (λ (r : RunData). r.starved) tells.1;
      runs = runs;
    }),
  );
}
load_ran program count load inner run (Some told) {before} {after} is none runs memory answered few left =
    let same : inner ≡ run_of inner.status told (with_load run (Some told)) = λ i. record {
      status = inner.status;
      sides = (sym left.sides_are) i;
      watch = left.watch_is i;
      published = (sym left.published_is) i;
      stock = (sym (ap (λ (r : RunData). r.stock) left.alone_is)) i;
      starved = (sym (ap (λ (r : RunData). r.starved) left.alone_is)) i;
      load = none i;
    } in
    let calm = quiet program count inner runs left.some memory few in
    record {
      sides = ap (λ (r : RunData). r.sides) left.alone_is;
      watch = ap (λ (r : RunData). r.watch) left.alone_is;
      published = ap (λ (r : RunData). r.published) left.alone_is;
      loads = record {
        load_is = left.load_is ∙ is;
        some = λ e. left.some (sym left.published_is ∙ e);
        how = inner.status;
        ends = ends_load inner.status (load_setup program) inner (host_of (load_of count)).counts runs.left.counts runs.runs.served.bundles runs.runs.served.pinned runs.runs.served.calls runs.runs.cause left.some runs.runs.served.sides calm;
        runs = subst (RunsInMemory program count) same runs;
        quiet = subst (AllByRecursion HasNoFault) (sym left.sides_are) calm;
        took = λ ended udp tcp journals.
            subst (λ (l : Load). TookQueries l count udp tcp) (sym (left.load_is ∙ is))
            (took program count inner runs left.some memory few ended udp tcp (subst (λ (l : List SideRun). TellBoth l udp tcp) left.sides_are journals));
        says = λ ended journaled udp tcp journals.
            subst (λ (n : ℕ). summary_of udp tcp n ≡ load_summary count) (sym left.published_is)
            (says program count inner runs left.some memory few ended answered told.watch left.watch_is journaled udp tcp (subst (λ (l : List SideRun). TellBoth l udp tcp) left.sides_are journals));
        tells = subst (λ (s : Status). TellsLoad inner.status told s before after) (sym (ap (λ (r : RunData). r.status) left.alone_is)) left.tells;
      };
    }
