-- A load that has ended sums up to what its number of queries alone gives.
use Rattle.std.proofs.Common.{◌≡◌, ◌∙◌, ◌⊎◌, ◌+◌, ◌<◌, ℕ, zero, suc, Bool, true, false, List, [], ◌∷◌, length, Some, codes, refl, sym, ap, subst, inl, inr, arith}
use Rattle.std.specs.Prelude.{count_by, nat_eq, slice_get, if◌then◌else◌}
use Rattle.std.specs.List.{AllByRecursion, flat_map}
use Rattle.std.proofs.lemmas.List.Concat.{flat_map-append, flat_map-cons}
use Rattle.block_readings.specs.Readings.{BlockReading}
use Rattle.cache_shards.specs.Planned.{planned_capacities}
use Rattle.chain_build.specs.History.{has_cache}
use Rattle.corefile_blocks.specs.declared.bundle.Bundle.{Bundle}
use Rattle.dns_data.specs.declared.message.Transport.{Transport}
use Rattle.dns_data.specs.declared.message.Transport.TheVariants.{Udp, Tcp}
use Rattle.one_history.specs.Calls.{Call, calls_by}
use Rattle.one_history.specs.Runs.{OneHistory}
use Rattle.outside.specs.declared.datagram.Datagram.{Datagram}
use Rattle.outside.specs.declared.mark.Mark.{Mark}
use Rattle.outside.specs.declared.mark.Mark.TheVariants.{RecvEnd}
use Rattle.outside.specs.Script.{FollowsScript, gets_alone}
use Rattle.load_maker.specs.{datagrams_in, queries_by}
use Rattle.load_maker.specs.Scripts.{is_by}
use Rattle.load_maker.specs.Summary.{answers_in}
use Rattle.load_maker.specs.Taken.{datagram_in}
use Rattle.load_maker.specs.Texts.{conf_text, zone_text}
use Rattle.plugin_api.specs.{PlanData}
use Rattle.reload_watch.specs.Histories.{HaveOneHistory, IsLegalFor}
use Rattle.run_meaning.specs.declared.work_end.WorkEnd.{WorkEnd}
use Rattle.run_meaning.specs.Turn.{Turn, marks_of}
use Rattle.run_meaning.specs.Workers.{Ending}
use Rattle.dns_server.specs.Loading.{load_setup}
use Rattle.dns_server.specs.Report.{RunsWith, TookAll}
use Rattle.dns_server.specs.States.{RunSetup, SideRun, run_terms}
use Rattle.dns_server.specs.Stocking.{Program}
use Rattle.dns_server.proofs.Hits.{IsJustPut, hits_just}
use Rattle.dns_server.proofs.LoadBlocks.{has_plan, load_directive, zone_of_load}
use Rattle.dns_server.specs.LoadCounts.{datagram_code, load_bundle}
use Rattle.dns_server.proofs.LoadForms.{all_at, all_readings, block_of_run, is_load_run, load_run, readings_are}
use Rattle.dns_server.proofs.LoadRuns.{FindAll, IsFed, IsSmallTurn, all_fed, small_turn, turns_answer, turns_put}
use Rattle.dns_server.proofs.LoadTurns.{IsForm, Just, load_files}
use Rattle.dns_server.proofs.SmallNames.{AsksSmall}
use Rattle.dns_server.proofs.TurnCounts.{IsOut, all_out, back_all, both_counts, front_all, is_meant, journal_answers}

abbrev first : Bundle
first = load_bundle conf_text zone_text

abbrev JustPut : Call Mark → Type 0
JustPut c = IsJustPut (Just zone_text) c.mark

pub all_by : (P : Datagram → Type 0) (by : Transport) (ds : List Datagram) → AllByRecursion P ds → AllByRecursion P (queries_by by ds)
all_by P by [] all = tt
all_by P by (d ∷ ds) all = kept (is_by by d) (queries_by by ds) (all_by P by ds all.1)
  where
    kept : (t : Bool) (rest : List Datagram) → AllByRecursion P rest → AllByRecursion P (if t then d ∷ rest else rest)
    kept true rest others = (all.0, others)
    kept false rest others = others

small_turns : (turns : List Turn) → AllByRecursion AsksSmall (datagrams_in (flat_map marks_of turns)) → AllByRecursion IsSmallTurn turns
small_turns [] all = tt
small_turns (turn ∷ turns) all =
    let cut = subst (λ (l : List Mark). AllByRecursion AsksSmall (datagrams_in l)) (flat_map-cons marks_of turn turns) all in
    let parts = subst (AllByRecursion AsksSmall) (flat_map-append datagram_in (marks_of turn) (flat_map marks_of turns)) cut in
    (small_turn turn (front_all AsksSmall (datagrams_in (marks_of turn)) _ parts), small_turns turns (back_all AsksSmall (datagrams_in (marks_of turn)) _ parts))

-- one side of the load: its run, and that it met no want of memory, took its queries and sent all
-- its replies
pub record LoadSide (setup : RunSetup) (bundles : List Bundle) (calls : List (Call Mark)) (journal : List Mark) : Type 0 where
  pub pinned : List ℕ
  pub side : SideRun
  pub run : RunsWith setup bundles pinned calls side.worked journal
  pub ended : TookAll side
  pub gets : List Datagram
  pub follows : FollowsScript (gets_alone gets) journal
  pub small : AllByRecursion AsksSmall (datagrams_in journal)

module _ (program : Program) (bundles : List Bundle) (forms : AllByRecursion (IsForm zone_text) bundles) where
  abbrev setup : RunSetup
  setup = load_setup program

  pub form_at : (serial : ℕ) (b : Bundle) → slice_get bundles serial ≡ Some b → IsForm zone_text b
  form_at serial b at = all_at (IsForm zone_text) bundles serial b forms at

  module _ (calls : List (Call Mark)) (journal : List Mark) (s : LoadSide setup bundles calls journal) where
    abbrev turns : List Turn
    turns = s.run.run.turns

    ended_by : (ending : List Mark) → s.run.run.ending ≡ ending → Ending setup.most s.side.worked turns s.side.worked.end ending → (ending ≡ RecvEnd ∷ []) ⊎ (ending ≡ [])
    ended_by ending is how = by (subst (λ (e : WorkEnd). Ending setup.most s.side.worked turns e ending) s.ended.end how).1
      where
        by : ((ending ≡ RecvEnd ∷ []) × (s.side.worked.taken < setup.most)) ⊎ ((ending ≡ []) × (s.side.worked.taken ≡ setup.most)) → (ending ≡ RecvEnd ∷ []) ⊎ (ending ≡ [])
        by (inl e) = inl e.0
        by (inr e) = inr e.0

    abbrev ending : (s.run.run.ending ≡ RecvEnd ∷ []) ⊎ (s.run.run.ending ≡ [])
    ending = ended_by s.run.run.ending refl s.run.run.ends

    no_data : (s.run.run.ending ≡ RecvEnd ∷ []) ⊎ (s.run.run.ending ≡ []) → datagrams_in s.run.run.ending ≡ []
    no_data (inl e) = ap datagrams_in e
    no_data (inr e) = ap datagrams_in e

    no_answers : (code : ℕ) → (s.run.run.ending ≡ RecvEnd ∷ []) ⊎ (s.run.run.ending ≡ []) → answers_in code s.run.run.ending ≡ 0
    no_answers code (inl e) = ap (answers_in code) e
    no_answers code (inr e) = ap (answers_in code) e

    small : AllByRecursion IsSmallTurn turns
    small =
        small_turns turns (front_all AsksSmall (datagrams_in (flat_map marks_of turns)) (datagrams_in s.run.run.ending)
        (subst (AllByRecursion AsksSmall) (ap datagrams_in s.run.run.told ∙ flat_map-append datagram_in (flat_map marks_of turns) s.run.run.ending) s.small))

    fed : AllByRecursion IsFed turns
    fed = all_fed turns (s.run.run.are.starved_are ∙ s.ended.none_starved)

    -- what it put is just
    pub side_puts : AllByRecursion JustPut calls
    side_puts = subst (AllByRecursion JustPut) (sym s.run.calls_are) (turns_put zone_text bundles (run_terms setup) refl form_at 0 refl refl turns s.run.each s.run.run.are.lawful_are s.run.made small fed)

    -- and where what it found is just, its replies have the RCODEs that are meant
    pub side_answers : (code : ℕ) → nat_eq 1 code ≡ false → nat_eq 4 code ≡ false → FindAll zone_text bundles (run_terms setup) refl form_at calls → answers_in code journal ≡ count_by (is_meant code (datagram_code first)) (datagrams_in journal)
    side_answers code one four finds =
        let out = front_all IsOut (flat_map marks_of turns) s.run.run.ending (subst (AllByRecursion IsOut) s.run.run.told (all_out s.gets journal s.follows)) in
        journal_answers code (datagram_code first) journal s.run.run.ending turns s.run.run.told (no_answers code ending) (no_data ending)
        (turns_answer zone_text bundles (run_terms setup) refl form_at code one four turns s.run.each s.run.run.are.lawful_are s.run.made small fed
        (subst (FindAll zone_text bundles (run_terms setup) refl form_at) s.run.calls_are finds) out)

  -- both sides, behind one history of the cache
  module _ (some : 0 < length bundles) (a b : List (Call Mark)) (history : HaveOneHistory (run_terms setup) bundles (a ∷ b ∷ [])) (udp tcp : List Mark) (first_side : LoadSide setup bundles a udp) (second_side : LoadSide setup bundles b tcp) where
    abbrev Read : List (List BlockReading) → Type 0
    Read readings = OneHistory has_cache IsLegalFor readings (a ∷ b ∷ [])

    one_run : Read (all_readings bundles)
    one_run = subst Read (readings_are (run_terms setup) refl bundles history.readings forms history.read) history.one

    put_by : (worker : ℕ) → AllByRecursion JustPut (calls_by (a ∷ b ∷ []) worker)
    put_by zero = side_puts a udp first_side
    put_by (suc zero) = side_puts b tcp second_side
    put_by (suc (suc zero)) = tt
    put_by (suc (suc (suc worker))) = tt

    abbrev plan : PlanData
    plan = record { directive = load_directive (codes "cache") [] 0; zones = zone_of_load ∷ [] }

    found_by : (worker : ℕ) → FindAll zone_text bundles (run_terms setup) refl form_at (calls_by (a ∷ b ∷ []) worker)
    found_by worker = λ serial bundle at shard low.
        hits_just (Just zone_text) has_cache IsLegalFor (all_readings bundles) (a ∷ b ∷ []) one_run (load_run bundles) (is_load_run bundles some) (planned_capacities plan)
        (λ marks legal. legal plan (has_plan (load_files zone_text))) put_by shard low worker serial 0 (block_of_run bundles serial bundle at)

    -- the replies of an RCODE over both journals are as many as are meant
    pub both_answer : (code : ℕ) → nat_eq 1 code ≡ false → nat_eq 4 code ≡ false → (datagrams : List Datagram) → datagrams_in udp ≡ queries_by Udp datagrams → datagrams_in tcp ≡ queries_by Tcp datagrams
        → answers_in code udp + answers_in code tcp ≡ count_by (is_meant code (datagram_code first)) datagrams
    both_answer code one four datagrams udp_took tcp_took =
        let left = side_answers a udp first_side code one four (found_by 0) in
        let right = side_answers b tcp second_side code one four (found_by 1) in
        let l = ap (λ (ds : List Datagram). count_by (is_meant code (datagram_code first)) ds) udp_took in
        let r = ap (λ (ds : List Datagram). count_by (is_meant code (datagram_code first)) ds) tcp_took in
        let all = both_counts code (datagram_code first) datagrams in
        omega (arith, left, right, l, r, all)
