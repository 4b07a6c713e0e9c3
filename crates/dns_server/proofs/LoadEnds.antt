-- From the run of a load to what its lines say.
use Rattle.std.proofs.Common.{◌≡◌, ◌≢◌, ◌∙◌, ◌<◌, ℕ, zero, suc, List, [], ◌∷◌, ◌++◌, map, length, Option, Some, None, refl, sym, ap, subst, arith, append_assoc}
use Rattle.std.specs.Prelude.{IfSome}
use Rattle.std.specs.List.{AllByRecursion, flat_map}
use Rattle.corefile_blocks.specs.declared.bundle.Bundle.{Bundle}
use Rattle.corefile_bundle.specs.Gathering.{marks_of as read_marks}
use Rattle.dns_data.specs.declared.message.Transport.{Transport}
use Rattle.dns_data.specs.declared.message.Transport.TheVariants.{Udp, Tcp}
use Rattle.one_history.specs.Calls.{Call}
use Rattle.outside.specs.declared.mark.Mark.{Mark}
use Rattle.outside.specs.declared.mark.WatchMark.{WatchMark}
use Rattle.outside.specs.declared.mark.WatchMark.TheVariants as told_mark
use Rattle.outside.specs.Hosts.{SupplyData}
use Rattle.outside.specs.Script.{AnsweredSide, SideScriptData, looks_alone}
use Rattle.outside.specs.States.{WatchState}
use Rattle.outside.specs.WatchMarks.{FollowsWatchScript}
use Rattle.load_maker.specs.{datagrams_in, load_of, looks_of, queries_by, summary_of}
use Rattle.load_maker.specs.Queries.{queries_of}
use Rattle.reload_watch.specs.Histories.{HaveOneHistory}
use Rattle.run_meaning.specs.WatchRun.{TellsLooks}
use Rattle.run_meaning.specs.WatchTurn.{WatchTurn, watch_marks}
use Rattle.dns_server.specs.Each.{Each3}
use Rattle.dns_server.specs.Loading.{TookQueries, load_setup}
use Rattle.dns_server.specs.Report.{RunsWith, Supplies, TellEach, TellsRun, TookAll}
use Rattle.dns_server.specs.States.{RunSetup, SideRun, run_terms}
use Rattle.dns_server.specs.Stocking.{Program}
use Rattle.dns_server.specs.WatchRun.{WatchRun}
use Rattle.dns_server.proofs.LoadSides.{GivesAlone, IsMemory}
use Rattle.load_maker.specs.Texts.{zone_text}
use Rattle.dns_server.proofs.LoadBundles.{IsFoundMark, all_found, gathered_form, reads_found}
use Rattle.dns_server.specs.LoadCounts.{load_summary}
use Rattle.dns_server.specs.Holding.{AreHeldBehind}
use Rattle.dns_server.proofs.LoadForms.{load_source, look_forms}
use Rattle.dns_server.proofs.LoadPublishes.{published_one}
use Rattle.dns_server.proofs.LoadSays.{LoadSide, both_answer}
use Rattle.dns_server.proofs.LoadTurns.{IsForm}
use Rattle.dns_server.proofs.SmallNames.{AsksSmall, all_small}
use Rattle.dns_server.proofs.LoadSays.{all_by}
use Rattle.dns_server.proofs.TurnCounts.{back_all, front_all}

-- the watch follows the script that was supplied
pub script_by : (made : SupplyData) (after : Option SupplyData) (watch : WatchState) (scripts : List (Option SideScriptData)) → Supplies (Some made) after (Some watch) scripts → watch.script ≡ made.watch
script_by made None watch scripts s = absurd s
script_by made (Some after) watch scripts s = s.watch_is.1

abbrev Looks : Program → Bundle → List WatchTurn → List WatchMark → Type 0
Looks program first looks journal = TellsLooks load_source (run_terms (load_setup program)) first looks journal

-- so each published bundle is one of both forms
pub bundle_forms : (program : Program) (journal : List WatchMark) (bundles : List Bundle) (looks : List WatchTurn) (watch : Option WatchState) (starved : ℕ) (w : WatchState) → watch ≡ Some w → w.journal ≡ Some journal
    → FollowsWatchScript (looks_alone (looks_of (load_of 0))) journal → WatchRun (load_setup program) bundles looks watch starved → AllByRecursion (IsForm zone_text) bundles
bundle_forms program journal [] looks watch starved w is told follows run = tt
bundle_forms program journal (first ∷ others) looks watch starved w is told follows run =
    let behind : IfSome w.journal (Looks program first looks) = subst (λ (o : Option WatchState). IfSome o (λ (x : WatchState). IfSome x.journal (Looks program first looks))) is run.told in
    let t : Looks program first looks journal = subst (λ (j : Option (List WatchMark)). IfSome j (Looks program first looks)) told behind in
    let found = subst (AllByRecursion IsFoundMark) t.told (all_found journal follows) in
    let mine = reads_found t.reads (front_all IsFoundMark (read_marks t.reads) (told_mark.Published 0 ∷ (flat_map watch_marks looks ++ t.ending)) found) in
    let rest = back_all IsFoundMark (read_marks t.reads) (told_mark.Published 0 ∷ (flat_map watch_marks looks ++ t.ending)) found in (
      gathered_form t.reads first mine t.gathers,
      subst (AllByRecursion (IsForm zone_text)) (sym run.published)
          (look_forms (run_terms (load_setup program)) (first ∷ []) looks run.are (front_all IsFoundMark (flat_map watch_marks looks) t.ending rest.1)),
    )

-- and under such looks as have met no want of memory both were published
pub two_published : (program : Program) (journal : List WatchMark) (bundles : List Bundle) (looks : List WatchTurn) (watch : Option WatchState) (starved published : ℕ) (w : WatchState) (pinned : List (List ℕ)) → watch ≡ Some w → w.journal ≡ Some journal
    → FollowsWatchScript (looks_alone (looks_of (load_of 0))) journal → WatchRun (load_setup program) bundles looks watch starved → AllByRecursion (IsForm zone_text) bundles → AreHeldBehind pinned bundles looks → starved ≡ 0
    → length bundles ≡ published → published ≢ 0 → published ≡ 2
two_published program journal [] looks watch starved published w pinned is told follows run forms held fed count some = absurd (some (sym count))
two_published program journal (first ∷ others) looks watch starved published w pinned is told follows run forms held fed count some =
    let behind : IfSome w.journal (Looks program first looks) = subst (λ (o : Option WatchState). IfSome o (λ (x : WatchState). IfSome x.journal (Looks program first looks))) is run.told in
    let t : Looks program first looks journal = subst (λ (j : Option (List WatchMark)). IfSome j (Looks program first looks)) told behind in
    let all = subst (λ (l : List Bundle). AllByRecursion (IsForm zone_text) (first ∷ l)) run.published forms in
    let least = run.starved_is.least in
    let one = published_one (run_terms (load_setup program)) refl journal follows first t.reads t.gathers pinned looks t.ending
    (t.told ∙ sym (append_assoc (read_marks t.reads) (told_mark.Published 0 ∷ []) (flat_map watch_marks looks ++ t.ending))) t.ends all run.are held (omega (arith, least, fed)) in
    let more = ap (λ (l : List Bundle). length l) run.published in
    omega (arith, count, one, more)

-- the two sides, and what each tells
pub record TwoSides (R : List ℕ → List (Call Mark) → SideRun → Type 0) (calls : List (List (Call Mark))) (one two : SideRun) : Type 0 where
  pub first : List ℕ
  pub second : List ℕ
  pub a : List (Call Mark)
  pub b : List (Call Mark)
  pub calls_are : calls ≡ a ∷ b ∷ []
  pub is_one : R first a one
  pub is_two : R second b two

pub two_sides : (R : List ℕ → List (Call Mark) → SideRun → Type 0) (pinned : List (List ℕ)) (calls : List (List (Call Mark))) (one two : SideRun) → Each3 R pinned calls (one ∷ two ∷ []) → TwoSides R calls one two
two_sides R [] [] one two each = absurd each
two_sides R [] (c ∷ calls) one two each = absurd each
two_sides R (p ∷ pinned) [] one two each = absurd each
two_sides R (p ∷ []) (c ∷ []) one two each = absurd each.1
two_sides R (p ∷ []) (c ∷ d ∷ calls) one two each = absurd each.1
two_sides R (p ∷ q ∷ pinned) (c ∷ []) one two each = absurd each.1
two_sides R (p ∷ q ∷ []) (c ∷ d ∷ []) one two each = record { first = p; second = q; a = c; b = d; calls_are = refl; is_one = each.0; is_two = each.1.0 }
two_sides R (p ∷ q ∷ []) (c ∷ d ∷ e ∷ calls) one two each = absurd each.1.1
two_sides R (p ∷ q ∷ r ∷ pinned) (c ∷ d ∷ []) one two each = absurd each.1.1
two_sides R (p ∷ q ∷ r ∷ pinned) (c ∷ d ∷ e ∷ calls) one two each = absurd each.1.1

-- what is known of a side by its script
pub record KnowsSide (side : SideRun) (journal : List Mark) : Type 0 where
  pub told : side.state.journal ≡ Some journal
  pub script : SideScriptData
  pub script_is : side.state.script ≡ Some script
  pub alone : GivesAlone script
  pub memory : IsMemory side
  pub ended : TookAll side

pub load_side : (setup : RunSetup) (bundles : List Bundle) (pinned : List ℕ) (calls : List (Call Mark)) (side : SideRun) (journal : List Mark) → KnowsSide side journal → TellsRun setup bundles pinned calls side → AllByRecursion AsksSmall (datagrams_in journal)
    → LoadSide setup bundles calls journal
load_side setup bundles pinned calls side journal knows tells small = record {
  pinned = pinned;
  side = side;
  run = subst (λ (j : Option (List Mark)). IfSome j (RunsWith setup bundles pinned calls side.worked)) knows.told tells.run;
  ended = knows.ended;
  gets = knows.alone.gets;
  follows = subst (λ (x : Option SideScriptData × Option (List Mark)). AnsweredSide x.0 x.1) (λ i. ((knows.script_is ∙ ap (λ (s : SideScriptData). Some s) knows.alone.is) i, knows.told i)) knows.memory.answers;
  small = small;
}

small_by : (count : ℕ) (by : Transport) (journal : List Mark) → datagrams_in journal ≡ queries_by by (queries_of count) → AllByRecursion AsksSmall (datagrams_in journal)
small_by count by journal took = subst (AllByRecursion AsksSmall) (sym took) (all_by AsksSmall by (queries_of count) (all_small count))

-- the summary of such sides
pub sums_up : (program : Program) (count published : ℕ) (bundles : List Bundle) → AllByRecursion (IsForm zone_text) bundles → 0 < length bundles → (pinned : List (List ℕ)) (calls : List (List (Call Mark))) (one two : SideRun) (udp tcp : List Mark)
    → TellEach (load_setup program) bundles pinned calls (one ∷ two ∷ []) → HaveOneHistory (run_terms (load_setup program)) bundles calls → KnowsSide one udp → KnowsSide two tcp → TookQueries (load_of count) count udp tcp
    → published ≡ 2 → summary_of udp tcp published ≡ load_summary count
sums_up program count published bundles forms some pinned calls one two udp tcp each history knows_one knows_two took two_are =
    let setup = load_setup program in
    let t = two_sides (TellsRun setup bundles) pinned calls one two each in
    let first = load_side setup bundles t.first t.a one udp knows_one t.is_one (small_by count Udp udp took.udp_took) in
    let second = load_side setup bundles t.second t.b two tcp knows_two t.is_two (small_by count Tcp tcp took.tcp_took) in
    let one_history = subst (HaveOneHistory (run_terms setup) bundles) t.calls_are history in
    let noerror = both_answer program bundles forms some t.a t.b one_history udp tcp first second 0 refl refl (queries_of count) took.udp_took took.tcp_took in
    let nxdomain = both_answer program bundles forms some t.a t.b one_history udp tcp first second 3 refl refl (queries_of count) took.udp_took took.tcp_took in
    let refused = both_answer program bundles forms some t.a t.b one_history udp tcp first second 5 refl refl (queries_of count) took.udp_took took.tcp_took in
    λ i. record { queries = took.all i; noerror = noerror i; nxdomain = nxdomain i; refused = refused i; published = two_are i }

-- what is known of all sides, by their scripts
abbrev pub KnowsAll : List SideRun → List (List Mark) → Type 0
KnowsAll [] [] = Unit {0}
KnowsAll [] (j ∷ journals) = ⊥
KnowsAll (side ∷ sides) [] = ⊥
KnowsAll (side ∷ sides) (j ∷ journals) = KnowsSide side j × KnowsAll sides journals

head_is : {X : Type 0} (x y : X) (xs ys : List X) → x ∷ xs ≡ y ∷ ys → x ≡ y
head_is x y xs ys e = cc

tail_is : {X : Type 0} (x y : X) (xs ys : List X) → x ∷ xs ≡ y ∷ ys → xs ≡ ys
tail_is x y xs ys e = cc

pub all_known : (sides : List SideRun) (taken : List SideScriptData) (journals : List (List Mark)) → map (λ (side : SideRun). side.state.script) sides ≡ map (λ (s : SideScriptData). Some s) taken
    → map (λ (side : SideRun). side.state.journal) sides ≡ map (λ (j : List Mark). Some j) journals → AllByRecursion GivesAlone taken → AllByRecursion IsMemory sides → AllByRecursion TookAll sides → KnowsAll sides journals
all_known [] taken [] scripts told alone memory ended = tt
all_known [] taken (j ∷ journals) scripts told alone memory ended = absurd cc
all_known (side ∷ sides) [] journals scripts told alone memory ended = absurd cc
all_known (side ∷ sides) (script ∷ taken) [] scripts told alone memory ended = absurd cc
all_known (side ∷ sides) (script ∷ taken) (j ∷ journals) scripts told alone memory ended = (
  record {
    told = head_is side.state.journal (Some j) _ _ told;
    script = script;
    script_is = head_is side.state.script (Some script) _ _ scripts;
    alone = alone.0;
    memory = memory.0;
    ended = ended.0;
  },
  all_known sides taken journals (tail_is side.state.script (Some script) _ _ scripts) (tail_is side.state.journal (Some j) _ _ told) alone.1 memory.1 ended.1,
)

some_bundles : (n published : ℕ) → n ≡ published → published ≢ 0 → 0 < n
some_bundles zero published is some = absurd (some (sym is))
some_bundles (suc n) published is some = omega arith

-- so its summary is what the number of queries gives
pub two_sum : (program : Program) (count published : ℕ) (bundles : List Bundle) → AllByRecursion (IsForm zone_text) bundles → length bundles ≡ published → published ≢ 0 → (pinned : List (List ℕ)) (calls : List (List (Call Mark))) (sides : List SideRun) (udp tcp : List Mark)
    → TellEach (load_setup program) bundles pinned calls sides → HaveOneHistory (run_terms (load_setup program)) bundles calls → KnowsAll sides (udp ∷ tcp ∷ []) → TookQueries (load_of count) count udp tcp
    → published ≡ 2 → summary_of udp tcp published ≡ load_summary count
two_sum program count published bundles forms is some pinned calls [] udp tcp each history knows took two_are = absurd knows
two_sum program count published bundles forms is some pinned calls (one ∷ []) udp tcp each history knows took two_are = absurd knows.1
two_sum program count published bundles forms is some pinned calls (one ∷ two ∷ []) udp tcp each history knows took two_are =
    sums_up program count published bundles forms (some_bundles (length bundles) published is some) pinned calls one two udp tcp each history knows.0 knows.1.0 took two_are
two_sum program count published bundles forms is some pinned calls (one ∷ two ∷ three ∷ sides) udp tcp each history knows took two_are = absurd knows.1.1
