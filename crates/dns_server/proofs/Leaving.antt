-- What a run leaves behind the end of its roles.
use Rattle.std.proofs.Common.{◌≡◌, ◌≤◌, ◌<◌, ◌*◌, ◌+◌, ℕ, suc, List, [], ◌∷◌, ◌++◌, map, length, reverse, take, Some, slice_get, refl, sym, ap, subst, ◌∙◌, arith}
use Rattle.std.specs.Arc.{arc_value}
use Rattle.std.specs.Vec.{vec_capacity, vec_len}
use Rattle.std.specs.List.{All, AllByRecursion, AllZip, sum_by}
use Rattle.std.proofs.lemmas.List.{length-map, take_all}
use Rattle.outside.specs.Causes.{RoseJust}
use Rattle.outside.specs.States.{SideState, WatchState}
use Rattle.corefile_blocks.specs.declared.bundle.Bundle.{Bundle}
use Rattle.chain_build.specs.declared.chain.Chain.{Chain}
use Rattle.plugin_api.specs.declared.extra.Extra as extra
use Rattle.plugin_api.specs.declared.rulebook.Rulebook as rulebook
use Rattle.corefile_bundle.specs.{IsGathered}
use Rattle.chain_build.specs.{ArePlans, PlansData, chain_identity, chain_log, ground_of, plans_of}
use Rattle.chain_meaning.specs.{Ground}
use Rattle.plugin_api.specs.{Obey}
use Rattle.pin_core.specs.declared.slots.TheConstants.{WORKERS}
use Rattle.pin_table.specs.declared.passes.Pass.{Pass}
use Rattle.pin_table.specs.declared.table.PinTable.{PinTable}
use Rattle.pin_table.specs.declared.views.PassView.{PassView}
use Rattle.pin_table.specs.declared.views.Plan.{Plan}
use Rattle.pin_table.specs.{AreFilled, AreGiven, AreIdle, IsPublisherOf, IsStanding, count_of, id_of, plan_of, standing, views_of}
use Rattle.block_readings.specs.Readings.{BlockReading}
use Rattle.one_history.specs.Join.{EndedBySeats, side_calls}
use Rattle.one_history.specs.Logs.{Pin}
use Rattle.one_history.specs.Runs.{OneHistory}
use Rattle.outside.specs.declared.mark.Mark.{Mark}
use Rattle.pin_core.specs.{OnePinRun, pin_marks}
use Rattle.pin_table.specs.Closing.{IsClosed, IsTraced, joined_marks, joined_plan}
use Rattle.pin_table.specs.Opening.{IsOpened}
use Rattle.query_worker.specs.{IsPlacedPin, pinned_by}
use Rattle.reload_watch.specs.{AreFilledBy, Footing, HasPlaces, IsPlaced, footing_on, terms_of}
use Rattle.run_meaning.specs.WatchTurn.{AreLooks, all_starved}
use Rattle.run_meaning.specs.WatchRun.{EndsWatch}
use Rattle.lent_caches.specs.Held.{caches_data}
use Rattle.chain_build.specs.HistoryPins.{passes_with}
use Rattle.chain_build.specs.Naming.{change, plans_generation}
use Rattle.chain_build.specs.History.{has_cache, no_generation, readings_of}
use Rattle.reload_watch.specs.GenerationsLaws.{all_read, turns_placed}
use Rattle.reload_watch.specs.Histories.{AreReadAs, HaveOneHistory, IsHome, IsLegalFor, places_by}
use Rattle.reload_watch.specs.HistoryLaws.{ended_home}
use Rattle.reload_watch.specs.Named.{AreNamed}
use Rattle.reload_watch.specs.NamedLaws.{have_caches, named_first, names_on, of_none}
use Rattle.reload_watch.specs.NextLaws.{first_keeps}
use Rattle.reload_watch.specs.declared.watcher.Watcher.{Watcher}
use Rattle.dns_server.specs.Caches.{LendsFirst}
use Rattle.dns_server.specs.declared.finishing.Opened.{Opened}
use Rattle.dns_server.specs.declared.report.Done.{Done}
use Rattle.dns_server.specs.declared.roles.Role.{Role}
use Rattle.dns_server.specs.Each.{Each3}
use Rattle.dns_server.specs.Report.{Finishes, side_pins}
use Rattle.dns_server.specs.Roles.{Becomes, HasWatched, IsPart, IsWatching, Task, as_role}
use Rattle.dns_server.specs.Roles as roles
use Rattle.dns_server.specs.States.{RunSetup, run_terms, side_runs}
use Rattle.dns_server.proofs.Each.{zip_last}
use Rattle.extra_stock.specs.{is_named}
use Rattle.reload_watch.specs.{SawOpen, all_weigh}
use Rattle.run_meaning.specs.Stocked.{AreStocked, Lending}
use Rattle.run_meaning.specs.StockedLaws.{stocked_to}
use Rattle.dns_server.specs.Holding.{IsHeld}
use Rattle.dns_server.specs.Lending.{lent_by}
use Rattle.dns_server.specs.Stocking.{StockData, count_name}
use Rattle.dns_server.proofs.Holding.{looks_held, placed_opened, saw_held}
use Rattle.dns_server.proofs.Joining.{IsBy, IdleFrom, IsDone, Leave, all_calls, all_grown, all_tell, placed_of, scripts_are}

-- the last of the roles, and the others
pub parted : {R : Type 0} (B : R → R → Type 0) (starts others befores afters : List R) (first last : R) → befores ≡ starts ++ first ∷ [] → afters ≡ others ++ last ∷ [] → AllZip B befores afters
    → AllZip B starts others × B first last
parted B starts others befores afters first last before after zip =
    zip_last B starts first others last (subst (λ (x : List _ × List _). AllZip B x.0 x.1) (λ i. (before i, after i)) zip)

-- as many roles have ended as acted
pub zip_none : {R : Type 0} (B : R → R → Type 0) (starts : List R) (first : R) → AllZip B (starts ++ first ∷ []) [] → ⊥
zip_none B [] first zip = zip
zip_none B (s ∷ starts) first zip = zip

pub zip_count : {R : Type 0} (B : R → R → Type 0) (xs ys : List R) → AllZip B xs ys → length ys ≡ length xs
zip_count B [] [] zip = refl
zip_count B [] (y ∷ ys) zip = absurd zip
zip_count B (x ∷ xs) [] zip = absurd zip
zip_count B (x ∷ xs) (y ∷ ys) zip = ap suc (zip_count B xs ys zip.1)

pub part_count : {A B C : Type 0} (R : A → B → C → Type 0) (xs : List A) (ys : List B) (zs : List C) → Each3 R xs ys zs → length zs ≡ length xs
part_count R [] [] [] each = refl
part_count R [] [] (z ∷ zs) each = absurd each
part_count R [] (y ∷ ys) zs each = absurd each
part_count R (x ∷ xs) [] zs each = absurd each
part_count R (x ∷ xs) (y ∷ ys) [] each = absurd each
part_count R (x ∷ xs) (y ∷ ys) (z ∷ zs) each = ap suc (part_count R xs ys zs each.1)

pub mid_count : {A B C : Type 0} (R : A → B → C → Type 0) (xs : List A) (ys : List B) (zs : List C) → Each3 R xs ys zs → length ys ≡ length xs
mid_count R [] [] [] each = refl
mid_count R [] [] (z ∷ zs) each = absurd each
mid_count R [] (y ∷ ys) zs each = absurd each
mid_count R (x ∷ xs) [] zs each = absurd each
mid_count R (x ∷ xs) (y ∷ ys) [] each = absurd each
mid_count R (x ∷ xs) (y ∷ ys) (z ∷ zs) each = ap suc (mid_count R xs ys zs each.1)

module _ {B E : Type 0} {bk : rulebook.Ghosts B} {ex : extra.Ghosts E} where
  -- the pins of sides are those of their passes
  pins_are : (qs : List (PassView (Chain B E bk ex))) → joined_marks qs ≡ side_pins (map (λ q. pinned_by q) qs)
  pins_are [] = refl
  pins_are (q ∷ qs) = ap (λ l. pin_marks (reverse (pinned_by q)) ∷ l) (pins_are qs)

  -- the passes of all workers, none of which holds a pin
  pub idle_all : {N K : Type 0} (table : PinTable (Chain B E bk ex) N K) (passes : List (Pass (Chain B E bk ex))) → IdleFrom (id_of table) 0 passes → AreIdle (id_of table) passes
  idle_all table passes idle = λ w pass at. let is = idle w pass at in (is.0, is.1 ∙ omega arith, is.2)

  module _ {S W : Type 0} (side : S → SideState) (watch : W → WatchState) (setup : RunSetup) (opened : Opened S W B E bk ex) (last : Watcher W B E bk ex) (dones : List (Done S)) (passes : List (Pass (Chain B E bk ex))) where
    abbrev task : Task (Chain B E bk ex)
    task = record { table = opened.table; source = setup.source; most = setup.most }

    abbrev first : Bundle
    first = (arc_value opened.watcher.current).bundle

    -- what each pass was given, by the table's last state
    given : (bundles : List Bundle) → length bundles ≡ count_of (plan_of last.publisher) → IsClosed (joined_plan (plan_of last.publisher) passes)
        → IsTraced chain_identity chain_log (joined_plan (plan_of last.publisher) passes) → (named : AreNamed (plan_of last.publisher).past.filled)
        → (w : ℕ) (q : PassView (Chain B E bk ex)) → slice_get (views_of passes) w ≡ Some q
        → AreGiven chain_identity chain_log (plan_of last.publisher).past.filled (0 + w) q.turns × (q.seen ≤ length bundles) × AllByRecursion (IsPlacedPin (places_by named.generations)) q.turns
    given bundles count closed traced named w q at =
        let filled = (plan_of last.publisher).past.filled in
        let turns = traced.turns w q at in
        let rising = closed.rising w q at in (
          subst (λ (n : ℕ). AreGiven chain_identity chain_log filled n q.turns) (omega arith) turns,
          let r = rising.1 in omega (arith, r, count),
          placed_of named.generations q.turns (turns_placed named.generations filled w q.turns named.by turns),
        )

    pub finishes : (others : List (Role S W B E bk ex)) (published : ℕ) (stock : StockData) → ((name : List ℕ) → count_name name stock.spare ≡ all_weigh (is_named name) opened.watcher) → IsBy bk.taken bk.said setup → roles.IsOpened side setup.footing.basis opened → (has : HasWatched watch task opened.watcher last)
        → Leave side watch task 0 opened.sides.items others dones passes → published ≡ count_of (plan_of last.publisher)
        → IsClosed (joined_plan (plan_of last.publisher) passes) → IsTraced chain_identity chain_log (joined_plan (plan_of last.publisher) passes)
        → (home : List (Chain B E bk ex)) → IsHome opened.table last passes home
        → ((readings : List (List BlockReading)) (pins : List (List (Pin Mark))) → EndedBySeats has_cache IsLegalFor readings pins → OneHistory has_cache IsLegalFor readings (side_calls pins))
        → Finishes setup first (map side opened.sides.items) (watch opened.watcher.watch) (record { sides = side_runs side dones; watch = watch last.watch; published = published; stock = stock; starved = last.starved })
    finishes others published stock spare_is on is has leave count closed traced home ended joined =
        let by = has.watches in
        let basis = is.ground_is in
        let to : footing_on bk.taken bk.said (ground_of (arc_value opened.watcher.current)) ≡ setup.footing = ap (λ (g : Ground). footing_on bk.taken bk.said g) basis ∙ sym on in
        let bundles = by.bundles in
        let filled = (plan_of last.publisher).past.filled in
        let sides_count = part_count (IsDone setup.most) (map side opened.sides.items) (side_runs side dones) (views_of passes) leave.done in
        let sides_mid = mid_count (IsDone setup.most) (map side opened.sides.items) (side_runs side dones) (views_of passes) leave.done in
        let count_is : (plan_of last.publisher).workers ≡ length (views_of passes) = has.keeps.workers ∙ has.workers ∙ is.workers ∙ sym (length-map opened.sides.items side) ∙ sym sides_count in
        let named = ended.keeps.named in
        let places = places_by named.generations in
        let each = given bundles by.count closed traced named in
        let told = all_calls setup.most (map side opened.sides.items) (side_runs side dones) (views_of passes) leave.done in
        let grown = all_grown setup.most places (map side opened.sides.items) (side_runs side dones) (views_of passes) leave.done (λ w q at. let that = each w q at in that.2) in
        let some = ended.keeps.some in
        let workers = ended.keeps.workers in
        let of_basis = subst (λ (g : Ground). AreFilledBy bundles g filled) basis by.filled in
        let readings = readings_of (map plans_generation named.generations) in
        let read = all_read setup.footing.basis (plan_of last.publisher).workers bundles named.generations filled (omega (arith, some, workers)) of_basis named.by named.have ended.keeps.stands.full in
        let tell = all_tell setup on places bundles filled 0 (map side opened.sides.items) (side_runs side dones) (views_of passes) is.fresh leave.done of_basis each in
        record {
          looks = by.looks;
          ending = by.ending;
          told = by.told;
          are = subst (λ (f : Footing). AreLooks setup.source (terms_of f) (first ∷ []) by.looks) to by.are;
          ends = subst (λ (x : Footing × List Bundle). EndsWatch (terms_of x.0) x.1 by.ending) (λ i. (to i, by.bundles_are i)) by.ends;
          count = ap (λ (l : List Bundle). length l) (sym by.bundles_are) ∙ by.count ∙ sym count;
          starved = subst (λ (n : ℕ). RoseJust (all_starved by.looks) n last.starved) is.watcher.starved by.starved;
          refused = by.refused;
          goes = has.goes;
          scripts = scripts_are setup.most (map side opened.sides.items) (side_runs side dones) (views_of passes) leave.done;
          pinned = map (λ q. pinned_by q) (views_of passes);
          calls = side_calls (passes_with chain_log (views_of passes) told);
          tell = rw (sym by.bundles_are) tell;
          held = looks_held (plan_of last.publisher).workers (plan_of last.publisher).past (views_of passes) count_is leave.settled (plan_of last.publisher).sweeps setup.source (run_terms setup)
              (first ∷ []) by.looks closed.sweeps (subst (λ (f : Footing). AreLooks setup.source (terms_of f) (first ∷ []) by.looks) to by.are) by.swept;
          lent =
              let run = lent_by setup (length (side_runs side dones)) stock in
              let sides : opened.watcher.workers ≡ length (side_runs side dones) = is.workers ∙ (sym (length-map opened.sides.items side) ∙ sym sides_mid) in
              stocked_to run (SawOpen (plan_of last.publisher).sweeps) (λ n serial. IsHeld n serial (map (λ q. pinned_by q) (views_of passes)))
              (λ n serial saw. saw_held (plan_of last.publisher).workers (plan_of last.publisher).past (views_of passes) count_is leave.settled (plan_of last.publisher).sweeps n serial closed.sweeps saw)
              (first ∷ []) by.looks
              (subst (λ (l : Lending). AreStocked l (SawOpen (plan_of last.publisher).sweeps) (first ∷ []) by.looks)
              (λ i. record { terms = terms_of (to i); workers = sides i; all = λ name. (sym (spare_is name)) i }) by.stocked);
          pins = subst (λ (k : ℕ). OnePinRun k published (side_pins (map (λ q. pinned_by q) (views_of passes)))) (count_is ∙ sides_count ∙ sym sides_mid)
              (subst (λ (k : ℕ). OnePinRun (plan_of last.publisher).workers k (side_pins (map (λ q. pinned_by q) (views_of passes)))) (sym count)
              (subst (OnePinRun (plan_of last.publisher).workers (count_of (plan_of last.publisher))) (pins_are (views_of passes)) closed.run));
          history = subst (λ (l : List Bundle). HaveOneHistory (run_terms setup) l (side_calls (passes_with chain_log (views_of passes) told))) by.bundles_are
              (record {
                readings = readings;
                read = subst (λ (f : Footing). AreReadAs (terms_of f) bundles readings) (sym on) read;
                one = joined readings (passes_with chain_log (views_of passes) told) (ended_home opened.table last passes home ended told grown);
              });
        }

  -- a watcher that has published the first chains
  pub watching : {W N K : Type 0} (table : PinTable (Chain B E bk ex) N K) (w : Watcher W B E bk ex) (chains : List (Chain B E bk ex)) → IsPublisherOf table w.publisher → IsOpened chains (plan_of w.publisher)
      → AreFilled chain_identity chain_log 0 (plan_of w.publisher).past.filled → w.workers ≡ length chains → (0 < length chains) × (length chains ≤ WORKERS)
      → All (λ chain. plans_of chain ≡ arc_value w.current) chains → ArePlans bk.taken bk.said (arc_value w.current) → IsGathered (arc_value w.current).bundle
      → (arc_value w.current).names ≡ map ex.title w.stock.judges.items → Obey bk.taken bk.said ex.title ex.takes ex.ruling w.stock.judges.items → Obey bk.taken bk.said ex.title ex.takes ex.ruling w.stock.spare.items
      → IsStanding chain_identity (plan_of w.publisher) → HasPlaces (vec_len w.stock.spare) (vec_capacity w.stock.spare) (plan_of w.publisher)
      → (w.home.items ≡ []) × (vec_len w.home ≡ 0) × (4 * length chains ≤ vec_capacity w.home) → w.starved ≡ 0
      → (plans : PlansData) → LendsFirst plans (arc_value w.current) (length chains) (caches_data w.caches) → ((f : Chain B E bk ex → ℕ) → standing f (plan_of w.publisher) ≡ sum_by f chains) → IsWatching table w
  watching table w chains own opened filled workers few serve are gathered names judges spare stands places home starved plans lends sum =
      let plan = opened.1 in
      let count : count_of (plan_of w.publisher) ≡ 1 = ap (λ (p : Plan (Chain B E bk ex)). count_of p) plan in
      let all : take (length chains) chains ≡ chains = take_all (length chains) chains (omega arith) in
      let begins = lends.begins in
      let keeps = first_keeps begins.naming plans (arc_value w.current) lends.fresh (plan_of w.publisher) chains (caches_data w.caches) few.0 few.1 begins.serial begins.none are begins.names opened sum serve lends.lent in
      record {
        keeps = record {
          own = own;
          filled = filled;
          workers = ap (λ (p : Plan (Chain B E bk ex)). p.workers) plan ∙ sym workers;
          some = let f = few.0 in omega (arith, workers, f);
          few = let f = few.1 in omega (arith, workers, f);
          joined = ap (λ (p : Plan (Chain B E bk ex)). p.joined) plan;
          placed = subst IsPlaced (sym plan) (placed_opened (length chains) chains opened.0);
          count = ap (λ (p : Plan (Chain B E bk ex)). length p.past.filled) plan ∙ sym count;
          within = omega (arith, count);
          current = record {
            earlier = [];
            chains = chains;
            last_is = ap (λ (p : Plan (Chain B E bk ex)). p.past.filled) plan ∙ ap (λ (l : List (Chain B E bk ex)). l ∷ []) all;
            serve = serve;
          };
          are = are;
          gathered = gathered;
          names = names;
          judges = judges;
          spare = spare;
          stands = stands;
          places = places;
          home = record { none = home.0; empty = home.1; room = let h = home.2 in omega (arith, workers, h) };
          caches = keeps.0;
          served = keeps.1.0;
          named = subst AreNamed (sym (ap (λ (p : Plan (Chain B E bk ex)). p.past.filled) plan ∙ ap (λ (l : List (Chain B E bk ex)). l ∷ []) all))
              (named_first (arc_value w.current) chains (names_on begins.naming (change [] lends.fresh) (arc_value w.current) no_generation 0 (of_none begins.naming.before begins.none) begins.serial begins.names.names)
              (have_caches bk.taken bk.said begins.naming (change [] lends.fresh) (arc_value w.current) are begins.names.names) serve);
          accounted = keeps.1.1;
        };
        first = count;
        starved = starved;
      }
