-- The workers before they act.
use Rattle.std.proofs.Common.{◌≡◌, ℕ, suc, ◌+◌, ◌<◌, List, [], ◌∷◌, ◌++◌, length, map, get_or, Some, None, slice_get, refl, ap, subst, ◌∙◌, arith}
use Rattle.std.specs.List.{All, AllByRecursion, remove}
use Rattle.std.proofs.lemmas.List.Elements.{All-cons, All-nil}
use Rattle.atomic_table.specs.Seated.{TableId}
use Rattle.outside.specs.Hosts.{IsFreshSide}
use Rattle.outside.specs.States.{SideState}
use Rattle.chain_build.specs.declared.chain.Chain.{Chain}
use Rattle.plugin_api.specs.declared.extra.Extra as extra
use Rattle.plugin_api.specs.declared.rulebook.Rulebook as rulebook
use Rattle.pin_table.specs.declared.passes.Pass.{Pass}
use Rattle.pin_table.specs.declared.table.PinTable.{PinTable}
use Rattle.pin_table.specs.declared.views.PassView.{PassView}
use Rattle.pin_table.specs.{ArePasses, pass_of}
use Rattle.pin_table.specs.Opening.{new_pass}
use Rattle.query_worker.specs.declared.worker.Worker.{Worker}
use Rattle.query_worker.specs as working
use Rattle.dns_server.specs.declared.roles.Role.{Role}
use Rattle.dns_server.specs.declared.roles.Role.TheVariants.{Work, Watch}
use Rattle.dns_server.specs.Roles.{AreStarting, IsMost, IsReady, IsStarting, Task}

module _ {B E : Type 0} {bk : rulebook.Ghosts B} {ex : extra.Ghosts E} where
  -- the passes from this number on
  abbrev pub PassesFrom : TableId → ℕ → List (Pass (Chain B E bk ex)) → Type 0
  PassesFrom id number passes =
      (w : ℕ) (pass : Pass (Chain B E bk ex)) → slice_get passes w ≡ Some pass → (pass.seat.table_id ≡ id) × (pass_of pass ≡ new_pass (number + w) 1)

  pub passes_all : (id : TableId) (passes : List (Pass (Chain B E bk ex))) → ArePasses id 1 passes → PassesFrom id 0 passes
  passes_all id passes are = λ w pass at. let is = are w pass at in (is.0, subst (λ (n : ℕ). pass_of pass ≡ new_pass n 1) (omega arith) is.1)

  pub first_pass : (id : TableId) (number : ℕ) (passes : List (Pass (Chain B E bk ex))) (d : Pass (Chain B E bk ex)) → 0 < length passes → PassesFrom id number passes
      → ((get_or passes 0 d).seat.table_id ≡ id) × (pass_of (get_or passes 0 d) ≡ new_pass number 1)
  first_pass id number [] d some from = absurd (omega (arith, some))
  first_pass id number (pass ∷ passes) d some from =
      let is = from 0 pass refl in
      (is.0, subst (λ (n : ℕ). pass_of pass ≡ new_pass n 1) (omega arith) is.1)

  pub other_passes : (id : TableId) (number : ℕ) (passes : List (Pass (Chain B E bk ex))) → 0 < length passes → PassesFrom id number passes → PassesFrom id (number + 1) (remove passes 0)
  other_passes id number [] some from = absurd (omega (arith, some))
  other_passes id number (pass ∷ passes) some from = λ w other at.
      let is = from (suc w) other at in
      (is.0, subst (λ (n : ℕ). pass_of other ≡ new_pass n 1) (omega arith) is.1)

  pub start_push : {S W N K : Type 0} (table : PinTable (Chain B E bk ex) N K) (number : ℕ) (sides : List S) (roles : List (Role S W B E bk ex)) (side : S) (w : Worker S B E bk ex) → AreStarting table number sides roles
      → IsStarting table (number + length sides) side w → AreStarting table number (sides ++ side ∷ []) (roles ++ Work w None ∷ [])
  start_push table number [] [] side w are is = (subst (λ (n : ℕ). IsStarting table n side w) (omega arith) is, tt)
  start_push table number [] (role ∷ roles) side w are is = absurd are
  start_push table number (s ∷ sides) [] side w are is = absurd are
  start_push table number (s ∷ sides) (Work x end ∷ roles) side w are is =
      (are.0, start_push table (number + 1) sides roles side w are.1 (subst (λ (n : ℕ). IsStarting table n side w) (omega arith) is))
  start_push table number (s ∷ sides) (Watch x ∷ roles) side w are is = absurd are

  pub start_count : {S W N K : Type 0} (table : PinTable (Chain B E bk ex) N K) (number : ℕ) (sides : List S) (roles : List (Role S W B E bk ex)) → AreStarting table number sides roles → length roles ≡ length sides
  start_count table number [] [] are = refl
  start_count table number [] (role ∷ roles) are = absurd are
  start_count table number (s ∷ sides) [] are = absurd are
  start_count table number (s ∷ sides) (Work x end ∷ roles) are = ap suc (start_count table (number + 1) sides roles are.1)
  start_count table number (s ∷ sides) (Watch x ∷ roles) are = absurd are

  -- a worker that has done nothing yet is ready
  ready : {S : Type 0} (task : Task (Chain B E bk ex)) (number : ℕ) (side : S) (w : Worker S B E bk ex) → IsStarting task.table number side w → working.IsReady task.table w
  ready task number side w is = record {
    rests = record {
      own = is.own;
      idle = ap (λ (q : PassView (Chain B E bk ex)). q.held) is.pass_is;
      kept = rw is.pass_is tt;
    };
    unused = ap (λ (q : PassView (Chain B E bk ex)). q.turns) is.pass_is;
    settled = ap (λ (q : PassView (Chain B E bk ex)). q.taken) is.pass_is;
    published = rw is.pass_is (omega arith);
    idle = is.idle;
  }

  pub all_ready : {S W : Type 0} (side : S → SideState) (task : Task (Chain B E bk ex)) (number : ℕ) (sides : List S) (roles : List (Role S W B E bk ex)) → IsMost task.most → AllByRecursion IsFreshSide (map side sides)
      → AreStarting task.table number sides roles → All (IsReady side task) roles
  all_ready side task number [] [] most fresh are = All-nil (IsReady side task)
  all_ready side task number [] (role ∷ roles) most fresh are = absurd are
  all_ready side task number (s ∷ sides) [] most fresh are = absurd are
  all_ready side task number (s ∷ sides) (Work x end ∷ roles) most fresh are =
      let here : (side x.side).left ≡ 0 = ap (λ q. (side q).left) are.0.side_is ∙ fresh.0.here in
      All-cons (IsReady side task) (Work x end) roles (ready task number s x are.0, most, here) (all_ready side task (number + 1) sides roles most fresh.1 are.1)
  all_ready side task number (s ∷ sides) (Watch x ∷ roles) most fresh are = absurd are
