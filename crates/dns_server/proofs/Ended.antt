-- How a run's workers ended, as its status tells it.
use Rattle.std.proofs.Common.{◌≡◌, ℕ, Bool, true, false, List, [], ◌∷◌, refl, inl, inr, ◌⊎◌, ⊎_elim, arith}
use Rattle.std.specs.Prelude.{◌||◌}
use Rattle.std.specs.List.{list_any, AllByRecursion}
use Rattle.std.proofs.lemmas.Bool.{ltb-false}
use Rattle.outside.specs.States.{SideState}
use Rattle.run_meaning.specs.declared.work_end.WorkEnd.{WorkEnd}
use Rattle.run_meaning.specs.declared.work_end.WorkEnd.TheVariants as ends
use Rattle.dns_server.specs.declared.report.Done.{Done}
use Rattle.dns_server.specs.Report.{NeverStarved, SomeFailed, TookAll, is_failed, is_starved}
use Rattle.dns_server.specs.States.{side_runs}

neither : (a b : Bool) → (a || b) ≡ false → (a ≡ false) × (b ≡ false)
neither true b e = absurd cc
neither false b e = (refl, e)

never_one : (starved : ℕ) (end : WorkEnd) → is_starved starved end ≡ false → (starved ≡ 0) × ((end ≡ ends.End) ⊎ (end ≡ ends.RecvFailed))
never_one starved ends.End e = let none = ltb-false 0 starved e in (omega arith, inl refl)
never_one starved ends.RecvFailed e = let none = ltb-false 0 starved e in (omega arith, inr refl)
never_one starved ends.NoMemory e = absurd cc

pub never : {S : Type 0} (state : S → SideState) (dones : List (Done S)) → list_any (λ done. is_starved done.starved done.end) dones ≡ false → AllByRecursion NeverStarved (side_runs state dones)
never state [] e = tt
never state (done ∷ dones) e =
    let both = neither (is_starved done.starved done.end) (list_any (λ (d : Done _). is_starved d.starved d.end) dones) e in
    let here = never_one done.starved done.end both.0 in
    (record { end = here.1; none_starved = here.0 }, never state dones both.1)

took_one : (end : WorkEnd) → is_failed end ≡ false → (end ≡ ends.End) ⊎ (end ≡ ends.RecvFailed) → end ≡ ends.End
took_one ends.End e is = refl
took_one ends.RecvFailed e is = absurd cc
took_one ends.NoMemory e (inl is) = is
took_one ends.NoMemory e (inr is) = absurd cc

pub took : {S : Type 0} (state : S → SideState) (dones : List (Done S)) → list_any (λ done. is_failed done.end) dones ≡ false → AllByRecursion NeverStarved (side_runs state dones)
    → AllByRecursion TookAll (side_runs state dones)
took state [] e all = tt
took state (done ∷ dones) e all =
    let both = neither (is_failed done.end) (list_any (λ (d : Done _). is_failed d.end) dones) e in
    (record { end = took_one done.end both.0 all.0.end; none_starved = all.0.none_starved }, took state dones both.1 all.1)

failed_one : (end : WorkEnd) (rest : Bool) → (is_failed end || rest) ≡ true → (end ≡ ends.RecvFailed) ⊎ (rest ≡ true)
failed_one ends.End rest e = inr e
failed_one ends.RecvFailed rest e = inl refl
failed_one ends.NoMemory rest e = inr e

pub some : {S : Type 0} (state : S → SideState) (dones : List (Done S)) → list_any (λ done. is_failed done.end) dones ≡ true → SomeFailed (side_runs state dones)
some state [] e = absurd cc
some state (done ∷ dones) e = ⊎_elim (λ is. inl is) (λ rest. inr (some state dones rest)) (failed_one done.end (list_any (λ (d : Done _). is_failed d.end) dones) e)
