-- What the workers held, by the sweeps of looks that found no free slot.
use Rattle.std.proofs.Common.{◌≡◌, ◌<◌, ◌-◌, ℕ, zero, suc, List, [], ◌∷◌, ◌++◌, map, length, get_or, Some, None, Result, false, refl, subst, inl, inr, arith}
use Rattle.std.specs.Prelude.{slice_index_or}
use Rattle.std.specs.List.{All, AllByRecursion}
use Rattle.std.proofs.lemmas.List.Elements.{All-head, All-tail}
use Rattle.corefile_blocks.specs.declared.bundle.Bundle.{Bundle}
use Rattle.corefile_bundle.specs.declared.fault.GatherFault.{GatherFault}
use Rattle.corefile_bundle.specs.Gathering.{Source}
use Rattle.chain_meaning.specs.{Terms}
use Rattle.pin_table.specs.declared.free_slots.Left.{Left}
use Rattle.pin_table.specs.declared.views.PassView.{PassView}
use Rattle.pin_table.specs.declared.views.Past.{Past}
use Rattle.pin_table.specs.declared.views.Sweep.{Sweep}
use Rattle.pin_core.specs.declared.slots.TheConstants.{SLOTS}
use Rattle.pin_core.specs.Slots.{is_free}
use Rattle.pin_table.specs.{count_of, plan_slot}
use Rattle.pin_table.specs.Closing.{joined_at}
use Rattle.pin_table.specs.Known.{fresh, last_below, serial_at, serials_by, serials_of, turn_serials}
use Rattle.pin_table.specs.Opening.{opened_plan}
use Rattle.pin_table.specs.Shown.{IsSweep}
use Rattle.query_worker.specs.{pinned_by}
use Rattle.run_meaning.specs.declared.looking.Looking.{Looking}
use Rattle.run_meaning.specs.declared.looking.Looking.TheVariants as looking
use Rattle.run_meaning.specs.Answers.{AnswersLook, Standing}
use Rattle.reload_watch.specs.Placing.{IsPlaced}
use Rattle.reload_watch.specs.Standing.{SawOpen}
use Rattle.reload_watch.specs.Sweeps.{HasSwept, SweptFor}
use Rattle.reload_watch.specs.WatchTurn.{AreSwept, IsSweptTurn}
use Rattle.run_meaning.specs.WatchTurn.{WatchTurn, AreLooks, IsLook, looked, starved, published_by}
use Rattle.dns_server.specs.Holding.{AreHeld, IsHeld, IsHeldFor, IsHeldTurn}

module _ {C : Type 0} where
  -- once the first chains are published
  pub placed_opened : (n : ℕ) (chains : List C) (found : ℕ) → IsPlaced (opened_plan n chains found)
  placed_opened n chains found = record { each_serial = refl; each_slot = refl; placed = at; fronted = record { front = 0; low = omega arith; current = refl; last = refl } }
    where
      at : (i : ℕ) → i < SLOTS → is_free (plan_slot (opened_plan n chains found) i).phase ≡ false
          → (serial_at (opened_plan n chains found).past.serials i < count_of (opened_plan n chains found))
          × (get_or (opened_plan n chains found).past.published (serial_at (opened_plan n chains found).past.serials i) SLOTS ≡ i)
      at zero low free = (omega arith, refl)
      at (suc zero) low free = absurd cc
      at (suc (suc zero)) low free = absurd cc
      at (suc (suc (suc zero))) low free = absurd cc
      at (suc (suc (suc (suc i)))) low free = absurd (omega (arith, low))

  -- a pass that holds no pin
  abbrev pub IsSettled : PassView C → Type 0
  IsSettled q = (q.held ≡ None) × (q.taken ≡ None)

  serials_settled : (serials : List ℕ) (q : PassView C) → IsSettled q → serials_of serials q ≡ pinned_by q
  serials_settled serials q is = λ i. serials_by serials (is.0 i) (is.1 i) (turn_serials q.turns)

  -- what the pass of a worker holds, one of the passes holds
  held_at : (serials : List ℕ) (last serial : ℕ) (qs : List (PassView C)) (w : ℕ) (d : PassView C) → w < length qs → AllByRecursion IsSettled qs
      → last_below last (serials_of serials (slice_index_or qs w d)) ≡ Some serial → IsHeld last serial (map (λ q. pinned_by q) qs)
  held_at serials last serial [] w d some settled is = absurd (omega (arith, some))
  held_at serials last serial (q ∷ qs) zero d some settled is = inl (subst (λ (l : List ℕ). last_below last l ≡ Some serial) (serials_settled serials q settled.0) is)
  held_at serials last serial (q ∷ qs) (suc w) d some settled is = inr (held_at serials last serial qs w d (omega (arith, some)) settled.1 is)

  module _ (n : ℕ) (past : Past C) (qs : List (PassView C)) (count : n ≡ length qs) (settled : AllByRecursion IsSettled qs) where
    -- by a sweep that saw open pins
    swept_held : (sweeps : List Sweep) (last serial : ℕ) (left : Left) → All (IsSweep n past (joined_at qs)) sweeps → HasSwept sweeps last serial left → left.ended < left.total
        → IsHeld last serial (map (λ q. pinned_by q) qs)
    swept_held [] last serial left all has less = absurd has
    swept_held (sweep ∷ sweeps) last serial left all (inl is) less =
        let head = All-head (IsSweep n past (joined_at qs)) sweep sweeps all in
        let held = head.held (omega (arith, is.2, is.3, less)) in
        held_at past.serials last serial qs held.0 (fresh held.0) (omega (arith, count, held.1)) settled
        (subst (λ (x : ℕ × ℕ). last_below x.0 (serials_of past.serials (joined_at qs held.0)) ≡ Some x.1) (λ i. (is.0 i, is.1 i)) held.2)
    swept_held (sweep ∷ sweeps) last serial left all (inr has) less = swept_held sweeps last serial left (All-tail (IsSweep n past (joined_at qs)) sweep sweeps all) has less

    -- and what it saw of one serial
    pub saw_held : (sweeps : List Sweep) (last serial : ℕ) → All (IsSweep n past (joined_at qs)) sweeps → SawOpen sweeps last serial → IsHeld last serial (map (λ q. pinned_by q) qs)
    saw_held [] last serial all saw = absurd saw
    saw_held (sweep ∷ sweeps) last serial all (inl is) =
        let head = All-head (IsSweep n past (joined_at qs)) sweep sweeps all in
        let held = head.held is.2 in
        held_at past.serials last serial qs held.0 (fresh held.0) (omega (arith, count, held.1)) settled
        (subst (λ (x : ℕ × ℕ). last_below x.0 (serials_of past.serials (joined_at qs held.0)) ≡ Some x.1) (λ i. (is.0 i, is.1 i)) held.2)
    saw_held (sweep ∷ sweeps) last serial all (inr saw) = saw_held sweeps last serial (All-tail (IsSweep n past (joined_at qs)) sweep sweeps all) saw

    answer_held : (sweeps : List Sweep) (standing : Standing) (gives : Result Bundle GatherFault) (published : ℕ) (answer : Looking) → All (IsSweep n past (joined_at qs)) sweeps
        → AnswersLook standing gives answer → SweptFor sweeps published answer → IsHeldFor (map (λ q. pinned_by q) qs) published answer
    answer_held sweeps standing gives published looking.NoReload all is swept = tt
    answer_held sweeps standing gives published (looking.ReadFailed name) all is swept = tt
    answer_held sweeps standing gives published looking.Same all is swept = tt
    answer_held sweeps standing gives published (looking.Refused why) all is swept = tt
    answer_held sweeps standing gives published (looking.PortsDiffer ports others) all is swept = tt
    answer_held sweeps standing gives published looking.SerialsSpent all is swept = tt
    answer_held sweeps standing gives published (looking.AllPinned one two three) all is swept = record {
      a = swept.a;
      b = swept.b;
      c = swept.c;
      apart = swept.apart;
      one = swept_held sweeps (published - 1) swept.a one all swept.one is.is.one;
      two = swept_held sweeps (published - 1) swept.b two all swept.two is.is.two;
      three = swept_held sweeps (published - 1) swept.c three all swept.three is.is.three;
    }
    answer_held sweeps standing gives published (looking.StockShort name asked had) all is swept = tt
    answer_held sweeps standing gives published (looking.Published serial) all is swept = tt
    answer_held sweeps standing gives published looking.NoMemory all is swept = tt

    turn_held : (sweeps : List Sweep) (source : Source) (terms : Terms) (bundles : List Bundle) (turn : WatchTurn) → All (IsSweep n past (joined_at qs)) sweeps
        → IsLook source terms bundles turn → IsSweptTurn sweeps (length bundles) turn → IsHeldTurn (map (λ q. pinned_by q) qs) (length bundles) turn
    turn_held sweeps source terms bundles (looked times reads gives answer flag) all is swept =
        answer_held sweeps (record { terms = terms; bundle = is.1.last; blocks = is.1.blocks; published = length bundles }) gives (length bundles) answer all is.1.is swept
    turn_held sweeps source terms bundles (starved times reads gives) all is swept = tt

    -- of all looks
    pub looks_held : (sweeps : List Sweep) (source : Source) (terms : Terms) (bundles : List Bundle) (turns : List WatchTurn) → All (IsSweep n past (joined_at qs)) sweeps
        → AreLooks source terms bundles turns → AreSwept sweeps bundles turns → AreHeld (map (λ q. pinned_by q) qs) bundles turns
    looks_held sweeps source terms bundles [] all are swept = tt
    looks_held sweeps source terms bundles (turn ∷ turns) all are swept =
        (turn_held sweeps source terms bundles turn all are.0 swept.0, looks_held sweeps source terms (bundles ++ published_by turn) turns all are.1 swept.1)
