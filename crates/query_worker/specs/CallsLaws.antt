-- The calls of a worker's turns, by its pins, are those by which the logs of its chains grew.
use Rattle.std.proofs.Common.{◌≡◌, ◌∙◌, ℕ, List, [], ◌∷◌, ◌++◌, Option, Some, None, map, reverse, slice_get, refl, sym, ap, subst, append-nil, inl, inr}
use Rattle.std.specs.Prelude.{All}
use Rattle.std.specs.List.{AllByRecursion, flat_map}
use Rattle.std.proofs.lemmas.List.{reverse-append, reverse-reverse}
use Rattle.std.proofs.lemmas.List.Concat.{flat_map-append}
use Rattle.std.proofs.lemmas.List.Elements.{All-append, All-map, All-nil}
use Rattle.dns_data.specs.declared.block.Block.{Block}
use Rattle.dns_data.specs.declared.query.Query.{Query}
use Rattle.outside.specs.declared.datagram.Datagram.{Datagram}
use Rattle.outside.specs.declared.mark.Mark.{Mark}
use Rattle.corefile_blocks.specs.declared.bundle.Bundle.{Bundle}
use Rattle.one_history.specs.Calls.{Call}
use Rattle.one_history.specs.Logs.{GrowsBy, Place, calls_of}
use Rattle.chain_meaning.specs.{AreCalls, Ground, Step, Terms, steps_of, terms_on}
use Rattle.chain_meaning.specs.Serving.{query_of}
use Rattle.chain_meaning.specs.CallsByRun.{NumberedMark, block_calls, call_of, calls_by, picked_calls, pool_part, run_calls, shard_part, turn_calls}
use Rattle.chain_meaning.specs.CallsByRun as runs
use Rattle.chain_meaning.specs.declared.served.Served.{Served}
use Rattle.chain_meaning.specs.declared.served.Served.TheVariants.{Reply, Silent, NoMemory}
use Rattle.chain_build.specs.HistoryPins.{AllGrown, IsGrown, pins_with}
use Rattle.chain_build.specs.declared.chain.Chain.{Chain}
use Rattle.chain_build.specs.{chain_log, plans_of, server_of}
use Rattle.plugin_api.specs.{picked}
use Rattle.plugin_api.specs.declared.extra.Extra as extra
use Rattle.plugin_api.specs.declared.rulebook.Rulebook as rulebook
use Rattle.query_worker.specs.Calls.{IsPlacedPin, MakeCalls, MakesCalls, calls_under}
use Rattle.query_worker.specs.Pins.{AreOf, IsOf, IsPinFor, PastPin, TakeUnder}
use Rattle.run_meaning.specs.Turn.{Turn, failed, replied, silenced, starved, unread}

-- each call of a turn is of its serial
abbrev IsOwn : ℕ → Call Mark → Type 0
IsOwn serial c = c.serial ≡ serial

all_numbered : (serial : ℕ) (at : ℕ → Place) (marks : List NumberedMark) → All (IsOwn serial) (map (call_of serial at) marks)
all_numbered serial at marks = All-map (IsOwn serial) (call_of serial at) marks (same marks)
  where
    same : (ms : List NumberedMark) → All (λ m. IsOwn serial (call_of serial at m)) ms
    same ms k d low = refl

block_own : (serial block : ℕ) (shards pools : List NumberedMark) → All (IsOwn serial) (block_calls serial block shards pools)
block_own serial block shards pools =
    All-append (IsOwn serial) (map (call_of serial (shard_part block)) shards) (map (call_of serial (pool_part block)) pools) (all_numbered serial (shard_part block) shards) (all_numbered serial (pool_part block) pools)

by_own : (steps : Block → List Step) (blocks : List Block) (serial : ℕ) (q : Query) (number : ℕ) (block : Option Block) (marks : List Mark) → All (IsOwn serial) (calls_by steps blocks serial q number block marks)
by_own steps blocks serial q number None marks = All-nil (IsOwn serial)
by_own steps blocks serial q number (Some block) marks =
    block_own serial number (run_calls runs.Shards (steps block) q marks) (run_calls runs.Pools (steps block) q marks)

picked_own : (steps : Block → List Step) (blocks : List Block) (serial : ℕ) (q : Query) (number : Option ℕ) (marks : List Mark) → All (IsOwn serial) (picked_calls steps blocks serial q number marks)
picked_own steps blocks serial q None marks = All-nil (IsOwn serial)
picked_own steps blocks serial q (Some number) marks = by_own steps blocks serial q number (slice_get blocks number) marks

pub turn_own : (steps : Block → List Step) (blocks : List Block) (serial : ℕ) (q : Query) (marks : List Mark) → All (λ (c : Call Mark). c.serial ≡ serial) (turn_calls steps blocks serial q marks)
turn_own steps blocks serial q marks = picked_own steps blocks serial q (picked blocks q.local q.name) marks

-- the calls that a datagram made are of its turn's serial
own_calls : (bundle : Bundle) (terms : Terms) (serial : ℕ) (d : Datagram) (marks : List Mark) (calls : List (Call Mark)) → AreCalls bundle terms serial d marks calls → All (λ (c : Call Mark). c.serial ≡ serial) calls
own_calls bundle terms serial d marks calls (inl none) = subst (All (IsOwn serial)) (sym none.0) (All-nil (IsOwn serial))
own_calls bundle terms serial d marks calls (inr asks) = subst (All (IsOwn serial)) (sym asks.are) (turn_own (steps_of terms.said bundle.files) asks.blocks serial (query_of d asks.asked) marks)

-- what holds of each holds of each, the last one first
all_push : {A : Type 0} (P : A → Type 0) (items : List A) (item : A) → AllByRecursion P items → P item → AllByRecursion P (items ++ item ∷ [])
all_push P [] item each here = (here, tt)
all_push P (i ∷ items) item each here = (each.0, all_push P items item each.1 here)

pub all_reversed : {A : Type 0} (P : A → Type 0) (items : List A) → AllByRecursion P items → AllByRecursion P (reverse items)
all_reversed P [] each = tt
all_reversed P (i ∷ items) each = subst (AllByRecursion P) (sym (reverse-append (i ∷ []) items)) (all_push P (reverse items) i (all_reversed P items each.1) each.0)

-- lists of calls one after another
abbrev joined : List (List (Call Mark)) → List (Call Mark)
joined each = flat_map (λ calls. calls) each

module _ {B E : Type 0} {b : rulebook.Ghosts B} {e : extra.Ghosts E} where
  module _ (places : ℕ → List Place) where
    -- of the turns of pins, the last one first
    grown_push : (pins : List (PastPin (Chain B E b e))) (each : List (List (Call Mark))) (pin : PastPin (Chain B E b e)) (calls : List (Call Mark)) → AllGrown chain_log places pins each → IsGrown chain_log places pin calls
        → AllGrown chain_log places (pins ++ pin ∷ []) (each ++ calls ∷ [])
    grown_push [] [] pin calls all one = (one, tt)
    grown_push [] (c ∷ each) pin calls all one = absurd all
    grown_push (p ∷ pins) [] pin calls all one = absurd all
    grown_push (p ∷ pins) (c ∷ each) pin calls all one = (all.0, grown_push pins each pin calls all.1 one)

    pub all_grown_reverse : (pins : List (PastPin (Chain B E b e))) (each : List (List (Call Mark))) → AllGrown chain_log places pins each → AllGrown chain_log places (reverse pins) (reverse each)
    all_grown_reverse [] [] all = tt
    all_grown_reverse [] (c ∷ each) all = absurd all
    all_grown_reverse (p ∷ pins) [] all = absurd all
    all_grown_reverse (p ∷ pins) (c ∷ each) all =
        subst (λ (x : List (PastPin (Chain B E b e)) × List (List (Call Mark))). AllGrown chain_log places x.0 x.1)
        (λ i. (sym (reverse-append (p ∷ []) pins) i, sym (reverse-append (c ∷ []) each) i))
        (grown_push (reverse pins) (reverse each) p c (all_grown_reverse pins each all.1) all.0)

    -- the log of a pin's chain has grown by just the calls of its turn
    grown_by : (pin : PastPin (Chain B E b e)) (serial : ℕ) (d : Datagram) (marks : List Mark) (served : Served) → IsPlacedPin places pin → (is : IsPinFor serial d marks served pin) → IsGrown chain_log places pin is.logs.calls
    grown_by pin serial d marks served placed is =
        let grown = is.logs.grown in
        record {
          grown = subst (λ (x : List Place × ℕ). GrowsBy x.0 x.1 is.logs.calls (chain_log pin.given) (chain_log pin.home)) (λ i. (sym placed.places_are i, placed.serial_is i)) grown;
          own = subst (λ (n : ℕ). All (IsOwn n) is.logs.calls) placed.serial_is (own_calls (server_of pin.given).bundle (server_of pin.given).terms (server_of pin.given).serial d marks is.logs.calls is.logs.are);
        }

    pub grown_under : (pins : List (PastPin (Chain B E b e))) (turns : List Turn) (under : TakeUnder pins turns) → AllByRecursion (IsPlacedPin places) pins → AllGrown chain_log places pins (calls_under pins turns under)
    grown_under [] [] under placed = tt
    grown_under (pin ∷ pins) [] under placed = absurd under
    grown_under [] (failed ∷ turns) under placed = grown_under [] turns under placed
    grown_under (pin ∷ pins) (failed ∷ turns) under placed = grown_under (pin ∷ pins) turns under placed
    grown_under [] (unread ∷ turns) under placed = grown_under [] turns under placed
    grown_under (pin ∷ pins) (unread ∷ turns) under placed = grown_under (pin ∷ pins) turns under placed
    grown_under [] (replied serial d marks reply out ∷ turns) under placed = absurd under
    grown_under [] (silenced serial d marks why ∷ turns) under placed = absurd under
    grown_under [] (starved serial d marks ∷ turns) under placed = absurd under
    grown_under (pin ∷ pins) (replied serial d marks reply out ∷ turns) under placed = (grown_by pin serial d marks (Reply reply) placed.0 under.0, grown_under pins turns under.1 placed.1)
    grown_under (pin ∷ pins) (silenced serial d marks why ∷ turns) under placed = (grown_by pin serial d marks (Silent why) placed.0 under.0, grown_under pins turns under.1 placed.1)
    grown_under (pin ∷ pins) (starved serial d marks ∷ turns) under placed = (grown_by pin serial d marks NoMemory placed.0 under.0, grown_under pins turns under.1 placed.1)

    -- so have those of all pins of a pass, the last one first
    pub grown_of : (pins : List (PastPin (Chain B E b e))) (turns : List Turn) (under : TakeUnder (reverse pins) turns) → AllByRecursion (IsPlacedPin places) pins
        → AllGrown chain_log places pins (reverse (calls_under (reverse pins) turns under))
    grown_of pins turns under placed =
        subst (λ (ps : List (PastPin (Chain B E b e))). AllGrown chain_log places ps (reverse (calls_under (reverse pins) turns under))) (reverse-reverse pins)
        (all_grown_reverse (reverse pins) (calls_under (reverse pins) turns under) (grown_under (reverse pins) turns under (all_reversed (IsPlacedPin places) pins placed)))

    -- the calls of these pins, in order
    pinned_calls : (pins : List (PastPin (Chain B E b e))) (each : List (List (Call Mark))) → AllGrown chain_log places pins each → calls_of (pins_with chain_log pins each) ≡ joined (reverse each)
    pinned_calls [] [] all = refl
    pinned_calls [] (c ∷ each) all = absurd all
    pinned_calls (p ∷ pins) [] all = absurd all
    pinned_calls (p ∷ pins) (c ∷ each) all =
        ap (λ (l : List (Call Mark)). l ++ c) (pinned_calls pins each all.1)
        ∙ ap (λ (l : List (Call Mark)). joined (reverse each) ++ l) (sym (append-nil c))
        ∙ sym (flat_map-append (λ (x : List (Call Mark)). x) (reverse each) (c ∷ []))
        ∙ ap (λ (l : List (List (Call Mark))). joined l) (sym (reverse-append (c ∷ []) each))

    pub calls_told : (pins : List (PastPin (Chain B E b e))) (turns : List Turn) (under : TakeUnder (reverse pins) turns) → AllByRecursion (IsPlacedPin places) pins
        → calls_of (pins_with chain_log pins (reverse (calls_under (reverse pins) turns under))) ≡ flat_map (λ calls. calls) (calls_under (reverse pins) turns under)
    calls_told pins turns under placed =
        pinned_calls pins (reverse (calls_under (reverse pins) turns under)) (grown_of pins turns under placed)
        ∙ ap (λ (l : List (List (Call Mark))). joined l) (reverse-reverse (calls_under (reverse pins) turns under))

  module _ (bundles : List Bundle) (basis : Ground) where
    makes_by : (places : ℕ → List Place) (pin : PastPin (Chain B E b e)) (serial : ℕ) (d : Datagram) (marks : List Mark) (served : Served) → IsOf bundles basis pin → IsPlacedPin places pin → (is : IsPinFor serial d marks served pin)
        → MakesCalls bundles (terms_on b.taken b.said basis) serial d marks is.logs.calls
    makes_by places pin serial d marks served of placed is = record {
      bundle = (plans_of pin.given).bundle;
      at = subst (λ (n : ℕ). slice_get bundles n ≡ Some (plans_of pin.given).bundle) is.serial_is of.0;
      is = subst (λ (x : Ground × ℕ). AreCalls (plans_of pin.given).bundle (terms_on b.taken b.said x.0) x.1 d marks is.logs.calls) (λ i. (of.1 i, (placed.serial_is ∙ is.serial_is) i)) is.logs.are;
    }

    -- the calls of a worker's turns are those that their datagrams made
    pub make_under : (places : ℕ → List Place) (pins : List (PastPin (Chain B E b e))) (turns : List Turn) (under : TakeUnder pins turns) → AreOf bundles basis pins → AllByRecursion (IsPlacedPin places) pins
        → MakeCalls bundles (terms_on b.taken b.said basis) turns (calls_under pins turns under)
    make_under places [] [] under are placed = tt
    make_under places (pin ∷ pins) [] under are placed = absurd under
    make_under places [] (failed ∷ turns) under are placed = make_under places [] turns under are placed
    make_under places (pin ∷ pins) (failed ∷ turns) under are placed = make_under places (pin ∷ pins) turns under are placed
    make_under places [] (unread ∷ turns) under are placed = make_under places [] turns under are placed
    make_under places (pin ∷ pins) (unread ∷ turns) under are placed = make_under places (pin ∷ pins) turns under are placed
    make_under places [] (replied serial d marks reply out ∷ turns) under are placed = absurd under
    make_under places [] (silenced serial d marks why ∷ turns) under are placed = absurd under
    make_under places [] (starved serial d marks ∷ turns) under are placed = absurd under
    make_under places (pin ∷ pins) (replied serial d marks reply out ∷ turns) under are placed = (makes_by places pin serial d marks (Reply reply) are.0 placed.0 under.0, make_under places pins turns under.1 are.1 placed.1)
    make_under places (pin ∷ pins) (silenced serial d marks why ∷ turns) under are placed = (makes_by places pin serial d marks (Silent why) are.0 placed.0 under.0, make_under places pins turns under.1 are.1 placed.1)
    make_under places (pin ∷ pins) (starved serial d marks ∷ turns) under are placed = (makes_by places pin serial d marks NoMemory are.0 placed.0 under.0, make_under places pins turns under.1 are.1 placed.1)

    pub make_calls : (places : ℕ → List Place) (pins : List (PastPin (Chain B E b e))) (turns : List Turn) (under : TakeUnder (reverse pins) turns) → AreOf bundles basis pins → AllByRecursion (IsPlacedPin places) pins
        → MakeCalls bundles (terms_on b.taken b.said basis) turns (calls_under (reverse pins) turns under)
    make_calls places pins turns under are placed =
        make_under places (reverse pins) turns under (all_reversed (IsOf bundles basis) pins are) (all_reversed (IsPlacedPin places) pins placed)
