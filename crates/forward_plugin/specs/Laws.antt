-- Laws of what `forward` means, for those who run a chain.
use Rattle.std.proofs.Common.{◌≡◌, ℕ, Bool, true, false, List, [], ◌∷◌, map, Option, Some, None, Result, length, refl, sym, ◌∙◌}
use Rattle.std.proofs.lemmas.List.{append_cancel_left}
use Rattle.std.specs.Prelude.{Ok, Err, if◌then◌else◌}
use Rattle.dns_data.specs.declared.directive.Directive.{Directive}
use Rattle.dns_data.specs.declared.file.FileText.{FileText}
use Rattle.plugin_api.specs.declared.fault.DirectiveFault.{DirectiveFault}
use Rattle.upstream_words.specs.Words.{onward_ok}
use Rattle.forward_plugin.specs.Reading.{args_read, fault_in, forward_data, forward_fault, forward_read, lined, lines_fault, none_seen, upstreams_in}
use Rattle.dns_lists.specs.declared.memory.NoMemory.{NoMemory}
use Rattle.dns_data.specs.declared.message.Transport.{Transport}
use Rattle.dns_data.specs.declared.query.Query.{Query}
use Rattle.outside.specs.declared.kept.Kept.{Kept}
use Rattle.outside.specs.declared.mark.Mark.{Mark}
use Rattle.outside.specs.Meanings.{Meaning, Starved, onward}
use Rattle.outside.specs.States.{SideState}
use Rattle.outside.specs.Taking.{Asks}
use Rattle.outside.specs.declared.datagram.Upstream.{Upstream}
use Rattle.forward_plugin.specs.declared.numbered.Numbered.{Numbered}
use Rattle.forward_plugin.specs.declared.turn.Turn.{Turn}
use Rattle.forward_plugin.specs.Forward.{draw_means, forward_means, order, plan_means, plan_turn, start_means, tries, try_of, turn_means, undrawn}
use Rattle.forward_plugin.specs.Options.{ForwardData, by_of, is_for, is_pooled}
use Rattle.forward_plugin.specs.PoolUses.{Uses, calls_of}
use Rattle.forward_plugin.specs.Taking.{ForwardState, Forwards, pool_calls, state_at}
use Rattle.forward_plugin.specs.declared.pool_use.PoolUse.{PoolUse}

-- what forwards asks
pub forwards_ask : {A : Type 0} (means : List Mark → Meaning A) {result : Result A NoMemory}
    {old new : ForwardState} → Forwards means result old new
    → Asks means result old.side new.side old.kept new.kept
forwards_ask means p = record {
  inners = p.inners;
  told = p.told;
  stays = p.counts.stays;
  kept = p.kept;
  took = p.took;
}

-- the calls of the use of a pool are those that the marks tell
pub uses_told : {A : Type 0} {means : List Mark → Meaning A} {result : Result A NoMemory}
    {s t : SideState} {k l : Kept} {a b : PoolUse}
    → (p : Forwards means result (state_at s k (calls_of a)) (state_at t l (calls_of b)))
    → (u : Uses a b) → map Some u.events ≡ pool_calls p.inners
uses_told {a = a} p u =
    append_cancel_left (calls_of a) (map Some u.events) (pool_calls p.inners)
    (sym u.makes.own ∙ p.called)

-- without a mark no meaning is off, and none leaves one
pub tries_nothing : (by : Transport) (q : Query) (pooled : Bool) (ps : List Numbered)
    → Starved (tries by q pooled ps [])
unfolding tries try_of
tries_nothing by q pooled [] = refl
tries_nothing by q pooled (p ∷ ps) = tt

pub turn_nothing : (by : Transport) (q : Query) (pooled : Bool) (us : List Upstream) (turn : Turn)
    → Starved (turn_means by q pooled us turn [])
turn_nothing by q pooled us turn = by_start turn.start
  where
    by_start : (start : Option ℕ) → Starved (onward (start_means start (length us) [])
        (λ start left. tries by q pooled (order turn.mask start us) left))
    by_start (Some start) = tries_nothing by q pooled (order turn.mask start us)
    by_start None = tt

pub plan_nothing : (plan : ForwardData) (q : Query) → Starved (plan_means plan q [])
unfolding plan_means
plan_nothing plan q = by_pool (is_pooled plan)
  where
    by_pool : (pooled : Bool)
        → Starved (onward (draw_means pooled []) (λ drawn left.
        turn_means (by_of plan q.by) q pooled plan.upstreams (plan_turn plan drawn) left))
    by_pool true = tt
    by_pool false =
        turn_nothing (by_of plan q.by) q false plan.upstreams (plan_turn plan undrawn)

pub forward_nothing : (plans : List ForwardData) (q : Query) → Starved (forward_means plans q [])
unfolding forward_means
forward_nothing [] q = refl
forward_nothing (plan ∷ plans) q = by_test (is_for plan q.name) (forward_nothing plans q)
  where
    by_test : (b : Bool) → Starved (forward_means plans q [])
        → Starved (if b then plan_means plan q [] else forward_means plans q [])
    by_test true others = plan_nothing plan q
    by_test false others = others

-- the plan that is read has the data of its directive, which is not refused
lined-data : (d : Directive) (us : List Upstream) (f : Option DirectiveFault) (plan : ForwardData)
    → lined d f us ≡ Ok plan → plan ≡ record { directive = d; upstreams = us }
lined-data d us None plan e = let same : record { directive = d; upstreams = us } ≡ plan = cc in sym same
lined-data d us (Some refused) plan e = absurd cc

read-by : (d : Directive) (r : Result (List Upstream) DirectiveFault) (f : Option DirectiveFault)
    (plan : ForwardData) → onward_ok r (lined d f) ≡ Ok plan
    → plan ≡ record { directive = d; upstreams = upstreams_in r }
read-by d (Ok us) f plan e = lined-data d us f plan e
read-by d (Err refused) f plan e = absurd cc

pub read-data : (d : Directive) (files : List FileText) (plan : ForwardData)
    → forward_read d files ≡ Ok plan → plan ≡ forward_data d files
read-data d files plan e =
    read-by d (args_read d.line files d.args) (lines_fault none_seen d.body) plan e

pub read-well : (d : Directive) (files : List FileText) (plan : ForwardData)
    → forward_read d files ≡ Ok plan → forward_fault d files ≡ None
read-well d files plan e = λ i. fault_in (e i)

pub read-refused : (d : Directive) (files : List FileText) (refused : DirectiveFault)
    → forward_read d files ≡ Err refused → forward_fault d files ≡ Some refused
read-refused d files refused e = λ i. fault_in (e i)
