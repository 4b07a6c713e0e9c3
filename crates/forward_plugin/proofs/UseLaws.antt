-- Laws of the uses of a pool: no call, one call, and one use after another.
use Rattle.std.proofs.Common.{◌≡◌, List, [], ◌∷◌, ◌++◌, map, Some, refl, sym, ap, subst, ◌∙◌, append_assoc, append-nil}
use Rattle.std.proofs.lemmas.List.{map-append}
use Rattle.ruled_lock.specs.Histories.{Begins}
use Rattle.ruled_lock.specs.Calls.{own_calls}
use Rattle.upstream_health.specs.Pools.{Event, Legal, PoolCall}
use Rattle.upstream_health.specs.Seats.{Calls, IsSeatOf, PoolView}
use Rattle.forward_plugin.specs.declared.pool_use.PoolUse.{PoolUse}
use Rattle.forward_plugin.specs.PoolUses.{MakesCalls, SeesBehind, Uses, view_in}

makes_none : (v : PoolView) → MakesCalls v [] v
makes_none v = record { begins = ([], sym (append-nil v.seen)); sees = refl; own = sym (append-nil (own_calls v)); met = refl; start = refl; parts = (refl, refl) }

makes_one : (v w : PoolView) (e : Event) → Calls v e w → MakesCalls v (e ∷ []) w
makes_one v w e c = record {
  begins = (c.between ++ e ∷ [], c.seen ∙ append_assoc v.seen c.between (e ∷ []));
  sees = c.legal;
  own = c.own;
  met = c.met;
  start = c.start;
  parts = (c.parts, c.all);
}

begins_then : (xs ys zs : List Event) → Begins xs ys → Begins ys zs → Begins xs zs
begins_then xs ys zs p q = (p.0 ++ q.0, q.1 ∙ ap (λ (l : List Event). l ++ q.0) p.1 ∙ append_assoc xs p.0 q.0)

seat_as : (v w : PoolView) → w.start ≡ v.start → {most size : _} → IsSeatOf most size v → IsSeatOf most size w
seat_as v w e seat = record { start = seat.start; is = e ∙ seat.is; number = seat.number; most_is = seat.most_is; fails = seat.fails }

sees_then : (u v w : PoolView) (es fs : List Event) → v.start ≡ u.start → SeesBehind u es v → SeesBehind v fs w → SeesBehind u (es ++ fs) w
sees_then u v w [] [] s p q = q ∙ p
sees_then u v w [] (f ∷ fs) s p q = λ most size seat. q most size (seat_as u v s seat)
sees_then u v w (e ∷ es) [] s p q = λ most size seat. subst (λ (l : List Event). Legal most size l) (sym q) (p most size seat)
sees_then u v w (e ∷ es) (f ∷ fs) s p q = λ most size seat. q most size (seat_as u v s seat)

makes_then : (u v w : PoolView) (es fs : List Event) → MakesCalls u es v → MakesCalls v fs w → MakesCalls u (es ++ fs) w
makes_then u v w es fs p q = record {
  begins = begins_then u.seen v.seen w.seen p.begins q.begins;
  sees = sees_then u v w es fs p.start p.sees q.sees;
  own = q.own ∙ ap (λ (l : List PoolCall). l ++ map Some fs) p.own ∙ append_assoc (own_calls u) (map Some es) (map Some fs)
      ∙ ap (λ (l : List PoolCall). own_calls u ++ l) (sym (map-append Some es fs));
  met = q.met ∙ p.met;
  start = q.start ∙ p.start;
  parts = (q.parts.0 ∙ p.parts.0, q.parts.1 ∙ p.parts.1);
}

pub uses_none : (p : PoolUse) → Uses p p
uses_none p = record { pool = refl; table = refl; events = []; makes = makes_none (view_in p) }

pub uses_once : (old new : PoolUse) (e : Event) → new.pool ≡ old.pool → new.seat.seat.seat.table_id ≡ old.seat.seat.seat.table_id → Calls (view_in old) e (view_in new) → Uses old new
uses_once old new e pool table c = record { pool = pool; table = table; events = e ∷ []; makes = makes_one (view_in old) (view_in new) e c }

pub uses_then : {a b c : PoolUse} → Uses a b → Uses b c → Uses a c
uses_then {a = a} {b = b} {c = c} p q = record {
  pool = q.pool ∙ p.pool;
  table = q.table ∙ p.table;
  events = p.events ++ q.events;
  makes = makes_then (view_in a) (view_in b) (view_in c) p.events q.events p.makes q.makes;
}
