-- Laws of what is taken, for callers of several calls.
use Rattle.std.proofs.Common.{◌≡◌, List, [], ◌∷◌, ◌++◌, map, Result, Ok, Err, refl, sym, ap, subst, ◌∙◌, append_assoc, append-nil}
use Rattle.std.specs.Prelude.{OnOk, IsErr}
use Rattle.std.proofs.lemmas.List.{map-append}
use Rattle.dns_lists.specs.declared.memory.NoMemory.{NoMemory}
use Rattle.outside.specs.declared.entry.InnerMark.{InnerMark}
use Rattle.outside.specs.declared.kept.Kept.{Kept}
use Rattle.outside.specs.declared.mark.Mark.{Mark}
use Rattle.outside.specs.declared.mark.Mark.TheVariants.{Inner}
use Rattle.outside.specs.Journals.{adds-nothing, adds-then}
use Rattle.outside.specs.Causes.{SideCounts}
use Rattle.outside.specs.Kept.{Keeps}
use Rattle.outside.specs.Marks.{Adds}
use Rattle.outside.specs.Meanings.{Meaning, Done, Starved, Took, onward}
use Rattle.outside.specs.States.{Counted, SideState}
use Rattle.outside.specs.TakingLaws.{keeps-nothing, keeps-then, stays-nothing, stays-then, took-as, took-starved, took-then}
use Rattle.upstream_health.specs.Pools.{PoolCall}
use Rattle.forward_plugin.specs.Taking.{Forwards, ForwardState, counts_after, counts_behind, state_at, pool_call, pool_calls}

kept_then : {B : Type 0} (a b c : Kept) (xs ys : List InnerMark) (result : Result B NoMemory) → Keeps a b xs
    → OnOk result (Keeps b c ys) → OnOk result (Keeps a c (xs ++ ys))
kept_then a b c xs ys (Ok w) p q = keeps-then a b c xs ys p q
kept_then a b c xs ys (Err e) p q = tt

calls_append : (xs ys : List InnerMark) → pool_calls (xs ++ ys) ≡ pool_calls xs ++ pool_calls ys
calls_append [] ys = refl
calls_append (x ∷ xs) ys =
    ap (λ (l : List PoolCall). pool_call x ++ l) (calls_append xs ys)
    ∙ sym (append_assoc (pool_call x) (pool_calls xs) (pool_calls ys))

called_then : (a b c : List PoolCall) (xs ys : List InnerMark) → b ≡ a ++ pool_calls xs → c ≡ b ++ pool_calls ys → c ≡ a ++ pool_calls (xs ++ ys)
called_then a b c xs ys p q =
    q ∙ ap (λ (l : List PoolCall). l ++ pool_calls ys) p ∙ append_assoc a (pool_calls xs) (pool_calls ys)
    ∙ ap (λ (l : List PoolCall). a ++ l) (sym (calls_append xs ys))

counts_append : (counts : SideCounts) (xs ys : List InnerMark) → counts_behind counts (xs ++ ys) ≡ counts_behind (counts_behind counts xs) ys
counts_append counts [] ys = refl
counts_append counts (x ∷ xs) ys = counts_append (counts_after counts x) xs ys

counted_nothing : (a : SideState) → Counted a a a.counts
counted_nothing a = record { are = refl; stays = stays-nothing a }

counted_then : {a b c : SideState} (xs ys : List InnerMark) → Counted a b (counts_behind a.counts xs) → Counted b c (counts_behind b.counts ys) → Counted a c (counts_behind a.counts (xs ++ ys))
counted_then {a = a} {b = b} {c = c} xs ys p q = record {
  are = q.are ∙ ap (λ (counts : SideCounts). counts_behind counts ys) p.are ∙ sym (counts_append a.counts xs ys);
  stays = stays-then p.stays q.stays;
}

-- no call
pub nothing : {A : Type 0} (means : List Mark → Meaning A) {v : A} {old : ForwardState}
    → ((left : List Mark) → means left ≡ Done v left) → Forwards means (Ok v) old old
nothing means {v = v} {old = old} same = record {
  inners = [];
  told = adds-nothing old.side;
  counts = counted_nothing old.side;
  kept = keeps-nothing old.kept;
  took = λ left. same left;
  called = sym (append-nil old.calls);
}

-- want of memory before the first mark
pub starved : {A : Type 0} (means : List Mark → Meaning A) {result : Result A NoMemory} {old : ForwardState}
    → IsErr result → Starved (means []) → Forwards means result old old
starved means {result = Ok v} fails none = absurd cc
starved means {result = Err e} {old = old} fails none = record {
  inners = [];
  told = adds-nothing old.side;
  counts = counted_nothing old.side;
  kept = tt;
  took = none;
  called = sym (append-nil old.calls);
}

-- one call after another
pub behind : {A B : Type 0} (means : List Mark → Meaning A) (next : A → List Mark → Meaning B) {v : A}
    {result : Result B NoMemory} {old mid new : ForwardState} → Forwards means (Ok v) old mid
    → Forwards (next v) result mid new → Forwards (λ marks. onward (means marks) next) result old new
behind means next {v = v} {result = result} {old = old} {mid = mid} {new = new} p q =
    let e = map-append Inner p.inners q.inners in
    record {
      inners = p.inners ++ q.inners;
      told = subst (λ m. Adds old.side new.side m) (sym e) (adds-then p.told q.told);
      counts = counted_then p.inners q.inners p.counts q.counts;
      kept = kept_then old.kept mid.kept new.kept p.inners q.inners result p.kept q.kept;
      took = subst (λ m. Took (λ marks. onward (means marks) next) result m) (sym e)
          (took-then means next v result (map Inner p.inners) (map Inner q.inners) (p.took) (q.took));
      called = called_then old.calls mid.calls new.calls p.inners q.inners p.called q.called;
    }

-- a call whose first part fails for want of memory
pub fails : {A B : Type 0} (means : List Mark → Meaning A) (next : A → List Mark → Meaning B) {e : NoMemory}
    {result : Result B NoMemory} {old new : ForwardState} → IsErr result → Forwards means (Err e) old new
    → ((v : A) → Starved (next v [])) → Forwards (λ marks. onward (means marks) next) result old new
fails means next {result = Ok v} failed p none = absurd cc
fails means next {e = e} {result = Err f} failed p none = record {
  inners = p.inners;
  told = p.told;
  counts = p.counts;
  kept = tt;
  took = took-starved means next e f (map Inner p.inners) (p.took) none;
  called = p.called;
}

-- the same meaning under another name
pub renamed : {A : Type 0} (means other : List Mark → Meaning A) {result : Result A NoMemory} {old new : ForwardState}
    → ((marks : List Mark) → other marks ≡ means marks) → Forwards means result old new → Forwards other result old new
renamed means other {result = result} same p = record {
  inners = p.inners;
  told = p.told;
  counts = p.counts;
  kept = p.kept;
  took = took-as means other result (map Inner p.inners) same (p.took);
  called = p.called;
}

-- no call of the pool was made, whatever calls there were
pub beside : {A : Type 0} {means : List Mark → Meaning A} {result : Result A NoMemory} {old new : SideState} {a b : Kept} (c : List PoolCall)
    → Forwards means result (state_at old a []) (state_at new b []) → Forwards means result (state_at old a c) (state_at new b c)
beside c p = record {
  inners = p.inners;
  told = p.told;
  counts = p.counts;
  kept = p.kept;
  took = p.took;
  called = sym (append-nil c) ∙ ap (λ (l : List PoolCall). c ++ l) p.called;
}

-- a call that made these marks and answered
pub made : {A : Type 0} (means : List Mark → Meaning A) (inners : List InnerMark) (v : A) {old new : ForwardState}
    → Adds old.side new.side (map Inner inners) → Counted old.side new.side (counts_behind old.side.counts inners) → Keeps old.kept new.kept inners
    → ((left : List Mark) → means (map Inner inners ++ left) ≡ Done v left)
    → new.calls ≡ old.calls ++ pool_calls inners → Forwards means (Ok v) old new
made means inners v told counts kept took called = record { inners = inners; told = told; counts = counts; kept = kept; took = took; called = called }

-- a call that made these marks, and then ran out of memory
pub lost : {A : Type 0} (means : List Mark → Meaning A) (inners : List InnerMark) {result : Result A NoMemory} {old new : ForwardState}
    → IsErr result → Adds old.side new.side (map Inner inners) → Counted old.side new.side (counts_behind old.side.counts inners) → (Starved (means (map Inner inners)))
    → new.calls ≡ old.calls ++ pool_calls inners → Forwards means result old new
lost means inners {result = Ok v} failed told counts none called = absurd cc
lost means inners {result = Err e} failed told counts none called = record { inners = inners; told = told; counts = counts; kept = tt; took = none; called = called }

-- the same answer under another name
pub told-as : {A : Type 0} (means : List Mark → Meaning A) {r s : Result A NoMemory} {old new : ForwardState}
    → r ≡ s → Forwards means r old new → Forwards means s old new
told-as means {old = old} {new = new} e p = subst (λ w. Forwards means w old new) e p

-- the same calls of the pool under another name
pub calls-as : {A : Type 0} (means : List Mark → Meaning A) {r : Result A NoMemory} {old new : SideState} {a b : Kept} {x y v w : List PoolCall}
    → v ≡ x → w ≡ y → Forwards means r (state_at old a x) (state_at new b y) → Forwards means r (state_at old a v) (state_at new b w)
calls-as means {r = r} {old = old} {new = new} {a = a} {b = b} {x = x} {y = y} {v = v} {w = w} e f p =
    subst (λ (l : List PoolCall). Forwards means r (state_at old a l) (state_at new b w)) (sym e)
    (subst (λ (l : List PoolCall). Forwards means r (state_at old a x) (state_at new b l)) (sym f) p)
