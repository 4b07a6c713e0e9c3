-- How logs grow by the calls of pools.
use Rattle.std.proofs.Common.{◌≡◌, ◌≢◌, ◌<◌, eqb-true, ◌∙◌, ℕ, zero, suc, ◌==◌, Bool, true, false, List, [], ◌∷◌, ◌++◌, map, length, is_some, Option, Some, None, slice_index_or, slice_set, if◌then◌else◌, refl, sym, ap, subst, arith, append_assoc}
use Rattle.std.specs.List.{All}
use Rattle.std.proofs.lemmas.Bool.{eq-eqb}
use Rattle.std.proofs.lemmas.List.{append-nil, length-map, map-append}
use Rattle.std.proofs.lemmas.List.Elements.{All-nil, All-cons, All-head, All-tail, filter-append}
use Rattle.outside.specs.declared.entry.InnerMark.{InnerMark}
use Rattle.outside.specs.declared.entry.InnerMark.TheVariants as inner
use Rattle.outside.specs.declared.mark.Mark.{Mark}
use Rattle.outside.specs.declared.mark.Mark.TheVariants.{Inner}
use Rattle.upstream_health.specs.Pools.{PoolCall}
use Rattle.forward_plugin.specs.{IsUncalled, SameBut, pool_calls}
use Rattle.forward_plugin.specs.Taking.{pool_call}
use Rattle.forward_plugin.specs.PoolUses.{calls_by}
use Rattle.forward_plugin.specs.declared.pool_use.PoolUse.{PoolUse}
use Rattle.one_history.specs.Shared.{Logged, cache_calls_in, called, is_of_cache, is_of_pool, log_at, pool_calls_in}
use Rattle.pin_table.specs.{Grows}
use Rattle.cache_plugin.specs.Uses.{IsUncalled as uncalled}
use Rattle.chain_meaning.specs.CallsByRun.{CallNumbers, NumberedMark, Pools, Shards, Shared, numbered_mark, of_number, told_in}
use Rattle.chain_build.specs.LoggedWalks.{UsesLogged}
use Rattle.chain_build.specs.Shares.{AreUncalled, IfCached}
use Rattle.cache_shards.specs.Seats.{own_marks}
use Rattle.chain_build.specs.Uses.{SameUses, UseShape}
use Rattle.chain_build.specs.declared.block_uses.BlockUses.{BlockUses}
use Rattle.lent_caches.specs.declared.uses.LentCache.{LentCache}
use Rattle.chain_build.specs.Logs.{LoggedCalls, at_number, block_log, held_log, logs_of, pool_logs, pool_mark, pool_marks, shard_logs, use_log}

-- the number of a shard, or of a pool
abbrev pub by_kind : CallNumbers → Shared → Option ℕ
by_kind numbers Shards = numbers.shard
by_kind numbers Pools = numbers.pool

-- no call, one after another, and none behind or before
same_if : (b : Bool) (x : List Mark) → (if b then x else x) ≡ x
same_if true x = refl
same_if false x = refl

called_nothing : (number : Option ℕ) (pool : ℕ) → called number pool [] ≡ []
called_nothing None pool = refl
called_nothing (Some k) pool = same_if (k == pool) []

called_both : (number : Option ℕ) (pool : ℕ) (a b : List Mark) → called number pool (a ++ b) ≡ called number pool a ++ called number pool b
called_both None pool a b = refl
called_both (Some k) pool a b = by_test (k == pool)
  where
    by_test : (t : Bool) → (if t then a ++ b else []) ≡ (if t then a else []) ++ (if t then b else [])
    by_test true = refl
    by_test false = refl

pub logged_nothing : (number : Option ℕ) (logs : List (List Mark)) → Logged number [] logs logs
logged_nothing number logs = record {
  each = λ pool. sym (append-nil (log_at logs pool)) ∙ ap (λ more. log_at logs pool ++ more) (sym (called_nothing number pool));
  none = λ is. refl;
}

-- without a call
pub logged_quiet : (number : Option ℕ) (calls : List Mark) (logs : List (List Mark)) → calls ≡ [] → Logged number calls logs logs
logged_quiet number calls logs none = subst (λ (m : List Mark). Logged number m logs logs) (sym none) (logged_nothing number logs)

pub logged_then : (number : Option ℕ) {a b : List Mark} {x y z : List (List Mark)} → Logged number a x y → Logged number b y z → Logged number (a ++ b) x z
logged_then number {a} {b} {x} {y} {z} p q = record {
  each = λ pool. q.each pool ∙ ap (λ front. front ++ called number pool b) (p.each pool) ∙ append_assoc (log_at x pool) (called number pool a) (called number pool b)
      ∙ ap (λ more. log_at x pool ++ more) (sym (called_both number pool a b));
  none = λ is. ap (λ front. front ++ b) (p.none is) ∙ q.none is;
}

-- what called no pool called none of any number
pub logged_any : (number other : Option ℕ) {calls : List Mark} {x y : List (List Mark)} → number ≡ None → Logged number calls x y → Logged other calls x y
logged_any number other {calls} {x} {y} is p =
    let none = p.none is in record {
      each = λ pool. p.each pool ∙ ap (λ (m : List Mark). log_at x pool ++ called number pool m) none ∙ ap (λ more. log_at x pool ++ more) (called_nothing number pool ∙ sym (called_nothing other pool))
          ∙ ap (λ (m : List Mark). log_at x pool ++ called other pool m) (sym none);
      none = λ it. none;
    }

-- with as many calls under another name
pub logged_as : (number : Option ℕ) {a b : List Mark} {x y : List (List Mark)} → a ≡ b → Logged number a x y → Logged number b x y
logged_as number {x = x} {y = y} same p = subst (λ (m : List Mark). Logged number m x y) same p

pub logged_by : {number other : Option ℕ} {calls : List Mark} {x y : List (List Mark)} → number ≡ other → Logged number calls x y → Logged other calls x y
logged_by {calls = calls} {x = x} {y = y} same p = subst (λ (o : Option ℕ). Logged o calls x y) same p

-- the calls among marks that came one after another
pub calls_then : (m n : List Mark) → pool_calls_in (m ++ n) ≡ pool_calls_in m ++ pool_calls_in n
calls_then m n = filter-append is_of_pool m n

pub shards_then : (m n : List Mark) → cache_calls_in (m ++ n) ≡ cache_calls_in m ++ cache_calls_in n
shards_then m n = filter-append is_of_cache m n

-- inner marks tell no call of a cache
pub inners_apart : (inners : List InnerMark) → cache_calls_in (map Inner inners) ≡ []
inners_apart [] = refl
inners_apart (m ∷ inners) = inners_apart inners

pub inners_then : (m n : List InnerMark) → pool_calls_in (map Inner (m ++ n)) ≡ pool_calls_in (map Inner m) ++ pool_calls_in (map Inner n)
inners_then m n = ap pool_calls_in (map-append Inner m n) ∙ calls_then (map Inner m) (map Inner n)

-- the marks of the calls that inner marks tell
marks_call : (m : InnerMark) (rest : List Mark) → pool_marks (pool_call m) ++ rest ≡ pool_calls_in (Inner m ∷ []) ++ rest
marks_call (inner.Word word) rest = refl
marks_call (inner.Asked to by message result) rest = refl
marks_call (inner.More result) rest = refl
marks_call (inner.Drawn number down) rest = refl
marks_call (inner.Reported upstream agreed) rest = refl

pub marks_then : (xs ys : List PoolCall) → pool_marks (xs ++ ys) ≡ pool_marks xs ++ pool_marks ys
marks_then [] ys = refl
marks_then (x ∷ xs) ys = ap (λ rest. pool_mark x ++ rest) (marks_then xs ys) ∙ sym (append_assoc (pool_mark x) (pool_marks xs) (pool_marks ys))

pub marks_told : (inners : List InnerMark) → pool_marks (pool_calls inners) ≡ pool_calls_in (map Inner inners)
marks_told [] = refl
marks_told (m ∷ inners) =
    marks_then (pool_call m) (pool_calls inners) ∙ ap (λ rest. pool_marks (pool_call m) ++ rest) (marks_told inners) ∙ marks_call m (pool_calls_in (map Inner inners))
    ∙ sym (filter-append is_of_pool (Inner m ∷ []) (map Inner inners))

-- the log of a pool by its number
use_at : (uses : List PoolUse) (pool : ℕ) → log_at (pool_logs uses) pool ≡ pool_marks (calls_by (Some pool) uses)
use_at [] pool = refl
use_at (u ∷ uses) zero = refl
use_at (u ∷ uses) (suc pool) = use_at uses pool

other_at : (uses : List PoolUse) (k pool : ℕ) (u : PoolUse) → k ≢ pool → log_at (pool_logs (slice_set uses k u)) pool ≡ log_at (pool_logs uses) pool
other_at [] k pool u h = refl
other_at (o ∷ uses) zero zero u h = absurd (h refl)
other_at (o ∷ uses) zero (suc pool) u h = refl
other_at (o ∷ uses) (suc k) zero u h = refl
other_at (o ∷ uses) (suc k) (suc pool) u h = other_at uses k pool u (λ e. h (ap suc e))

pub differ : (x y : ℕ) → (x == y) ≡ false → x ≢ y
differ x y apart same = let found : (x == y) ≡ true = eq-eqb x y same in absurd (false_true (sym apart ∙ found))
  where
    false_true : false ≡ true → ⊥
    false_true e = absurd cc

-- a query that took the pool with this number called it as its marks tell
module _ (old new : List PoolUse) (inners : List InnerMark) where
  at_forward : (k : ℕ) → SameBut (Some k) old new → calls_by (Some k) new ≡ calls_by (Some k) old ++ pool_calls inners → (pool : ℕ)
      → log_at (pool_logs new) pool ≡ log_at (pool_logs old) pool ++ called (Some k) pool (pool_calls_in (map Inner inners))
  at_forward k but grew pool = by_test (k == pool) refl
    where
      by_test : (t : Bool) → (k == pool) ≡ t → log_at (pool_logs new) pool ≡ log_at (pool_logs old) pool ++ (if t then pool_calls_in (map Inner inners) else [])
      by_test true is =
          subst (λ (n : ℕ). log_at (pool_logs new) n ≡ log_at (pool_logs old) n ++ pool_calls_in (map Inner inners)) (eqb-true k pool is)
          (use_at new k ∙ ap pool_marks grew ∙ marks_then (calls_by (Some k) old) (pool_calls inners)
          ∙ (λ i. sym (use_at old k) i ++ marks_told inners i))
      by_test false is =
          ap (λ (us : List PoolUse). log_at (pool_logs us) pool) but.is ∙ other_at old k pool but.after (differ k pool is) ∙ sym (append-nil (log_at (pool_logs old) pool))

  pub logged_forward : (number : Option ℕ) → SameBut number old new → calls_by number new ≡ calls_by number old ++ pool_calls inners
      → Logged number (pool_calls_in (map Inner inners)) (pool_logs old) (pool_logs new)
  logged_forward None same grew = record {
    each = λ pool. ap (λ (us : List PoolUse). log_at (pool_logs us) pool) same ∙ sym (append-nil (log_at (pool_logs old) pool));
    none = λ is. sym (marks_told inners) ∙ ap pool_marks (sym grew);
  }
  logged_forward (Some k) but grew = record { each = at_forward k but grew; none = λ is. absurd cc }

-- a log that grew so begins as it was
pub grows_same : (log : List (List Mark)) → Grows log log
grows_same [] = tt
grows_same (part ∷ log) = (([], sym (append-nil part)), grows_same log)

grows_both : (a b c d : List (List Mark)) → Grows a b → Grows c d → Grows (a ++ c) (b ++ d)
grows_both [] [] c d p q = q
grows_both [] (y ∷ b) c d p q = absurd cc
grows_both (x ∷ a) [] c d p q = absurd cc
grows_both (x ∷ a) (y ∷ b) c d p q = (p.0, grows_both a b c d p.1 q)

grows_each : (f : ℕ → List Mark) (xs ys : List (List Mark)) → length ys ≡ length xs → ((i : ℕ) → log_at ys i ≡ log_at xs i ++ f i) → Grows xs ys
grows_each f [] [] long each = tt
grows_each f [] (y ∷ ys) long each = absurd (omega (arith, long))
grows_each f (x ∷ xs) [] long each = absurd (omega (arith, long))
grows_each f (x ∷ xs) (y ∷ ys) long each = ((f 0, each 0), grows_each (λ i. f (suc i)) xs ys (omega (arith, long)) (λ i. each (suc i)))

pub held_grows : (blocks : List BlockUses) (n : ℕ) (none uses : BlockUses) → n < length blocks → Grows (block_log (slice_index_or blocks n none)) (block_log uses) → Grows (held_log blocks) (held_log (slice_set blocks n uses))
held_grows [] n none uses inside grown = absurd (omega (arith, inside))
held_grows (old ∷ blocks) zero none uses inside grown = grows_both (block_log old) (block_log uses) (held_log blocks) (held_log blocks) grown (grows_same (held_log blocks))
held_grows (old ∷ blocks) (suc n) none uses inside grown =
    grows_both (block_log old) (block_log old) (held_log blocks) (held_log (slice_set blocks n uses)) (grows_same (block_log old)) (held_grows blocks n none uses (omega (arith, inside)) grown)

-- a cache has as many shards behind a query
same_shards : (old new : Option LentCache) → is_some new ≡ is_some old → length (shard_logs new) ≡ length (shard_logs old)
same_shards None None same = refl
same_shards None (Some v) same = absurd cc
same_shards (Some u) None same = absurd cc
same_shards (Some u) (Some v) same =
    length-map v.of.views own_marks ∙ (v.lent.0 ∙ sym u.lent.0) ∙ sym (length-map u.of.views own_marks)

-- the log of a block grows part by part
pub block_grows : (old new : BlockUses) (calls : Shared → List NumberedMark) → SameUses old new → ((which : Shared) → LoggedCalls (calls which) (logs_of which old) (logs_of which new)) → Grows (block_log old) (block_log new)
block_grows old new calls same logged =
    grows_both (shard_logs old.cache) (shard_logs new.cache) (pool_logs old.pools) (pool_logs new.pools)
    (grows_each (λ i. at_number i (calls Shards)) (shard_logs old.cache) (shard_logs new.cache) (same_shards old.cache new.cache (ap (λ (s : UseShape). s.cached) same)) (logged Shards).each)
    (grows_each (λ i. at_number i (calls Pools)) (pool_logs old.pools) (pool_logs new.pools) (length-map new.pools use_log ∙ ap (λ (s : UseShape). s.pools) same ∙ sym (length-map old.pools use_log)) (logged Pools).each)

-- numbered calls, none and one after another
at_both : (part : ℕ) (a b : List NumberedMark) → at_number part (a ++ b) ≡ at_number part a ++ at_number part b
at_both part [] b = refl
at_both part (c ∷ a) b = by_test (c.number == part) (at_both part a b)
  where
    by_test : (t : Bool) → at_number part (a ++ b) ≡ at_number part a ++ at_number part b
        → (if t then c.mark ∷ at_number part (a ++ b) else at_number part (a ++ b)) ≡ (if t then c.mark ∷ at_number part a else at_number part a) ++ at_number part b
    by_test true rest = ap (λ (ms : List Mark). c.mark ∷ ms) rest
    by_test false rest = rest

pub called_none : (logs : List (List Mark)) → LoggedCalls [] logs logs
called_none logs = record { each = λ part. sym (append-nil (log_at logs part)) }

pub called_then : {a b : List NumberedMark} {x y z : List (List Mark)} → LoggedCalls a x y → LoggedCalls b y z → LoggedCalls (a ++ b) x z
called_then {a} {b} {x} {y} {z} p q = record {
  each = λ part. q.each part ∙ ap (λ front. front ++ at_number part b) (p.each part) ∙ append_assoc (log_at x part) (at_number part a) (at_number part b)
      ∙ ap (λ more. log_at x part ++ more) (sym (at_both part a b));
}

pub called_as : {a b : List NumberedMark} {x y : List (List Mark)} → a ≡ b → LoggedCalls a x y → LoggedCalls b x y
called_as {x = x} {y = y} same p = subst (λ (m : List NumberedMark). LoggedCalls m x y) same p

-- those of one number
at_one : (k part : ℕ) (cs : List Mark) → at_number part (map (numbered_mark k) cs) ≡ called (Some k) part cs
at_one k part cs = by_test (k == part) cs refl
  where
    by_test : (t : Bool) (ms : List Mark) → (k == part) ≡ t → at_number part (map (numbered_mark k) ms) ≡ (if t then ms else [])
    by_test t [] is = sym (same_if t [])
    by_test true (m ∷ ms) is =
        ap (λ (t : Bool). if t then m ∷ at_number part (map (numbered_mark k) ms) else at_number part (map (numbered_mark k) ms)) is ∙ ap (λ (more : List Mark). m ∷ more) (by_test true ms is)
    by_test false (m ∷ ms) is =
        ap (λ (t : Bool). if t then m ∷ at_number part (map (numbered_mark k) ms) else at_number part (map (numbered_mark k) ms)) is ∙ by_test false ms is

pub called_once : (number : Option ℕ) (calls : List Mark) {x y : List (List Mark)} → Logged number calls x y → LoggedCalls (of_number number calls) x y
called_once None calls p = record { each = p.each }
called_once (Some k) calls {x} {y} p = record { each = λ part. p.each part ∙ ap (λ more. log_at x part ++ more) (sym (at_one k part calls)) }

-- those of one run
pub called_by : (numbers : CallNumbers) (which : Shared) (number : Option ℕ) (marks : List Mark) {old new : BlockUses} → number ≡ by_kind numbers which → UsesLogged numbers marks old new
    → LoggedCalls (of_number number (told_in which marks)) (logs_of which old) (logs_of which new)
called_by numbers Shards number marks is p = called_as (ap (λ (n : Option ℕ). of_number n (cache_calls_in marks)) (sym is)) (called_once numbers.shard (cache_calls_in marks) p.shards)
called_by numbers Pools number marks is p = called_as (ap (λ (n : Option ℕ). of_number n (pool_calls_in marks)) (sym is)) (called_once numbers.pool (pool_calls_in marks) p.pools)

-- the log of a chain that called nothing is empty
uses_empty : (uses : List PoolUse) (rest : List (List Mark)) → All IsUncalled uses → All (λ (part : List Mark). part ≡ []) rest → All (λ (part : List Mark). part ≡ []) (pool_logs uses ++ rest)
uses_empty [] rest all empty = empty
uses_empty (u ∷ uses) rest all empty =
    All-cons (λ (part : List Mark). part ≡ []) (use_log u) (pool_logs uses ++ rest) (ap pool_marks (All-head IsUncalled u uses all)) (uses_empty uses rest (All-tail IsUncalled u uses all) empty)

parts_empty : (parts rest : List (List Mark)) → All (λ (part : List Mark). part ≡ []) parts → All (λ (part : List Mark). part ≡ []) rest → All (λ (part : List Mark). part ≡ []) (parts ++ rest)
parts_empty [] rest all empty = empty
parts_empty (part ∷ parts) rest all empty =
    All-cons (λ (part : List Mark). part ≡ []) part (parts ++ rest) (All-head (λ (part : List Mark). part ≡ []) part parts all) (parts_empty parts rest (All-tail (λ (part : List Mark). part ≡ []) part parts all) empty)

shards_empty : (cache : Option LentCache) → IfCached (λ (u : LentCache). uncalled u.of) cache → All (λ (part : List Mark). part ≡ []) (shard_logs cache)
shards_empty None h = All-nil (λ (part : List Mark). part ≡ [])
shards_empty (Some u) h = h

block_empty : (uses : BlockUses) (rest : List (List Mark)) → AreUncalled uses → All (λ (part : List Mark). part ≡ []) rest → All (λ (part : List Mark). part ≡ []) (block_log uses ++ rest)
block_empty uses rest h empty =
    subst (All (λ (part : List Mark). part ≡ [])) (sym (append_assoc (shard_logs uses.cache) (pool_logs uses.pools) rest))
    (parts_empty (shard_logs uses.cache) (pool_logs uses.pools ++ rest) (shards_empty uses.cache h.cache) (uses_empty uses.pools rest h.pools empty))

pub empty_log : (blocks : List BlockUses) → All AreUncalled blocks → All (λ (part : List Mark). part ≡ []) (held_log blocks)
empty_log [] all = All-nil (λ (part : List Mark). part ≡ [])
empty_log (uses ∷ blocks) all = block_empty uses (held_log blocks) (All-head AreUncalled uses blocks all) (empty_log blocks (All-tail AreUncalled uses blocks all))
