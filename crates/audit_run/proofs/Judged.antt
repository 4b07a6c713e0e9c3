-- What follows from a judgement of orders.
use Rattle.std.proofs.Common.{◌≡◌, ◌<◌, ◌+◌, ℕ, zero, suc, Bool, true, false, List, [], ◌∷◌}
use Rattle.std.proofs.Common.{◌++◌, map, take, length, Option, Some, None, refl, sym, ap, ◌∙◌}
use Rattle.std.proofs.Common.{subst}
use Rattle.std.proofs.Common.{append-nil, append_assoc, arith, eqb-true, inl, inr, MatchBool}
use Rattle.std.specs.Prelude.{◌⊎◌, ◌==◌, ◌&&◌, ◌||◌, Result, Ok, Err, slice_get, slice_index_or}
use Rattle.std.specs.Prelude.{if◌then◌else◌}
use Rattle.std.specs.List.{AllByRecursion}
use Rattle.std.proofs.lemmas.Bool.{false≢true}
use Rattle.std.proofs.lemmas.List.{map-append}
use Rattle.std.proofs.lemmas.Option.{same_Some, slice_get_within}
use Rattle.std.specs.NonZero.{non_zero_usize_get}
use Rattle.outside.specs.declared.mark.Mark.{Mark}
use Rattle.cache_shards.specs.Answers as cache
use Rattle.upstream_health.specs.Pools as pools
use Rattle.one_history.specs.Calls.{HasHistory, Told, calls_by, is_by, marks_at, told_by}
use Rattle.one_history.specs.Runs.{block_at, marks_in, run_marks}
use Rattle.audit_run.specs.declared.part.PartRule.{PartRule}
use Rattle.audit_run.specs.declared.part.PartRule.TheVariants.{Pool, Shard}
use Rattle.audit_run.specs.declared.part.SharedCall.{SharedCall}
use Rattle.audit_run.specs.declared.part.SharedPart.{SharedPart}
use Rattle.audit_run.specs.declared.place.Order.{Order}
use Rattle.audit_run.specs.declared.place.Place.{Place}
use Rattle.audit_run.specs.declared.pool_rule.PoolRule.{PoolRule}
use Rattle.audit_run.specs.declared.record.AuditFault.{AuditFault}
use Rattle.audit_run.specs.declared.record.AuditFault.TheVariants as fault
use Rattle.audit_run.specs.declared.record.SideRecord.{SideRecord}
use Rattle.audit_run.specs.Judging.{AreFine, AreNamedApart, AreRising, ComesOf, IsBare}
use Rattle.audit_run.specs.Judging.{JudgesOrder, JudgesOrders, OrderFails, Rises, Tells, call_told}
use Rattle.audit_run.specs.Judging.{has_order, part_of, stands_again, told_calls, told_from}
use Rattle.audit_run.specs.Orders.{AllAllowed, AreApart, IsHistory}
use Rattle.audit_run.specs.OrdersLaws.{fails-denies}
use Rattle.audit_run.specs.Parts.{is_of, is_order_of, numbered, part_marks, run_of}
use Rattle.audit_run.specs.Rows.{left_call, left_of, marks_left}
use Rattle.audit_run.specs.Rules.{IsLegal, all_events, events_of}
use Rattle.audit_run.specs.Told.{allows_told, mark_in, shown_in}
use Rattle.audit_run.proofs.Histories.{events-one}
use Rattle.audit_run.proofs.Followed.{own_of, row_of, starts_left}

-- no mark is of two serials
abbrev HasCall : List SharedCall → ℕ → ℕ → Type 0
HasCall [] mark serial = ⊥
HasCall (c ∷ cs) mark serial = ((c.mark ≡ mark) × (c.serial ≡ serial)) ⊎ HasCall cs mark serial

later : (n : ℕ) (cs : List SharedCall) (mark serial : ℕ) → AllByRecursion (λ d. n < d.mark) cs
    → HasCall cs mark serial → n < mark
later n [] mark serial all none = elim none [ ]
later n (c ∷ cs) mark serial all (inl is) = let low = all.0 in let e = is.0 in omega (arith, low, e)
later n (c ∷ cs) mark serial all (inr has) = later n cs mark serial all.1 has

one_serial : (cs : List SharedCall) (mark s t : ℕ) → Rises cs → HasCall cs mark s
    → HasCall cs mark t → s ≡ t
one_serial [] mark s t rises none other = elim none [ ]
one_serial (c ∷ cs) mark s t rises (inl a) (inl b) = sym a.1 ∙ b.1
one_serial (c ∷ cs) mark s t rises (inl a) (inr b) =
    absurd (let low = later c.mark cs mark t rises.0 b in let e = a.0 in omega (arith, low, e))
one_serial (c ∷ cs) mark s t rises (inr a) (inl b) =
    absurd (let low = later c.mark cs mark s rises.0 a in let e = b.0 in omega (arith, low, e))
one_serial (c ∷ cs) mark s t rises (inr a) (inr b) = one_serial cs mark s t rises.1 a b

module _ (p : SharedPart) where
  has_left : (cs : List SharedCall) (serial mark : ℕ) (xs ys : List ℕ)
      → marks_left serial (left_of p cs) ≡ xs ++ mark ∷ ys → HasCall cs mark serial
  has_left [] serial mark [] ys e = cc
  has_left [] serial mark (x ∷ xs) ys e = cc
  has_left (c ∷ cs) serial mark xs ys e =
      by_part (is_of p c) e (λ zs f. has_left cs serial mark zs ys f)
    where
      by_first : (zs : List ℕ) → c.serial ≡ serial
          → c.mark ∷ marks_left serial (left_of p cs) ≡ zs ++ mark ∷ ys
          → ((zs : List ℕ) → marks_left serial (left_of p cs) ≡ zs ++ mark ∷ ys
          → HasCall cs mark serial)
          → HasCall (c ∷ cs) mark serial
      by_first [] same e more = inl ((let h : c.mark ≡ mark = cc in h), same)
      by_first (z ∷ zs) same e more =
          inr (more zs (let h : marks_left serial (left_of p cs) ≡ zs ++ mark ∷ ys = cc in h))

      by_serial : (b : Bool) → (c.serial == serial) ≡ b
          → (if b then c.mark ∷ marks_left serial (left_of p cs)
          else marks_left serial (left_of p cs)) ≡ xs ++ mark ∷ ys
          → ((zs : List ℕ) → marks_left serial (left_of p cs) ≡ zs ++ mark ∷ ys
          → HasCall cs mark serial)
          → HasCall (c ∷ cs) mark serial
      by_serial true is e more = by_first xs (eqb-true c.serial serial is) e more
      by_serial false is e more = inr (more xs e)

      by_part : (b : Bool)
          → marks_left serial (if b then left_call c ∷ left_of p cs else left_of p cs)
          ≡ xs ++ mark ∷ ys
          → ((zs : List ℕ) → marks_left serial (left_of p cs) ≡ zs ++ mark ∷ ys
          → HasCall cs mark serial)
          → HasCall (c ∷ cs) mark serial
      by_part true e more = by_serial (c.serial == serial) refl e more
      by_part false e more = inr (more xs e)

  apart : (calls : List (List SharedCall)) → AreRising calls → AreApart (part_marks p calls)
  apart calls rising worker s t mark xs ys zs ws e f =
      let own = slice_index_or calls worker [] in
      let left : (serial : ℕ)
      → marks_left serial (left_of p own) ≡ part_marks p calls worker serial =
      (λ serial. ap (λ l. marks_left serial l) (sym (row_of p calls worker))
      ∙ sym (starts_left p calls worker serial)) in
      one_serial own mark s t (rising worker) (has_left own s mark xs ys (left s ∙ e))
      (has_left own t mark zs ws (left t ∙ f))

-- the marks of calls
module _ (sides : List SideRecord) where
  told_own_calls : (first : ℕ) (calls : List (List SharedCall)) (w : ℕ)
      → calls_by (told_from sides first calls) w
      ≡ map (call_told sides (first + w)) (slice_index_or calls w [])
  told_own_calls first [] w = refl
  told_own_calls first (own ∷ calls) zero =
      ap (λ n. map (call_told sides n) own) (let e : first ≡ first + 0 = omega arith in e)
  told_own_calls first (own ∷ calls) (suc w) =
      told_own_calls (first + 1) calls w
      ∙ ap (λ n. map (call_told sides n) (slice_index_or calls w []))
      (let e : first + 1 + w ≡ first + suc w = omega arith in e)

  same_marks : (w part serial : ℕ) (o : Option ℕ) (cs : List SharedCall)
      → marks_in o part serial (map (call_told sides w) cs)
      ≡ map (mark_in sides w) (marks_in o part serial (map numbered cs))
  same_marks w part serial None cs = refl
  same_marks w part serial (Some block) [] = refl
  same_marks w part serial (Some block) (c ∷ cs) =
      by (c.serial == serial && (c.block == block && c.part == part))
      (same_marks w part serial (Some block) cs)
    where
      by : (b : Bool)
          → marks_at serial block part (map (call_told sides w) cs)
          ≡ map (mark_in sides w) (marks_at serial block part (map numbered cs))
          → (if b then mark_in sides w c.mark
          ∷ marks_at serial block part (map (call_told sides w) cs)
          else marks_at serial block part (map (call_told sides w) cs))
          ≡ map (mark_in sides w) (if b then c.mark ∷ marks_at serial block part (map numbered cs)
          else marks_at serial block part (map numbered cs))
      by true e = ap (λ l. mark_in sides w c.mark ∷ l) e
      by false e = e

  part_told : (p : SharedPart) (calls : List (List SharedCall)) (w serial : ℕ)
      → run_marks (run_of p) p.part (told_calls sides calls) w serial
      ≡ map (mark_in sides w) (part_marks p calls w serial)
  part_told p calls w serial =
      let o = block_at (run_of p) serial in
      ap (λ l. marks_in o p.part serial l) (told_own_calls 0 calls w
      ∙ ap (λ n. map (call_told sides n) (slice_index_or calls w []))
      (let e : 0 + w ≡ w = omega arith in e))
      ∙ same_marks w p.part serial o (slice_index_or calls w [])
      ∙ ap (λ l. map (mark_in sides w) (marks_in o p.part serial l)) (sym (own_of p calls w))

  -- what places tell, with their marks
  abbrev told_mark : Told ℕ → Told Mark
  told_mark t = record { worker = t.worker; serial = t.serial; mark = shown_in sides t }

  told_marks : (w serial : ℕ) (ts : List (Told ℕ))
      → told_by w serial (map told_mark ts) ≡ map (mark_in sides w) (told_by w serial ts)
  told_marks w serial [] = refl
  told_marks w serial (t ∷ ts) =
      by (is_by w serial t) refl (told_marks w serial ts)
    where
      by : (b : Bool) → is_by w serial t ≡ b
          → told_by w serial (map told_mark ts) ≡ map (mark_in sides w) (told_by w serial ts)
          → (if b then shown_in sides t ∷ told_by w serial (map told_mark ts)
          else told_by w serial (map told_mark ts))
          ≡ map (mark_in sides w) (if b then t.mark ∷ told_by w serial ts else told_by w serial ts)
      by true is e =
          let worker : t.worker ≡ w = grind (arith, is) in
          ap (λ v. mark_in sides v t.mark ∷ told_by w serial (map told_mark ts)) worker
          ∙ ap (λ l. mark_in sides w t.mark ∷ l) e
      by false is e = e

  marks_of : (ts : List (Told ℕ)) → map (λ t. t.mark) (map told_mark ts) ≡ map (shown_in sides) ts
  marks_of [] = refl
  marks_of (t ∷ ts) = ap (λ l. shown_in sides t ∷ l) (marks_of ts)

  -- marks each of which may stand there are legal
  shown_more : (before : List (Told ℕ)) (t : Told ℕ)
      → map (shown_in sides) (before ++ t ∷ [])
      ≡ map (shown_in sides) before ++ shown_in sides t ∷ []
  shown_more before t = map-append (shown_in sides) before (t ∷ [])

  answered : (success denial : _) (before ts : List (Told ℕ))
      → AllAllowed (allows_told (Shard success denial) sides) before ts
      → cache.AreAnswered (cache.capacities_of (non_zero_usize_get success)
      (non_zero_usize_get denial)) (map (shown_in sides) before) (map (shown_in sides) ts)
  answered success denial before [] h = tt
  answered success denial before (t ∷ ts) h = (
    h.0,
    subst (λ l. cache.AreAnswered (cache.capacities_of (non_zero_usize_get success)
        (non_zero_usize_get denial)) l (map (shown_in sides) ts)) (shown_more before t)
        (answered success denial (before ++ t ∷ []) ts h.1),
  )

  behind_both : (most size : ℕ) (before es fs : List pools.Event)
      → pools.LegalBehind most size before es → pools.LegalBehind most size (before ++ es) fs
      → pools.LegalBehind most size before (es ++ fs)
  behind_both most size before [] fs h g =
      subst (λ l. pools.LegalBehind most size l fs) (append-nil before) g
  behind_both most size before (e ∷ es) fs h g = (
    h.0,
    behind_both most size (before ++ e ∷ []) es fs h.1
        (subst (λ l. pools.LegalBehind most size l fs) (sym (append_assoc before (e ∷ []) es)) g),
  )

  drawn : (rule : PoolRule) (before ts : List (Told ℕ))
      → AllAllowed (allows_told (Pool rule) sides) before ts
      → pools.LegalBehind rule.most rule.size (all_events (map (shown_in sides) before))
      (all_events (map (shown_in sides) ts))
  drawn rule before [] h = tt
  drawn rule before (t ∷ ts) h =
      let events = all_events (map (shown_in sides) before) in
      behind_both rule.most rule.size events (events_of (shown_in sides t))
      (all_events (map (shown_in sides) ts)) h.0
      (subst (λ l. pools.LegalBehind rule.most rule.size l (all_events (map (shown_in sides) ts)))
      (ap all_events (shown_more before t)
      ∙ events-one (map (shown_in sides) before) (shown_in sides t))
      (drawn rule (before ++ t ∷ []) ts h.1))

  legal_told : (rule : PartRule) (ts : List (Told ℕ)) → AllAllowed (allows_told rule sides) [] ts
      → IsLegal rule (map (shown_in sides) ts)
  legal_told (Shard success denial) ts h = answered success denial [] ts h
  legal_told (Pool rule) ts h = drawn rule [] ts h

  -- an order that is a history gives one
  history_has : (p : SharedPart) (calls : List (List SharedCall)) (places : List Place)
      → IsHistory (part_marks p calls) (allows_told p.rule sides) places
      → HasHistory (IsLegal p.rule) (run_marks (run_of p) p.part (told_calls sides calls))
  history_has p calls places h = record {
    all = map told_mark h.told;
    each = λ w serial. told_marks w serial h.told
        ∙ ap (λ l. map (mark_in sides w) l) (h.each w serial) ∙ sym (part_told p calls w serial);
    is = subst (λ l. IsLegal p.rule l) (sym (marks_of h.told)) (legal_told p.rule h.told h.legal);
  }

  none_legal : (rule : PartRule) → IsLegal rule []
  none_legal (Shard success denial) = tt
  none_legal (Pool rule) = tt

  bare_has : (p : SharedPart) (calls : List (List SharedCall)) → IsBare calls p
      → HasHistory (IsLegal p.rule) (run_marks (run_of p) p.part (told_calls sides calls))
  bare_has p calls bare = record {
    all = [];
    each = λ w serial. sym (part_told p calls w serial
        ∙ ap (λ l. map (mark_in sides w) l) (bare w serial));
    is = none_legal p.rule;
  }

-- an order among them
found_order : (p : SharedPart) (orders : List Order) → has_order orders p ≡ true
    → (k : ℕ) × (o : Order) × (slice_get orders k ≡ Some o) × (is_order_of p o ≡ true)
found_order p [] e = absurd (false≢true e)
found_order p (o ∷ orders) e = by_first (is_order_of p o) refl e (λ f. found_order p orders f)
  where
    by_first : (b : Bool) → is_order_of p o ≡ b → (b || has_order orders p) ≡ true
        → (has_order orders p ≡ true
        → (k : ℕ) × (q : Order) × (slice_get orders k ≡ Some q) × (is_order_of p q ≡ true))
        → (k : ℕ) × (q : Order) × (slice_get (o ∷ orders) k ≡ Some q) × (is_order_of p q ≡ true)
    by_first true is e more = (0, o, refl, is)
    by_first false is e more = let m = more e in (suc m.0, m.1, m.2, m.3)

-- the part that an order names
named_part : (parts : List SharedPart) (o : Order) (k : ℕ) (p : SharedPart)
    → slice_get parts k ≡ Some p → is_order_of p o ≡ true
    → (j : ℕ) × (q : SharedPart) × (slice_get parts j ≡ Some q) × (is_order_of q o ≡ true)
    × (part_of parts o ≡ Some q)
named_part [] o k p at is = cc
named_part (q ∷ parts) o zero p at is =
    let same : is_order_of q o ≡ true = ap (λ z. is_order_of z o) (same_Some q p at) ∙ is in
    (0, q, refl, same, ap (λ b. if b then Some q else part_of parts o) same)
named_part (q ∷ parts) o (suc k) p at is =
    by_first (is_order_of q o) refl (named_part parts o k p at is)
  where
    by_first : (b : Bool) → is_order_of q o ≡ b
        → (j : ℕ) × (r : SharedPart) × (slice_get parts j ≡ Some r) × (is_order_of r o ≡ true)
        × (part_of parts o ≡ Some r)
        → (j : ℕ) × (r : SharedPart) × (slice_get (q ∷ parts) j ≡ Some r)
        × (is_order_of r o ≡ true) × ((if b then Some q else part_of parts o) ≡ Some r)
    by_first true same more = (0, q, refl, same, refl)
    by_first false same more = (suc more.0, more.1, more.2, more.3, more.4)

module _ (sides : List SideRecord) (calls : List (List SharedCall)) (parts : List SharedPart)
  where
    unjudged : (again : Bool) (o : Option SharedPart) (places : List Place) (at : Option ℕ)
        → again ≡ false → MatchBool again (at ≡ Some 0) (ComesOf sides calls parts o places at)
        → ComesOf sides calls parts o places at
    unjudged again o places at e h =
        subst (λ b. MatchBool b (at ≡ Some 0) (ComesOf sides calls parts o places at)) e h

    fine_comes : (again : Bool) (o : Option SharedPart) (places : List Place)
        → MatchBool again (◌≡◌ {A = Option ℕ} None (Some 0))
        (ComesOf sides calls parts o places None)
        → ComesOf sides calls parts o places None
    fine_comes true o places h = cc
    fine_comes false o places h = h

    fine_has : (orders : List Order) → AreFine sides calls parts orders (length orders)
        → AreNamedApart sides calls parts → (k : ℕ) (p : SharedPart) → slice_get parts k ≡ Some p
        → has_order orders p ≡ true
        → HasHistory (IsLegal p.rule) (run_marks (run_of p) p.part (told_calls sides calls))
    fine_has orders fine apart k p at has =
        let f = found_order p orders has in
        let named = named_part parts f.1 k p at f.3 in
        let same : named.0 ≡ k = apart named.0 k named.1 p f.1 named.2 at named.3 f.3 in
        let part : part_of parts f.1 ≡ Some p =
        named.4 ∙ sym named.2 ∙ ap (λ j. slice_get parts j) same ∙ at in
        let judged = fine f.0 f.1 (slice_get_within orders f.0 f.1 f.2) f.2 in
        history_has sides p calls f.1.marks
        (subst (λ o. ComesOf sides calls parts o f.1.marks None) part
        (fine_comes (stands_again (take f.0 orders) f.1) (part_of parts f.1) f.1.marks judged))

    order_denies : (orders : List Order) (number at : ℕ)
        → OrderFails sides calls parts orders number at → AreRising calls
        → (o : Order) (p : SharedPart) → slice_get orders number ≡ Some o
        → stands_again (take number orders) o ≡ false → part_of parts o ≡ Some p
        → IsHistory (part_marks p calls) (allows_told p.rule sides) o.marks → ⊥
    order_denies orders number at f rising o p is once part history =
        let same : f.order ≡ o = same_Some f.order o (sym f.is ∙ is) in
        let judged : JudgesOrder sides calls parts (take number orders) o (Some at) =
        subst (λ x. JudgesOrder sides calls parts (take number orders) x (Some at)) same f.fails in
        let comes = subst (λ x. ComesOf sides calls parts x o.marks (Some at)) part
        (unjudged (stands_again (take number orders) o) (part_of parts o) o.marks (Some at) once
        judged) in
        fails-denies (part_marks p calls) (allows_told p.rule sides) (apart p calls rising)
        o.marks at
        comes history

    -- what follows from a judgement
    pub tells : (orders : List Order) (result : Result (Unit {0}) AuditFault)
        → JudgesOrders sides calls parts orders result → Tells sides calls parts orders result
    tells orders (Ok done) h = λ apart k p at. by_order apart k p at (h.1 k p at)
      where
        by_order : AreNamedApart sides calls parts → (k : ℕ) (p : SharedPart)
            → slice_get parts k ≡ Some p → (has_order orders p ≡ true) ⊎ IsBare calls p
            → HasHistory (IsLegal p.rule) (run_marks (run_of p) p.part (told_calls sides calls))
        by_order apart k p at (inl has) = fine_has orders h.0 apart k p at has
        by_order apart k p at (inr bare) = bare_has sides p calls bare
    tells orders (Err (fault.Order number at)) (inl f) = order_denies orders number at f
    tells orders (Err (fault.Order number at)) (inr f) = λ rising o p is once part history.
        absurd (let low = slice_get_within orders number o is in let end = f.behind in
        omega (arith, low, end))
    tells orders (Err other) h = tt
