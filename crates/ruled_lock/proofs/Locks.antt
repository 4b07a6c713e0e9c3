-- Each step keeps the rule of the lock.
use Rattle.std.proofs.Common.{◌≡◌, ◌≢◌, ℕ, zero, suc, ◌+◌, ◌*◌, ◌<◌, Bool, true, false, cond, eqb, eqb-true, add-zero, List, [], ◌∷◌, ◌++◌, length, get_or, set, Option, Some, None, refl, sym, ap, ◌∙◌, subst, ⊎_elim, arith, length-set, length-append, append-nil, true≢false, MatchBool}
use Rattle.std.proofs.lemmas.Bool.{false≢true, lt-ltb, le-ltb}
use Rattle.std.proofs.lemmas.List.{get_or-set_same, set-get_or}
use mathlib.Core.Option.{none, some, some-injective, some-ne-none}
use lib.ListN.{get_elem?}
use prog.Atomic.{either}
use Rattle.atomic_table.specs.Table.{State, Me, step, keeps, takes, gives, Allows, Splits, Joins, Act, Valid, stepped, carried_after, opening}
use Rattle.atomic_table.proofs.Lists.{at_set, at_snoc, set_here, set_else}
use Rattle.ruled_lock.specs.declared.rule.Kept.{Kept}
use Rattle.ruled_lock.specs.declared.rule.View.{View}
use Rattle.ruled_lock.specs.Places.{once_below, total}
use Rattle.ruled_lock.specs.Histories.{EachBegins, Leads}
use Rattle.ruled_lock.specs.Held.{newcomer, owned, IsWord, IsShared, Standing, Holds, Knows, Held}
use Rattle.ruled_lock.specs.Steps.{call_in, CanBe, taken_view, released_view, takes_lock, releases_lock, left_view, right_view, met_view, spent_view, settled_view, looks}
use Rattle.ruled_lock.specs.Calls.{InOrder}
use Rattle.ruled_lock.proofs.Places.{total_set, total_snoc, all_in_one, times_append, times_in_append, once_next, part_of, at_most_once, none_past, none_in_past}
use Rattle.ruled_lock.proofs.Histories.{begins_more, longer_begins, leads_snoc, leads_split}

even : (locked : Bool) (word n m : ℕ) → word ≡ 2 * n + cond locked 1 0 → word ≡ 2 * m → locked ≡ false
even true word n m e f = absurd (omega (arith, e, f))
even false word n m e f = refl

module _ {K R : Type 0} where
  heard_none : (heard : List (List (K × R))) (seen : List (K × R)) → heard ≡ [] → EachBegins heard seen
  heard_none heard seen e = subst (λ (hs : List (List (K × R))). EachBegins hs seen) (sym e) tt

module _ {O K R : Type 0} where
  -- the lock, by what it stands for
  abbrev standing : O → ℕ → Bool → ℕ → O → List (K × R) → Standing O K R
  standing first parts locked holder now log = record { first = first; parts = parts; locked = locked; holder = holder; now = now; log = log }

  seats_after : (P : ℕ → View O K R → Type 0) (views : List (View O K R)) (id : ℕ) (w : View O K R) → P id w → ((j : ℕ) (v : View O K R) → j ≢ id → get_elem? views j ≡ some v → P j v) → (j : ℕ) (v : View O K R) → get_elem? (set views id w) j ≡ some v → P j v
  seats_after P views id w mine others j v e =
      ⊎_elim
      (λ (t : (j ≡ id) × (w ≡ v)). subst (λ (x : ℕ × View O K R). P x.0 x.1) (λ i. (sym t.0 i, t.1 i)) mine)
      (λ (t : (j ≢ id) × (get_elem? views j ≡ some v)). others j v t.0 t.1)
      (at_set views id j w v e)

  -- the seat has as many parts and the same places as before
  same_share : (parts calls : ℕ) (views : List (View O K R)) (id : ℕ) (v w : View O K R) → get_elem? views id ≡ some v → w.parts ≡ v.parts → ((p : ℕ) → owned p w ≡ owned p v) → IsShared parts calls views → IsShared parts calls (set views id w)
  same_share parts calls views id v w at e f h = record {
    whole = (let s = total_set (λ (u : View O K R). u.parts) views id v w at in omega (arith, s, e, h.whole));
    once = λ p. (let s = total_set (owned p) views id v w at in let n = f p in let o = h.once p in omega (arith, s, n, o));
  }

  nobody : (first : O) (parts holder id : ℕ) (log : List (K × R)) (now : O) (j : ℕ) (seen : List (K × R)) (t : Option O) → Holds (standing first parts false holder now log) j seen t → Holds (standing first parts true id now log) j seen t
  nobody first parts holder id log now j seen None h = tt
  nobody first parts holder id log now j seen (Some x) h = absurd (false≢true h.0)

  -- who holds the lock is one seat
  alone : (s : Standing O K R) (log' : List (K × R)) (later : O) (j : ℕ) (seen : List (K × R)) (t : Option O) → j ≢ s.holder → Holds s j seen t → Holds (standing s.first s.parts false 0 later log') j seen t
  alone s log' later j seen None ne h = tt
  alone s log' later j seen (Some x) ne h = absurd (ne h.1)

  holds_none : (s : Standing O K R) (j : ℕ) (seen : List (K × R)) (t : Option O) → t ≡ None → Holds s j seen t
  holds_none s j seen t e = subst (λ (u : Option O). Holds s j seen u) (sym e) tt

  others_take : (first : O) (parts holder id : ℕ) (now : O) (log : List (K × R)) (j : ℕ) (u : View O K R) → Knows (standing first parts false holder now log) j u → Knows (standing first parts true id now log) j u
  others_take first parts holder id now log j u h = record { begins = h.begins; heard = h.heard; holds = nobody first parts holder id log now j u.seen u.taken h.holds; start = h.start; idle = h.idle }

  others_release : (first : O) (parts : ℕ) (locked : Bool) (holder : ℕ) (now later : O) (log more : List (K × R)) (j : ℕ) (u : View O K R) → j ≢ holder → Knows (standing first parts locked holder now log) j u → Knows (standing first parts false 0 later (log ++ more)) j u
  others_release first parts locked holder now later log more j u ne h =
      record { begins = begins_more u.seen log more h.begins; heard = h.heard; holds = alone (standing first parts locked holder now log) (log ++ more) later j u.seen u.taken ne h.holds; start = h.start; idle = h.idle }

module _ {O K R : Type 0} (goes : O → K → R → O → Type 0) (allowed : O → K → Type 0) where
  abbrev Rule : O → ℕ → State (Option (Kept O K R)) (View O K R) → Type 0
  Rule first parts = Held goes allowed first parts

  pub takes_kept : (first : O) (parts slots id m : ℕ) (v : View O K R) → v.heard ≡ [] → 0 < v.parts
      → Allows (Rule first parts) slots id (v, []) 0 (λ n. either (eqb n (2 * m)) (2 * m + 1) n) (takes_lock goes allowed (step slots 0 (2 * m) (2 * m + 1) none) (v, []))
  takes_kept first parts slots id m v quiet pos s h deep at room = by_word (eqb (get_or s.words 0 0) (2 * m)) refl
    where
      by_word : (b : Bool) → eqb (get_or s.words 0 0) (2 * m) ≡ b
          → (w : View O K R) × (a : Act (Option (Kept O K R))) × Valid s.homes [] a × Rule first parts (stepped s 0 (either b (2 * m + 1) (get_or s.words 0 0)) id [] w a)
          × MatchBool b ((between : List (K × R)) × (k : Kept O K R) × (◌≡◌ {A = Me (Option (Kept O K R)) (View O K R)} (w, carried_after [] a) (taken_view v between k.object, (0, Some k) ∷ [])) × (get_or s.words 0 0 ≡ 2 * length (v.seen ++ between)) × CanBe goes allowed (taken_view v between k.object) k.object)
          (◌≡◌ {A = Me (Option (Kept O K R)) (View O K R)} (w, carried_after [] a) (v, []))
      by_word true e =
          let is : get_or s.words 0 0 ≡ 2 * m = eqb-true (get_or s.words 0 0) (2 * m) e in
          let free = even h.locked (get_or s.words 0 0) (length h.log) m h.word.word is in
          let mine = h.seats id v at in
          let k = h.home.home free in
          let between = mine.begins.0 in
          let whole : h.log ≡ v.seen ++ between = mine.begins.1 in
          let w : View O K R = taken_view v between k.0.object in
          let count : get_or s.words 0 0 ≡ 2 * length h.log = h.word.word ∙ ap (λ (b : Bool). 2 * length h.log + cond b 1 0) free ∙ add-zero (2 * length h.log) in (
            w,
            takes 0 (Some k.0),
            k.1,
            record {
              log = h.log;
              now = h.now;
              locked = true;
              holder = id;
              path = h.path;
              word = record {
                wide = length-set s.words 0 (2 * m + 1) ∙ h.word.wide;
                word = get_or-set_same s.words 0 (2 * m + 1) 0 (omega (arith, h.word.wide)) ∙ omega (arith, count, is);
              };
              home = record { deep = length-set s.homes 0 none ∙ h.home.deep; home = λ f. absurd (true≢false f) };
              shared = same_share parts (length h.log) s.views id v w at refl (λ p. refl) h.shared;
              seats = seats_after (λ j u. Knows (standing first parts true id h.now h.log) j u) s.views id w
                  (record {
                    begins = ([], whole ∙ sym (append-nil (v.seen ++ between)));
                    heard = heard_none v.heard (v.seen ++ between) quiet;
                    holds = (refl, refl, k.2, sym whole);
                    start = mine.start;
                    idle = mine.idle;
                  })
                  (λ j u ne f. others_take first parts h.holder id h.now h.log j u (subst (λ (b : Bool). Knows (standing first parts b h.holder h.now h.log) j u) free (h.seats j u f)));
            },
            (between, k.0, refl, count ∙ ap (λ (l : List (K × R)). 2 * length l) whole, (first, (mine.start pos).0, subst (λ (x : List (K × R) × O). Leads goes allowed first x.0 x.1) (λ i. (whole i, sym k.2 i)) h.path)),
          )
      by_word false e = (
        v,
        keeps,
        tt,
        record {
          log = h.log;
          now = h.now;
          locked = h.locked;
          holder = h.holder;
          path = h.path;
          word = subst (λ (ws : List ℕ). IsWord h.locked (length h.log) ws) (sym (set-get_or s.words 0 0)) h.word;
          home = h.home;
          shared = same_share parts (length h.log) s.views id v v at refl (λ p. refl) h.shared;
          seats = seats_after (λ j u. Knows (standing first parts h.locked h.holder h.now h.log) j u) s.views id v (h.seats id v at) (λ j u ne f. h.seats j u f);
        },
        refl,
      )

  pub releases_kept : (first : O) (parts slots id : ℕ) (v : View O K R) (between : List (K × R)) (x : O) (k : Kept O K R) (c : K) (r : R) → v.heard ≡ [] → 0 < v.parts → allowed x c → goes x c r k.object → k.call.value ≡ Some c → k.reply.value ≡ Some r
      → Allows (Rule first parts) slots id (taken_view v between x, (0, Some k) ∷ []) 0 (λ _. 2 * length (v.seen ++ between) + 2)
      (λ _. releases_lock (step slots 0 (2 * length (v.seen ++ between) + 2) 0 none) (taken_view v between x, (0, Some k) ∷ []) (2 * length (v.seen ++ between) + 2))
  releases_kept first parts slots id v between x k c r quiet pos may go call reply s h deep at room =
      let seen = v.seen ++ between in
      let t : View O K R = taken_view v between x in
      let mine = h.seats id t at in
      let held = mine.holds in
      let new = 2 * length seen + 2 in
      let log = h.log ++ (c, r) ∷ [] in
      let last : call_in k.call.value k.reply.value ≡ (c, r) ∷ [] = λ i. call_in (call i) (reply i) in
      let calls = call_in k.call.value k.reply.value in
      let w : View O K R = released_view t calls in
      let whole : log ≡ seen ++ calls = λ i. sym held.3 i ++ sym last i in
      let many : length log ≡ length h.log + 1 = length-append h.log ((c, r) ∷ []) in
      let same : length seen ≡ length h.log = ap (λ (l : List (K × R)). length l) held.3 in (
        w,
        gives,
        tt,
        record {
          log = log;
          now = k.object;
          locked = false;
          holder = 0;
          path = leads_snoc goes allowed first h.log h.now k.object c r h.path (subst (λ (z : O). allowed z c) held.2 may) (subst (λ (z : O). goes z c r k.object) held.2 go);
          word = record {
            wide = length-set s.words 0 new ∙ h.word.wide;
            word = get_or-set_same s.words 0 new 0 (omega (arith, h.word.wide)) ∙ omega (arith, same, many);
          };
          home = record {
            deep = length-set s.homes 0 (some (Some k)) ∙ h.home.deep;
            home = λ _. (k, set_here s.homes 0 (some (Some k)) (omega (arith, h.home.deep)), refl);
          };
          shared = record {
            whole = (let z = total_set (λ (u : View O K R). u.parts) s.views id t w at in omega (arith, z, h.shared.whole));
            once = λ p. (
                let z = total_set (owned p) s.views id t w at in
                let o = h.shared.once p in
                let a = times_append p v.own (length seen ∷ []) in
                let b = once_next p (length seen) in
                let o' : total (owned p) s.views ≡ once_below p (length seen) = o ∙ ap (once_below p) (sym same) in
                let c' : once_below p (length log) ≡ once_below p (length seen + 1) = ap (once_below p) (omega (arith, many, same)) in
                omega (arith, z, o', a, b, c'));
          };
          seats = seats_after (λ j u. Knows (standing first parts false 0 k.object log) j u) s.views id w
              (record {
                begins = ([], whole ∙ sym (append-nil (seen ++ calls)));
                heard = heard_none v.heard (seen ++ calls) quiet;
                holds = tt;
                start = mine.start;
                idle = λ z p. absurd (omega (arith, pos, z));
              })
              (λ j u ne f. others_release first parts h.locked h.holder h.now k.object h.log ((c, r) ∷ []) j u (λ e. ne (e ∙ sym held.1)) (h.seats j u f));
        },
        refl,
      )

  pub looks_kept : (first : O) (parts slots id : ℕ) (v : View O K R) → 0 < v.parts → InOrder v
      → Allows (Rule first parts) slots id (v, []) 0 (λ n. n) (looks goes allowed (step slots 0 0 0 none) (v, []))
  looks_kept first parts slots id v pos order s h deep at room =
      let mine = h.seats id v at in
      let w : View O K R = settled_view v in
      let from = mine.start pos in
      let there = leads_split goes allowed first v.seen mine.begins.0 h.now (subst (λ (l : List (K × R)). Leads goes allowed first l h.now) mine.begins.1 h.path) in (
        w,
        keeps,
        tt,
        record {
          log = h.log;
          now = h.now;
          locked = h.locked;
          holder = h.holder;
          path = h.path;
          word = subst (λ (ws : List ℕ). IsWord h.locked (length h.log) ws) (sym (set-get_or s.words 0 0)) h.word;
          home = h.home;
          shared = same_share parts (length h.log) s.views id v w at refl (λ p. refl) h.shared;
          seats = seats_after (λ j u. Knows (standing first parts h.locked h.holder h.now h.log) j u) s.views id w
              (record { begins = mine.begins; heard = tt; holds = mine.holds; start = mine.start; idle = mine.idle })
              (λ j u ne f. h.seats j u f);
        },
        (refl, mine.heard, (there.0, (first, from.0, there.1)), (λ all p. owns all p), ((λ p. let a = part_of (owned p) s.views id v at in let b = h.shared.once p in let c = at_most_once p (length h.log) in omega (arith, a, b, c)), (let a = part_of (λ u. u.parts) s.views id v at in let b = h.shared.whole in let c = from.1 in omega (arith, a, b, c)))),
      )
    where
      owns : v.parts ≡ v.all → (p : ℕ) → owned p v ≡ once_below p (length v.seen)
      owns all p =
          let mine = h.seats id v at in
          let one : owned p v ≡ once_below p (length h.log) = sym (each p) ∙ h.shared.once p in
          one ∙ ap (λ (l : List (K × R)). once_below p (length l)) (mine.begins.1 ∙ ap (λ (r : List (K × R)). v.seen ++ r) (no_rest mine.begins.0 mine.begins.1) ∙ append-nil v.seen)
        where
          each : (q : ℕ) → total (owned q) s.views ≡ owned q v
          each q = let mine = h.seats id v at in all_in_one (owned q) (λ u. u.parts) s.views id v at (h.shared.whole ∙ sym (mine.start pos).1 ∙ sym all) (λ j u f z. (h.seats j u f).idle z q)

          no_rest : (r : List (K × R)) → h.log ≡ v.seen ++ r → r ≡ []
          no_rest [] e = refl
          no_rest (x ∷ xs) e =
              let n = length v.seen in
              let a = none_past n 0 v.own n order.own (omega arith) in
              let b = none_in_past n v.met n order.met (omega arith) in
              let l : length h.log ≡ n + length (x ∷ xs) = ap (λ (l : List (K × R)). length l) e ∙ length-append v.seen (x ∷ xs) in
              let f : once_below n (length h.log) ≡ 1 = ap (λ (b : Bool). cond b 1 0) (lt-ltb n (length h.log) (omega (arith, l))) in
              let g : owned n v ≡ once_below n (length h.log) = sym (each n) ∙ h.shared.once n in
              absurd (omega (arith, a, b, f, g))

  pub splits_kept : (first : O) (parts id : ℕ) (v : View O K R) → v.heard ≡ [] → 1 < v.parts → Splits (Rule first parts) id v (left_view v) (right_view v)
  splits_kept first parts id v quiet two s h at =
      let mine = h.seats id v at in
      let l : View O K R = left_view v in
      let r : View O K R = right_view v in record {
        log = h.log;
        now = h.now;
        locked = h.locked;
        holder = h.holder;
        path = h.path;
        word = h.word;
        home = h.home;
        shared = record {
          whole = (
              let a = total_snoc (λ (u : View O K R). u.parts) (set s.views id l) r in
              let b = total_set (λ (u : View O K R). u.parts) s.views id v l at in
              omega (arith, a, b, two, h.shared.whole));
          once = λ p. (
              let a = total_snoc (owned p) (set s.views id l) r in
              let b = total_set (owned p) s.views id v l at in
              let o = h.shared.once p in
              omega (arith, a, b, o));
        };
        seats = λ j u e. ⊎_elim
            (λ (t : get_elem? (set s.views id l) j ≡ some u). seats_after (λ j u. Knows (standing first parts h.locked h.holder h.now h.log) j u) s.views id l
            (record { begins = mine.begins; heard = mine.heard; holds = mine.holds; start = λ _. mine.start (omega (arith, two)); idle = λ z p. absurd (omega (arith, two, z)) })
            (λ j u ne f. h.seats j u f) j u t)
            (λ (t : r ≡ u). subst (λ (y : View O K R). Knows (standing first parts h.locked h.holder h.now h.log) j y) t
            (record { begins = mine.begins; heard = tt; holds = tt; start = λ _. mine.start (omega (arith, two)); idle = λ z p. refl }))
            (at_snoc (set s.views id l) r u j e);
      }

  pub meets_kept : (first : O) (parts id other : ℕ) (v w : View O K R) → v.taken ≡ None → 0 < v.parts → Joins (Rule first parts) id v other w (met_view v w) spent_view
  meets_kept first parts id other v w idle pos s h at apart there =
      let u : View O K R = met_view v w in
      let at' : get_elem? s.views other ≡ some w = sym (set_else s.views id other u apart) ∙ there in
      let mine = h.seats id v at in
      let theirs = h.seats other w at' in
      let both = longer_begins h.log v.seen w.seen mine.begins theirs.begins in record {
        log = h.log;
        now = h.now;
        locked = h.locked;
        holder = h.holder;
        path = h.path;
        word = h.word;
        home = h.home;
        shared = record {
          whole = (
              let a = total_set (λ (u : View O K R). u.parts) (set s.views id u) other w spent_view there in
              let b = total_set (λ (u : View O K R). u.parts) s.views id v u at in
              omega (arith, a, b, h.shared.whole));
          once = λ p. (
              let a = total_set (owned p) (set s.views id u) other w spent_view there in
              let b = total_set (owned p) s.views id v u at in
              let c = times_in_append p v.met (w.own ∷ w.met) in
              let o = h.shared.once p in
              omega (arith, a, b, c, o));
        };
        seats = seats_after (λ j y. Knows (standing first parts h.locked h.holder h.now h.log) j y) (set s.views id u) other spent_view
            (record { begins = (h.log, refl); heard = tt; holds = tt; start = λ z. absurd (omega (arith, z)); idle = λ z p. refl })
            (λ j y nj e. seats_after (λ j y. Knows (standing first parts h.locked h.holder h.now h.log) j y) s.views id u
            (record { begins = both.0; heard = (both.1, (both.2, tt)); holds = holds_none (standing first parts h.locked h.holder h.now h.log) id u.seen v.taken idle; start = λ _. mine.start pos; idle = λ z p. absurd (omega (arith, pos, z)) })
            (λ j y ni f. h.seats j y f) j y e);
      }

  pub opens : (first : O) (parts : ℕ) (k : Kept O K R) → k.object ≡ first → Rule first parts (opening (0 ∷ []) (Some k ∷ []) (newcomer first parts))
  opens first parts k is = record {
    log = [];
    now = first;
    locked = false;
    holder = 0;
    path = refl;
    word = record { wide = refl; word = refl };
    home = record { deep = refl; home = λ _. (k, refl, is) };
    shared = record { whole = add-zero parts; once = λ p. sym (none_below p) };
    seats = λ j v e. first_seat j v e;
  }
    where
      none_below : (p : ℕ) → once_below p 0 ≡ 0
      none_below p = ap (λ (b : Bool). cond b 1 0) (le-ltb p 0 (omega arith))

      first_seat : (j : ℕ) (v : View O K R) → get_elem? (newcomer {K = K} {R = R} first parts ∷ []) j ≡ some v → Knows (standing first parts false 0 first []) j v
      first_seat zero v e = subst (λ (y : View O K R). Knows (standing first parts false 0 first []) 0 y) (some-injective (newcomer first parts) v e)
          (record { begins = ([], refl); heard = tt; holds = tt; start = λ _. (refl, refl); idle = λ _ p. refl })
      first_seat (suc j) v e = absurd (some-ne-none v (sym e))
