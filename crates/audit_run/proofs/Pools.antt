-- What is kept of a pool's history stays right.
use Rattle.std.proofs.Common.{◌≡◌, ◌≤◌, ◌+◌, ◌*◌, ◌/◌, ◌%◌, ◌^◌, ℕ, zero, suc, ◌==◌, ◌&&◌, Bool}
use Rattle.std.proofs.Common.{true, false, List, [], ◌∷◌, ◌++◌, length, get_or, refl, sym, ap}
use Rattle.std.proofs.Common.{subst}
use Rattle.std.proofs.Common.{◌∙◌, arith}
use Rattle.std.proofs.lemmas.Bool.{false≢true}
use Rattle.std.specs.Prelude.{nat_lt}
use Rattle.upstream_health.specs.declared.state.Health.{Health}
use Rattle.upstream_health.specs.declared.state.PoolAsk.TheVariants.{Draw, Report}
use Rattle.upstream_health.specs.declared.state.PoolTold.TheVariants.{Drew, Noted}
use Rattle.upstream_health.specs.Counts.{after_report, bit, bits, is_down}
use Rattle.upstream_health.specs.Pools.{Event, IsDraw, drew_event, has_bit, noted_event}
use Rattle.upstream_health.proofs.Legal.{Keeps, bits_are, drawn_is, length_report, step_keeps}
use Rattle.audit_run.specs.declared.pool_rule.PoolRule.{PoolRule}
use Rattle.audit_run.specs.declared.pool_history.PoolHistory.{PoolHistory}
use Rattle.audit_run.specs.PoolHistories.{ShowsPool, TakesDraw, drawn_of}

-- a number is known by its bits
no_bits : (n k : ℕ) → k ≤ n → ((u : ℕ) → has_bit k u ≡ false) → k ≡ 0
no_bits zero k low none = omega (arith, low)
no_bits (suc n) k low none =
    let even : (k % 2 == 1) ≡ false = none 0 in
    let rest : k / 2 ≡ 0 = by_rest k n low (λ half. no_bits n (k / 2) half (λ u. none (suc u))) in
    grind (arith, even, rest)
  where
    by_rest : (k n : ℕ) → k ≤ suc n → (k / 2 ≤ n → k / 2 ≡ 0) → k / 2 ≡ 0
    by_rest zero n low half = omega arith
    by_rest (suc k) n low half = half (omega (arith, low))

pub same_bits : (most : ℕ) (ns : List ℕ) (k : ℕ)
    → ((u : ℕ) → has_bit k u ≡ (nat_lt u (length ns) && is_down most (get_or ns u 0)))
    → k ≡ bits most ns
same_bits most [] k h = no_bits k k (omega arith) (λ u. h u ∙ (grind arith))
same_bits most (n ∷ ns) k h =
    let first : (k % 2 == 1) ≡ is_down most n = h 0 ∙ (grind arith) in
    let rest : k / 2 ≡ bits most ns = same_bits most ns (k / 2) (λ u. h (suc u) ∙ (grind arith)) in
    by_first (is_down most n) first rest
  where
    by_first : (b : Bool) → (k % 2 == 1) ≡ b → k / 2 ≡ bits most ns → k ≡ bit b + 2 * bits most ns
    by_first true e r = grind (arith, e, r)
    by_first false e r = grind (arith, e, r)

-- as the pool itself keeps it
abbrev health_of : (h : PoolHistory) → length h.fails.items ≤ 15 → Health
health_of h few = record {
  number = h.draws;
  most = h.rule.most;
  fails = h.fails;
  few = (let len = h.fails.ok.0 in omega (arith, few, len));
}

module _ (rule : PoolRule) (events : List Event) (h : PoolHistory)
    (shows : ShowsPool rule events h) where
  few : length h.fails.items ≤ 15
  few = let long = shows.long in let low : rule.size ≤ 15 = rule.few in omega (arith, long, low)

  keeps : Keeps rule.most rule.size events (health_of h few)
  keeps = record {
    most_is = shows.most;
    long = shows.long;
    number = shows.number;
    each = shows.each;
  }

  -- behind a report
  pub report_shows : (g : PoolHistory) (upstream : ℕ) (agreed : Bool) → g.rule ≡ h.rule
      → g.draws ≡ h.draws → g.fails.items ≡ after_report h.rule.most upstream agreed h.fails.items
      → ShowsPool rule (events ++ noted_event upstream agreed ∷ []) g
  report_shows g upstream agreed same drew fails =
      let most : g.rule.most ≡ h.rule.most = ap (λ (r : PoolRule). r.most) same in
      let many : length g.fails.items ≡ length h.fails.items =
      ap length fails ∙ length_report h.rule.most upstream agreed h.fails.items in
      let low = few in
      let kept = step_keeps rule.most rule.size events (health_of h few) (Report upstream agreed)
      Noted
      (health_of g (omega (arith, many, low))) keeps (refl, drew, most, fails) in
      record {
        most = kept.1.most_is;
        long = kept.1.long;
        number = kept.1.number;
        each = kept.1.each;
      }

  -- behind a draw that tells what it should
  pub draw_shows : (g : PoolHistory) (number down : ℕ) → g.rule ≡ h.rule
      → g.fails ≡ h.fails → g.draws ≡ (h.draws + 1) % 2 ^ 64
      → number ≡ h.draws → down ≡ bits h.rule.most h.fails.items
      → ShowsPool rule (events ++ drew_event number down ∷ []) g
  draw_shows g number down same fails drew numbered tells =
      let most : g.rule.most ≡ h.rule.most = ap (λ (r : PoolRule). r.most) same in
      let many : length g.fails.items ≡ length h.fails.items = ap (λ v. length v.items) fails in
      let low = few in
      let kept = step_keeps rule.most rule.size events (health_of h few) Draw
      (Drew (drawn_of number down))
      (health_of g (omega (arith, many, low))) keeps (
        ap (λ n. Drew (drawn_of n down)) numbered ∙ ap (λ d. Drew (drawn_of h.draws d)) tells,
        drew,
        most,
        ap (λ v. v.items) fails,
      ) in
      record {
        most = kept.1.most_is;
        long = kept.1.long;
        number = kept.1.number;
        each = kept.1.each;
      }

  -- a draw that tells so is a draw
  draw_is : IsDraw rule.most rule.size events (drawn_of h.draws (bits h.rule.most h.fails.items))
  draw_is = drawn_is rule.most rule.size events (health_of h few) keeps

  -- and no other one is
  drawn_tells : (number down : ℕ) → IsDraw rule.most rule.size events (drawn_of number down)
      → (number ≡ h.draws) × (down ≡ bits h.rule.most h.fails.items)
  drawn_tells number down is = (
    is.number ∙ sym shows.number,
    same_bits h.rule.most h.fails.items down (λ u. is.down u ∙ sym (draw_is.down u)
        ∙ bits_are h.rule.most h.fails.items u),
  )

  pub draw_taken : (g : PoolHistory) (number down : ℕ) → g.rule ≡ h.rule → g.fails ≡ h.fails
      → g.draws ≡ (h.draws + 1) % 2 ^ 64
      → (number == h.draws && down == bits h.rule.most h.fails.items) ≡ true
      → TakesDraw rule events number down true g
  draw_taken g number down same fails drew test =
      let n : number ≡ h.draws = grind (arith, test) in
      let d : down ≡ bits h.rule.most h.fails.items = grind (arith, test) in
      record {
        exact = (
          λ t. subst (λ k. IsDraw rule.most rule.size events (drawn_of k down)) (sym n)
              (subst (λ k. IsDraw rule.most rule.size events (drawn_of h.draws k)) (sym d) draw_is),
          λ is. refl,
        );
        shows = λ t. draw_shows g number down same fails drew n d;
      }

  pub draw_refused : (g : PoolHistory) (number down : ℕ)
      → (number == h.draws && down == bits h.rule.most h.fails.items) ≡ false
      → TakesDraw rule events number down false g
  draw_refused g number down test = record {
    exact = (
      λ t. absurd (false≢true t),
      λ is. let e = drawn_tells number down is in absurd (grind (arith, test, e.0, e.1)),
    );
    shows = λ t. absurd (false≢true t);
  }
