-- What looks found in the stock, by what was published and what was held.
use Rattle.std.proofs.Common.{◌≡◌, ◌<◌, ◌+◌, ◌-◌, ◌*◌, ℕ, zero, suc, List, [], ◌∷◌, ◌++◌, length, map, get_or, Result, None, refl, sym, ap, subst, ◌∙◌, inl, inr, arith, sum_by}
use Rattle.std.specs.List.{All, AllByRecursion}
use Rattle.std.proofs.lemmas.List.Elements.{All-head, All-tail}
use Rattle.std.proofs.lemmas.List.Sums.{sum_by-cons}
use Rattle.dns_data.specs.declared.directive.Directive.{Directive}
use Rattle.extra_stock.specs.{IsShort, asked_by, first_short, in_chains, is_named}
use Rattle.corefile_blocks.specs.declared.bundle.Bundle.{Bundle}
use Rattle.corefile_bundle.specs.declared.fault.GatherFault.{GatherFault}
use Rattle.chain_meaning.specs.{Terms}
use Rattle.chain_meaning.specs.Steps.{block_extras}
use Rattle.chain_build.specs.declared.chain.Chain.{Chain}
use Rattle.chain_build.specs.{chain_extras}
use Rattle.pin_table.specs.declared.free_slots.Left.{Left}
use Rattle.pin_table.specs.declared.views.Sweep.{Sweep}
use Rattle.plugin_api.specs.declared.extra.Extra as extra
use Rattle.plugin_api.specs.declared.rulebook.Rulebook as rulebook
use Rattle.run_meaning.specs.declared.looking.Looking.{Looking}
use Rattle.run_meaning.specs.declared.looking.Looking.TheVariants as looking
use Rattle.run_meaning.specs.Stocked.{AreStocked, FindsFor, FindsStock, HasExtras, HaveExtras, Lending, asked_of}
use Rattle.run_meaning.specs.StockedLaws.{stocked_to}
use Rattle.run_meaning.specs.Turn.{IsPublished}
use Rattle.run_meaning.specs.WatchTurn.{WatchTurn}
use Rattle.reload_watch.specs.Counted.{AreAsked, AreAskedBy, Counts, CountsFor}
use Rattle.reload_watch.specs.Shortage.{Around, OfExtras, TellsStock, extras_at}
use Rattle.reload_watch.specs.Standing.{SawOpen}
use Rattle.reload_watch.specs.States.{Serving}
use Rattle.reload_watch.specs.Sweeps.{HasSwept, KeepsSweeps}

-- a sweep that saw open pins is one
saw_swept : (sweeps : List Sweep) (last serial : ℕ) → SawOpen sweeps last serial → (left : Left) × HasSwept sweeps last serial left × (left.ended < left.total)
saw_swept [] last serial saw = absurd saw
saw_swept (sweep ∷ sweeps) last serial (inl is) = (record { slot = 0; ended = sweep.ended; total = sweep.total }, inl (is.0, is.1, refl, refl), is.2)
saw_swept (sweep ∷ sweeps) last serial (inr saw) = let r = saw_swept sweeps last serial saw in (r.0, inr r.1, r.2)

swept_saw : (sweeps : List Sweep) (last serial : ℕ) (left : Left) → HasSwept sweeps last serial left → left.ended < left.total → SawOpen sweeps last serial
swept_saw [] last serial left has less = absurd has
swept_saw (sweep ∷ sweeps) last serial left (inl is) less = inl (is.0, is.1, let e = is.2 in let t = is.3 in omega (arith, e, t, less))
swept_saw (sweep ∷ sweeps) last serial left (inr has) less = inr (swept_saw sweeps last serial left has less)

-- what was seen is known later too
saw_kept : (before after : List Sweep) → KeepsSweeps before after → (last serial : ℕ) → SawOpen before last serial → SawOpen after last serial
saw_kept before after keeps last serial saw = let r = saw_swept before last serial saw in swept_saw after last serial r.0 (keeps last serial r.0 r.1) r.2

pub stocked_more : (run : Lending) (before after : List Sweep) (bundles : List Bundle) (looks : List WatchTurn) → KeepsSweeps before after → AreStocked run (SawOpen before) bundles looks → AreStocked run (SawOpen after) bundles looks
stocked_more run before after bundles looks keeps are = stocked_to run (SawOpen before) (SawOpen after) (saw_kept before after keeps) bundles looks are

-- a bundle more
pub asked-push : (terms : Terms) (bundles : List Bundle) (asks : List (List (List Directive))) (bundle : Bundle) (extras : List (List Directive)) → AreAsked terms bundles asks → HasExtras terms extras bundle
    → AreAsked terms (bundles ++ bundle ∷ []) (asks ++ extras ∷ [])
asked-push terms [] [] bundle extras are has = (has, tt)
asked-push terms [] (e ∷ asks) bundle extras are has = absurd are
asked-push terms (b ∷ bundles) [] bundle extras are has = absurd are
asked-push terms (b ∷ bundles) (e ∷ asks) bundle extras are has = (are.0, asked-push terms bundles asks bundle extras are.1 has)

-- the bundle of a serial
asked_at : (terms : Terms) (bundles : List Bundle) (asks : List (List (List Directive))) (serial : ℕ) → AreAsked terms bundles asks → serial < length bundles → IsPublished bundles serial (HasExtras terms (get_or asks serial []))
asked_at terms [] asks serial are low = absurd (omega (arith, low))
asked_at terms (b ∷ bundles) [] serial are low = absurd are
asked_at terms (b ∷ bundles) (e ∷ asks) zero are low = record { bundle = b; at = refl; is = are.0 }
asked_at terms (b ∷ bundles) (e ∷ asks) (suc serial) are low =
    let r = asked_at terms bundles asks serial are.1 (omega (arith, low)) in
    record { bundle = r.bundle; at = r.at; is = r.is }

have_at : (terms : Terms) (bundles : List Bundle) (asks : List (List (List Directive))) (serials : List ℕ) → AreAsked terms bundles asks → AllByRecursion (λ serial. serial < length bundles) serials
    → HaveExtras terms bundles serials (map (λ serial. get_or asks serial []) serials)
have_at terms bundles asks [] are low = tt
have_at terms bundles asks (serial ∷ serials) are low = (asked_at terms bundles asks serial are low.0, have_at terms bundles asks serials are low.1)

over : (w a b : ℕ) → w * (a + b) ≡ w * a + w * b
over w a b = omega arith

once : (n k : ℕ) → (n + 1) * k ≡ k + n * k
once n k = omega arith

sum_same : {C : Type 0} (f : C → ℕ) (k : ℕ) (chains : List C) → All (λ c. f c ≡ k) chains → sum_by f chains ≡ length chains * k
sum_same f k [] all = omega arith
sum_same {C} f k (c ∷ chains) all =
    let head = All-head (λ (c : C). f c ≡ k) c chains all in
    let rest = sum_same f k chains (All-tail (λ (c : C). f c ≡ k) c chains all) in
    sum_by-cons f c chains ∙ omega (arith, head, rest, once (length chains) k)

module _ {B E : Type 0} {bk : rulebook.Ghosts B} {ex : extra.Ghosts E} where
  -- chains more
  pub by-push : (asks : List (List (List Directive))) (filled : List (List (Chain B E bk ex))) (extras : List (List Directive)) (chains : List (Chain B E bk ex)) → AreAskedBy asks filled → All (λ chain. chain_extras chain ≡ extras) chains
      → AreAskedBy (asks ++ extras ∷ []) (filled ++ chains ∷ [])
  by-push [] [] extras chains are all = (all, tt)
  by-push [] (cs ∷ filled) extras chains are all = absurd are
  by-push (e ∷ asks) [] extras chains are all = absurd are
  by-push (e ∷ asks) (cs ∷ filled) extras chains are all = (are.0, by-push asks filled extras chains are.1 all)

  weigh_one : (name : List ℕ) (extras : List (List Directive)) (chains : List (Chain B E bk ex)) → All (λ chain. chain_extras chain ≡ extras) chains
      → in_chains chain_extras (is_named name) chains ≡ length chains * asked_by (is_named name) extras
  weigh_one name extras [] all = omega arith
  weigh_one name extras (c ∷ chains) all =
      let head = ap (λ (l : List (List Directive)). asked_by (is_named name) l) (All-head (λ (c : Chain B E bk ex). chain_extras c ≡ extras) c chains all) in
      let rest = weigh_one name extras chains (All-tail (λ (c : Chain B E bk ex). chain_extras c ≡ extras) c chains all) in
      sum_by-cons (λ (c : Chain B E bk ex). asked_by (is_named name) (chain_extras c)) c chains ∙ omega (arith, head, rest, once (length chains) (asked_by (is_named name) extras))

  -- how many extras of a name the chains of a serial have
  weigh_at : (workers : ℕ) (name : List ℕ) (asks : List (List (List Directive))) (filled : List (List (Chain B E bk ex))) (serial : ℕ) → AreAskedBy asks filled → All (λ chains. length chains ≡ workers) filled
      → extras_at filled name serial ≡ workers * asked_by (is_named name) (get_or asks serial [])
  weigh_at workers name [] [] serial are full = omega arith
  weigh_at workers name [] (cs ∷ filled) serial are full = absurd are
  weigh_at workers name (e ∷ asks) [] serial are full = absurd are
  weigh_at workers name (e ∷ asks) (cs ∷ filled) zero are full =
      let long = All-head (λ (chains : List (Chain B E bk ex)). length chains ≡ workers) cs filled full in
      weigh_one name e cs are.0 ∙ ap (λ (n : ℕ). n * asked_by (is_named name) e) long
  weigh_at workers name (e ∷ asks) (cs ∷ filled) (suc serial) are full =
      weigh_at workers name asks filled serial are.1 (All-tail (λ (chains : List (Chain B E bk ex)). length chains ≡ workers) cs filled full)

  weigh_all : (workers : ℕ) (name : List ℕ) (asks : List (List (List Directive))) (filled : List (List (Chain B E bk ex))) (serials : List ℕ) → AreAskedBy asks filled → All (λ chains. length chains ≡ workers) filled
      → sum_by (extras_at filled name) serials ≡ workers * asked_of (map (λ serial. get_or asks serial []) serials) name
  weigh_all workers name asks filled [] are full = omega arith
  weigh_all workers name asks filled (serial ∷ serials) are full =
      let f : ℕ → List (List Directive) = λ s. get_or asks s [] in
      let one = weigh_at workers name asks filled serial are full in
      let rest = weigh_all workers name asks filled serials are full in
      let here = sum_by-cons (λ (extras : List (List Directive)). asked_by (is_named name) extras) (f serial) (map f serials) in
      let parts = over workers (asked_by (is_named name) (f serial)) (asked_of (map f serials) name) in
      sum_by-cons (extras_at filled name) serial serials ∙ (omega (arith, one, rest, parts) ∙ ap (λ (n : ℕ). workers * n) (sym here))

  module _ (run : Lending) (sweeps : List Sweep) (bundles : List Bundle) (serving : Serving (Chain B E bk ex)) (asks : List (List (List Directive))) where
    -- what is known of what was published
    pub record Knows : Type 0 where
      pub some : 0 < length bundles
      pub count : length bundles ≡ serving.published
      pub asked : AreAsked run.terms bundles asks
      pub by : AreAskedBy asks serving.filled
      pub full : All (λ chains. length chains ≡ run.workers) serving.filled

    find_one : (gives : Result Bundle GatherFault) (found : List ℕ → ℕ) (P : List (List Directive) → (List ℕ → ℕ) → Type 0) → Knows → OfExtras run.terms gives (λ blocks. P blocks found) → Counts sweeps serving run.all found
        → FindsStock run (SawOpen sweeps) bundles gives P
    find_one gives found P k o c =
        let low = subst (λ (n : ℕ). AllByRecursion (λ serial. serial < n) c.held) (sym k.count) c.low in
        let some = k.some in
        record {
          bundle = o.bundle;
          got = o.got;
          extras = map block_extras o.blocks;
          has = record { blocks = o.blocks; accepted = o.accepted; are = refl };
          held = c.held;
          each = subst (λ (n : ℕ). AllByRecursion (SawOpen sweeps (n - 1)) c.held) (sym k.count) c.each;
          apart = c.apart;
          three = c.three;
          out = map (λ serial. get_or asks serial []) ((length bundles - 1) ∷ c.held);
          out_are = have_at run.terms bundles asks ((length bundles - 1) ∷ c.held) k.asked (omega (arith, some), low);
          found = found;
          found_is = λ name.
              let all = weigh_all run.workers name asks serving.filled ((length bundles - 1) ∷ c.held) k.by k.full in
              let parts = sum_by-cons (extras_at serving.filled name) (length bundles - 1) c.held in
              let sum = subst (λ (n : ℕ). found name + (extras_at serving.filled name (n - 1) + sum_by (extras_at serving.filled name) c.held) ≡ run.all name) (sym k.count) (c.sum name) in
              omega (arith, all, parts, sum);
          is = o.is;
        }

    -- what a look says of the stock, by its answer
    pub finds_by : (around : Around) (gives : Result Bundle GatherFault) (answer : Looking) → around.workers ≡ run.workers → Knows → TellsStock run.terms around gives answer → CountsFor sweeps serving run.all around.found answer
        → FindsFor run (SawOpen sweeps) bundles gives answer
    finds_by around gives looking.NoReload same k told counts = tt
    finds_by around gives (looking.ReadFailed name) same k told counts = tt
    finds_by around gives looking.Same same k told counts = tt
    finds_by around gives (looking.Refused why) same k told counts = tt
    finds_by around gives (looking.PortsDiffer ports others) same k told counts = tt
    finds_by around gives looking.SerialsSpent same k told counts = tt
    finds_by around gives (looking.AllPinned one two three) same k told counts = tt
    finds_by around gives (looking.StockShort name asked had) same k told counts =
        find_one gives around.found (λ blocks found. IsShort run.workers blocks found name asked had) k
        (subst (λ (n : ℕ). OfExtras run.terms gives (λ blocks. IsShort n blocks around.found name asked had)) same told) counts
    finds_by around gives (looking.Published serial) same k told counts =
        find_one gives around.found (λ blocks found. first_short run.workers blocks found ≡ None) k
        (subst (λ (n : ℕ). OfExtras run.terms gives (λ blocks. first_short n blocks around.found ≡ None)) same told) counts
    finds_by around gives looking.NoMemory same k told counts = tt
