-- How the looks of a watcher go on.
use Rattle.std.proofs.Common.{true, Result, Ok, Err, ◌≡◌, ◌≢◌, ℕ, ◌+◌, ◌-◌, Bool, List, [], ◌∷◌, ◌++◌, length, Option, Some, None, append_assoc, refl, sym, ap, subst, ◌∙◌, inl, inr, arith}
use Rattle.std.specs.Prelude.{OnSome}
use Rattle.std.specs.List.{All, flat_map}
use Rattle.std.proofs.lemmas.List.{append-nil}
use Rattle.std.proofs.lemmas.List.Concat.{flat_map-append, flat_map-cons}
use Rattle.std.proofs.lemmas.List.Elements.{All-weaker}
use Rattle.outside.specs.declared.mark.WatchMark.{WatchMark}
use Rattle.outside.specs.declared.mark.WatchMark.TheVariants.{Look}
use Rattle.outside.specs.Causes.{RoseJust, raised}
use Rattle.outside.specs.Journals.{watch-adds-then}
use Rattle.outside.specs.States.{WatchState}
use Rattle.outside.specs.WatchMarks.{AddsWatch, watch_added}
use Rattle.corefile_blocks.specs.declared.bundle.Bundle.{Bundle}
use Rattle.corefile_bundle.specs.declared.fault.GatherFault.{GatherFault}
use Rattle.corefile_bundle.specs.Gathering.{GathersFrom, OneRead, Source}
use Rattle.chain_meaning.specs.Accepting.{IsAccepted}
use Rattle.chain_build.specs.declared.chain.Chain.{Chain}
use Rattle.plugin_api.specs.declared.extra.Extra as extra
use Rattle.plugin_api.specs.declared.rulebook.Rulebook as rulebook
use Rattle.chain_build.specs.{ArePlans, PlansData, chain_extras, ground_of, plans_of}
use Rattle.dns_data.specs.declared.directive.Directive.{Directive}
use Rattle.chain_meaning.specs.{Ground, Terms, terms_on}
use Rattle.run_meaning.specs.declared.looking.Looking.{Looking}
use Rattle.run_meaning.specs.declared.looking.Looking.TheVariants as looking
use Rattle.reload_watch.specs.Filled.{AreFilledBy, EndsWith, IsOf}
use Rattle.reload_watch.specs.Look.{standing_of, LooksOver, LooksOnce, Starves, ServesGathered}
use Rattle.reload_watch.specs.Look.{starved_by}
use Rattle.run_meaning.specs.Answers.{AnswersLook, look_marks}
use Rattle.reload_watch.specs.Going.{CountsRefusals, RoseWithin}
use Rattle.run_meaning.specs.Reloads.{reloads, times_of}
use Rattle.pin_table.specs.declared.views.Sweep.{Sweep}
use Rattle.reload_watch.specs.Counted.{AreAsked, AreAskedBy, CountsFor}
use Rattle.reload_watch.specs.Shortage.{Around, TellsStock}
use Rattle.reload_watch.specs.Standing.{SawOpen}
use Rattle.reload_watch.specs.WatchRun.{Watches, lending_of}
use Rattle.run_meaning.specs.declared.watch_end.WatchEnd.{WatchEnd}
use Rattle.run_meaning.specs.declared.watch_end.WatchEnd.TheVariants as ends
use Rattle.run_meaning.specs.WatchRun.{EndsWatch, end_marks}
use Rattle.reload_watch.proofs.Finding.{asked-push, by-push, finds_by, stocked_more}
use Rattle.run_meaning.specs.Stocked.{AreStocked, FindsFor, IsStocked, Lending}
use Rattle.reload_watch.specs.States.{Serving, WatcherState}
use Rattle.reload_watch.specs.Sweeps.{KeepsSweeps, SweptFor}
use Rattle.reload_watch.specs.WatchTurn.{answer_refused, look_refused, all_refused, IsSweptTurn}
use Rattle.reload_watch.specs.WatchTurn.{AreSwept}
use Rattle.run_meaning.specs.WatchTurn.{WatchTurn, looked, starved, watch_marks, published_by}
use Rattle.run_meaning.specs.WatchTurn.{bundles_of, look_starved, all_starved, IsLooked, IsLook}
use Rattle.run_meaning.specs.WatchTurn.{AreLooks}
use Rattle.reload_watch.specs.Watcher.{MakesNoLook, TakesLook}
use Rattle.reload_watch.proofs.Refusing.{all_refused-push, refused_within, starved_within, stays_within}

pub bundles-push : (first : Bundle) (looks : List WatchTurn) (look : WatchTurn) → bundles_of first (looks ++ look ∷ []) ≡ bundles_of first looks ++ published_by look
bundles-push first looks look =
    ap (λ (l : List Bundle). first ∷ l) (flat_map-append published_by looks (look ∷ []) ∙ ap (λ (l : List Bundle). flat_map published_by looks ++ l) (flat_map-cons published_by look [] ∙ append-nil (published_by look)))

watch_marks-push : (looks : List WatchTurn) (look : WatchTurn) → flat_map watch_marks (looks ++ look ∷ []) ≡ flat_map watch_marks looks ++ watch_marks look
watch_marks-push looks look =
    flat_map-append watch_marks looks (look ∷ []) ∙ ap (λ (l : List WatchMark). flat_map watch_marks looks ++ l) (flat_map-cons watch_marks look [] ∙ append-nil (watch_marks look))

starved_in-push : (looks : List WatchTurn) (look : WatchTurn) → all_starved (looks ++ look ∷ []) ≡ all_starved looks + look_starved look
starved_in-push [] look = omega arith
starved_in-push (l ∷ looks) look = omega (arith, starved_in-push looks look)

looks-push : (source : Source) (terms : Terms) (bundles : List Bundle) (looks : List WatchTurn) (look : WatchTurn) → AreLooks source terms bundles looks
    → IsLook source terms (bundles ++ flat_map published_by looks) look → AreLooks source terms bundles (looks ++ look ∷ [])
looks-push source terms bundles [] look are is = (subst (λ (b : List Bundle). IsLook source terms b look) (append-nil bundles) is, tt)
looks-push source terms bundles (l ∷ looks) look are is =
    let same : bundles ++ flat_map published_by (l ∷ looks) ≡ (bundles ++ published_by l) ++ flat_map published_by looks =
    ap (λ (b : List Bundle). bundles ++ b) (flat_map-cons published_by l looks) ∙ sym (append_assoc bundles (published_by l) (flat_map published_by looks)) in
    (are.0, looks-push source terms (bundles ++ published_by l) looks look are.1 (subst (λ (b : List Bundle). IsLook source terms b look) same is))

-- what was swept for a turn is known later too
swept_for_more : (before after : List Sweep) (n : ℕ) (answer : Looking) → KeepsSweeps before after → SweptFor before n answer → SweptFor after n answer
swept_for_more before after n looking.NoReload keeps swept = tt
swept_for_more before after n (looking.ReadFailed name) keeps swept = tt
swept_for_more before after n looking.Same keeps swept = tt
swept_for_more before after n (looking.Refused why) keeps swept = tt
swept_for_more before after n (looking.PortsDiffer ports others) keeps swept = tt
swept_for_more before after n looking.SerialsSpent keeps swept = tt
swept_for_more before after n (looking.AllPinned one two three) keeps swept =
    record {
      order = swept.order;
      a = swept.a;
      b = swept.b;
      c = swept.c;
      apart = swept.apart;
      one = keeps (n - 1) swept.a one swept.one;
      two = keeps (n - 1) swept.b two swept.two;
      three = keeps (n - 1) swept.c three swept.three;
    }
swept_for_more before after n (looking.StockShort name asked had) keeps swept = tt
swept_for_more before after n (looking.Published serial) keeps swept = tt
swept_for_more before after n looking.NoMemory keeps swept = tt

swept_turn_more : (before after : List Sweep) (n : ℕ) (look : WatchTurn) → KeepsSweeps before after → IsSweptTurn before n look → IsSweptTurn after n look
swept_turn_more before after n (looked times reads gives answer flag) keeps swept = swept_for_more before after n answer keeps swept
swept_turn_more before after n (starved times reads gives) keeps swept = tt

swept_more : (before after : List Sweep) (bundles : List Bundle) (looks : List WatchTurn) → KeepsSweeps before after → AreSwept before bundles looks → AreSwept after bundles looks
swept_more before after bundles [] keeps are = tt
swept_more before after bundles (look ∷ looks) keeps are =
    (swept_turn_more before after (length bundles) look keeps are.0, swept_more before after (bundles ++ published_by look) looks keeps are.1)

swept-push : (sweeps : List Sweep) (bundles : List Bundle) (looks : List WatchTurn) (look : WatchTurn) → AreSwept sweeps bundles looks
    → IsSweptTurn sweeps (length (bundles ++ flat_map published_by looks)) look → AreSwept sweeps bundles (looks ++ look ∷ [])
swept-push sweeps bundles [] look are is = (subst (λ (b : List Bundle). IsSweptTurn sweeps (length b) look) (append-nil bundles) is, tt)
swept-push sweeps bundles (l ∷ looks) look are is =
    let same : bundles ++ flat_map published_by (l ∷ looks) ≡ (bundles ++ published_by l) ++ flat_map published_by looks =
    ap (λ (b : List Bundle). bundles ++ b) (flat_map-cons published_by l looks) ∙ sym (append_assoc bundles (published_by l) (flat_map published_by looks)) in
    (are.0, swept-push sweeps (bundles ++ published_by l) looks look are.1 (subst (λ (b : List Bundle). IsSweptTurn sweeps (length b) look) same is))

length-more : {A : Type 0} (items : List A) (item : A) → length (items ++ item ∷ []) ≡ length items + 1
length-more [] item = refl
length-more (i ∷ items) item = omega (arith, length-more items item)

-- what is swept for an answer is swept for the turn
abbrev IsTurnOf : Looking → WatchTurn → Type 0
IsTurnOf answer look = (sweeps : List Sweep) (n : ℕ) → SweptFor sweeps n answer → IsSweptTurn sweeps n look

-- what a look with this answer tells of the stock, its turn does
abbrev Tells : Around → Terms → Looking → WatchTurn → Type 0
Tells around terms answer look = (run : Lending) (sweeps : List Sweep) (bundles : List Bundle)
    → ((gives : Result Bundle GatherFault) → TellsStock terms around gives answer → FindsFor run (SawOpen sweeps) bundles gives answer) → IsStocked run (SawOpen sweeps) bundles look

-- what looks found in the stock, and in one more
stocked-push : (run : Lending) (Held : ℕ → ℕ → Type 0) (bundles : List Bundle) (looks : List WatchTurn) (look : WatchTurn) → AreStocked run Held bundles looks
    → IsStocked run Held (bundles ++ flat_map published_by looks) look → AreStocked run Held bundles (looks ++ look ∷ [])
stocked-push run Held bundles [] look are is = (subst (λ (b : List Bundle). IsStocked run Held b look) (append-nil bundles) is, tt)
stocked-push run Held bundles (l ∷ looks) look are is =
    let same : bundles ++ flat_map published_by (l ∷ looks) ≡ (bundles ++ published_by l) ++ flat_map published_by looks =
    ap (λ (b : List Bundle). bundles ++ b) (flat_map-cons published_by l looks) ∙ sym (append_assoc bundles (published_by l) (flat_map published_by looks)) in
    (are.0, stocked-push run Held (bundles ++ published_by l) looks look are.1 (subst (λ (b : List Bundle). IsStocked run Held b look) same is))

same_journal : (journal : Option (List WatchMark)) → OnSome journal (journal ≡ watch_added journal [])
same_journal None = tt
same_journal (Some marks) = ap Some (sym (append-nil marks))

watch-adds-nothing : (state : WatchState) → AddsWatch state state []
watch-adds-nothing state = record { told = same_journal state.journal }

module _ {B E : Type 0} {bk : rulebook.Ghosts B} {ex : extra.Ghosts E} where
  -- one generation more
  filled-push : (bundles : List Bundle) (bundle : Bundle) (basis : Ground) (filled : List (List (Chain B E bk ex))) (chains : List (Chain B E bk ex)) → AreFilledBy bundles basis filled → All (IsOf bundle basis) chains
      → AreFilledBy (bundles ++ bundle ∷ []) basis (filled ++ chains ∷ [])
  filled-push [] bundle basis [] chains are all = (all, tt)
  filled-push [] bundle basis (cs ∷ css) chains are all = absurd are
  filled-push (b ∷ bundles) bundle basis [] chains are all = absurd are
  filled-push (b ∷ bundles) bundle basis (cs ∷ css) chains are all = (are.0, filled-push bundles bundle basis css chains are.1 all)

  -- chains that serve by these plans serve by their bundle
  of_plans : (plans : PlansData) (bundle : Bundle) (basis : Ground) (chains : List (Chain B E bk ex)) → plans.bundle ≡ bundle → ground_of plans ≡ basis → All (λ chain. plans_of chain ≡ plans) chains → All (IsOf bundle basis) chains
  of_plans plans bundle basis chains b p all =
      All-weaker (λ (chain : (Chain B E bk ex)). plans_of chain ≡ plans) (IsOf bundle basis)
      (λ chain e. record { bundle_is = ap (λ (x : PlansData). x.bundle) e ∙ b; ground_is = ap ground_of e ∙ p }) chains all

  first_filled : (plans : PlansData) (earlier : List (List (Chain B E bk ex))) (chains : List (Chain B E bk ex)) → length (earlier ++ chains ∷ []) ≡ 1 → All (λ chain. plans_of chain ≡ plans) chains
      → AreFilledBy (plans.bundle ∷ []) (ground_of plans) (earlier ++ chains ∷ [])
  first_filled plans [] chains one all = (of_plans plans plans.bundle (ground_of plans) chains refl refl all, tt)
  first_filled plans (cs ∷ earlier) chains one all = absurd (omega (arith, length-more earlier chains, one))

  plans_extras : (plans : PlansData) (chains : List (Chain B E bk ex)) → All (λ chain. plans_of chain ≡ plans) chains → All (λ chain. chain_extras chain ≡ plans.extras) chains
  plans_extras plans chains all = All-weaker (λ (chain : (Chain B E bk ex)). plans_of chain ≡ plans) (λ chain. chain_extras chain ≡ plans.extras) (λ chain e. ap (λ (x : PlansData). x.extras) e) chains all

  first_by : (plans : PlansData) (earlier : List (List (Chain B E bk ex))) (chains : List (Chain B E bk ex)) → length (earlier ++ chains ∷ []) ≡ 1 → All (λ chain. plans_of chain ≡ plans) chains
      → AreAskedBy (plans.extras ∷ []) (earlier ++ chains ∷ [])
  first_by plans [] chains one all = (plans_extras plans chains all, tt)
  first_by plans (cs ∷ earlier) chains one all = absurd (omega (arith, length-more earlier chains, one))

  -- by equal numbers of extras
  counts_same : (serving : Serving (Chain B E bk ex)) (sweeps : List Sweep) (all all' found : List ℕ → ℕ) (answer : Looking) → ((name : List ℕ) → all name ≡ all' name) → CountsFor sweeps serving all found answer → CountsFor sweeps serving all' found answer
  counts_same serving sweeps all all' found answer same counts = subst (λ (f : List ℕ → ℕ). CountsFor sweeps serving f found answer) (λ i name. (same name) i) counts

  -- what a watcher did since its watch stood at old: these looks, behind which this serves
  pub record HasWatched (source : Source) (p : Ground) (first : Bundle) (looks : List WatchTurn) (old new : WatchState) (g : Serving (Chain B E bk ex)) (was starving : ℕ) : Type 0 where
    pub told : AddsWatch old new (flat_map watch_marks looks)
    pub are : AreLooks source (terms_on bk.taken bk.said p) (first ∷ []) looks
    pub count : length (bundles_of first looks) ≡ g.published
    pub earlier : List Bundle
    pub last : bundles_of first looks ≡ earlier ++ g.plans.bundle ∷ []
    pub port : ground_of g.plans ≡ p
    pub is : ArePlans bk.taken bk.said g.plans
    pub filled : AreFilledBy (bundles_of first looks) p g.filled
    pub starved : RoseJust (all_starved looks) was starving
    pub refused : RoseWithin (all_refused looks) (all_starved looks) old.refusals new.refusals

  -- a further look
  extends : {source : Source} {p : Ground} {first : Bundle} {looks : List WatchTurn} {a b c : WatchState} {g h : Serving (Chain B E bk ex)} {was had has : ℕ} (look : WatchTurn) (earlier : List Bundle)
      → HasWatched source p first looks a b g was had → AddsWatch b c (watch_marks look) → IsLook source (terms_on bk.taken bk.said p) (bundles_of first looks) look
      → length (bundles_of first looks ++ published_by look) ≡ h.published → bundles_of first looks ++ published_by look ≡ earlier ++ h.plans.bundle ∷ []
      → ground_of h.plans ≡ p → ArePlans bk.taken bk.said h.plans → AreFilledBy (bundles_of first looks ++ published_by look) p h.filled → RoseJust (look_starved look) had has
      → RoseWithin (look_refused look) (look_starved look) b.refusals c.refusals → HasWatched source p first (looks ++ look ∷ []) a c h was has
  extends {source} {p} {first} {looks} {a} {b} {c} {g} {h} {was} {had} {has} look earlier w adds is count last port plans filled starved_in refused_in = record {
    told = subst (AddsWatch a c) (sym (watch_marks-push looks look)) (watch-adds-then w.told adds);
    are = looks-push source (terms_on bk.taken bk.said p) (first ∷ []) looks look w.are is;
    count = ap length (bundles-push first looks look) ∙ count;
    earlier = earlier;
    last = bundles-push first looks look ∙ last;
    port = port;
    is = plans;
    filled = subst (λ (l : List Bundle). AreFilledBy l p h.filled) (sym (bundles-push first looks look)) filled;
    starved = record {
      least = let a = w.starved.least in let b = starved_in.least in omega (arith, starved_in-push looks look, a, b);
      most = let a = w.starved.most in let b = starved_in.most in omega (arith, starved_in-push looks look, a, b);
    };
    refused = record {
      least = let a = w.refused.least in let b = refused_in.least in omega (arith, all_refused-push looks look, a, b);
      most = let a = w.refused.most in let b = refused_in.most in omega (arith, all_refused-push looks look, starved_in-push looks look, a, b);
    };
  }

  -- what is known of what serves, as a look needs it
  looked_of : {source : Source} {p : Ground} {first : Bundle} {looks : List WatchTurn} {a b : WatchState} {g : Serving (Chain B E bk ex)} {was had : ℕ} (gives : Result Bundle GatherFault) (answer : Looking)
      → HasWatched source p first looks a b g was had → reloads g.plans.blocks ≡ true → AnswersLook (standing_of bk.taken bk.said g.plans g.published) gives answer
      → IsLooked (terms_on bk.taken bk.said p) (bundles_of first looks) (times_of g.plans.blocks) (λ last blocks. AnswersLook (record { terms = terms_on bk.taken bk.said p; bundle = last; blocks = blocks; published = length (bundles_of first looks) }) gives answer)
  looked_of {source} {p} {first} {looks} {g = g} gives answer w again answers = record {
    before = w.earlier;
    last = g.plans.bundle;
    last_is = w.last;
    blocks = g.plans.blocks;
    accepted = subst (λ (q : Ground). IsAccepted (terms_on bk.taken bk.said q) g.plans.bundle g.plans.blocks) w.port w.is.accepted;
    again = again;
    at = refl;
    is = subst (λ (n : ℕ). AnswersLook (record { terms = terms_on bk.taken bk.said p; bundle = g.plans.bundle; blocks = g.plans.blocks; published = n }) gives answer) (sym w.count)
        (subst (λ (q : Ground). AnswersLook (record { terms = terms_on bk.taken bk.said q; bundle = g.plans.bundle; blocks = g.plans.blocks; published = g.published }) gives answer) w.port answers);
  }

  -- the wait for a look at what serves
  abbrev pub Waits : Serving (Chain B E bk ex) → WatchState → WatchState → Type 0
  Waits g b mid = AddsWatch b mid (Look (times_of g.plans.blocks).interval (times_of g.plans.blocks).jitter ∷ [])

  -- by serial, what the published bundles and the chains have of extras
  pub record Asked (terms : Terms) (bundles : List Bundle) (filled : List (List (Chain B E bk ex))) : Type 0 where
    pub asks : List (List (List Directive))
    pub asked : AreAsked terms bundles asks
    pub by : AreAskedBy asks filled

  -- and behind a look
  abbrev pub Grows : Terms → List Bundle → List Bundle → Serving (Chain B E bk ex) → Serving (Chain B E bk ex) → Type 0
  Grows terms bundles more g h = Asked terms bundles g.filled → Asked terms (bundles ++ more) h.filled

  -- the looks with one more, which came to this answer
  pub record Again (around : Around) (p : Ground) (first : Bundle) (looks : List WatchTurn) (a c : WatchState) (g h : Serving (Chain B E bk ex)) (was has : ℕ) (answer : Looking) : Type 0 where
    pub look : WatchTurn
    pub of : IsTurnOf answer look
    pub tells : Tells around (terms_on bk.taken bk.said p) answer look
    pub grows : Grows (terms_on bk.taken bk.said p) (bundles_of first looks) (published_by look) g h
    pub watched : HasWatched around.source p first (looks ++ look ∷ []) a c h was has

  -- a further look behind which nothing else serves
  same_serves : {around : Around} {p : Ground} {first : Bundle} {looks : List WatchTurn} {a b c : WatchState} {g h : Serving (Chain B E bk ex)} {was had has : ℕ} (answer : Looking) (look : WatchTurn)
      → IsTurnOf answer look → HasWatched around.source p first looks a b g was had → published_by look ≡ [] → h ≡ g → AddsWatch b c (watch_marks look) → IsLook around.source (terms_on bk.taken bk.said p) (bundles_of first looks) look
      → RoseJust (look_starved look) had has → RoseWithin (look_refused look) (look_starved look) b.refusals c.refusals
      → Tells around (terms_on bk.taken bk.said p) answer look → Again around p first looks a c g h was has answer
  same_serves {around} {p} {first} {looks} {a} {b} {c} {g} {h} {was} {had} {has} answer look of w none same adds is rose refused tells =
      let nothing : bundles_of first looks ++ published_by look ≡ bundles_of first looks =
      ap (λ (l : List Bundle). bundles_of first looks ++ l) none ∙ append-nil (bundles_of first looks) in
      record {
        look = look;
        of = of;
        tells = tells;
        grows = λ known. record {
          asks = known.asks;
          asked = subst (λ (l : List Bundle). AreAsked (terms_on bk.taken bk.said p) l known.asks) (sym nothing) known.asked;
          by = subst (λ (x : Serving (Chain B E bk ex)). AreAskedBy known.asks x.filled) (sym same) known.by;
        };
        watched = extends look w.earlier w adds is
            (ap length nothing ∙ w.count ∙ ap (λ (x : Serving (Chain B E bk ex)). x.published) (sym same))
            (nothing ∙ w.last ∙ ap (λ (x : Serving (Chain B E bk ex)). w.earlier ++ x.plans.bundle ∷ []) (sym same))
            (ap (λ (x : Serving (Chain B E bk ex)). ground_of x.plans) same ∙ w.port)
            (subst (λ (x : Serving (Chain B E bk ex)). ArePlans bk.taken bk.said x.plans) (sym same) w.is)
            (subst (λ (x : Serving (Chain B E bk ex)). AreFilledBy (bundles_of first looks ++ published_by look) p x.filled) (sym same) (subst (λ (l : List Bundle). AreFilledBy l p g.filled) (sym nothing) w.filled))
            rose refused;
      }

  -- a look that published nothing
  kept : {around : Around} {p : Ground} {first : Bundle} {looks : List WatchTurn} {a b : WatchState} {g : Serving (Chain B E bk ex)} {was had : ℕ} (answer : Looking) (mid c : WatchState) (h : Serving (Chain B E bk ex)) (has : ℕ)
      → HasWatched around.source p first looks a b g was had → Waits g b mid → (over : LooksOver around g h mid c answer) → published_by (looked (times_of g.plans.blocks) over.reads over.gives answer over.flag) ≡ [] → h ≡ g → has ≡ had
      → RoseWithin (answer_refused answer) 0 b.refusals c.refusals → Again around p first looks a c g h was has answer
  kept {around = around} {g = g} answer mid c h has w waits over none same none_starved refused =
      same_serves answer (looked (times_of g.plans.blocks) over.reads over.gives answer over.flag) (λ sweeps n swept. swept) w none same (watch-adds-then waits over.told)
      (over.gathers, looked_of over.gives answer w over.again over.answers) (record { least = omega (arith, none_starved); most = omega (arith, none_starved) }) refused
      (λ run sweeps bundles finds. finds over.gives (subst (λ (q : Ground). TellsStock (terms_on bk.taken bk.said q) around over.gives answer) w.port over.stock))

  -- a look that published
  published_look : {around : Around} {p : Ground} {first : Bundle} {looks : List WatchTurn} {a b : WatchState} {g : Serving (Chain B E bk ex)} {was had : ℕ} (serial : ℕ) (mid c : WatchState) (h : Serving (Chain B E bk ex)) (has : ℕ) (reads : List OneRead) (gives : Result Bundle GatherFault) (flag : Bool)
      → HasWatched around.source p first looks a b g was had → Waits g b mid → reloads g.plans.blocks ≡ true → GathersFrom around.source reads gives → AddsWatch mid c (look_marks reads (looking.Published serial) flag)
      → AnswersLook (standing_of bk.taken bk.said g.plans g.published) gives (looking.Published serial) → ServesGathered g h gives → has ≡ had → c.refusals ≡ b.refusals → TellsStock (terms_on bk.taken bk.said (ground_of g.plans)) around gives (looking.Published serial)
      → Again around p first looks a c g h was has (looking.Published serial)
  published_look {around} {p} {first} {looks} {a} {b} {g} {was} {had} serial mid c h has reads (Ok bundle) flag w waits again gathers told answers replaces none_starved same_refusals stock = record {
    look = looked (times_of g.plans.blocks) reads (Ok bundle) (looking.Published serial) flag;
    of = λ sweeps n swept. swept;
    tells = λ run sweeps bundles finds. finds (Ok bundle) (subst (λ (q : Ground). TellsStock (terms_on bk.taken bk.said q) around (Ok bundle) (looking.Published serial)) w.port stock);
    grows = λ known. record {
      asks = known.asks ++ h.plans.extras ∷ [];
      asked = asked-push (terms_on bk.taken bk.said p) (bundles_of first looks) known.asks bundle h.plans.extras known.asked
          (record {
            blocks = h.plans.blocks;
            accepted = subst (λ (x : Bundle). IsAccepted (terms_on bk.taken bk.said p) x h.plans.blocks) replaces.bundle_is
                (subst (λ (q : Ground). IsAccepted (terms_on bk.taken bk.said q) h.plans.bundle h.plans.blocks) (replaces.basis ∙ w.port) replaces.are.accepted);
            are = replaces.are.extras ∙ replaces.are.extras_are;
          });
      by = subst (AreAskedBy (known.asks ++ h.plans.extras ∷ [])) (sym replaces.filled)
          (by-push known.asks g.filled h.plans.extras replaces.chains known.by (plans_extras h.plans replaces.chains replaces.serve));
    };
    watched = extends (looked (times_of g.plans.blocks) reads (Ok bundle) (looking.Published serial) flag) (bundles_of first looks) w (watch-adds-then waits told)
        (gathers, looked_of (Ok bundle) (looking.Published serial) w again answers)
        (let r = replaces.published in let n = w.count in omega (arith, length-more (bundles_of first looks) bundle, r, n))
        (ap (λ (b : Bundle). bundles_of first looks ++ b ∷ []) (sym replaces.bundle_is))
        (replaces.basis ∙ w.port) replaces.are
        (subst (AreFilledBy (bundles_of first looks ++ bundle ∷ []) p) (sym replaces.filled)
        (filled-push (bundles_of first looks) bundle p g.filled replaces.chains w.filled (of_plans h.plans bundle p replaces.chains replaces.bundle_is (replaces.basis ∙ w.port) replaces.serve)))
        (record { least = omega (arith, none_starved); most = omega (arith, none_starved) }) (stays_within 0 b.refusals c.refusals same_refusals);
  }
  published_look serial mid c h has reads (Err fault) flag w waits again gathers told answers replaces none_starved same_refusals stock = absurd replaces

  -- a look that met want of memory
  starved_look : {around : Around} {p : Ground} {first : Bundle} {looks : List WatchTurn} {a b : WatchState} {g : Serving (Chain B E bk ex)} {was had : ℕ} (mid c : WatchState) (h : Serving (Chain B E bk ex)) (has : ℕ)
      → HasWatched around.source p first looks a b g was had → Waits g b mid → Starves around g h mid c → has ≡ raised had → CountsRefusals looking.NoMemory b.refusals c.refusals
      → Again around p first looks a c g h was has looking.NoMemory
  starved_look {around} {p} {first} {looks} {a} {b} {g} {was} {had} mid c h has w waits starves want refused =
      same_serves looking.NoMemory (starved (times_of g.plans.blocks) starves.gathered.tells.reads starves.gathered.gives) (λ sweeps n swept. swept) w refl starves.same (watch-adds-then waits starves.gathered.tells.told) (
        starves.gathered.tells.gathers,
        record {
          before = w.earlier;
          last = g.plans.bundle;
          last_is = w.last;
          blocks = g.plans.blocks;
          accepted = subst (λ (q : Ground). IsAccepted (terms_on bk.taken bk.said q) g.plans.bundle g.plans.blocks) w.port w.is.accepted;
          again = starves.again;
          at = refl;
          is = tt;
        },
      ) (record { least = omega (arith, want); most = omega (arith, want) }) (starved_within b.refusals c.refusals refused) (λ run sweeps bundles finds. tt)

  by_answer : {around : Around} {p : Ground} {first : Bundle} {looks : List WatchTurn} {a b : WatchState} {g : Serving (Chain B E bk ex)} {was had : ℕ} (answer : Looking) (mid c : WatchState) (h : Serving (Chain B E bk ex)) (has : ℕ)
      → HasWatched around.source p first looks a b g was had → Waits g b mid → LooksOnce around g h mid c answer → answer ≢ looking.NoReload
      → has ≡ starved_by answer had → CountsRefusals answer b.refusals c.refusals → Again around p first looks a c g h was has answer
  by_answer {b = b} looking.NoReload mid c h has w waits looks made rose refused = absurd (made refl)
  by_answer {b = b} (looking.ReadFailed name) mid c h has w waits looks made rose refused = kept (looking.ReadFailed name) mid c h has w waits looks refl looks.behind rose (stays_within 0 b.refusals c.refusals refused)
  by_answer {b = b} looking.Same mid c h has w waits looks made rose refused = kept looking.Same mid c h has w waits looks refl looks.behind rose (stays_within 0 b.refusals c.refusals refused)
  by_answer {b = b} (looking.Refused why) mid c h has w waits looks made rose refused = kept (looking.Refused why) mid c h has w waits looks refl looks.behind rose (refused_within why b.refusals c.refusals refused)
  by_answer {b = b} (looking.PortsDiffer ports others) mid c h has w waits looks made rose refused = kept (looking.PortsDiffer ports others) mid c h has w waits looks refl looks.behind rose (stays_within 0 b.refusals c.refusals refused)
  by_answer {b = b} looking.SerialsSpent mid c h has w waits looks made rose refused = kept looking.SerialsSpent mid c h has w waits looks refl looks.behind rose (stays_within 0 b.refusals c.refusals refused)
  by_answer {b = b} (looking.AllPinned one two three) mid c h has w waits looks made rose refused = kept (looking.AllPinned one two three) mid c h has w waits looks refl looks.behind rose (stays_within 0 b.refusals c.refusals refused)
  by_answer {b = b} (looking.StockShort name asked had) mid c h has w waits looks made rose refused = kept (looking.StockShort name asked had) mid c h has w waits looks refl looks.behind rose (stays_within 0 b.refusals c.refusals refused)
  by_answer {b = b} (looking.Published serial) mid c h has w waits looks made rose refused =
      published_look serial mid c h has looks.reads looks.gives looks.flag w waits looks.again looks.gathers looks.told looks.answers looks.behind rose refused looks.stock
  by_answer {b = b} looking.NoMemory mid c h has w waits looks made rose refused = starved_look mid c h has w waits looks rose refused

  -- what a watcher did since the start
  pub record Watched (source : Source) (start now : WatcherState (Chain B E bk ex)) : Type 0 where
    pub looks : List WatchTurn
    pub so : HasWatched source (ground_of start.serving.plans) start.serving.plans.bundle looks start.watch now.watch now.serving start.starved now.starved
    pub swept : AreSwept now.sweeps (start.serving.plans.bundle ∷ []) looks
    pub asked : Asked (lending_of start).terms (bundles_of start.serving.plans.bundle looks) now.serving.filled
    pub full : All (λ chains. length chains ≡ now.workers) now.serving.filled
    pub workers : now.workers ≡ start.workers
    pub extras : (name : List ℕ) → now.extras name ≡ start.extras name
    pub stocked : AreStocked (lending_of start) (SawOpen now.sweeps) (start.serving.plans.bundle ∷ []) looks

  -- a further look, by what the watcher's step came to
  pub looks_on : (source : Source) (start before after : WatcherState (Chain B E bk ex)) → Watched source start before → TakesLook source before after None → Watched source start after
  looks_on source start before after w again =
      let around : Around = record { source = source; workers = before.workers; found = again.found } in
      let more = by_answer {around = around} again.answer again.waited after.watch after.serving after.starved w.so again.looked again.looks again.made again.starved_is again.refused in
      let first = start.serving.plans.bundle in
      let here : IsSweptTurn after.sweeps (length (bundles_of first w.looks)) more.look =
      subst (λ (n : ℕ). IsSweptTurn after.sweeps n more.look) (sym w.so.count) (more.of after.sweeps before.serving.published again.swept) in
      record {
        looks = w.looks ++ more.look ∷ [];
        so = more.watched;
        swept = swept-push after.sweeps (first ∷ []) w.looks more.look (swept_more before.sweeps after.sweeps (first ∷ []) w.looks again.sweeps w.swept) here;
        asked =
            let grown = more.grows w.asked in
            record { asks = grown.asks; asked = subst (λ (l : List Bundle). AreAsked (lending_of start).terms l grown.asks) (sym (bundles-push first w.looks more.look)) grown.asked; by = grown.by };
        full = again.full;
        workers = again.workers ∙ w.workers;
        extras = λ name. again.extras name ∙ w.extras name;
        stocked = stocked-push (lending_of start) (SawOpen after.sweeps) (first ∷ []) w.looks more.look
            (stocked_more (lending_of start) before.sweeps after.sweeps (first ∷ []) w.looks again.sweeps w.stocked)
            (more.tells (lending_of start) after.sweeps (bundles_of first w.looks)
            (λ gives told. finds_by (lending_of start) after.sweeps (bundles_of first w.looks) before.serving w.asked.asks around gives again.answer w.workers
            (record {
              some = omega arith;
              count = w.so.count;
              asked = w.asked.asked;
              by = w.asked.by;
              full = subst (λ (n : ℕ). All (λ chains. length chains ≡ n) before.serving.filled) w.workers w.full;
            }) told (counts_same before.serving after.sweeps before.extras start.extras again.found again.answer w.extras again.counts)));
      }

  -- nothing was looked at yet
  pub starts : (source : Source) (start : WatcherState (Chain B E bk ex)) → ArePlans bk.taken bk.said start.serving.plans → start.serving.published ≡ 1 → length start.serving.filled ≡ 1 → EndsWith start.serving.filled start.serving.plans
      → All (λ chains. length chains ≡ start.workers) start.serving.filled → Watched source start start
  starts source start is one long ends full = record {
    looks = [];
    swept = tt;
    asked = record {
      asks = start.serving.plans.extras ∷ [];
      asked = (record { blocks = start.serving.plans.blocks; accepted = is.accepted; are = is.extras ∙ is.extras_are }, tt);
      by = subst (AreAskedBy (start.serving.plans.extras ∷ [])) (sym ends.last_is) (first_by start.serving.plans ends.earlier ends.chains (sym (ap length ends.last_is) ∙ long) ends.serve);
    };
    full = full;
    workers = refl;
    extras = λ name. refl;
    stocked = tt;
    so = record {
      told = watch-adds-nothing start.watch;
      are = tt;
      count = sym one;
      earlier = [];
      last = refl;
      port = refl;
      is = is;
      filled = subst (AreFilledBy (start.serving.plans.bundle ∷ []) (ground_of start.serving.plans)) (sym ends.last_is)
          (first_filled start.serving.plans ends.earlier ends.chains (sym (ap length ends.last_is) ∙ long) ends.serve);
      starved = record { least = omega arith; most = omega arith };
      refused = stays_within 0 start.watch.refusals start.watch.refusals refl;
    };
  }

  -- behind the last look
  ended : (source : Source) (start before after : WatcherState (Chain B E bk ex)) (end : WatchEnd) → (w : Watched source start before) → AddsWatch before.watch after.watch (end_marks end) → MakesNoLook before after
      → EndsWatch (lending_of start).terms (bundles_of start.serving.plans.bundle w.looks) (end_marks end) → Watches source start after end
  ended source start before after end w told stays ends = record {
    looks = w.looks;
    bundles = bundles_of start.serving.plans.bundle w.looks;
    bundles_are = refl;
    ending = end_marks end;
    ending_is = refl;
    told = watch-adds-then w.so.told told;
    are = w.so.are;
    swept = subst (λ (s : List Sweep). AreSwept s (start.serving.plans.bundle ∷ []) w.looks) (sym stays.sweeps) w.swept;
    stocked = subst (λ (s : List Sweep). AreStocked (lending_of start) (SawOpen s) (start.serving.plans.bundle ∷ []) w.looks) (sym stays.sweeps) w.stocked;
    ends = ends;
    filled = subst (λ (x : Serving (Chain B E bk ex)). AreFilledBy (bundles_of start.serving.plans.bundle w.looks) (ground_of start.serving.plans) x.filled) (sym stays.serving) w.so.filled;
    count = w.so.count ∙ ap (λ (x : Serving (Chain B E bk ex)). x.published) (sym stays.serving);
    starved = subst (λ (n : ℕ). RoseJust (all_starved w.looks) start.starved n) (sym stays.starved) w.so.starved;
    refused = subst (λ (n : ℕ). RoseWithin (all_refused w.looks) (all_starved w.looks) start.watch.refusals n) (sym stays.refused) w.so.refused;
  }

  pub watched_all : (source : Source) (start before after : WatcherState (Chain B E bk ex)) (end : WatchEnd) → Watched source start before → TakesLook source before after (Some end) → Watches source start after end
  watched_all source start before after ends.End w takes = ended source start before after ends.End w takes.told takes.stays (inl refl)
  watched_all source start before after ends.NoReload w takes = ended source start before after ends.NoReload w takes.told takes.stays
      (inr (
        refl,
        record {
          before = w.so.earlier;
          last = before.serving.plans.bundle;
          last_is = w.so.last;
          blocks = before.serving.plans.blocks;
          accepted = subst (λ (q : Ground). IsAccepted (terms_on bk.taken bk.said q) before.serving.plans.bundle before.serving.plans.blocks) w.so.port w.so.is.accepted;
          no_reload = takes.no_reload;
        },
      ))
