-- Runs of CNAME records, and the tests of names.
use Rattle.std.proofs.Common.{◌≡◌, Bor, ℕ, zero, suc, ◌+◌, ◌-◌, ◌<◌, Bool, true, false, nat_eq, List, [], ◌∷◌, ◌++◌, length, drop, get_or, Option, Some, None, refl, sym, ap, subst, ◌∙◌, arith, length-append, append_assoc, rules}
use Rattle.std.specs.Prelude.{not}
use Rattle.std.proofs.lemmas.List.{drop_more}
use Rattle.dns_data.specs.Record.{RecordData}
use Rattle.dns_data.specs.declared.zone.Zone.{Zone}
use Rattle.zone_lookup.specs.declared.find.Find.{Find}
use Rattle.zone_lookup.specs.declared.answering.End.{End}
use Rattle.dns_data.specs.Message.{AnswerData, no_answer}
use Rattle.dns_data.specs.declared.kind.TheConstants as kinds
use Rattle.zone_lookup.specs.Zone.{has_items, cut_of, set_at}
use Rattle.dns_write.specs.Tails.{with_tail}
use Rattle.dns_write.specs.declared.tail.Tail.{Tail}
use Rattle.zone_lookup.specs.declared.find.Reached.TheVariants as reached
use Rattle.zone_lookup.specs.declared.find.Step.TheVariants as step
use Rattle.zone_lookup.specs.Ready.{StandsBehind}
use Rattle.zone_lookup.specs.ZoneAnswer.{Finds, Chain, Ends, found, chain, is_followed, with_hosts, with_addresses, host_of, referral, positive, additional, the_answer, rcode_of, authority, own_answer, whole_chain, answer_under, zone_answer, sought, with_answer, asks_servers, with_authority, Refers, RefersAt, Steps, StepsAt}

no_more : (old new rs : List RecordData) → new ≡ old ++ rs → nat_eq (length new) (length old) ≡ not (has_items rs)
no_more old new [] e =
    let none : List RecordData = [] in
    let same : length new ≡ length old = omega (arith, ap length e, length-append old none) in
    rw same (search rules)
no_more old new (r ∷ rs) e = let longer : length old < length new = omega (arith, ap length e, length-append old (r ∷ rs)) in search rules

pub ends_last : (left : ℕ) (zone : Zone) (kind : ℕ) (name : List (List ℕ)) (find : Find) (end : End) (old new : List RecordData) → Finds (found zone name kind) find old new → find.target ≡ None
    → end.absent ≡ find.absent → end.denied ≡ nat_eq (length new) (length old) → Ends (chain left zone kind name) end old new
unfolding chain
ends_last zero zone kind name find end old new f none absent denied =
    let last : (found zone name kind).target ≡ None = sym f.target ∙ none in
    rw last (record { absent = absent ∙ f.absent; denied = denied ∙ no_more old new _ f.records; records = f.records })
ends_last (suc left) zone kind name find end old new f none absent denied =
    let last : (found zone name kind).target ≡ None = sym f.target ∙ none in
    rw last (record { absent = absent ∙ f.absent; denied = denied ∙ no_more old new _ f.records; records = f.records })

pub ends_at_limit : (left : ℕ) (zone : Zone) (kind : ℕ) (name target : List (List ℕ)) (find : Find) (end : End) (old new : List RecordData) → Finds (found zone name kind) find old new
    → find.target ≡ Some target → left ≡ 0 → end ≡ record { absent = false; denied = false } → Ends (chain left zone kind name) end old new
unfolding chain
ends_at_limit zero zone kind name target find end old new f some h e =
    let last : (found zone name kind).target ≡ Some target = sym f.target ∙ some in
    rw (last, e) (record { absent = refl; denied = refl; records = f.records })
ends_at_limit (suc left) zone kind name target find end old new f some h e = absurd (omega arith)

pub ends_outside : (left : ℕ) (zone : Zone) (kind : ℕ) (name target : List (List ℕ)) (find : Find) (end : End) (old new : List RecordData) → Finds (found zone name kind) find old new
    → find.target ≡ Some target → 0 < left → is_followed zone target ≡ false → end ≡ record { absent = false; denied = false } → Ends (chain left zone kind name) end old new
unfolding chain
ends_outside zero zone kind name target find end old new f some h out e = absurd (omega arith)
ends_outside (suc left) zone kind name target find end old new f some h out e =
    let last : (found zone name kind).target ≡ Some target = sym f.target ∙ some in
    rw (last, out, e) (record { absent = refl; denied = refl; records = f.records })

pub goes_on : (left less : ℕ) (zone : Zone) (kind : ℕ) (name target : List (List ℕ)) (find : Find) (end : End) (old new last : List RecordData) → Finds (found zone name kind) find old new
    → find.target ≡ Some target → left ≡ less + 1 → is_followed zone target ≡ true → Ends (chain less zone kind target) end new last → Ends (chain left zone kind name) end old last
unfolding chain
goes_on zero less zone kind name target find end old new last f some h inside e = absurd (omega arith)
goes_on (suc left) less zone kind name target find end old new last f some h inside e =
    let same : less ≡ left = omega arith in
    let next : (found zone name kind).target ≡ Some target = sym f.target ∙ some in
    let rest : Ends (chain left zone kind target) end new last = subst (λ (n : ℕ). Ends (chain n zone kind target) end new last) same e in
    rw (next, inside) (record {
      absent = rest.absent;
      denied = rest.denied;
      records = rest.records ∙ ap (λ (rs : List RecordData). rs ++ (chain left zone kind target).records) f.records ∙ append_assoc old (found zone name kind).records (chain left zone kind target).records;
    })

pub no_hosts : (zone : Zone) (answer added : List RecordData) → with_hosts zone answer added [] ≡ added
unfolding with_hosts
no_hosts zone answer added = refl

pub hosts_step : (zone : Zone) (answer added : List RecordData) (r : RecordData) (rs : List RecordData) (i : ℕ) → r ≡ get_or rs i r → i < length rs
    → with_hosts zone answer added (drop i rs) ≡ with_hosts zone answer (with_addresses zone answer added (host_of r.rdata)) (drop (i + 1) rs)
unfolding with_hosts
hosts_step zone answer added r rs i e inside =
    let here : drop i rs ≡ r ∷ drop (i + 1) rs = drop_more rs i r inside ∙ ap (λ (x : RecordData). x ∷ drop (i + 1) rs) (sym e) in
    rw here refl

pub referral_is : (zone : Zone) (servers answer authority additional : List RecordData) → answer ≡ [] → authority ≡ servers → additional ≡ with_hosts zone answer [] authority
    → the_answer false 0 answer authority additional ≡ referral zone servers
unfolding referral additional with_hosts
referral_is zone servers answer authority additional none same glue = rw (glue, same, none) refl

pub positive_is : (zone : Zone) (c : Chain) (end : End) (servers answer authority middle additional : List RecordData) → Ends c end [] answer → authority ≡ servers → middle ≡ with_hosts zone answer [] answer
    → additional ≡ with_hosts zone answer middle authority → the_answer true (rcode_of c.absent) answer authority additional ≡ positive zone c servers
unfolding positive additional
positive_is zone c end servers answer authority middle additional e same first second = rw (second, first, same, e.records) refl

pub own_is : (zone : Zone) (name : List (List ℕ)) (kind : ℕ) (a : AnswerData) → a ≡ positive zone (whole_chain zone name kind) (authority zone name kind (whole_chain zone name kind).denied)
    → a ≡ own_answer zone name kind
unfolding own_answer
own_is zone name kind a e = e

-- an answer with other sections, or another RCODE and AA
abbrev pub with_sections : AnswerData → List RecordData → List RecordData → List RecordData → AnswerData
with_sections a answer authority additional = record {
  rcode = a.rcode;
  aa = a.aa;
  ra = a.ra;
  tc = a.tc;
  answer = answer;
  authority = authority;
  additional = additional;
}

abbrev pub with_code : AnswerData → ℕ → AnswerData
with_code a rcode = record {
  rcode = rcode;
  aa = true;
  ra = a.ra;
  tc = a.tc;
  answer = a.answer;
  authority = a.authority;
  additional = a.additional;
}

-- a referral in a slot that had the servers as its answer
pub refers : (zone : Zone) (slot : AnswerData) (servers answer authority additional : List RecordData) → slot ≡ with_answer servers → answer ≡ slot.authority → authority ≡ slot.answer
    → additional ≡ with_hosts zone answer slot.additional authority
    → with_sections slot answer authority additional ≡ referral zone servers
refers zone slot servers answer authority additional e was moved add =
    let none : answer ≡ [] = was ∙ ap (λ (a : AnswerData). a.authority) e in
    let same : authority ≡ servers = moved ∙ ap (λ (a : AnswerData). a.answer) e in
    let glue : additional ≡ with_hosts zone answer [] authority = add ∙ ap (λ (rs : List RecordData). with_hosts zone answer rs authority) (ap (λ (a : AnswerData). a.additional) e) in
    ap (λ (a : AnswerData). with_sections a answer authority additional) e ∙ referral_is zone servers answer authority additional none same glue

-- the answer from what the name itself gave, in a slot that had that as its answer
pub answers : (zone : Zone) (name : List (List ℕ)) (kind : ℕ) (slot : AnswerData) (first : List RecordData) (rcode : ℕ) (end : End) (answer middle : List RecordData) → slot ≡ with_answer first
    → rcode ≡ rcode_of end.absent → Ends (whole_chain zone name kind) end [] answer → middle ≡ with_hosts zone answer slot.additional answer
    → with_authority zone (with_code (with_sections slot answer slot.authority middle) rcode) (authority zone name kind end.denied) ≡ own_answer zone name kind
answers zone name kind slot first rcode end answer middle e code0 ends mid =
    let c = whole_chain zone name kind in
    let begun : middle ≡ with_hosts zone answer [] answer = mid ∙ ap (λ (a : AnswerData). with_hosts zone answer a.additional answer) e in
    let code : rcode ≡ rcode_of c.absent = code0 ∙ ap rcode_of ends.absent in
    let servers = ap (authority zone name kind) ends.denied in
    ap (λ (a : AnswerData). with_authority zone (with_code (with_sections a answer a.authority middle) rcode) (authority zone name kind end.denied)) e
    ∙ ap (λ (n : ℕ). with_authority zone (the_answer true n answer [] middle) (authority zone name kind end.denied)) code
    ∙ ap (λ (rs : List RecordData). with_authority zone (the_answer true (rcode_of c.absent) answer [] middle) rs) servers
    ∙ own_is zone name kind _ (positive_is zone c end _ answer (authority zone name kind c.denied) middle (with_hosts zone answer middle (authority zone name kind c.denied)) ends refl begun refl)

-- no authority section
pub no_authority : (zone : Zone) (a : AnswerData) → a.authority ≡ [] → a ≡ with_authority zone a []
unfolding with_hosts
no_authority zone a e = ap (λ (rs : List RecordData). with_sections a a.answer rs a.additional) e

-- the question is for the zone's own servers
pub asks : (zone : Zone) (name : List (List ℕ)) (kind : ℕ) (denied asked : Bool) → denied ≡ false → asked ≡ asks_servers zone name kind → asked ≡ true → authority zone name kind denied ≡ []
unfolding authority
asks zone name kind denied asked not_denied is asked_so =
    let both : asks_servers zone name kind ≡ true = sym is ∙ asked_so in
    rw (not_denied, both) refl

pub adds_authority : (zone : Zone) (a : AnswerData) (records authority additional : List RecordData) → a.authority ≡ [] → authority ≡ a.authority ++ records → additional ≡ with_hosts zone a.answer a.additional records
    → with_sections a a.answer authority additional ≡ with_authority zone a records
adds_authority zone a records authority additional none is glue =
    let same : authority ≡ records = is ∙ ap (λ (rs : List RecordData). rs ++ records) none in
    λ j. with_sections a a.answer (same j) (glue j)

-- an answer section in a slot that was clear
pub begins_with : (slot : AnswerData) (answer : List RecordData) → slot ≡ no_answer → with_sections slot answer slot.authority slot.additional ≡ with_answer answer
begins_with slot answer e = ap (λ (a : AnswerData). with_sections a answer a.authority a.additional) e

refers_cut_at : (zone : Zone) (name : List (List ℕ)) (kind : ℕ) (cut : Option (List (List ℕ))) (new : List RecordData) (a : AnswerData) → StepsAt cut (sought zone name kind) step.Cut [] new → a ≡ referral zone new
    → RefersAt cut zone (sought zone name kind) reached.Cut a
unfolding sought
refers_cut_at zone name kind (Some cut) new a s e = e ∙ ap (referral zone) s
refers_cut_at zone name kind None new a s e = absurd s

-- a step that came to a cut, of which the referral was made
pub refers_cut : (zone : Zone) (name : List (List ℕ)) (kind : ℕ) (new : List RecordData) (a : AnswerData) → Steps (sought zone name kind) step.Cut [] new → a ≡ referral zone new → Refers zone (sought zone name kind) reached.Cut a
unfolding sought
refers_cut zone name kind new a s e = refers_cut_at zone name kind (cut_of zone name) new a s e

refers_found_at : (zone : Zone) (name : List (List ℕ)) (kind : ℕ) (cut : Option (List (List ℕ))) (find : Find) (new : List RecordData) (a : AnswerData) → StepsAt cut (sought zone name kind) (step.Found find) [] new
    → a ≡ with_answer new → RefersAt cut zone (sought zone name kind) (reached.Found find) a
unfolding sought
refers_found_at zone name kind (Some cut) find new a s e = absurd s
refers_found_at zone name kind None find new a s e =
    let same : new ≡ a.answer = sym (ap (λ (x : AnswerData). x.answer) e) in
    (e ∙ ap with_answer same, subst (λ (rs : List RecordData). Finds (found zone name kind) find [] rs) same s)

-- one that came to no cut
pub refers_found : (zone : Zone) (name : List (List ℕ)) (kind : ℕ) (find : Find) (new : List RecordData) (a : AnswerData) → Steps (sought zone name kind) (step.Found find) [] new → a ≡ with_answer new
    → Refers zone (sought zone name kind) (reached.Found find) a
unfolding sought
refers_found zone name kind find new a s e = refers_found_at zone name kind (cut_of zone name) find new a s e

-- by its cut
pub refers_by_cut : (zone : Zone) (name cut : List (List ℕ)) (kind : ℕ) (a : AnswerData) → cut_of zone name ≡ Some cut → a ≡ referral zone (set_at zone cut kinds.NS) → Refers zone (sought zone name kind) reached.Cut a
unfolding sought
refers_by_cut zone name cut kind a e is = rw e is

cut_at : (zone : Zone) (name : List (List ℕ)) (kind : ℕ) (cut : Option (List (List ℕ))) (a : AnswerData) → RefersAt cut zone (sought zone name kind) reached.Cut a → a ≡ answer_under zone name kind cut
unfolding answer_under sought
cut_at zone name kind (Some cut) a r = r
cut_at zone name kind None a r = absurd r

pub cut_answers : (zone : Zone) (name : List (List ℕ)) (kind : ℕ) (a : AnswerData) → Refers zone (sought zone name kind) reached.Cut a → a ≡ zone_answer zone name kind
unfolding zone_answer sought
cut_answers zone name kind a r = cut_at zone name kind (cut_of zone name) a r

-- by its cut, whose sections are lent
pub refers_lent : (zone : Zone) (name cut : List (List ℕ)) (kind : ℕ) (tail : Bor Tail) (a : AnswerData) → cut_of zone name ≡ Some cut → a ≡ no_answer → StandsBehind zone [] (set_at zone cut kinds.NS) tail.now
    → Refers zone (sought zone name kind) (reached.Lent tail) a
unfolding sought
refers_lent zone name cut kind tail a e clear s =
    let servers = set_at zone cut kinds.NS in
    rw e (ap (λ (b : AnswerData). with_tail b tail.now) clear
    ∙ referral_is zone servers [] tail.now.authority tail.now.additional refl s.authority (s.additional ∙ ap (with_hosts zone [] []) (sym s.authority)))

lent_at : (zone : Zone) (name : List (List ℕ)) (kind : ℕ) (cut : Option (List (List ℕ))) (tail : Bor Tail) (a : AnswerData) → RefersAt cut zone (sought zone name kind) (reached.Lent tail) a
    → with_tail a tail.now ≡ answer_under zone name kind cut
unfolding answer_under sought
lent_at zone name kind (Some cut) tail a r = r
lent_at zone name kind None tail a r = absurd r

pub lent_answers : (zone : Zone) (name : List (List ℕ)) (kind : ℕ) (tail : Bor Tail) (a : AnswerData) → Refers zone (sought zone name kind) (reached.Lent tail) a → with_tail a tail.now ≡ zone_answer zone name kind
unfolding zone_answer sought
lent_answers zone name kind tail a r = lent_at zone name kind (cut_of zone name) tail a r

-- what there is where no cut stands above
pub record Begun (zone : Zone) (name : List (List ℕ)) (kind : ℕ) (find : Find) (a : AnswerData) : Type 0 where
  pub clear : a ≡ with_answer a.answer
  pub finds : Finds (found zone name kind) find [] a.answer
  pub own : own_answer zone name kind ≡ zone_answer zone name kind

begun_at : (zone : Zone) (name : List (List ℕ)) (kind : ℕ) (cut : Option (List (List ℕ))) (find : Find) (a : AnswerData) → RefersAt cut zone (sought zone name kind) (reached.Found find) a
    → (a ≡ with_answer a.answer) × Finds (found zone name kind) find [] a.answer × (own_answer zone name kind ≡ answer_under zone name kind cut)
unfolding answer_under sought
begun_at zone name kind (Some cut) find a r = absurd r
begun_at zone name kind None find a r = (r.0, r.1, refl)

pub begun : (zone : Zone) (name : List (List ℕ)) (kind : ℕ) (find : Find) (a : AnswerData) → Refers zone (sought zone name kind) (reached.Found find) a → Begun zone name kind find a
unfolding zone_answer sought
begun zone name kind find a r =
    let parts = begun_at zone name kind (cut_of zone name) find a r in
    record { clear = parts.0; finds = parts.1; own = parts.2 }

-- what a step appends, by its cut
pub steps_cut : (zone : Zone) (name cut : List (List ℕ)) (kind : ℕ) (old new : List RecordData) → cut_of zone name ≡ Some cut → new ≡ old ++ set_at zone cut kinds.NS → Steps (sought zone name kind) step.Cut old new
unfolding sought
steps_cut zone name cut kind old new e is = rw e is

pub steps_found : (zone : Zone) (name : List (List ℕ)) (kind : ℕ) (find : Find) (old new : List RecordData) → cut_of zone name ≡ None → Finds (found zone name kind) find old new
    → Steps (sought zone name kind) (step.Found find) old new
unfolding sought
steps_found zone name kind find old new e f = rw e f
