-- Which marks are known of a side that was recorded.
use Rattle.std.proofs.Common.{◌≡◌, ◌≢◌, ◌⊎◌, inl, inr, ◌∙◌, List, [], ◌++◌, Option, Some, None, Result, Ok, Err, refl, sym, ap, subst}
use Rattle.std.proofs.lemmas.Result.{IfOk-weaker}
use Rattle.std.specs.Prelude.{IfOk, OnSome}
use Rattle.outside.specs.Marks.{Adds, added}
use Rattle.outside.specs.Script.{SideScriptData}
use Rattle.outside.specs.States.{Journal, SideState, Stays}
use Rattle.outside.specs.declared.mark.Mark.{Mark}
use Rattle.outside.specs.declared.datagram.Datagram.{Datagram}
use Rattle.dns_lists.specs.declared.memory.NoMemory.{NoMemory}
use Rattle.chain_build.specs.{LogsServing, Server, TellsServing, serving}
use Rattle.chain_meaning.specs.declared.served.Served.{Served}
use Rattle.recorded_side.specs.Keeping.{KeepsTold}
use Rattle.recorded_side.specs.States.{Recorded, journal_by, recorded_state}
use Rattle.explain_chain.specs.Explaining.{HasTold, IsExplained, TellsExplaining}
use Rattle.explain_chain.specs.declared.explaining.Explained.{Explained}

told_by : (script script' : Option SideScriptData) (j j' kept : Journal) (marks : List Mark)
    → script' ≡ script
    → OnSome (journal_by script' j' kept) (journal_by script' j' kept
    ≡ added (journal_by script j (Some [])) marks) → KeepsTold j' kept → OnSome j (j ≡ Some [])
    → (all : List Mark) → kept ≡ Some all → OnSome j' (j' ≡ Some marks)
told_by script script' j None kept marks s h keeps fresh all e = tt
told_by script script' j (Some t) None marks s h keeps fresh all e = absurd cc
told_by None None j (Some t) (Some k) marks s h keeps fresh all e = cc
told_by None (Some s') j (Some t) (Some k) marks s h keeps fresh all e = absurd cc
told_by (Some s0) None j (Some t) (Some k) marks s h keeps fresh all e = absurd cc
told_by (Some s0) (Some s') None (Some t) (Some k) marks s h keeps fresh all e = absurd cc
told_by (Some s0) (Some s') (Some y) (Some t) (Some k) marks s h keeps fresh all e =
    let none : y ≡ [] = cc in h ∙ ap (λ (l : List Mark). Some (l ++ marks)) none

known_by : (script script' : Option SideScriptData) (j j' kept : Journal) (marks : List Mark)
    → script' ≡ script
    → OnSome (journal_by script' j' kept) (journal_by script' j' kept
    ≡ added (journal_by script j (Some [])) marks) → KeepsTold j' kept → OnSome j (j ≡ Some [])
    → (all : List Mark) → kept ≡ Some all → (script' ≡ None) ⊎ (j' ≢ None) → all ≡ marks
known_by script script' j j' None marks s h keeps fresh all e told = absurd cc
known_by None None j j' (Some k) marks s h keeps fresh all e told = cc
known_by None (Some s') j j' (Some k) marks s h keeps fresh all e told = absurd cc
known_by (Some s0) None j j' (Some k) marks s h keeps fresh all e told = absurd cc
known_by (Some s0) (Some s') j None (Some k) marks s h keeps fresh all e (inl gone) = absurd cc
known_by (Some s0) (Some s') j None (Some k) marks s h keeps fresh all e (inr some) =
    absurd (some refl)
known_by (Some s0) (Some s') j (Some t) (Some k) marks s h keeps fresh all e told =
    let is : Some t ≡ Some marks =
    told_by (Some s0) (Some s') j (Some t) (Some k) marks s h keeps fresh all e in cc

adds_by : (script script' : Option SideScriptData) (j j' kept : Journal) (marks : List Mark)
    → script' ≡ script
    → OnSome (journal_by script' j' kept) (journal_by script' j' kept
    ≡ added (journal_by script j (Some [])) marks) → OnSome script' (OnSome j' (j' ≡ added j marks))
adds_by script None j j' kept marks s h = tt
adds_by None (Some s') j j' kept marks s h = absurd cc
adds_by (Some s0) (Some s') j j' kept marks s h = h

module _ (before after : SideState) (kept : Journal) (marks : List Mark)
    (adds : Adds (recorded_state before (Some [])) (recorded_state after kept) marks)
    (stays : Stays (recorded_state before (Some [])) (recorded_state after kept))
    (keeps : KeepsTold after.journal kept)
    (fresh : OnSome before.journal (before.journal ≡ Some [])) where
  pub told_as : (all : List Mark) → kept ≡ Some all
      → OnSome after.journal (after.journal ≡ Some marks)
  told_as all e =
      told_by before.script after.script before.journal after.journal kept marks stays.script
      adds.told keeps fresh all e

  pub known_as : (all : List Mark) → kept ≡ Some all → HasTold after → all ≡ marks
  known_as all e told =
      known_by before.script after.script before.journal after.journal kept marks stays.script
      adds.told keeps fresh all e told

  pub stays_as : Stays before after
  stays_as = record { later = stays.later; script = stays.script; left = stays.left }

on_script : (script : Option SideScriptData) (P Q : Type 0) → (P → Q) → OnSome script P
    → OnSome script Q
on_script None P Q f h = tt
on_script (Some s) P Q f h = f h

pub adds_as : (before after : SideState) (kept : Journal) (marks : List Mark)
    → Adds (recorded_state before (Some [])) (recorded_state after kept) marks
    → after.script ≡ before.script → OnSome after.script (Adds before after marks)
adds_as before after kept marks adds script =
    on_script after.script (OnSome after.journal (after.journal ≡ added before.journal marks))
    (Adds before after marks) (λ h. record { told = h })
    (adds_by before.script after.script before.journal after.journal kept marks script adds.told)

pub always : {T E : Type 0} (r : Result T E) (P : T → Type 0) → ((t : T) → P t) → IfOk r P
always (Ok t) P h = h t
always (Err e) P h = tt

-- what was served over a side that was recorded, and explained by the marks that were kept
pub explains_as : {S : Type 0} (state : S → SideState) (side out : S) (r0 r1 : Recorded S)
    (server : Server) (d : Datagram) (how : Served) (log0 log1 log2 : List (List Mark))
    (result : Result Explained NoMemory) (all : List Mark)
    → r0 ≡ record { side = side; kept = Some [] }
    → TellsServing server d how (serving (recorded_state (state r0.side) r0.kept) log0)
    (serving (recorded_state (state r1.side) r1.kept) log1)
    → out ≡ r1.side → r1.kept ≡ Some all → KeepsTold (state r1.side).journal r1.kept
    → OnSome (state side).journal ((state side).journal ≡ Some []) → log2 ≡ log1
    → IfOk result (λ e. e.served ≡ how)
    → IfOk result (λ e. IsExplained server.bundle server.terms d all how e.lines)
    → TellsExplaining server d result (serving (state side) log0) (serving (state out) log2)
explains_as {S} state side out r0 r1 server d how log0 log1 log2 result all new t is kept keeps
    fresh same served lines =
    let adds : Adds (recorded_state (state side) (Some [])) (recorded_state (state r1.side) r1.kept) t.marks =
    subst (λ (r : Recorded S). Adds (recorded_state (state r.side) r.kept) (recorded_state (state r1.side) r1.kept) t.marks) new t.told in
    let stays : Stays (recorded_state (state side) (Some [])) (recorded_state (state r1.side) r1.kept) =
    subst (λ (r : Recorded S). Stays (recorded_state (state r.side) r.kept) (recorded_state (state r1.side) r1.kept)) new t.stays in
    let known : HasTold (state r1.side) → all ≡ t.marks =
    known_as (state side) (state r1.side) r1.kept t.marks adds stays keeps fresh all kept in
    subst (λ (s : S). TellsExplaining server d result (serving (state side) log0) (serving (state s) log2)) (sym is) (record {
      marks = t.marks;
      how = how;
      told = always result _ (λ e. told_as (state side) (state r1.side) r1.kept t.marks adds stays keeps fresh all kept);
      adds = adds_as (state side) (state r1.side) r1.kept t.marks adds stays.script;
      stays = stays_as (state side) (state r1.side) r1.kept t.marks adds stays keeps fresh;
      serves = t.serves;
      logs = subst (λ (l : List (List Mark)). LogsServing server d t.marks log0 l) (sym same) t.logs;
      served = served;
      explains = IfOk-weaker result _ _ (λ e are told. subst (λ (m : List Mark). IsExplained server.bundle server.terms d m how e.lines) (known told) are) lines;
    })
