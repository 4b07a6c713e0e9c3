-- What a walk took: one lemma for each way on.
use Rattle.std.proofs.Common.{◌≡◌, List, [], ◌∷◌, map, Option, Some, None, Result, Ok, Err, refl, sym, ap, subst, ◌∙◌}
use Rattle.std.specs.Prelude.{IfOk, IsErr}
use Rattle.std.specs.Option.{option_or}
use Rattle.dns_lists.specs.declared.memory.NoMemory.{NoMemory}
use Rattle.dns_data.specs.Message.{AnswerData}
use Rattle.dns_data.specs.declared.directive.Directive.{Directive}
use Rattle.dns_data.specs.declared.query.Query.{Query}
use Rattle.outside.specs.Journals.{adds-nothing}
use Rattle.outside.specs.Meanings.{Meaning, Done, Starved, onward}
use Rattle.outside.specs.States.{SideState}
use Rattle.outside.specs.Taking.{Asks, Takes}
use Rattle.outside.specs.TakingLaws.{asks-fails, asks-nothing, asks-then, starved_onward, stays-nothing, takes-as, takes-nothing, takes-starved}
use Rattle.outside.specs.declared.kept.Kept.{Kept}
use Rattle.outside.specs.declared.mark.Mark.{Mark}
use Rattle.forward_plugin.specs.{ForwardData, Forwards, ForwardState, forward_means, said}
use Rattle.forward_plugin.specs.Laws.{forwards_ask}
use Rattle.forward_plugin.specs.Taking.{said_of}
use Rattle.forward_plugin.specs.declared.say.ForwardSay.{ForwardSay}
use Rattle.rewrite_plugin.specs.declared.plan_data.Changed.{Changed}
use Rattle.chain_meaning.specs.declared.decision.Decision.{Decision}
use Rattle.chain_meaning.specs.Mean.{answer_of, forward_answer, forward_answered, mean, or_rest, reply_restored, rewritten}
use Rattle.extra_stock.specs.Turns.{in_turn, or_next}
use Rattle.plugin_api.specs.{Sayings}
use Rattle.plugin_api.specs.declared.verdict.Verdict.{Verdict}
use Rattle.plugin_api.specs.declared.verdict.Verdict.TheVariants as verdict
use Rattle.chain_meaning.specs.MeanLaws.{answer_nothing, extras_say, mean-step, mean_nothing, or_rest_nothing, rule-others}
use Rattle.chain_meaning.specs.Steps.{Answerer, Forward, Step, Others, extra_says, verdict_decides}
use Rattle.chain_build.specs.Compiled.{back_of}
use Rattle.chain_build.specs.Walking.{Answered, Restored, Said, Tries, answered, decided, decision_of}
use Rattle.chain_build.specs.Giving.{gave}
use Rattle.chain_build.specs.declared.block_chain.BackAnswerer.{BackAnswerer}
use Rattle.chain_build.specs.declared.ended.Ended.{Ended}
use Rattle.chain_build.specs.declared.given.Given.{Given}

pub decided-err : (result : Result Ended NoMemory) (answer : AnswerData) → IsErr result → IsErr (decided result answer)
decided-err (Ok e) answer fails = absurd cc
decided-err (Err x) answer fails = refl

pub gave-err : (result : Result Given NoMemory) (answer : AnswerData) → IsErr result → IsErr (gave result answer)
gave-err (Ok g) answer fails = absurd cc
gave-err (Err x) answer fails = refl

-- want of memory before the first mark
pub asks-starved : {A : Type 0} (means : List Mark → Meaning A) {result : Result A NoMemory} {old : SideState} {k : Kept}
    → IsErr result → Starved (means []) → Asks means result old old k k
asks-starved means {result = Ok v} fails starved = absurd cc
asks-starved means {result = Err e} {old = old} fails starved =
    record { inners = []; told = adds-nothing old; stays = stays-nothing old; kept = tt; took = starved }

-- a plugin answered, or goes on
pub answers : (plugin : Answerer) (rest : Query → List Mark → Meaning Decision) (q : Query) (old new : AnswerData) {r : Option Ended} (e : Ended)
    → Answered plugin q old new (Ok r) → r ≡ Some e → (left : List Mark) → onward (answer_of plugin q left) (or_rest rest q) ≡ Done (decision_of e new) left
answers plugin rest q old new e answered is left =
    let says : (marks : List Mark) → answer_of plugin q marks ≡ Done (Some (decision_of e new)) marks = subst (λ o. Answered plugin q old new (Ok o)) is answered in
    ap (λ x. onward x (or_rest rest q)) (says left)

pub goes : (plugin : Answerer) (rest : Query → List Mark → Meaning Decision) (q : Query) (old new : AnswerData) {r : Option Ended}
    → Answered plugin q old new (Ok r) → r ≡ None → (left : List Mark) → onward (answer_of plugin q left) (or_rest rest q) ≡ rest q left
goes plugin rest q old new answered is left =
    let both : (new ≡ old) × ((marks : List Mark) → answer_of plugin q marks ≡ Done None marks) = subst (λ o. Answered plugin q old new (Ok o)) is answered in
    ap (λ x. onward x (or_rest rest q)) (both.1 left)

-- a walk that asks nothing, by the same meaning under another name
pub tries-as : (means other : List Mark → Meaning Decision) (slot : AnswerData) (r : Result (Option Ended) NoMemory) → ((marks : List Mark) → other marks ≡ means marks) → Tries means slot r → Tries other slot r
tries-as means other slot (Ok None) same h = h
tries-as means other slot (Ok (Some e)) same h = λ left. same left ∙ h left
tries-as means other slot (Err x) same h = subst Starved (sym (same [])) h

pub tries-err : (means : List Mark → Meaning Decision) (slot : AnswerData) (r : Result (Option Ended) NoMemory) → IsErr r → Starved (means []) → Tries means slot r
tries-err means slot (Ok o) fails none = absurd cc
tries-err means slot (Err x) fails none = none

pub tried : (means : List Mark → Meaning Decision) (slot : AnswerData) (r : Option Ended) (e : Ended) → Tries means slot (Ok r) → r ≡ Some e → (left : List Mark) → means left ≡ Done (decision_of e slot) left
tried means slot r e h is = let ended : Tries means slot (Ok (Some e)) = subst (λ o. Tries means slot (Ok o)) is h in ended

pub goes_clear : (plugin : Answerer) (q : Query) (old new : AnswerData) {r : Option Ended} → Answered plugin q old new (Ok r) → r ≡ None → new ≡ old
goes_clear plugin q old new answered is =
    let both : (new ≡ old) × ((marks : List Mark) → answer_of plugin q marks ≡ Done None marks) = subst (λ o. Answered plugin q old new (Ok o)) is answered in both.0

pub rewritten_nothing : (back : List BackAnswerer) (ds : List Directive) (changed : Changed) → Starved (rewritten (mean (map back_of back)) ds changed [])
rewritten_nothing back ds changed = starved_onward (mean (map back_of back) changed.query []) (reply_restored ds changed) (mean_nothing (map back_of back) changed.query) (λ v. refl)

restores : (ds : List Directive) (changed : Changed) (v : Decision) (slot : AnswerData) (result : Result Ended NoMemory) {side : SideState} {k : Kept}
    → Restored ds changed v slot result → Asks (reply_restored ds changed v) (decided result slot) side side k k
restores ds changed v slot (Ok e) h = asks-nothing (reply_restored ds changed v) (λ left. ap (λ w. Done w left) h)
restores ds changed v slot (Err e) h = asks-starved (reply_restored ds changed v) refl refl

pub restored-asks : (ds : List Directive) (changed : Changed) (v : Decision) (slot : AnswerData) (result : Result Ended NoMemory) {side : SideState} {k l : Kept}
    → Restored ds changed v slot result → l ≡ k → Asks (reply_restored ds changed v) (decided result slot) side side k l
restored-asks ds changed v slot result {side} {k} {l} h same =
    subst (λ (x : Kept). Asks (reply_restored ds changed v) (decided result slot) side side k x) (sym same) (restores ds changed v slot result h)

-- plugins of others: memory ran out, they said something, or they go on
pub others_starved : (says : Query → Option Decision) (steps : List Step) (q : Query) (result : Result Ended NoMemory) (answer : AnswerData) (side : SideState)
    → IsErr result → Takes (mean (Others says ∷ steps) q) (decided result answer) side side
others_starved says steps q result answer side fails = takes-starved (mean (Others says ∷ steps) q) (decided-err result answer fails) (mean_nothing (Others says ∷ steps) q)

pub others : (says : Query → Option Decision) (steps : List Step) (q : Query) {o : Option Decision} → says q ≡ o → (marks : List Mark)
    → mean (Others says ∷ steps) q marks ≡ or_rest (mean steps) q o marks
others says steps q said marks = mean-step (Others says) steps q marks ∙ rule-others says (mean steps) q marks ∙ ap (λ o. or_rest (mean steps) q o marks) said

pub others_say : (says : Query → Option Decision) (steps : List Step) (q : Query) (v : Decision) (side : SideState)
    → says q ≡ Some v → Takes (mean (Others says ∷ steps) q) (Ok v) side side
others_say says steps q v side said = takes-nothing (mean (Others says ∷ steps) q) (others says steps q said)

pub others_go : (says : Query → Option Decision) (steps : List Step) (q : Query) (result : Result Decision NoMemory) (old new : SideState)
    → says q ≡ None → Takes (mean steps q) result old new → Takes (mean (Others says ∷ steps) q) result old new
others_go says steps q result old new said takes = takes-as (mean steps q) (mean (Others says ∷ steps) q) (others says steps q said) takes

-- what the extras of a block say in turn decides what each in turn does
next_decides : (v next : Verdict) → verdict_decides (or_next v next) ≡ option_or (verdict_decides v) (verdict_decides next)
next_decides (verdict.Reply answer) next = refl
next_decides verdict.Pass next = refl
next_decides verdict.Drop next = refl
next_decides (verdict.Code code) next = refl

pub turns : (said : Sayings) (ds : List Directive) (q : Query) (v : Verdict) → v ≡ in_turn said ds q → extras_say said ds q ≡ verdict_decides v
turns said [] q v e = ap verdict_decides (sym e)
turns said (d ∷ ds) q v e =
    ap (option_or (extra_says said d q)) (turns said ds q (in_turn said ds q) refl) ∙ sym (next_decides (said d.name d q) (in_turn said ds q)) ∙ ap verdict_decides (sym e)

-- what a plugin that takes no marks answered asks nothing
answered_so : (plugin : Answerer) (q : Query) (old new : AnswerData) (r : Result (Option Ended) NoMemory) {side : SideState} {k : Kept}
    → Answered plugin q old new r → Asks (answer_of plugin q) (answered r new) side side k k
answered_so plugin q old new (Ok None) h = asks-nothing (answer_of plugin q) h.1
answered_so plugin q old new (Ok (Some e)) h = asks-nothing (answer_of plugin q) h
answered_so plugin q old new (Err e) h = asks-starved (answer_of plugin q) refl (answer_nothing plugin q)

pub answered_asks : (plugin : Answerer) (q : Query) (old new : AnswerData) (r : Result (Option Ended) NoMemory) {side : SideState} {k l : Kept}
    → Answered plugin q old new r → l ≡ k → Asks (answer_of plugin q) (answered r new) side side k l
answered_asks plugin q old new r {side} {k} {l} h same =
    subst (λ (x : Kept). Asks (answer_of plugin q) (answered r new) side side k x) (sym same) (answered_so plugin q old new r h)

pub answered_next : (plugin : Answerer) (q : Query) (old new : AnswerData) (r : Result (Option Ended) NoMemory) → Answered plugin q old new r → IfOk r (λ o. o ≡ None → new ≡ old)
answered_next plugin q old new (Ok None) h = λ none. h.0
answered_next plugin q old new (Ok (Some e)) h = λ none. absurd cc
answered_next plugin q old new (Err e) h = tt

-- a plugin answered by what it asked, or goes on
pub asked_ends : (plugin : Answerer) (rest : Query → List Mark → Meaning Decision) (q : Query) (slot : AnswerData) {r : Option Ended} (e : Ended) {old new : SideState} {a b : Kept}
    → Asks (answer_of plugin q) (answered (Ok r) slot) old new a b → r ≡ Some e → Asks (λ marks. onward (answer_of plugin q marks) (or_rest rest q)) (Ok (decision_of e slot)) old new a b
asked_ends plugin rest q slot e {old} {new} {a} {b} asks is =
    asks-then (answer_of plugin q) (or_rest rest q) (subst (λ (o : Option Ended). Asks (answer_of plugin q) (answered (Ok o) slot) old new a b) is asks)
    (asks-nothing (or_rest rest q (Some (decision_of e slot))) (λ left. refl))

pub asked_on : (plugin : Answerer) (rest : Query → List Mark → Meaning Decision) (q : Query) (slot : AnswerData) {r : Option Ended} {result : Result Decision NoMemory} {old mid new : SideState} {a b c : Kept}
    → Asks (answer_of plugin q) (answered (Ok r) slot) old mid a b → r ≡ None → Asks (rest q) result mid new b c
    → Asks (λ marks. onward (answer_of plugin q marks) (or_rest rest q)) result old new a c
asked_on plugin rest q slot {r} {result} {old} {mid} {new} {a} {b} {c} asks is behind =
    asks-then (answer_of plugin q) (or_rest rest q) (subst (λ (o : Option Ended). Asks (answer_of plugin q) (answered (Ok o) slot) old mid a b) is asks) behind

pub asked_fails : (plugin : Answerer) (steps : List Step) (q : Query) {result : Result Decision NoMemory} {e : NoMemory} {old new : SideState} {a b : Kept}
    → IsErr result → Asks (answer_of plugin q) (Err e) old new a b → Asks (λ marks. onward (answer_of plugin q marks) (or_rest (mean steps) q)) result old new a b
asked_fails plugin steps q fails asks =
    asks-fails (answer_of plugin q) (or_rest (mean steps) q) fails asks (or_rest_nothing (mean steps) q (mean_nothing steps q))

-- the upstreams of a block said this
pub forwarded : (plans : List ForwardData) (q : Query) (says : ForwardSay) (slot : AnswerData) (o : Option Ended) {old new : ForwardState}
    → Forwards (forward_means plans q) (said (Ok says) slot) old new → answered (Ok o) slot ≡ Ok (forward_answer (said_of says slot))
    → Asks (answer_of (Forward plans) q) (answered (Ok o) slot) old.side new.side old.kept new.kept
unfolding answer_of
forwarded plans q says slot o {old} {new} p is =
    subst (λ (r : Result (Option Decision) NoMemory). Asks (λ marks. onward (forward_means plans q marks) forward_answered) r old.side new.side old.kept new.kept) (sym is)
    (asks-then (forward_means plans q) forward_answered (forwards_ask (forward_means plans q) p) (asks-nothing (forward_answered (said_of says slot)) (λ left. refl)))

pub forward_starves : (plans : List ForwardData) (q : Query) (e : NoMemory) (result : Result (Option Ended) NoMemory) (slot : AnswerData) {old new : ForwardState}
    → IsErr result → Forwards (forward_means plans q) (Err e) old new → Asks (answer_of (Forward plans) q) (answered result slot) old.side new.side old.kept new.kept
unfolding answer_of
forward_starves plans q e (Ok o) slot fails p = absurd cc
forward_starves plans q e (Err f) slot fails p = asks-fails (forward_means plans q) forward_answered refl (forwards_ask (forward_means plans q) p) (λ v. refl)

-- plugins of others go on
pub said_none : (says : Query → Option Decision) (q : Query) (old new : AnswerData) {r : Option Ended} → Said says q old new (Ok r) → r ≡ None → says q ≡ None
said_none says q old new said is =
    let both : (new ≡ old) × (says q ≡ None) = subst (λ (o : Option Ended). Said says q old new (Ok o)) is said in both.1
