-- The turns of a load's workers: all that they put is just, and where all that they found is, their
-- replies have the RCODEs that are meant.
use Rattle.std.proofs.Common.{◌≡◌, ◌∙◌, ◌⊎◌, ◌%◌, ℕ, Bool, true, false, List, [], ◌∷◌, ◌++◌, Option, Some, None, option_map, refl, sym, ap, subst, inl, inr, arith}
use Rattle.std.specs.Prelude.{nat_eq, option_and_then, slice_get}
use Rattle.std.specs.List.{AllByRecursion, flat_map}
use Rattle.std.proofs.lemmas.List.Concat.{flat_map-cons}
use Rattle.corefile_blocks.specs.declared.bundle.Bundle.{Bundle}
use Rattle.dns_data.specs.Message.{AnswerData, MessageData}
use Rattle.dns_data.specs.declared.rcode.TheConstants as rcodes
use Rattle.dns_wire.specs.Asked.{asked_of}
use Rattle.dns_wire.specs.Spells.{SpellsQuery}
use Rattle.dns_wire.specs.Wire.{flag_at}
use Rattle.dns_wire.specs.declared.asked.Asked.{Asked}
use Rattle.message_decoding.specs.Decoding.{decode_query}
use Rattle.message_decoding.specs.Laws.{decodes_queries}
use Rattle.one_history.specs.Calls.{Call}
use Rattle.outside.specs.declared.datagram.Datagram.{Datagram}
use Rattle.outside.specs.declared.mark.Mark.{Mark}
use Rattle.outside.specs.declared.mark.Mark.TheVariants as mark
use Rattle.chain_meaning.specs.{AreCalls, Terms}
use Rattle.chain_meaning.specs.Serving.{AnswersFormErr, AnswersNotImp, Replies, Serves, limit_of, reply_of}
use Rattle.chain_meaning.specs.declared.decision.Decision.{Decision}
use Rattle.chain_meaning.specs.declared.served.Served.TheVariants.{Reply, Silent}
use Rattle.chain_meaning.specs.declared.served.Silence.{Silence}
use Rattle.chain_meaning.specs.declared.served.Silence.TheVariants.{Dropped, Response, Short}
use Rattle.load_maker.specs.{datagrams_in}
use Rattle.load_maker.specs.Summary.{has_code}
use Rattle.load_maker.specs.Taken.{datagram_in}
use Rattle.load_maker.specs.Texts.{conf_text}
use Rattle.query_worker.specs.{MakeCalls}
use Rattle.query_worker.specs.Calls.{MakesCalls}
use Rattle.run_meaning.specs.Turn.{IsLawful, IsPublished, Turn, failed, marks_of, replied, silenced, starved, starved_in, total, unread}
use Rattle.dns_server.proofs.Hits.{IsJustPut}
use Rattle.dns_server.proofs.LoadCalls.{FindJust, comes}
use Rattle.dns_server.specs.LoadCounts.{asked_code, code_in, datagram_code, has_rcode, load_bundle}
use Rattle.dns_server.proofs.LoadTurns.{IsForm, Just}
use Rattle.dns_server.proofs.ReplyCodes.{alone_code, written_code}
use Rattle.dns_server.proofs.SmallNames.{AsksSmall}
use Rattle.dns_server.proofs.TurnCounts.{AnswersAs, IsOfCache, IsOut, back_all, front_all}

none_of : (B : Bundle) (d : Datagram) (o : Option MessageData) → decode_query d.bytes ≡ o → ((m : MessageData) → SpellsQuery d.bytes m → ⊥) → option_and_then (λ (m : MessageData). asked_code B d (asked_of m)) o ≡ None
none_of B d None is none = refl
none_of B d (Some m) is none = absurd (none m (decodes_queries.sound d.bytes m is))

-- a datagram that is no query has no RCODE
no_code : (B : Bundle) (d : Datagram) → ((m : MessageData) → SpellsQuery d.bytes m → ⊥) → datagram_code B d ≡ None
no_code B d none = none_of B d (decode_query d.bytes) refl none

same_Some : (a b : Bundle) → ◌≡◌ {A = Option Bundle} (Some a) (Some b) → a ≡ b
same_Some a b e = cc

-- a turn that met no want of memory
abbrev pub IsFed : Turn → Type 0
IsFed failed = Unit {0}
IsFed unread = ⊥
IsFed (replied serial d marks reply out) = Unit {0}
IsFed (silenced serial d marks why) = Unit {0}
IsFed (starved serial d marks) = ⊥

pub all_fed : (turns : List Turn) → total starved_in turns ≡ 0 → AllByRecursion IsFed turns
all_fed [] none = tt
all_fed (failed ∷ turns) none = (tt, all_fed turns (omega (arith, none)))
all_fed (unread ∷ turns) none = absurd (omega (arith, none))
all_fed (replied serial d marks reply out ∷ turns) none = (tt, all_fed turns (omega (arith, none)))
all_fed (silenced serial d marks why ∷ turns) none = (tt, all_fed turns (omega (arith, none)))
all_fed (starved serial d marks ∷ turns) none = absurd (omega (arith, none))

-- its datagram asks for a name in small letters
abbrev pub IsSmallTurn : Turn → Type 0
IsSmallTurn failed = Unit {0}
IsSmallTurn unread = Unit {0}
IsSmallTurn (replied serial d marks reply out) = AsksSmall d
IsSmallTurn (silenced serial d marks why) = AsksSmall d
IsSmallTurn (starved serial d marks) = AsksSmall d

pub small_turn : (turn : Turn) → AllByRecursion AsksSmall (datagrams_in (marks_of turn)) → IsSmallTurn turn
small_turn failed all = tt
small_turn unread all = tt
small_turn (replied serial d marks reply out) all = (subst (AllByRecursion AsksSmall) (flat_map-cons datagram_in (mark.Got d) (mark.Pinned serial ∷ (marks ++ mark.Sent reply out ∷ mark.Unpinned serial ∷ []))) all).0
small_turn (silenced serial d marks why) all = (subst (AllByRecursion AsksSmall) (flat_map-cons datagram_in (mark.Got d) (mark.Pinned serial ∷ (marks ++ mark.Unpinned serial ∷ []))) all).0
small_turn (starved serial d marks) all = (subst (AllByRecursion AsksSmall) (flat_map-cons datagram_in (mark.Got d) (mark.Pinned serial ∷ (marks ++ mark.Unpinned serial ∷ []))) all).0

abbrev OfCall : (Mark → Type 0) → Call Mark → Type 0
OfCall P c = P c.mark

abbrev joined : List (List (Call Mark)) → List (Call Mark)
joined each = flat_map (λ (calls : List (Call Mark)). calls) each

all_joined : (P : Call Mark → Type 0) (xs ys : List (Call Mark)) → AllByRecursion P xs → AllByRecursion P ys → AllByRecursion P (xs ++ ys)
all_joined P [] ys a b = b
all_joined P (x ∷ xs) ys a b = (a.0, all_joined P xs ys a.1 b)

module _ (zone : List ℕ) (bundles : List Bundle) (terms : Terms) (port : terms.default_port ≡ 53) (forms : (serial : ℕ) (b : Bundle) → slice_get bundles serial ≡ Some b → IsForm zone b) where
  abbrev first : Bundle
  first = load_bundle conf_text zone

  -- what the calls at published serials found is just
  abbrev pub FindAll : List (Call Mark) → Type 0
  FindAll calls = (serial : ℕ) (b : Bundle) → slice_get bundles serial ≡ Some b → FindJust zone serial calls

  module _ (code : ℕ) (no_formerr : nat_eq (rcodes.FORMERR % 16) code ≡ false) (no_notimp : nat_eq (rcodes.NOTIMP % 16) code ≡ false) where
    -- what a turn with these calls comes to
    record Facts (d : Datagram) (serial : ℕ) (calls : List (Call Mark)) (Answers : Type 0) : Type 0 where
      puts : AsksSmall d → AllByRecursion (OfCall (IsJustPut (Just zone))) calls
      answers : AsksSmall d → FindJust zone serial calls → Answers

    reply_code : (d : Datagram) (reply : List ℕ) (asked : Asked) (v : Decision) → Replies d reply asked v → has_code code reply ≡ has_rcode code (code_in v)
    reply_code d reply asked v r =
        ap (has_code code) r.bytes ∙ (written_code (reply_of d asked r.answer) (limit_of d.by asked.opt) code
        ∙ sym (ap (λ (o : Option AnswerData). has_rcode code (option_map (λ (a : AnswerData). a.rcode) o)) r.is))

    alone : (d : Datagram) (serial : ℕ) (marks : List Mark) (calls : List (Call Mark)) (bundle : Bundle) → AreCalls bundle terms serial d marks calls → ((m : MessageData) → SpellsQuery d.bytes m → ⊥) → calls ≡ []
    alone d serial marks calls bundle (inl none) lacks = none.0
    alone d serial marks calls bundle (inr asks) lacks = absurd (lacks asks.queries.message asks.queries.spells)

    no_imp : (d : Datagram) (reply : List ℕ) → AnswersNotImp d reply → (m : MessageData) → SpellsQuery d.bytes m → ⊥
    no_imp d reply a m spells =
        a.asks.opcode (a.asks.head_is.opcode ∙ (sym spells.message.header.opcode ∙ spells.opcode))

    imp_code : (d : Datagram) (reply : List ℕ) → AnswersNotImp d reply → has_code code reply ≡ false
    imp_code d reply a = ap (has_code code) a.bytes ∙ (alone_code a.head.id a.head.opcode a.head.rd rcodes.NOTIMP code ∙ no_notimp)

    form_code : (d : Datagram) (reply : List ℕ) → AnswersFormErr d reply → has_code code reply ≡ false
    form_code d reply a = ap (has_code code) a.bytes ∙ (alone_code a.head.id _ a.head.rd rcodes.FORMERR code ∙ no_formerr)

    without : (d : Datagram) (reply : List ℕ) → AnswersNotImp d reply ⊎ AnswersFormErr d reply → ((m : MessageData) → SpellsQuery d.bytes m → ⊥)
    without d reply (inl a) = no_imp d reply a
    without d reply (inr a) = λ m spells. a.asks.unspelt m spells.message

    without_code : (d : Datagram) (reply : List ℕ) → AnswersNotImp d reply ⊎ AnswersFormErr d reply → has_code code reply ≡ false
    without_code d reply (inl a) = imp_code d reply a
    without_code d reply (inr a) = form_code d reply a

    no_rcode : (d : Datagram) → ((m : MessageData) → SpellsQuery d.bytes m → ⊥) → has_rcode code (datagram_code first d) ≡ false
    no_rcode d lacks = ap (has_rcode code) (no_code first d lacks)

    module _ (bundle : Bundle) (form : IsForm zone bundle) (serial : ℕ) (d : Datagram) (marks : List Mark) (calls : List (Call Mark)) (called : AreCalls bundle terms serial d marks calls) where
      replied_facts : (reply : List ℕ) → Serves bundle terms d marks (Reply reply) → Facts d serial calls (AllByRecursion IsOfCache marks × (has_code code reply ≡ has_rcode code (datagram_code first d)))
      replied_facts reply (inl decides) =
          let to = comes zone bundle terms serial d marks calls port form called decides in
          record {
            puts = λ small. to.puts (small decides.asked decides.queries);
            answers = λ small finds. (to.inner, reply_code d reply decides.asked decides.decision decides.is ∙ ap (has_rcode code) (to.code (small decides.asked decides.queries) finds));
          }
      replied_facts reply (inr other) =
          let lacks = without d reply other.1 in
          record {
            puts = λ small. subst (AllByRecursion (OfCall (IsJustPut (Just zone)))) (sym (alone d serial marks calls bundle called lacks)) tt;
            answers = λ small finds. (subst (AllByRecursion IsOfCache) (sym other.0) tt, without_code d reply other.1 ∙ sym (no_rcode d lacks));
          }

      abbrev Silenced : Type 0
      Silenced = AllByRecursion IsOfCache marks × (has_rcode code (datagram_code first d) ≡ false)

      never : ((m : MessageData) → SpellsQuery d.bytes m → ⊥) → marks ≡ [] → Facts d serial calls Silenced
      never lacks none = record {
        puts = λ small. subst (AllByRecursion (OfCall (IsJustPut (Just zone)))) (sym (alone d serial marks calls bundle called lacks)) tt;
        answers = λ small finds. (subst (AllByRecursion IsOfCache) (sym none) tt, no_rcode d lacks);
      }

      flag_false : (m : MessageData) → SpellsQuery d.bytes m → flag_at d.bytes 2 7 ≡ true → ⊥
      flag_false m spells is =
          let clear : flag_at d.bytes 2 7 ≡ false = sym spells.message.header.qr ∙ spells.qr in
          let same : true ≡ false = sym is ∙ clear in
          absurd cc

      silenced_facts : (why : Silence) → Serves bundle terms d marks (Silent why) → Facts d serial calls Silenced
      silenced_facts Short is = never (λ m spells. let long = spells.message.header.long in let few = is.1 in omega (arith, long, few)) is.0
      silenced_facts Response is = never (λ m spells. flag_false m spells is.2) is.0
      silenced_facts Dropped decides =
          let to = comes zone bundle terms serial d marks calls port form called decides in
          record {
            puts = λ small. to.puts (small decides.asked decides.queries);
            answers = λ small finds. (to.inner, sym (ap (has_rcode code) (to.code (small decides.asked decides.queries) finds)) ∙ ap (λ (w : Decision). has_rcode code (code_in w)) decides.is);
          }

    -- the bundle of a turn's serial is that of its calls
    called_by : (serial : ℕ) (d : Datagram) (marks : List Mark) (calls : List (Call Mark)) (bundle : Bundle) → slice_get bundles serial ≡ Some bundle → MakesCalls bundles terms serial d marks calls → AreCalls bundle terms serial d marks calls
    called_by serial d marks calls bundle at made = subst (λ (b : Bundle). AreCalls b terms serial d marks calls) (same_Some made.bundle bundle (sym made.at ∙ at)) made.is

    turn_facts : (serial : ℕ) (d : Datagram) (marks : List Mark) (reply : List ℕ) (calls : List (Call Mark)) → IsPublished bundles serial (λ b. Serves b terms d marks (Reply reply)) → MakesCalls bundles terms serial d marks calls
        → Facts d serial calls (AllByRecursion IsOfCache marks × (has_code code reply ≡ has_rcode code (datagram_code first d)))
    turn_facts serial d marks reply calls lawful made =
        replied_facts lawful.bundle (forms serial lawful.bundle lawful.at) serial d marks calls (called_by serial d marks calls lawful.bundle lawful.at made) reply lawful.is

    silence_facts : (serial : ℕ) (d : Datagram) (marks : List Mark) (why : Silence) (calls : List (Call Mark)) → IsPublished bundles serial (λ b. Serves b terms d marks (Silent why)) → MakesCalls bundles terms serial d marks calls
        → Facts d serial calls (AllByRecursion IsOfCache marks × (has_rcode code (datagram_code first d) ≡ false))
    silence_facts serial d marks why calls lawful made =
        silenced_facts lawful.bundle (forms serial lawful.bundle lawful.at) serial d marks calls (called_by serial d marks calls lawful.bundle lawful.at made) why lawful.is

    -- all that turns put is just
    pub turns_put : (turns : List Turn) (each : List (List (Call Mark))) → AllByRecursion (IsLawful bundles terms) turns → MakeCalls bundles terms turns each → AllByRecursion IsSmallTurn turns → AllByRecursion IsFed turns
        → AllByRecursion (OfCall (IsJustPut (Just zone))) (joined each)
    turns_put [] [] lawful made small fed = tt
    turns_put [] (calls ∷ each) lawful made small fed = absurd made
    turns_put (failed ∷ turns) each lawful made small fed = turns_put turns each lawful.1 made small.1 fed.1
    turns_put (unread ∷ turns) each lawful made small fed = absurd fed.0
    turns_put (replied serial d marks reply out ∷ turns) [] lawful made small fed = absurd made
    turns_put (silenced serial d marks why ∷ turns) [] lawful made small fed = absurd made
    turns_put (starved serial d marks ∷ turns) each lawful made small fed = absurd fed.0
    turns_put (replied serial d marks reply out ∷ turns) (calls ∷ each) lawful made small fed =
        subst (AllByRecursion (OfCall (IsJustPut (Just zone)))) (sym (flat_map-cons (λ (c : List (Call Mark)). c) calls each))
        (all_joined (OfCall (IsJustPut (Just zone))) calls (joined each) ((turn_facts serial d marks reply calls lawful.0 made.0).puts small.0) (turns_put turns each lawful.1 made.1 small.1 fed.1))
    turns_put (silenced serial d marks why ∷ turns) (calls ∷ each) lawful made small fed =
        subst (AllByRecursion (OfCall (IsJustPut (Just zone)))) (sym (flat_map-cons (λ (c : List (Call Mark)). c) calls each))
        (all_joined (OfCall (IsJustPut (Just zone))) calls (joined each) ((silence_facts serial d marks why calls lawful.0 made.0).puts small.0) (turns_put turns each lawful.1 made.1 small.1 fed.1))

    here_found : (calls others : List (Call Mark)) → FindAll (calls ++ others) → FindAll calls
    here_found calls others finds = λ serial b at shard low. front_all _ calls others (finds serial b at shard low)

    rest_found : (calls others : List (Call Mark)) → FindAll (calls ++ others) → FindAll others
    rest_found calls others finds = λ serial b at shard low. back_all _ calls others (finds serial b at shard low)

    cut_found : (calls : List (Call Mark)) (each : List (List (Call Mark))) → FindAll (joined (calls ∷ each)) → FindAll (calls ++ joined each)
    cut_found calls each finds = subst FindAll (flat_map-cons (λ (c : List (Call Mark)). c) calls each) finds

    cut_out : (turn : Turn) (turns : List Turn) → AllByRecursion IsOut (flat_map marks_of (turn ∷ turns)) → AllByRecursion IsOut (marks_of turn ++ flat_map marks_of turns)
    cut_out turn turns out = subst (AllByRecursion IsOut) (flat_map-cons marks_of turn turns) out

    went_out : (serial : ℕ) (d : Datagram) (marks : List Mark) (reply : List ℕ) (out : Bool) → AllByRecursion IsOut (marks_of (replied serial d marks reply out)) → out ≡ true
    went_out serial d marks reply out all = (back_all IsOut marks (mark.Sent reply out ∷ mark.Unpinned serial ∷ []) all.1.1).0

    -- and where all that they found is just, their replies have the RCODEs that are meant
    pub turns_answer : (turns : List Turn) (each : List (List (Call Mark))) → AllByRecursion (IsLawful bundles terms) turns → MakeCalls bundles terms turns each → AllByRecursion IsSmallTurn turns → AllByRecursion IsFed turns
        → FindAll (joined each) → AllByRecursion IsOut (flat_map marks_of turns) → AllByRecursion (AnswersAs code (datagram_code first)) turns
    turns_answer [] [] lawful made small fed finds out = tt
    turns_answer [] (calls ∷ each) lawful made small fed finds out = absurd made
    turns_answer (failed ∷ turns) each lawful made small fed finds out =
        (tt, turns_answer turns each lawful.1 made small.1 fed.1 finds (back_all IsOut (marks_of failed) (flat_map marks_of turns) (cut_out failed turns out)))
    turns_answer (unread ∷ turns) each lawful made small fed finds out = absurd fed.0
    turns_answer (replied serial d marks reply flag ∷ turns) [] lawful made small fed finds out = absurd made
    turns_answer (silenced serial d marks why ∷ turns) [] lawful made small fed finds out = absurd made
    turns_answer (starved serial d marks ∷ turns) each lawful made small fed finds out = absurd fed.0
    turns_answer (replied serial d marks reply flag ∷ turns) (calls ∷ each) lawful made small fed finds out =
        let turn = replied serial d marks reply flag in
        let cut = cut_found calls each finds in
        let outs = cut_out turn turns out in
        let facts = (turn_facts serial d marks reply calls lawful.0 made.0).answers small.0 (here_found calls (joined each) cut serial lawful.0.bundle lawful.0.at) in
        let sent = went_out serial d marks reply flag (front_all IsOut (marks_of turn) (flat_map marks_of turns) outs) in (
          (facts.0, sent, facts.1),
          turns_answer turns each lawful.1 made.1 small.1 fed.1 (rest_found calls (joined each) cut) (back_all IsOut (marks_of turn) (flat_map marks_of turns) outs),
        )
    turns_answer (silenced serial d marks why ∷ turns) (calls ∷ each) lawful made small fed finds out =
        let turn = silenced serial d marks why in
        let cut = cut_found calls each finds in
        let outs = cut_out turn turns out in (
          (silence_facts serial d marks why calls lawful.0 made.0).answers small.0 (here_found calls (joined each) cut serial lawful.0.bundle lawful.0.at),
          turns_answer turns each lawful.1 made.1 small.1 fed.1 (rest_found calls (joined each) cut) (back_all IsOut (marks_of turn) (flat_map marks_of turns) outs),
        )
