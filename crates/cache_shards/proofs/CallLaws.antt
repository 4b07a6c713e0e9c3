-- What a call of a shard's lock tells of the shard's history.
use Rattle.std.proofs.Common.{◌≡◌, ℕ, List, [], ◌∷◌, ◌++◌, map, Option, Some, flat_map, option_to_list, slice_get, refl, sym, ap}
use Rattle.std.proofs.Common.{◌∙◌, subst, append-nil, append_assoc}
use Rattle.std.proofs.lemmas.Option.{same_Some}
use Rattle.std.specs.Arc.{arc_value}
use Rattle.atomic_table.specs.Seated.{TableId}
use Rattle.outside.specs.{EntryData}
use Rattle.outside.specs.Keys.{shard_of}
use Rattle.outside.specs.declared.entry.Key.{Key}
use Rattle.outside.specs.declared.mark.Mark.{Mark}
use Rattle.outside.specs.declared.mark.Mark.TheVariants as mark
use Rattle.ruled_lock.specs.Histories.{Leads}
use Rattle.ruled_lock.specs.Steps.{CanBe, OwnsApart}
use Rattle.ruled_lock.specs.Calls.{IsCall, IsMeeting, called_view, own_calls, met_calls}
use Rattle.cache_shards.specs.declared.calls.ShardCall.{ShardCall}
use Rattle.cache_shards.specs.declared.calls.ShardCall.TheVariants.{Get, Put}
use Rattle.cache_shards.specs.declared.calls.ShardReply.{ShardReply}
use Rattle.cache_shards.specs.declared.shard.Shard.{Shard}
use Rattle.cache_shards.specs.Answers.{Capacities, Room, IsLegal}
use Rattle.cache_shards.specs.Steps.{Steps, IsAllowed}
use Rattle.cache_shards.specs.Marks.{marks_of, all_marks}
use Rattle.cache_shards.specs.Hits.{PutsAreJust, WasPut}
use Rattle.cache_shards.specs.Calls.{IsJustCall}
use Rattle.cache_shards.specs.Seats.{told, ShardView, ShardSeat, view_of, IsSeat, Adds, AddsAt, IsHit, Meets}
use Rattle.cache_shards.proofs.ShardLaws.{legal, answered_rest}
use Rattle.cache_shards.proofs.Hits.{just_along, judge_along, hit_stands, hit_lives, put_further, put_just, just_first}
use Rattle.cache_shards.proofs.SeatLists.{get_set}

pub flat_append : {A B : Type 0} (f : A → List B) (xs ys : List A)
    → flat_map f (xs ++ ys) ≡ flat_map f xs ++ flat_map f ys
flat_append f [] ys = refl
flat_append f (x ∷ xs) ys = ap (λ (l : List _). f x ++ l) (flat_append f xs ys)
    ∙ sym (append_assoc (f x) (flat_map f xs) (flat_map f ys))

-- one call more
pub marks_snoc : (log : List (ShardCall × ShardReply)) (c : ShardCall) (r : ShardReply)
    → all_marks (log ++ (c, r) ∷ []) ≡ all_marks log ++ marks_of (c, r)
marks_snoc log c r = flat_append marks_of log ((c, r) ∷ []) ∙ ap (λ (l : List Mark). all_marks log ++ l) (append-nil
    (marks_of (c, r)))

told_snoc : (calls : List (Option (ShardCall × ShardReply))) (c : ShardCall) (r : ShardReply)
    → all_marks (told (calls ++ Some (c, r) ∷ [])) ≡ all_marks (told calls) ++ marks_of (c, r)
told_snoc calls c r = ap all_marks (flat_append option_to_list calls (Some (c, r) ∷ [])) ∙ marks_snoc (told calls) c r

module _ {J : Type 0} (just : J → EntryData → Type 0) where
  pub may_call : (caps : Capacities) (judge : J) (id : TableId) (seat : ShardSeat J) (c : ShardCall)
      → IsSeat caps judge id seat → IsJustCall (just judge) c
      → (x : Shard J) → CanBe Steps (IsAllowed just) (view_of seat) x → IsAllowed just x c
  may_call caps judge id seat (Get key now) h good x can = tt
  may_call caps judge id seat (Put key a) h good x can =
      let same : can.0 ≡ h.start = same_Some can.0 h.start (sym can.1 ∙ h.starts) in
      let e : x.judge.value ≡ judge = judge_along just can.0 (view_of seat).seen x can.2
      ∙ ap (λ (z : Shard J). z.judge.value) same ∙ h.judge_is in
      subst (λ (j : J). just j (arc_value a)) (sym e) good

  -- a history that the seat has seen is legal, and what was put is just
  pub seen_legal : (caps : Capacities) (judge : J) (id : TableId) (seat : ShardSeat J) → Room caps
      → IsSeat caps judge id seat → ((x : Shard J) × CanBe Steps (IsAllowed just) (view_of seat) x)
      → IsLegal caps (all_marks (view_of seat).seen) × PutsAreJust (just judge) (all_marks (view_of seat).seen)
  seen_legal caps judge id seat room h t =
      let can = t.1 in
      let same : can.0 ≡ h.start = same_Some can.0 h.start (sym can.1 ∙ h.starts) in
      let leads : Leads Steps (IsAllowed just) h.start (view_of seat).seen t.0 = subst (λ (z : Shard J). Leads Steps
      (IsAllowed just) z (view_of seat).seen t.0) same can.2 in (
        legal caps room (IsAllowed just) h.start (view_of seat).seen t.0 h.empty leads,
        subst (λ (j : J). PutsAreJust (just j) (all_marks (view_of seat).seen)) h.judge_is (just_along just h.start
            (view_of seat).seen t.0 leads),
      )

  pub seat_stays : (caps : Capacities) (judge : J) (id : TableId) (seat new : ShardSeat J)
      → new.seat.table_id ≡ seat.seat.table_id → (view_of new).start ≡ (view_of seat).start
      → IsSeat caps judge id seat → IsSeat caps judge id new
  seat_stays caps judge id seat new own start h = record {
    own = own ∙ h.own;
    start = h.start;
    starts = start
        ∙ h.starts;
    empty = h.empty;
    judge_is = h.judge_is;
  }

  pub called : (caps : Capacities) (judge : J) (id : TableId) (seat new : ShardSeat J) (c : ShardCall)
      (r : ShardReply) → Room caps → IsSeat caps judge id seat → new.seat.table_id ≡ seat.seat.table_id
      → IsCall Steps (IsAllowed just) (view_of seat) c r (view_of new)
      → own_calls (view_of new) ≡ own_calls (view_of seat) ++ Some (c, r) ∷ []
      → met_calls (view_of new) ≡ met_calls (view_of seat)
      → IsSeat caps judge id new × Adds caps (just judge) (view_of seat) (view_of new) (marks_of (c, r))
  called caps judge id seat new c r room h own call calls met =
      let v = view_of seat in
      let is : view_of new ≡ called_view v call.0.0 c r = call.0.1 in
      let stays = seat_stays caps judge id seat new own (ap (λ (w : ShardView J). w.start) is) h in
      let good = seen_legal caps judge id new room stays (call.1, call.2) in (
        stays,
        record {
          before = all_marks (v.seen ++ call.0.0);
          begins = (all_marks call.0.0, flat_append marks_of v.seen call.0.0);
          seen = ap (λ (w : ShardView J). all_marks w.seen) is ∙ marks_snoc (v.seen ++ call.0.0) c r;
          legal = good.0;
          puts = good.1;
          own = ap (λ (l : List (Option (ShardCall × ShardReply))). all_marks (told l)) calls
              ∙ told_snoc (own_calls v) c r;
          met = ap (λ (l : List (List (Option (ShardCall × ShardReply)))). map (λ m. all_marks (told m)) l) met;
          parts = (ap (λ (w : ShardView J). w.parts) is, ap (λ (w : ShardView J). w.all) is);
        },
      )

-- the entry of a hit was put before in the shard's history, is live and just
module _ {J : Type 0} (caps : Capacities) (just : EntryData → Type 0) where
  pub hit_law : (at : ℕ) (views news : List (ShardView J)) (key : Key) (now : ℕ) (e : EntryData) → at ≡ shard_of key
      → AddsAt caps just at views news (mark.Looked key now (Some e) ∷ [])
      → IsHit just news key now e
  hit_law at views news key now e here a =
      let h = a.adds in
      let m = mark.Looked key now (Some e) in
      let legal_here = subst (λ (l : List Mark). IsLegal caps l) h.seen h.legal in
      let answered = (answered_rest caps [] h.before (m ∷ []) legal_here).0 in
      let was : WasPut key e h.before = hit_stands caps h.before key now e answered in
      record {
        view = a.new;
        is = ap (slice_get news) (sym here) ∙ ap (λ (l : List (ShardView J)). slice_get l at) a.is
            ∙ get_set views at a.view a.new a.was;
        was = subst (λ (l : List Mark). WasPut key e l) (sym h.seen) (put_further key e h.before (m ∷ []) was);
        lives = hit_lives caps h.before key now e answered;
        fair = put_just just h.before key e (just_first just h.before (m ∷ []) (subst (λ
            (l : List Mark). PutsAreJust just l) h.seen h.puts)) was;
      }

map_append : {A B : Type 0} (f : A → B) (xs ys : List A) → map f (xs ++ ys) ≡ map f xs ++ map f ys
map_append f [] ys = refl
map_append f (x ∷ xs) ys = ap (λ (l : List _). f x ∷ l) (map_append f xs ys)

module _ {J : Type 0} where
  pub meets : (v w u : ShardView J) → OwnsApart u → IsMeeting v w u → own_calls u ≡ own_calls v
      → met_calls u ≡ met_calls v ++ own_calls w ∷ met_calls w → Meets v w u
  meets v w u apart h own met = record {
    own = ap (λ (l : List (Option (ShardCall × ShardReply))). all_marks (told l)) own;
    met = ap (λ (l : List (List (Option (ShardCall × ShardReply)))). map (λ m. all_marks (told m)) l) met
        ∙ map_append (λ m. all_marks (told m)) (met_calls v) (own_calls w ∷ met_calls w);
    parts = (ap (λ (z : ShardView J). z.parts) h.0, ap (λ (z : ShardView J). z.all) h.0);
    begins = (h.1, h.2);
    apart = apart;
  }
