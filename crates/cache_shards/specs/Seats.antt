-- Seats at the shards of a cache, and what their calls tell.
use Rattle.std.specs.Prelude.{◌≡◌, ℕ, zero, suc, ◌+◌, ◌≤◌, List, [], ◌∷◌, ◌++◌, map, flat_map, slice_get, slice_set}
use Rattle.std.specs.Prelude.{Option, Some, option_to_list, length, IsTrue}
use Rattle.std.specs.Arc.{arc_value}
use Rattle.std.specs.List.{AllByRecursion}
use Rattle.atomic_table.specs.Seated.{TableId}
use Rattle.outside.specs.{EntryData}
use Rattle.outside.specs.Keys.{shard_of}
use Rattle.outside.specs.declared.entry.Key.{Key}
use Rattle.outside.specs.declared.mark.Mark.{Mark}
use Rattle.ruled_lock.specs.declared.rule.View.{View}
use Rattle.ruled_lock.specs.declared.seat.SeatOf.{SeatOf}
use Rattle.ruled_lock.specs.Histories.{Begins}
use Rattle.ruled_lock.specs.Steps.{OwnsApart, left_view, right_view}
use Rattle.ruled_lock.specs.Calls.{own_calls, met_calls}
use Rattle.cache_shards.specs.declared.calls.Looked.{Looked}
use Rattle.cache_shards.specs.declared.calls.Looked.TheVariants as looked
use Rattle.cache_shards.specs.declared.calls.ShardCall.{ShardCall}
use Rattle.cache_shards.specs.declared.calls.ShardReply.{ShardReply}
use Rattle.cache_shards.specs.declared.shard.Shard.{Shard}
use Rattle.cache_shards.specs.Answers.{Capacities, Room, IsLegal, is_live}
use Rattle.cache_shards.specs.Steps.{IsEmpty}
use Rattle.cache_shards.specs.Marks.{all_marks}
use Rattle.cache_shards.specs.Hits.{PutsAreJust, WasPut}
use Rattle.cache_shards.specs.Merges.{Merges}

-- the calls, where each is told
abbrev pub told : {E : Type 0} → List (Option E) → List E
told calls = flat_map option_to_list calls

-- A cache as its calls see it.
pub record CacheData (J : Type 0) : Type 0 where
  pub judge : J
  pub capacities : Capacities
  -- the locks of its shards, in order
  pub ids : List TableId

abbrev pub ShardView : Type 0 → Type 0
ShardView J = View (Shard J) ShardCall ShardReply

abbrev pub ShardSeat : Type 0 → Type 0
ShardSeat J = SeatOf (Shard J) ShardCall ShardReply

-- marks come behind those of one part
abbrev pub added_at : ℕ → List Mark → List (List Mark) → List (List Mark)
added_at at marks [] = []
added_at zero marks (part ∷ parts) = (part ++ marks) ∷ parts
added_at (suc at) marks (part ∷ parts) = part ∷ added_at at marks parts

module _ {J : Type 0} where
  abbrev pub view_of : ShardSeat J → ShardView J
  view_of seat = seat.seat.me.0

  abbrev pub views_of : List (ShardSeat J) → List (ShardView J)
  views_of seats = map view_of seats

  -- the marks of the seat's own calls, in order
  abbrev pub own_marks : ShardView J → List Mark
  own_marks view = all_marks (told (own_calls view))

  -- the marks of the calls of each seat that met it, in order
  abbrev pub met_marks : ShardView J → List (List Mark)
  met_marks view = map (λ calls. all_marks (told calls)) (met_calls view)

  -- a seat at this lock, whose shard began empty and with this judge
  pub record IsSeat (capacities : Capacities) (judge : J) (id : TableId) (seat : ShardSeat J)
      : Type 0 where
    pub own : seat.seat.table_id ≡ id
    pub start : Shard J
    pub starts : (view_of seat).start ≡ Some start
    pub empty : IsEmpty capacities start
    pub judge_is : start.judge.value ≡ judge

  -- a seat for each lock, in order
  abbrev pub AreSeats : Capacities → J → List TableId → List (ShardSeat J) → Type 0
  AreSeats capacities judge [] [] = Unit {0}
  AreSeats capacities judge (id ∷ ids) (seat ∷ seats) =
      IsSeat capacities judge id seat × AreSeats capacities judge ids seats
  AreSeats capacities judge ids seats = ⊥

  -- the seats of this cache
  pub record IsSeatOf (cache : CacheData J) (seats : List (ShardSeat J)) : Type 0 where
    pub each : AreSeats cache.capacities cache.judge cache.ids seats
    pub eight : length cache.ids ≡ 8
    pub room : Room cache.capacities

  -- a call of a shard added these marks: they stand behind all that the seat had seen, and behind
  -- its own; the history is legal, and all that was put into it is just
  pub record Adds (capacities : Capacities) (just : EntryData → Type 0) (view new : ShardView J)
      (marks : List Mark) : Type 0 where
    pub before : List Mark
    pub begins : Begins (all_marks view.seen) before
    pub seen : all_marks new.seen ≡ before ++ marks
    pub legal : IsLegal capacities (all_marks new.seen)
    pub puts : PutsAreJust just (all_marks new.seen)
    pub own : own_marks new ≡ own_marks view ++ marks
    pub met : met_marks new ≡ met_marks view
    pub parts : (new.parts ≡ view.parts) × (new.all ≡ view.all)

  -- A cache's seat as its views, one for each shard: its logs, by shard
  abbrev pub logs : List (ShardView J) → List (List Mark)
  logs views = map own_marks views

  -- a call of one shard added these marks there, and left the views of the others as they were
  pub record AddsAt (capacities : Capacities) (just : EntryData → Type 0) (at : ℕ)
      (views news : List (ShardView J)) (marks : List Mark) : Type 0 where
    pub logs : logs news ≡ added_at at marks (logs views)
    pub met : map met_marks news ≡ map met_marks views
    pub parts : (map (λ v. v.parts) news ≡ map (λ v. v.parts) views)
        × (map (λ v. v.all) news ≡ map (λ v. v.all) views)
    pub view : ShardView J
    pub new : ShardView J
    pub was : slice_get views at ≡ Some view
    pub is : news ≡ slice_set views at new
    pub adds : Adds capacities just view new marks

  -- The entry of a hit: it was put under this key, and kept, among what the seat has seen of the
  -- key's shard; it is live, and just.
  pub record IsHit (just : EntryData → Type 0) (news : List (ShardView J)) (key : Key) (now : ℕ)
      (entry : EntryData) : Type 0 where
    pub view : ShardView J
    pub is : slice_get news (shard_of key) ≡ Some view
    pub was : WasPut key entry (all_marks view.seen)
    pub lives : IsTrue (is_live entry now)
    pub fair : just entry

  -- what a get tells of its entry, where it is a hit
  abbrev pub IsHitOf : (EntryData → Type 0) → List (ShardView J) → Key → ℕ → Looked → Type 0
  IsHitOf just news key now (looked.Hit entry) = IsHit just news key now (arc_value entry)
  IsHitOf just news key now result = Unit {0}

  -- each view has so many parts at least
  abbrev pub HaveParts : ℕ → List (ShardView J) → Type 0
  HaveParts least views = AllByRecursion (λ v. least ≤ v.parts) views

  -- one view is cut in two
  pub record CutsAt (at : ℕ) (views news : List (ShardView J)) (right : ShardView J) : Type 0 where
    pub view : ShardView J
    pub was : slice_get views at ≡ Some view
    pub left : news ≡ slice_set views at (left_view view)
    pub right_is : right ≡ right_view view

  -- a view takes over the parts and logs of another; no mark stands in two of its logs, or twice in
  -- one
  pub record Meets (view other new : ShardView J) : Type 0 where
    pub own : own_marks new ≡ own_marks view
    pub met : met_marks new ≡ met_marks view ++ own_marks other ∷ met_marks other
    pub parts : (new.parts ≡ view.parts + other.parts) × (new.all ≡ view.all)
    pub begins : Begins view.seen new.seen × Begins other.seen new.seen
    pub apart : OwnsApart new

  -- a view that knows the whole history of its shard: it is legal, what was put into it is just,
  -- and it has each mark of the view's logs once, in the order of each
  pub record IsWhole (capacities : Capacities) (just : EntryData → Type 0) (view : ShardView J)
      : Type 0 where
    pub legal : IsLegal capacities (all_marks view.seen)
    pub puts : PutsAreJust just (all_marks view.seen)
    pub merges : Merges (own_marks view ∷ met_marks view) (all_marks view.seen)

  -- the view at a place has so many parts at least
  abbrev pub HasPartsAt : ℕ → ℕ → List (ShardView J) → Type 0
  HasPartsAt least at views = (v : ShardView J) → slice_get views at ≡ Some v → least ≤ v.parts

  -- each view has all parts of its shard
  abbrev pub HaveAll : List (ShardView J) → Type 0
  HaveAll views = (at : ℕ) (v : ShardView J) → slice_get views at ≡ Some v → v.parts ≡ v.all

  -- one view takes over another's parts and logs
  pub record MeetsAt (at : ℕ) (views : List (ShardView J)) (other : ShardView J)
      (news : List (ShardView J)) : Type 0 where
    pub view : ShardView J
    pub new : ShardView J
    pub was : slice_get views at ≡ Some view
    pub is : news ≡ slice_set views at new
    pub meets : Meets view other new

  -- each view takes over those of its counterpart
  abbrev pub MeetAll : List (ShardView J) → List (ShardView J) → List (ShardView J) → Type 0
  MeetAll views others news = (at : ℕ) (v w u : ShardView J) → slice_get views at ≡ Some v
      → slice_get others at ≡ Some w → slice_get news at ≡ Some u → Meets v w u

  -- the view at a place knows its shard's whole history
  abbrev pub WholeAt : ℕ → Capacities → (EntryData → Type 0) → List (ShardView J) → Type 0
  WholeAt at capacities just views =
      (v : ShardView J) → slice_get views at ≡ Some v → IsWhole capacities just v

  -- the view of a seat with all parts at a shard that was not called
  pub record IsNewView (all : ℕ) (view : ShardView J) : Type 0 where
    pub seen : view.seen ≡ []
    pub own : own_marks view ≡ []
    pub met : met_marks view ≡ []
    pub parts : (view.parts ≡ all) × (view.all ≡ all)

  abbrev pub AreNew : ℕ → List (ShardView J) → Type 0
  AreNew all views = AllByRecursion (IsNewView all) views
