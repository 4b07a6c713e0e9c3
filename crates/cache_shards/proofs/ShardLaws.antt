-- A history from the empty shard is legal.
use Rattle.std.proofs.Common.{◌≡◌, ℕ, inl, inr, Bool, true, false, cond, not, ◌&&◌, List, [], ◌∷◌, ◌++◌}
use Rattle.std.proofs.Common.{Option, Some, None, MatchBool, refl, sym, ap, ◌∙◌, subst, append-nil, append_assoc}
use Rattle.std.specs.Option.{option_or}
use Rattle.std.specs.Arc.{arc_value}
use Rattle.last_used.proofs.Stores.{nothing_used}
use Rattle.outside.specs.{EntryData}
use Rattle.outside.specs.declared.entry.Key.{Key}
use Rattle.outside.specs.declared.mark.Mark.{Mark}
use Rattle.outside.specs.declared.mark.Mark.TheVariants as mark
use Rattle.ruled_lock.specs.Histories.{Leads}
use Rattle.cache_shards.specs.declared.calls.ShardCall.{ShardCall}
use Rattle.cache_shards.specs.declared.calls.ShardCall.TheVariants.{Get, Put}
use Rattle.cache_shards.specs.declared.calls.ShardReply.{ShardReply}
use Rattle.cache_shards.specs.declared.calls.ShardReply.TheVariants as reply
use Rattle.cache_shards.specs.declared.shard.Shard.{Shard}
use Rattle.cache_shards.specs.declared.shard.Stores.{Stores}
use Rattle.std.proofs.lemmas.Bool.{not-true}
use Rattle.outside.specs.{same_key}
use Rattle.cache_shards.specs.Answers.{is_denial, is_success, use_of, put_of, Capacities, Room}
use Rattle.cache_shards.specs.Answers.{AreAnswered, IsLegal, found}
use Rattle.cache_shards.specs.Steps.{Steps, Works, Hits, IsEmpty, stores_of, put_in}
use Rattle.cache_shards.specs.Stores.{Held}
use Rattle.cache_shards.specs.Marks.{marks_of, all_marks}
use Rattle.cache_shards.proofs.StoreLaws.{exact, StoreShows, looked_shows, found_in, hit_shows, put_shows}
use Rattle.cache_shards.proofs.StoreLaws.{other_shows}

pub answered_both : (caps : Capacities) (before xs ys : List Mark) → AreAnswered caps before xs
    → AreAnswered caps (before ++ xs) ys → AreAnswered caps before (xs ++ ys)
answered_both caps before [] ys h g = subst (λ (l : List Mark). AreAnswered caps l ys) (append-nil before) g
answered_both caps before (x ∷ xs) ys h g = (
  h.0,
  answered_both caps (before ++ x ∷ []) xs ys h.1 (subst (λ (l : List Mark). AreAnswered caps l ys) (sym
      (append_assoc before (x ∷ []) xs)) g),
)

pub answered_rest : (caps : Capacities) (before xs ys : List Mark) → AreAnswered caps before (xs ++ ys)
    → AreAnswered caps (before ++ xs) ys
answered_rest caps before [] ys h = subst (λ (l : List Mark). AreAnswered caps l ys) (sym (append-nil before)) h
answered_rest caps before (x ∷ xs) ys h =
    subst (λ (l : List Mark). AreAnswered caps l ys) (append_assoc before (x ∷ []) xs) (answered_rest caps
    (before ++ x ∷ []) xs ys h.1)

module _ (caps : Capacities) where
  pub record ShardShows (marks : List Mark) (x : Stores) : Type 0 where
    pub success : StoreShows is_success caps.success marks x.success
    pub denial : StoreShows is_denial caps.denial marks x.denial

  abbrev Goes : List Mark → ShardCall × ShardReply → Stores → Type 0
  Goes marks e y = AreAnswered caps marks (marks_of e) × ShardShows (marks ++ marks_of e) y

  hit_goes : Room caps → (marks : List Mark) (x : Stores) (key : Key) (now : ℕ) (a : Held) (y : Stores)
      → ShardShows marks x → Hits x key now a y → AreAnswered caps marks (mark.Looked key now (Some
      (arc_value a)) ∷ []) × ShardShows (marks ++ mark.Looked key now (Some (arc_value a)) ∷ []) y
  hit_goes room marks x key now a y h (inl g) =
      let class : is_denial (arc_value a).class ≡ true = found_in is_denial caps.denial marks x.denial key now
      (arc_value a) h.denial g.0 in
      let there : found is_denial caps.denial key now marks ≡ Some (arc_value a) = sym
      (looked_shows is_denial caps.denial marks x.denial key now h.denial) ∙ g.0 in
      let m = mark.Looked key now (Some (arc_value a)) in (
        (sym (ap (λ (o : Option EntryData). option_or o (found is_success caps.success key now marks)) there), tt),
        subst (λ (z : Stores). ShardShows (marks ++ m ∷ []) z) (sym g.1) (record {
          success = other_shows is_success caps.success marks x.success m h.success (ap (λ (b : Bool). cond (not b)
              ((key, arc_value a) ∷ []) []) class) (λ k. refl);
          denial = hit_shows is_denial caps.denial marks x.denial key now (arc_value a) room.denial h.denial g.0;
        }),
      )
  hit_goes room marks x key now a y h (inr g) =
      let class : is_success (arc_value a).class ≡ true = found_in is_success caps.success marks x.success key now
      (arc_value a) h.success g.1 in
      let none : found is_denial caps.denial key now marks ≡ None = sym
      (looked_shows is_denial caps.denial marks x.denial key now h.denial) ∙ g.0 in
      let there : found is_success caps.success key now marks ≡ Some (arc_value a) = sym
      (looked_shows is_success caps.success marks x.success key now h.success) ∙ g.1 in
      let m = mark.Looked key now (Some (arc_value a)) in (
        (
          sym (ap (λ (o : Option EntryData). option_or o (found is_success caps.success key now marks)) none
              ∙ there),
          tt,
        ),
        subst (λ (z : Stores). ShardShows (marks ++ m ∷ []) z) (sym g.2) (record {
          success = hit_shows is_success caps.success marks x.success key now (arc_value a) room.success h.success g.1;
          denial = other_shows is_denial caps.denial marks x.denial m h.denial (ap (λ (b : Bool). cond b
              ((key, arc_value a) ∷ []) []) (not-true (is_denial (arc_value a).class) class)) (λ k. refl);
        }),
      )

  put_goes : Room caps → (marks : List Mark) (x : Stores) (key : Key) (a : Held) (y : Stores) (b : Bool)
      → is_denial (arc_value a).class ≡ b → ShardShows marks x
      → MatchBool b (y ≡ record x { denial = put_in x.denial key a })
      (y ≡ record x { success = put_in x.success key a }) → ShardShows (marks ++ mark.Put key
      (arc_value a) true ∷ []) y
  put_goes room marks x key a y true class h g =
      let m = mark.Put key (arc_value a) true in
      subst (λ (z : Stores). ShardShows (marks ++ m ∷ []) z) (sym g) (record {
        success = other_shows is_success caps.success marks x.success m h.success (ap (λ (b : Bool). cond (not b)
            ((key, arc_value a) ∷ []) []) class) (λ k. ap (λ (b : Bool). cond (not b && same_key k key) (Some
            (arc_value a)) None) class);
        denial = put_shows is_denial caps.denial marks x.denial key a room.denial h.denial class;
      })
  put_goes room marks x key a y false class h g =
      let m = mark.Put key (arc_value a) true in
      subst (λ (z : Stores). ShardShows (marks ++ m ∷ []) z) (sym g) (record {
        success = put_shows is_success caps.success marks x.success key a room.success h.success (ap not class);
        denial = other_shows is_denial caps.denial marks x.denial m h.denial (ap (λ (b : Bool). cond b
            ((key, arc_value a) ∷ []) []) class) (λ k. ap (λ (b : Bool). cond (b && same_key k key) (Some
            (arc_value a)) None) class);
      })

  idle_goes : (marks : List Mark) (x y : Stores) (m : Mark) → ShardShows marks x → y ≡ x → use_of is_success m ≡ []
      → use_of is_denial m ≡ [] → ((k : Key) → put_of is_success k m ≡ None) → ((k : Key)
      → put_of is_denial k m ≡ None)
      → ShardShows (marks ++ m ∷ []) y
  idle_goes marks x y m h same a b c d = subst (λ (z : Stores). ShardShows (marks ++ m ∷ []) z) (sym same) (record {
    success = other_shows is_success caps.success marks x.success m h.success a c;
    denial = other_shows is_denial caps.denial marks x.denial m h.denial b d;
  })

  nothing_goes : (marks : List Mark) (x y : Stores) → ShardShows marks x → y ≡ x → ShardShows (marks ++ []) y
  nothing_goes marks x y h same = subst (λ (z : Stores). ShardShows (marks ++ []) z) (sym same) (subst (λ
      (l : List Mark). ShardShows l x) (sym (append-nil marks)) h)

  goes_on : Room caps → (marks : List Mark) (x : Stores) (c : ShardCall) (r : ShardReply) (y : Stores)
      → ShardShows marks x → Works x c r y → Goes marks (c, r) y
  goes_on room marks x (Get key now) (reply.Hit a) y h g = hit_goes room marks x key now a y h g
  goes_on room marks x (Get key now) reply.Miss y h g =
      let first : found is_denial caps.denial key now marks ≡ None = sym
      (looked_shows is_denial caps.denial marks x.denial key now h.denial) ∙ g.0 in
      let second : found is_success caps.success key now marks ≡ None = sym
      (looked_shows is_success caps.success marks x.success key now h.success) ∙ g.1 in (
        (
          sym (ap (λ (o : Option EntryData). option_or o (found is_success caps.success key now marks)) first
              ∙ second),
          tt,
        ),
        idle_goes marks x y (mark.Looked key now None) h g.2 refl refl (λ k. refl) (λ k. refl),
      )
  goes_on room marks x (Get key now) reply.Kept y h g = absurd g
  goes_on room marks x (Get key now) reply.NoMemory y h g = (tt, nothing_goes marks x y h g)
  goes_on room marks x (Put key a) reply.Kept y h g = (
    (tt, tt),
    put_goes room marks x key a y (is_denial
        (arc_value a).class) refl h g,
  )
  goes_on room marks x (Put key a) reply.NoMemory y h g = (
    (tt, tt),
    idle_goes marks x y (mark.Put key
        (arc_value a) false) h g refl refl (λ k. refl) (λ k. refl),
  )
  goes_on room marks x (Put key a) (reply.Hit b) y h g = absurd g
  goes_on room marks x (Put key a) reply.Miss y h g = absurd g

module _ {J : Type 0} (caps : Capacities) where
  pub empty_shows : (x : Shard J) → IsEmpty caps x → ShardShows caps [] (stores_of x)
  empty_shows x h = record {
    success = subst (λ (s : _). StoreShows is_success caps.success [] s) (sym h.success)
        (record { entries = nothing_used exact caps.success; capacity = refl; last = λ key. refl });
    denial = subst (λ (s : _). StoreShows is_denial caps.denial [] s) (sym h.denial)
        (record { entries = nothing_used exact caps.denial; capacity = refl; last = λ key. refl });
  }

  along : Room caps → (allowed : Shard J → ShardCall → Type 0) (x : Shard J) (log : List (ShardCall
      × ShardReply)) (y : Shard J) (marks : List Mark) → ShardShows caps marks (stores_of x)
      → Leads Steps allowed x log y → AreAnswered caps marks (all_marks log)
  along room allowed x [] y marks h g = tt
  along room allowed x (e ∷ log) y marks h g =
      let step = goes_on caps room marks (stores_of x) e.0 e.1 (stores_of g.1) h g.2.1 in
      answered_both caps marks (marks_of e) (all_marks log) step.0 (along room allowed g.1 log y
      (marks ++ marks_of e) step.1 g.3)

  pub legal : Room caps → (allowed : Shard J → ShardCall → Type 0) (x : Shard J) (log : List (ShardCall
      × ShardReply)) (y : Shard J) → IsEmpty caps x → Leads Steps allowed x log y → IsLegal caps (all_marks log)
  legal room allowed x log y empty g = along room allowed x log y [] (empty_shows x empty) g
