-- What is kept of a shard's history stays right.
use Rattle.std.proofs.Common.{◌≡◌, ℕ, ◌<◌, Bool, true, false, cond, not, ◌&&◌, List, [], ◌∷◌, ◌++◌}
use Rattle.std.proofs.Common.{Option, Some, None, option_map, refl, sym, ap, ◌∙◌, subst, append-nil}
use Rattle.std.specs.Option.{is_some, option_or}
use Rattle.std.specs.Map.{lookup}
use Rattle.std.proofs.lemmas.Bool.{and_parts, false≢true, not-true}
use Rattle.std.proofs.lemmas.Option.{cond_some}
use Rattle.lru.specs.LruCache.{LruCache, lru_cache, promoted, put_entries}
use Rattle.outside.specs.{EntryData, same_key}
use Rattle.outside.specs.declared.entry.Key.{Key}
use Rattle.outside.specs.declared.entry.Class.{Class}
use Rattle.outside.specs.declared.mark.Mark.{Mark}
use Rattle.outside.specs.declared.mark.Mark.TheVariants.{Looked, Put}
use Rattle.last_used.specs.Uses.{is_kept, last_used}
use Rattle.last_used.specs.Stores.{IsStoreOf}
use Rattle.last_used.proofs.Latest.{last_append}
use Rattle.last_used.proofs.Stores.{looked, promotes, puts}
use Rattle.cache_shards.specs.Answers.{Capacities, answer_at, found, is_denial, is_live, is_success}
use Rattle.cache_shards.specs.Answers.{last_put, live_at, put_of, use_of, uses}
use Rattle.cache_shards.proofs.StoreLaws.{exact, put_snoc, uses_snoc}
use Rattle.audit_run.specs.ShardHistories.{StoreShows, StoresShow, TakesLook}

-- what a store has for a key, where it is live
abbrev live_in : {A : Type 0} → (A → EntryData) → LruCache Key A → Key → ℕ → Option EntryData
live_in value_of store key now =
    live_at now (option_map value_of (lookup (same_key key) store.entries))

live_cond : (now : ℕ) (b : Bool) (o : Option EntryData)
    → live_at now (cond b o None) ≡ cond b (live_at now o) None
live_cond now true o = refl
live_cond now false o = refl

-- what was put into a store stands in it
module _ (stands_in : Class → Bool) (key : Key) where
  one_stands : (m : Mark) (e : EntryData) → put_of stands_in key m ≡ Some e
      → stands_in e.class ≡ true
  one_stands (Put other entry true) e h =
      let both = cond_some (stands_in entry.class && same_key key other) entry e h in
      subst (λ z. stands_in z.class ≡ true) both.1
      (and_parts (stands_in entry.class) (same_key key other) both.0).0
  one_stands other e h = cc

  put_stands : (marks : List Mark) (e : EntryData) → last_put stands_in key marks ≡ Some e
      → stands_in e.class ≡ true
  put_stands [] e h = cc
  put_stands (m ∷ marks) e h = by_last (last_put stands_in key marks) refl (put_stands marks e) h
    where
      by_last : (o : Option EntryData) → last_put stands_in key marks ≡ o
          → (last_put stands_in key marks ≡ Some e → stands_in e.class ≡ true)
          → option_or o (put_of stands_in key m) ≡ Some e → stands_in e.class ≡ true
      by_last (Some d) is more h = more (is ∙ h)
      by_last None is more h = one_stands m e h

module _ {A : Type 0} (value_of : A → EntryData) (stands_in : Class → Bool) (most : ℕ)
    (marks : List Mark) (store : LruCache Key A)
    (shows : StoreShows value_of stands_in most marks store) where
  -- it is what counting says
  pub looked_is : (key : Key) (now : ℕ)
      → live_in value_of store key now ≡ found stands_in most key now marks
  looked_is key now =
      ap (live_at now) (looked exact store (uses stands_in marks) key shows.entries)
      ∙ live_cond now (is_kept same_key store.cap key (uses stands_in marks))
      (last_used same_key key (uses stands_in marks))
      ∙ ap (λ o. cond (is_kept same_key store.cap key (uses stands_in marks)) (live_at now o) None)
      (shows.last key)
      ∙ ap (λ n. cond (is_kept same_key n key (uses stands_in marks))
      (live_at now (last_put stands_in key marks)) None) shows.capacity

  -- the last entry of a key that is there
  last_there : (key : Key) (a : A) → lookup (same_key key) store.entries ≡ Some a
      → last_used same_key key (uses stands_in marks) ≡ Some (value_of a)
  last_there key a is = by_test (is_kept same_key store.cap key (uses stands_in marks))
      (sym (looked exact store (uses stands_in marks) key shows.entries)
      ∙ ap (option_map value_of) is)
    where
      by_test : (b : Bool)
          → cond b (last_used same_key key (uses stands_in marks)) None ≡ Some (value_of a)
          → last_used same_key key (uses stands_in marks) ≡ Some (value_of a)
      by_test true g = g
      by_test false g = cc

  -- an entry stands in the store of its class
  pub stands : (key : Key) (a : A) → lookup (same_key key) store.entries ≡ Some a
      → stands_in (value_of a).class ≡ true
  stands key a is =
      put_stands stands_in key marks (value_of a) (sym (shows.last key) ∙ last_there key a is)

  -- a mark that is no use of this store
  pub other_shows : (m : Mark) → use_of stands_in m ≡ []
      → ((key : Key) → put_of stands_in key m ≡ None)
      → StoreShows value_of stands_in most (marks ++ m ∷ []) store
  other_shows m unused put =
      let us = uses stands_in marks in
      let same : uses stands_in (marks ++ m ∷ []) ≡ us = uses_snoc stands_in marks m
      ∙ ap (λ l. us ++ l) unused ∙ append-nil us in
      record {
        entries = subst (λ l. IsStoreOf value_of same_key store l) (sym same) shows.entries;
        capacity = shows.capacity;
        last = λ key. ap (last_used same_key key) same ∙ shows.last key
            ∙ ap (λ o. option_or o (last_put stands_in key marks)) (sym (put key))
            ∙ sym (put_snoc stands_in key marks m);
      }

  module _ (some : 0 < most) where
    room : 0 < store.cap
    room = subst (λ n. 0 < n) (sym shows.capacity) some

    -- a hit is a use
    pub hit_shows : (key : Key) (now : ℕ) (a : A) → lookup (same_key key) store.entries ≡ Some a
        → stands_in (value_of a).class ≡ true
        → StoreShows value_of stands_in most (marks ++ Looked key now (Some (value_of a)) ∷ [])
        (lru_cache (promoted (same_key key) store.entries) store.cap)
    hit_shows key now a is class =
        let us = uses stands_in marks in
        let e = value_of a in
        let m = Looked key now (Some e) in
        let grown : uses stands_in (marks ++ m ∷ []) ≡ us ++ (key, e) ∷ [] =
        uses_snoc stands_in marks m ∙ ap (λ b. us ++ cond b ((key, e) ∷ []) []) class in
        let was = last_there key a is in
        record {
          entries = subst (λ l. IsStoreOf value_of same_key
              (lru_cache (promoted (same_key key) store.entries) store.cap) l) (sym grown)
              (promotes exact store us key a room shows.entries is);
          capacity = shows.capacity;
          last = λ k. ap (last_used same_key k) grown ∙ last_append exact k us (key, e)
              ∙ by_test k e was (same_key k key) refl ∙ shows.last k
              ∙ sym (put_snoc stands_in k marks m);
        }
      where
        by_test : (k : Key) (e : EntryData) → last_used same_key key (uses stands_in marks) ≡ Some e
            → (b : Bool) → same_key k key ≡ b
            → option_or (cond b (Some e) None) (last_used same_key k (uses stands_in marks))
            ≡ last_used same_key k (uses stands_in marks)
        by_test k e was true p =
            sym (subst (λ z. last_used same_key z (uses stands_in marks) ≡ Some e)
            (sym (exact.one k key p)) was)
        by_test k e was false p = refl

    -- and so is a put
    pub put_shows : (key : Key) (a : A) → stands_in (value_of a).class ≡ true
        → StoreShows value_of stands_in most (marks ++ Put key (value_of a) true ∷ [])
        (lru_cache (put_entries same_key store key a) store.cap)
    put_shows key a class =
        let us = uses stands_in marks in
        let e = value_of a in
        let m = Put key e true in
        let grown : uses stands_in (marks ++ m ∷ []) ≡ us ++ (key, e) ∷ [] =
        uses_snoc stands_in marks m ∙ ap (λ b. us ++ cond b ((key, e) ∷ []) []) class in
        record {
          entries = subst (λ l. IsStoreOf value_of same_key
              (lru_cache (put_entries same_key store key a) store.cap) l) (sym grown)
              (puts exact store us key a room shows.entries);
          capacity = shows.capacity;
          last = λ k. ap (last_used same_key k) grown ∙ last_append exact k us (key, e)
              ∙ ap (λ o. option_or (cond (same_key k key) (Some e) None) o) (shows.last k)
              ∙ ap (λ b. option_or (cond (b && same_key k key) (Some e) None)
              (last_put stands_in k marks)) (sym class)
              ∙ sym (put_snoc stands_in k marks m);
        }

module _ {A : Type 0} (value_of : A → EntryData) (capacities : Capacities) (marks : List Mark)
    (success denial : LruCache Key A)
    (shows : StoresShow value_of capacities marks success denial) where
  -- which entry is live
  there : (store : LruCache Key A) (key : Key) (now : ℕ) (e : EntryData)
      → Some e ≡ live_in value_of store key now
      → (a : A) × (lookup (same_key key) store.entries ≡ Some a) × (value_of a ≡ e)
  there store key now e h = by_found (lookup (same_key key) store.entries) refl h
    where
      by_live : (a : A) (b : Bool) → Some e ≡ cond b (Some (value_of a)) None → value_of a ≡ e
      by_live a true h = cc
      by_live a false h = cc

      by_found : (o : Option A) → lookup (same_key key) store.entries ≡ o
          → Some e ≡ live_at now (option_map value_of o)
          → (a : A) × (lookup (same_key key) store.entries ≡ Some a) × (value_of a ≡ e)
      by_found None is h = cc
      by_found (Some a) is h = (a, is, by_live a (is_live (value_of a) now) h)

  pub idle : (m : Mark) → ((stands_in : Class → Bool) → use_of stands_in m ≡ [])
      → ((stands_in : Class → Bool) (key : Key) → put_of stands_in key m ≡ None)
      → StoresShow value_of capacities (marks ++ m ∷ []) success denial
  idle m unused put = record {
    room = shows.room;
    success_shows = other_shows value_of is_success capacities.success marks success
        shows.success_shows m (unused is_success) (put is_success);
    denial_shows = other_shows value_of is_denial capacities.denial marks denial
        shows.denial_shows m (unused is_denial) (put is_denial);
  }

  -- what a get is answered: by the store that is asked first, or else by the other
  answered_first : (key : Key) (now : ℕ) (e : EntryData)
      → Some e ≡ live_in value_of denial key now → Some e ≡ answer_at capacities key now marks
  answered_first key now e h =
      let there : found is_denial capacities.denial key now marks ≡ Some e =
      sym (looked_is value_of is_denial capacities.denial marks denial shows.denial_shows key now)
      ∙ sym h in
      sym (ap (λ o. option_or o (found is_success capacities.success key now marks)) there)

  answered_second : (key : Key) (now : ℕ) → None ≡ live_in value_of denial key now
      → live_in value_of success key now ≡ answer_at capacities key now marks
  answered_second key now h =
      let none : found is_denial capacities.denial key now marks ≡ None =
      sym (looked_is value_of is_denial capacities.denial marks denial shows.denial_shows key now)
      ∙ sym h in
      looked_is value_of is_success capacities.success marks success shows.success_shows key now
      ∙ sym (ap (λ o. option_or o (found is_success capacities.success key now marks)) none)

  -- a get that tells something else is refused
  pub refused : (key : Key) (now : ℕ) (told : Option EntryData) (e : Option EntryData)
      (s d : LruCache Key A) → e ≡ answer_at capacities key now marks → (told ≡ e → ⊥)
      → TakesLook value_of capacities marks key now told false s d
  refused key now told e s d is other = record {
    exact = (λ t. absurd (false≢true t), λ h. absurd (other (h ∙ sym is)));
    shows = λ t. absurd (false≢true t);
  }

  pub refused_first : (key : Key) (now : ℕ) (told : Option EntryData) (e : EntryData)
      → Some e ≡ live_in value_of denial key now → (told ≡ Some e → ⊥)
      → TakesLook value_of capacities marks key now told false success denial
  refused_first key now told e h other =
      refused key now told (Some e) success denial (answered_first key now e h) other

  pub refused_second : (key : Key) (now : ℕ) (told : Option EntryData) (e : EntryData)
      → None ≡ live_in value_of denial key now → Some e ≡ live_in value_of success key now
      → (told ≡ Some e → ⊥)
      → TakesLook value_of capacities marks key now told false success denial
  refused_second key now told e none h other =
      refused key now told (Some e) success denial (h ∙ answered_second key now none) other

  -- a get that tells that there is nothing
  pub missed : (key : Key) (now : ℕ) (told : Option EntryData) (none : Bool)
      → is_some told ≡ not none → None ≡ live_in value_of denial key now
      → None ≡ live_in value_of success key now
      → TakesLook value_of capacities marks key now told none success denial
  missed key now None true e first second = record {
    exact = (λ t. second ∙ answered_second key now first, λ h. refl);
    shows = λ t. idle (Looked key now None) (λ stands_in. refl) (λ stands_in k. refl);
  }
  missed key now None false e first second = absurd (false≢true e)
  missed key now (Some x) true e first second = absurd (false≢true (sym e))
  missed key now (Some x) false e first second = refused key now (Some x) None success denial
      (second ∙ answered_second key now first) (λ h. cc)

  hit_first : (key : Key) (now : ℕ) (e : EntryData) → Some e ≡ live_in value_of denial key now
      → StoresShow value_of capacities (marks ++ Looked key now (Some e) ∷ []) success
      (lru_cache (promoted (same_key key) denial.entries) denial.cap)
  hit_first key now e h =
      let a = there denial key now e h in
      let class : is_denial e.class ≡ true =
      subst (λ z. is_denial z.class ≡ true) a.2
      (stands value_of is_denial capacities.denial marks denial shows.denial_shows key a.0 a.1) in
      subst (λ z. StoresShow value_of capacities (marks ++ Looked key now (Some z) ∷ []) success
      (lru_cache (promoted (same_key key) denial.entries) denial.cap)) a.2 (record {
        room = shows.room;
        success_shows = other_shows value_of is_success capacities.success marks success
            shows.success_shows (Looked key now (Some (value_of a.0)))
            (ap (λ b. cond (not b) ((key, value_of a.0) ∷ []) [])
            (ap (λ z. is_denial z.class) a.2 ∙ class)) (λ k. refl);
        denial_shows = hit_shows value_of is_denial capacities.denial marks denial
            shows.denial_shows shows.room.denial key now a.0 a.1
            (ap (λ z. is_denial z.class) a.2 ∙ class);
      })

  hit_second : (key : Key) (now : ℕ) (e : EntryData) → Some e ≡ live_in value_of success key now
      → StoresShow value_of capacities (marks ++ Looked key now (Some e) ∷ [])
      (lru_cache (promoted (same_key key) success.entries) success.cap) denial
  hit_second key now e h =
      let a = there success key now e h in
      let class : is_success (value_of a.0).class ≡ true =
      stands value_of is_success capacities.success marks success shows.success_shows key a.0 a.1 in
      subst (λ z. StoresShow value_of capacities (marks ++ Looked key now (Some z) ∷ [])
      (lru_cache (promoted (same_key key) success.entries) success.cap) denial) a.2 (record {
        room = shows.room;
        success_shows = hit_shows value_of is_success capacities.success marks success
            shows.success_shows shows.room.success key now a.0 a.1 class;
        denial_shows = other_shows value_of is_denial capacities.denial marks denial
            shows.denial_shows (Looked key now (Some (value_of a.0)))
            (ap (λ b. cond b ((key, value_of a.0) ∷ []) [])
            (not-true (is_denial (value_of a.0).class) class)) (λ k. refl);
      })

  pub took_first : (key : Key) (now : ℕ) (told : Option EntryData) (e : EntryData)
      → Some e ≡ live_in value_of denial key now → told ≡ Some e
      → TakesLook value_of capacities marks key now told true success
      (lru_cache (promoted (same_key key) denial.entries) denial.cap)
  took_first key now told e h is =
      subst (λ o. TakesLook value_of capacities marks key now o true success
      (lru_cache (promoted (same_key key) denial.entries) denial.cap)) (sym is) (record {
        exact = (λ t. answered_first key now e h, λ g. refl);
        shows = λ t. hit_first key now e h;
      })

  pub took_second : (key : Key) (now : ℕ) (told : Option EntryData) (e : EntryData)
      → None ≡ live_in value_of denial key now → Some e ≡ live_in value_of success key now
      → told ≡ Some e
      → TakesLook value_of capacities marks key now told true
      (lru_cache (promoted (same_key key) success.entries) success.cap) denial
  took_second key now told e none h is =
      subst (λ o. TakesLook value_of capacities marks key now o true
      (lru_cache (promoted (same_key key) success.entries) success.cap) denial) (sym is) (record {
        exact = (λ t. h ∙ answered_second key now none, λ g. refl);
        shows = λ t. hit_second key now e h;
      })

  -- a put goes into the store of its class
  pub put_denial : (key : Key) (a : A) → is_denial (value_of a).class ≡ true
      → StoresShow value_of capacities (marks ++ Put key (value_of a) true ∷ []) success
      (lru_cache (put_entries same_key denial key a) denial.cap)
  put_denial key a class = record {
    room = shows.room;
    success_shows = other_shows value_of is_success capacities.success marks success
        shows.success_shows (Put key (value_of a) true)
        (ap (λ b. cond (not b) ((key, value_of a) ∷ []) []) class)
        (λ k. ap (λ b. cond (not b && same_key k key) (Some (value_of a)) None) class);
    denial_shows = put_shows value_of is_denial capacities.denial marks denial
        shows.denial_shows shows.room.denial key a class;
  }

  pub put_success : (key : Key) (a : A) → is_denial (value_of a).class ≡ false
      → StoresShow value_of capacities (marks ++ Put key (value_of a) true ∷ [])
      (lru_cache (put_entries same_key success key a) success.cap) denial
  put_success key a class = record {
    room = shows.room;
    success_shows = put_shows value_of is_success capacities.success marks success
        shows.success_shows shows.room.success key a (ap not class);
    denial_shows = other_shows value_of is_denial capacities.denial marks denial
        shows.denial_shows (Put key (value_of a) true)
        (ap (λ b. cond b ((key, value_of a) ∷ []) []) class)
        (λ k. ap (λ b. cond (b && same_key k key) (Some (value_of a)) None) class);
  }
