-- An order is followed place by place.
use Rattle.std.proofs.Common.{◌≡◌, ◌≢◌, ◌≤◌, ◌<◌, ◌+◌, ℕ, zero, suc, Bool, true, false, List, []}
use Rattle.std.proofs.Common.{◌∷◌}
use Rattle.std.proofs.Common.{◌++◌, map, take, length, Option, Some, None, refl, sym, ap, ◌∙◌}
use Rattle.std.proofs.Common.{subst}
use Rattle.std.proofs.Common.{append-nil, append_assoc, arith, eqb-true, eq-eqb, inr, not}
use Rattle.std.specs.Prelude.{◌==◌, ◌&&◌, nat_lt, slice_get, slice_index_or, if◌then◌else◌}
use Rattle.std.proofs.lemmas.Bool.{false≢true}
use Rattle.std.proofs.lemmas.List.{append_cancel_left, map-append, take_all, take_more}
use Rattle.std.proofs.lemmas.Option.{get_or_from_slice_get, same_Some, slice_get_past}
use Rattle.outside.specs.declared.mark.Mark.{Mark}
use Rattle.outside.specs.declared.mark.Mark.TheVariants.{RecvEnd}
use Rattle.one_history.specs.Calls.{Told, calls_by, is_by, marks_at, told_by}
use Rattle.one_history.specs.Runs.{block_at, marks_in}
use Rattle.audit_run.specs.declared.history.History.{History}
use Rattle.audit_run.specs.declared.history.History.TheVariants as history
use Rattle.audit_run.specs.declared.part.PartRule.{PartRule}
use Rattle.audit_run.specs.declared.part.PartRule.TheVariants.{Pool, Shard}
use Rattle.audit_run.specs.declared.part.SharedCall.{SharedCall}
use Rattle.audit_run.specs.declared.part.SharedPart.{SharedPart}
use Rattle.audit_run.specs.declared.place.Place.{Place}
use Rattle.audit_run.specs.declared.record.SideRecord.{SideRecord}
use Rattle.audit_run.specs.declared.rows.LeftCall.{LeftCall}
use Rattle.audit_run.specs.Following.{EmptyRows, IsFollowed, IsUpTo, StandsSo}
use Rattle.audit_run.specs.Histories.{Shows, TakesMark}
use Rattle.audit_run.specs.Orders.{Begins, Fails, FailsAt, IsHistory, place_of}
use Rattle.audit_run.specs.Orders.{told_at}
use Rattle.audit_run.specs.OrdersLaws.{allowed-last, allowed-more, told-then, told_own}
use Rattle.audit_run.specs.declared.place.Order.{Order}
use Rattle.audit_run.specs.Judging.{Lacks, has_order}
use Rattle.audit_run.specs.Parts.{is_block, is_of, numbered, part_marks, run_of}
use Rattle.audit_run.specs.Rows.{TakesPlace, left_call, left_in, left_of, marks_left}
use Rattle.audit_run.specs.Rules.{Allows, all_events}
use Rattle.audit_run.specs.PoolHistories.{ShowsPool}
use Rattle.audit_run.specs.Told.{allows_told, mark_in, shown_in}
use Rattle.audit_run.proofs.Histories.{events-one}
use Rattle.audit_run.proofs.Shards.{idle}

-- a mark that is no call changes nothing
end_allowed : (rule : PartRule) (marks : List Mark) → Allows rule marks RecvEnd
end_allowed (Shard success denial) marks = tt
end_allowed (Pool rule) marks = tt

end_shows : (rule : PartRule) (marks : List Mark) (h : History) → Shows rule marks h
    → Shows rule (marks ++ RecvEnd ∷ []) h
end_shows (Shard success denial) marks (history.Shard h) shows =
    idle (λ e. e.now) _ marks h.success h.denial shows RecvEnd (λ stands_in. refl)
    (λ stands_in k. refl)
end_shows (Shard success denial) marks (history.Pool h) shows = absurd shows
end_shows (Pool rule) marks (history.Shard h) shows = absurd shows
end_shows (Pool rule) marks (history.Pool h) shows =
    subst (λ l. ShowsPool rule l h)
    (sym (events-one marks RecvEnd ∙ append-nil (all_events marks))) shows

module _ (marks : ℕ → ℕ → List ℕ) (rule : PartRule) (sides : List SideRecord)
    (rows : List (List LeftCall)) (h : History) (told : List (Told ℕ))
    (f : IsFollowed marks rule sides rows h told) (place : Place) where
  abbrev one : ℕ → Told ℕ
  one serial = told_at place serial

  abbrev allows : List (Told ℕ) → Told ℕ → Type 0
  allows = allows_told rule sides

  -- the mark is no next one
  pub not_next : (new : List (List LeftCall)) → TakesPlace rows place None new
      → Fails marks allows told (Some place)
  not_next new none serial begins =
      let first = begins.first place.side serial in
      let w = place.side in
      let own : told_by w serial (told ++ one serial ∷ []) ++ first.0
      ≡ told_by w serial told ++ place.mark ∷ first.0 =
      ap (λ l. l ++ first.0) (told-then w serial told (one serial ∷ [])
      ∙ ap (λ l. told_by w serial told ++ l) (told_own (one serial) []))
      ∙ append_assoc (told_by w serial told) (place.mark ∷ []) first.0 in
      none serial first.0
      (append_cancel_left (told_by w serial told) (left_in rows w serial) (place.mark ∷ first.0)
      (sym (f.each w serial) ∙ first.1 ∙ own))

  -- what is left of each
  each_left : (serial : ℕ) (new : List (List LeftCall)) → TakesPlace rows place (Some serial) new
      → (worker other : ℕ) → marks worker other
      ≡ told_by worker other (told ++ one serial ∷ []) ++ left_in new worker other
  each_left serial new takes worker other =
      f.each worker other ∙ ap (λ l. told_by worker other told ++ l) (takes worker other)
      ∙ by_own (is_by worker other (one serial))
      ∙ sym (ap (λ l. l ++ left_in new worker other)
      (told-then worker other told (one serial ∷ [])))
    where
      by_own : (b : Bool)
          → told_by worker other told
          ++ (if b then place.mark ∷ left_in new worker other else left_in new worker other)
          ≡ (told_by worker other told ++ (if b then place.mark ∷ [] else []))
          ++ left_in new worker other
      by_own true =
          sym (append_assoc (told_by worker other told) (place.mark ∷ [])
          (left_in new worker other))
      by_own false =
          sym (append_assoc (told_by worker other told) [] (left_in new worker other))

  shown_more : (serial : ℕ) (g : History)
      → Shows rule (map (shown_in sides) told ++ mark_in sides place.side place.mark ∷ []) g
      → Shows rule (map (shown_in sides) (told ++ one serial ∷ [])) g
  shown_more serial g shows =
      subst (λ l. Shows rule l g) (sym (map-append (shown_in sides) told (one serial ∷ []))) shows

  -- the place is followed
  followed : (serial : ℕ) (new : List (List LeftCall)) → TakesPlace rows place (Some serial) new
      → (g : History)
      → Allows rule (map (shown_in sides) told) (mark_in sides place.side place.mark)
      → Shows rule (map (shown_in sides) told ++ mark_in sides place.side place.mark ∷ []) g
      → IsFollowed marks rule sides new g (told ++ one serial ∷ [])
  followed serial new takes g allowed shows = record {
    each = each_left serial new takes;
    legal = allowed-more allows [] told (one serial) f.legal allowed;
    shows = shown_more serial g shows;
  }

  -- where its mark is no mark of the journal
  pub unnamed : (serial : ℕ) (new : List (List LeftCall)) → TakesPlace rows place (Some serial) new
      → mark_in sides place.side place.mark ≡ RecvEnd
      → StandsSo marks rule sides told place true new h
  unnamed serial new takes none = (
    serial,
    followed serial new takes h
        (subst (λ m. Allows rule (map (shown_in sides) told) m) (sym none)
        (end_allowed rule (map (shown_in sides) told)))
        (subst (λ m. Shows rule (map (shown_in sides) told ++ m ∷ []) h) (sym none)
        (end_shows rule (map (shown_in sides) told) h f.shows)),
  )

  -- and where it is one
  pub named : (serial : ℕ) (new : List (List LeftCall)) → TakesPlace rows place (Some serial) new
      → (m : Mark) → m ≡ mark_in sides place.side place.mark → (taken : Bool) (g : History)
      → TakesMark rule (map (shown_in sides) told) m taken g
      → StandsSo marks rule sides told place taken new g
  named serial new takes m is true g t = (
    serial,
    followed serial new takes g
        (subst (λ x. Allows rule (map (shown_in sides) told) x) is (t.exact.0 refl))
        (subst (λ x. Shows rule (map (shown_in sides) told ++ x ∷ []) g) is (t.shows refl)),
  )
  named serial new takes m is false g t = λ other begins.
      false≢true (t.exact.1 (subst (λ x. Allows rule (map (shown_in sides) told) x) (sym is)
      (allowed-last allows [] told (one other) begins.legal)))

-- what is left of a part's calls in the beginning
module _ (p : SharedPart) where
  own_left : (serial : ℕ) (o : Option ℕ) → block_at (run_of p) serial ≡ o → (cs : List SharedCall)
      → marks_in o p.part serial (map numbered cs) ≡ marks_left serial (left_of p cs)
  own_left serial None at [] = refl
  own_left serial (Some block) at [] = refl
  own_left serial o at (c ∷ cs) =
      by_serial (c.serial == serial) refl o at (own_left serial o at cs)
    where
      -- a call of another serial is not one of these
      other : (b : Bool) → (c.serial == serial) ≡ false
          → marks_left serial (if b then left_call c ∷ left_of p cs else left_of p cs)
          ≡ marks_left serial (left_of p cs)
      other true e =
          ap (λ t. if t then c.mark ∷ marks_left serial (left_of p cs)
          else marks_left serial (left_of p cs)) e
      other false e = refl

      none_there : (b : Bool) → (c.serial == serial) ≡ b → (is : Bool) → is_of p c ≡ is
          → block_at (run_of p) c.serial ≡ None
          → marks_left serial (if is then left_call c ∷ left_of p cs else left_of p cs)
          ≡ marks_left serial (left_of p cs)
      none_there b e true is at =
          absurd (false≢true (let n : is_of p c ≡ false =
          ap (λ x. c.part == p.part && is_block c.block x) at ∙ (grind arith) in sym n ∙ is))
      none_there b e false is at = refl

      same_there : (block : ℕ) → (c.serial == serial) ≡ true → (t : Bool)
          → (c.block == block && c.part == p.part) ≡ t → (is : Bool) → is_of p c ≡ is
          → block_at (run_of p) c.serial ≡ Some block
          → marks_at serial block p.part (map numbered cs) ≡ marks_left serial (left_of p cs)
          → marks_at serial block p.part (numbered c ∷ map numbered cs)
          ≡ marks_left serial (if is then left_call c ∷ left_of p cs else left_of p cs)
      same_there block e t f is g at more =
          let both : is_of p c ≡ (c.block == block && c.part == p.part) =
          ap (λ x. c.part == p.part && is_block c.block x) at ∙ swapped block in
          let same : t ≡ is = sym f ∙ sym both ∙ g in
          ap (λ x. if x && (c.block == block && c.part == p.part)
          then c.mark ∷ marks_at serial block p.part (map numbered cs)
          else marks_at serial block p.part (map numbered cs)) e
          ∙ ap (λ x. if x then c.mark ∷ marks_at serial block p.part (map numbered cs)
          else marks_at serial block p.part (map numbered cs)) (f ∙ same)
          ∙ ap (λ l. if is then c.mark ∷ l else l) more ∙ taken is
        where
          swapped : (block : ℕ) → (c.part == p.part && block == c.block)
              ≡ (c.block == block && c.part == p.part)
          swapped block = grind arith

          taken : (is : Bool) → (if is then c.mark ∷ marks_left serial (left_of p cs)
              else marks_left serial (left_of p cs))
              ≡ marks_left serial (if is then left_call c ∷ left_of p cs else left_of p cs)
          taken true =
              sym (ap (λ t. if t then c.mark ∷ marks_left serial (left_of p cs)
              else marks_left serial (left_of p cs)) e)
          taken false = refl

      by_serial : (b : Bool) → (c.serial == serial) ≡ b → (o : Option ℕ)
          → block_at (run_of p) serial ≡ o
          → marks_in o p.part serial (map numbered cs) ≡ marks_left serial (left_of p cs)
          → marks_in o p.part serial (map numbered (c ∷ cs))
          ≡ marks_left serial (left_of p (c ∷ cs))
      by_serial true e None at more =
          more ∙ sym (none_there true e (is_of p c) refl
          (ap (λ s. block_at (run_of p) s) (eqb-true c.serial serial e) ∙ at))
      by_serial true e (Some block) at more =
          same_there block e (c.block == block && c.part == p.part) refl (is_of p c) refl
          (ap (λ s. block_at (run_of p) s) (eqb-true c.serial serial e) ∙ at) more
      by_serial false e None at more = more ∙ sym (other (is_of p c) e)
      by_serial false e (Some block) at more =
          ap (λ x. if x && (c.block == block && c.part == p.part)
          then c.mark ∷ marks_at serial block p.part (map numbered cs)
          else marks_at serial block p.part (map numbered cs)) e
          ∙ more ∙ sym (other (is_of p c) e)

  pub own_of : (calls : List (List SharedCall)) (w : ℕ)
      → calls_by (map (λ own. map numbered own) calls) w
      ≡ map numbered (slice_index_or calls w [])
  own_of [] w = refl
  own_of (own ∷ calls) zero = refl
  own_of (own ∷ calls) (suc w) = own_of calls w

  pub row_of : (calls : List (List SharedCall)) (w : ℕ)
      → slice_index_or (map (λ own. left_of p own) calls) w []
      ≡ left_of p (slice_index_or calls w [])
  row_of [] w = refl
  row_of (own ∷ calls) zero = refl
  row_of (own ∷ calls) (suc w) = row_of calls w

  pub starts_left : (calls : List (List SharedCall)) (worker serial : ℕ)
      → part_marks p calls worker serial
      ≡ left_in (map (λ own. left_of p own) calls) worker serial
  starts_left calls worker serial =
      ap (λ l. marks_in (block_at (run_of p) serial) p.part serial l) (own_of calls worker)
      ∙ own_left serial (block_at (run_of p) serial) refl (slice_index_or calls worker [])
      ∙ ap (λ l. marks_left serial l) (sym (row_of calls worker))

module _ (marks : ℕ → ℕ → List ℕ) (rule : PartRule) (sides : List SideRecord)
    (places : List Place) where
  -- in the beginning
  pub up_to_none : (rows : List (List LeftCall)) (h : History)
      → ((worker serial : ℕ) → marks worker serial ≡ left_in rows worker serial)
      → Shows rule [] h → IsUpTo marks rule sides rows h places 0
  up_to_none rows h each shows = record {
    told = [];
    are = refl;
    followed = record { each = each; legal = tt; shows = shows };
  }

  -- one place further
  pub up_to_more : (rows new : List (List LeftCall)) (h g : History) (at : ℕ) (place : Place)
      → (up : IsUpTo marks rule sides rows h places at) → at < length places
      → slice_get places at ≡ Some place
      → StandsSo marks rule sides up.told place true new g
      → IsUpTo marks rule sides new g places (at + 1)
  up_to_more rows new h g at place up low is stands = record {
    told = up.told ++ told_at place stands.0 ∷ [];
    are = map-append place_of up.told (told_at place stands.0 ∷ [])
        ∙ ap (λ l. l ++ place ∷ []) up.are
        ∙ sym (take_more places at place low
        ∙ ap (λ x. take at places ++ x ∷ []) (get_or_from_slice_get places at place place is));
    followed = stands.1;
  }

  begun : (rows : List (List LeftCall)) (h : History) (told : List (Told ℕ))
      → IsFollowed marks rule sides rows h told → Begins marks (allows_told rule sides) told
  begun rows h told f = record {
    first = λ worker serial. (left_in rows worker serial, f.each worker serial);
    legal = f.legal;
  }

  -- a place with a fault
  pub up_to_fault : (rows : List (List LeftCall)) (h : History) (at : ℕ) (place : Place)
      → (up : IsUpTo marks rule sides rows h places at) → at < length places
      → slice_get places at ≡ Some place
      → Fails marks (allows_told rule sides) up.told (Some place)
      → FailsAt marks (allows_told rule sides) places at
  up_to_fault rows h at place up low is fails = record {
    within = omega (arith, low);
    told = up.told;
    are = up.are;
    begins = begun rows h up.told up.followed;
    fails = subst (λ o. Fails marks (allows_told rule sides) up.told o) (sym is) fails;
  }

  module _ (rows : List (List LeftCall)) (h : History)
      (up : IsUpTo marks rule sides rows h places (length places)) where
    whole : map place_of up.told ≡ places
    whole = up.are ∙ take_all (length places) places (omega arith)

    -- at the end nothing is left
    pub up_to_all : EmptyRows rows true → IsHistory marks (allows_told rule sides) places
    up_to_all none = record {
      told = up.told;
      are = whole;
      each = λ worker serial. sym (up.followed.each worker serial
          ∙ ap (λ l. told_by worker serial up.told ++ l) (none worker serial)
          ∙ append-nil (told_by worker serial up.told));
      legal = up.followed.legal;
    }

    -- or a mark is missing
    pub up_to_missing : EmptyRows rows false
        → FailsAt marks (allows_told rule sides) places (length places)
    up_to_missing some = record {
      within = omega arith;
      told = up.told;
      are = up.are;
      begins = begun rows h up.told up.followed;
      fails = subst (λ o. Fails marks (allows_told rule sides) up.told o)
          (sym (slice_get_past places (length places) (omega arith))) (
            some.0,
            some.1,
            λ same. some.2
                (append_cancel_left (told_by some.0 some.1 up.told) (left_in rows some.0 some.1) []
                (sym (up.followed.each some.0 some.1) ∙ sym same
                ∙ sym (append-nil (told_by some.0 some.1 up.told)))),
          );
    }

-- a row that isn't empty has a mark of a serial
pub row_has : (row : List LeftCall) → (length row == 0) ≡ false
    → (serial : ℕ) × (marks_left serial row ≢ [])
row_has [] e = absurd (false≢true (sym e))
row_has (x ∷ row) e = (
  x.serial,
  λ none. cons-nil x.mark (marks_left x.serial row)
      (ap (λ t. if t then x.mark ∷ marks_left x.serial row else marks_left x.serial row)
      (sym (eq-eqb x.serial x.serial refl)) ∙ none),
)
  where
    cons-nil : (m : ℕ) (l : List ℕ) → m ∷ l ≡ [] → ⊥
    cons-nil m l e = cc

-- a part without an order lacks it, where marks of it are left
pub lacks : (p : SharedPart) (calls : List (List SharedCall)) (orders : List Order)
    (rows : List (List LeftCall)) (none : Bool)
    → rows ≡ map (λ own. left_of p own) calls → EmptyRows rows none → has_order orders p ≡ false
    → Lacks calls orders p (not none)
lacks p calls orders rows true is empty without =
    inr (λ worker serial. starts_left p calls worker serial
    ∙ ap (λ r. left_in r worker serial) (sym is) ∙ empty worker serial)
lacks p calls orders rows false is some without = (
  without,
  some.0,
  some.1,
  λ none. some.2 (ap (λ r. left_in r some.0 some.1) is
      ∙ sym (starts_left p calls some.0 some.1) ∙ none),
)

-- what holds of each of the first elements, and of the next
pub each_more : {A : Type 0} (Q : A → Type 0) (xs : List A) (i : ℕ) (x : A)
    → slice_get xs i ≡ Some x → Q x
    → ((k : ℕ) (y : A) → k < i → slice_get xs k ≡ Some y → Q y)
    → (k : ℕ) (y : A) → k < i + 1 → slice_get xs k ≡ Some y → Q y
each_more Q xs i x is q each k y low at = by (nat_lt k i) refl
  where
    by : (b : Bool) → nat_lt k i ≡ b → Q y
    by true e = each k y (grind (arith, e)) at
    by false e =
        let same : k ≡ i = (let high : i ≤ k = grind (arith, e) in omega (arith, high, low)) in
        subst Q (same_Some x y (sym is ∙ ap (λ n. slice_get xs n) (sym same) ∙ at)) q
