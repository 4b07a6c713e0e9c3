-- A side in memory that gives these datagrams and no failure has given the first ones, in order, and all of them where it told its end.
use Rattle.std.proofs.Common.{◌≡◌, ◌≤◌, ◌+◌, ◌∙◌, ℕ, zero, suc, Bool, true, false, cond, List, [], ◌∷◌, ◌++◌, length, length-append, take, Option, Some, None, slice_get, append-nil, append_assoc, refl, sym, ap, subst, arith}
use Rattle.std.proofs.lemmas.List.{take_all}
use Rattle.std.proofs.lemmas.List.Sums.{sum_by_push}
use Rattle.std.proofs.lemmas.List.Concat.{flat_map-append}
use Rattle.outside.specs.declared.datagram.Datagram.{Datagram}
use Rattle.outside.specs.declared.entry.InnerMark.TheVariants as inner
use Rattle.outside.specs.declared.mark.Mark.{Mark}
use Rattle.outside.specs.declared.mark.Mark.TheVariants.{Got, RecvEnd, RecvFailed, Now, Inner, Sent, Noted, Pinned, Unpinned, Looked, Put}
use Rattle.outside.specs.Script.{FollowsScript, IsGiven, gets_alone, got_or_end, is_recv, recvs_in, used_up}
use Rattle.dns_data.specs.declared.message.Transport.{Transport}
use Rattle.dns_data.specs.declared.message.Transport.TheVariants.{Udp, Tcp}
use Rattle.load_maker.specs.Queries.{datagram_of, queries_of}
use Rattle.load_maker.specs.Scripts.{queries_by}
use Rattle.load_maker.specs.Summary.{is_taken, taken_in}
use Rattle.load_maker.specs.Taken.{datagram_in, datagrams_in}

-- where no call fails, each uses up a datagram
used_all : (calls : ℕ) → used_up [] calls ≡ calls
used_all zero = refl
used_all (suc calls) = let e = used_all calls in omega (arith, e)

took_next : (gets : List Datagram) (at : ℕ) (d : Datagram) → slice_get gets at ≡ Some d
    → take (suc at) gets ≡ take at gets ++ d ∷ []
took_next [] at d is = absurd cc
took_next (first ∷ gets) zero d is =
    let same : first ≡ d = cc in ap (λ (x : Datagram). x ∷ []) same
took_next (first ∷ gets) (suc at) d is =
    ap (λ (l : List Datagram). first ∷ l) (took_next gets at d is)

no_next : (gets : List Datagram) (at : ℕ) → slice_get gets at ≡ None → length gets ≤ at
no_next [] at is = omega arith
no_next (first ∷ gets) zero is = absurd cc
no_next (first ∷ gets) (suc at) is = let rest = no_next gets at is in omega (arith, rest)

-- what the journal tells so far
record TookFirst (gets : List Datagram) (marks : List Mark) : Type 0 where
  pub first : datagrams_in marks ≡ take (recvs_in marks) gets

-- 1 for a mark that is so
abbrev one_if : Bool → ℕ
one_if b = cond b 1 0

zero_if : (b : Bool) → b ≡ false → one_if b ≡ 0
zero_if true e = absurd cc
zero_if false e = refl

one_more : (marks : List Mark) (mark : Mark)
    → recvs_in (marks ++ mark ∷ []) ≡ recvs_in marks + one_if (is_recv mark)
one_more marks mark = sum_by_push (λ m. cond (is_recv m) 1 0) marks mark

more_data : (marks : List Mark) (mark : Mark)
    → datagrams_in (marks ++ mark ∷ []) ≡ datagrams_in marks ++ datagram_in mark
more_data marks mark =
    flat_map-append datagram_in marks (mark ∷ [])
    ∙ ap (λ (l : List Datagram). datagrams_in marks ++ l) (append-nil (datagram_in mark))

-- a mark that is no receive
other_mark : (gets : List Datagram) (marks : List Mark) (mark : Mark) → is_recv mark ≡ false
    → datagram_in mark ≡ [] → TookFirst gets marks → TookFirst gets (marks ++ mark ∷ [])
other_mark gets marks mark none empty so =
    let more = one_more marks mark in
    let nothing = zero_if (is_recv mark) none in
    let count : recvs_in (marks ++ mark ∷ []) ≡ recvs_in marks = omega (arith, more, nothing) in
    let same : datagrams_in (marks ++ mark ∷ []) ≡ datagrams_in marks =
    more_data marks mark
    ∙ (ap (λ (l : List Datagram). datagrams_in marks ++ l) empty
    ∙ append-nil (datagrams_in marks)) in
    record { first = same ∙ (so.first ∙ ap (λ (n : ℕ). take n gets) (sym count)) }

got_mark : (gets : List Datagram) (marks : List Mark) (d : Datagram) (next : Option Datagram)
    → slice_get gets (recvs_in marks) ≡ next → Got d ≡ got_or_end next → TookFirst gets marks
    → TookFirst gets (marks ++ Got d ∷ [])
got_mark gets marks d None at is so = absurd cc
got_mark gets marks d (Some given) at is so =
    let same : d ≡ given = cc in
    let more = one_more marks (Got d) in
    let count : recvs_in (marks ++ Got d ∷ []) ≡ suc (recvs_in marks) = omega (arith, more) in
    let next = took_next gets (recvs_in marks) given at in
    record {
      first =
          more_data marks (Got d)
          ∙ (ap (λ (l : List Datagram). l ++ d ∷ []) so.first
          ∙ (ap (λ (x : Datagram). take (recvs_in marks) gets ++ x ∷ []) same
          ∙ (sym next ∙ ap (λ (n : ℕ). take n gets) (sym count))));
    }

end_mark : (gets : List Datagram) (marks : List Mark) (next : Option Datagram)
    → slice_get gets (recvs_in marks) ≡ next → RecvEnd ≡ got_or_end next → TookFirst gets marks
    → (datagrams_in marks ≡ gets) × TookFirst gets (marks ++ RecvEnd ∷ [])
end_mark gets marks (Some given) at is so = absurd cc
end_mark gets marks None at is so =
    let most = no_next gets (recvs_in marks) at in
    let all : datagrams_in marks ≡ gets = so.first ∙ take_all (recvs_in marks) gets most in
    let count = one_more marks RecvEnd in
    let behind : length gets ≤ recvs_in (marks ++ RecvEnd ∷ []) = omega (arith, count, most) in
    let same = more_data marks RecvEnd ∙ append-nil (datagrams_in marks) in (
      all,
      record {
        first = same ∙ (all ∙ sym (take_all (recvs_in (marks ++ RecvEnd ∷ [])) gets behind));
      },
    )

failed_mark : (next : Option Datagram) → RecvFailed ≡ got_or_end next → ⊥
failed_mark None is = absurd cc
failed_mark (Some given) is = absurd cc

-- one mark more
with_mark : (gets : List Datagram) (marks : List Mark) (mark : Mark) → IsGiven (gets_alone gets) marks mark → TookFirst gets marks → TookFirst gets (marks ++ mark ∷ [])
with_mark gets marks (Got d) is so = got_mark gets marks d _ refl (subst (λ n. Got d ≡ got_or_end (slice_get gets n)) (used_all (recvs_in marks)) is) so
with_mark gets marks RecvEnd is so = (end_mark gets marks _ refl (subst (λ n. RecvEnd ≡ got_or_end (slice_get gets n)) (used_all (recvs_in marks)) is) so).1
with_mark gets marks RecvFailed is so = absurd (failed_mark _ is)
with_mark gets marks (Now moment) is so = other_mark gets marks (Now moment) refl refl so
with_mark gets marks (Inner (inner.Word word)) is so = other_mark gets marks (Inner (inner.Word word)) refl refl so
with_mark gets marks (Inner (inner.Asked to by message result)) is so = other_mark gets marks (Inner (inner.Asked to by message result)) refl refl so
with_mark gets marks (Inner (inner.More result)) is so = other_mark gets marks (Inner (inner.More result)) refl refl so
with_mark gets marks (Inner (inner.Drawn number down)) is so = other_mark gets marks (Inner (inner.Drawn number down)) refl refl so
with_mark gets marks (Inner (inner.Reported upstream agreed)) is so = other_mark gets marks (Inner (inner.Reported upstream agreed)) refl refl so
with_mark gets marks (Sent reply flag) is so = other_mark gets marks (Sent reply flag) refl refl so
with_mark gets marks (Noted line flag) is so = other_mark gets marks (Noted line flag) refl refl so
with_mark gets marks (Pinned serial) is so = other_mark gets marks (Pinned serial) refl refl so
with_mark gets marks (Unpinned serial) is so = other_mark gets marks (Unpinned serial) refl refl so
with_mark gets marks (Looked key moment entry) is so = other_mark gets marks (Looked key moment entry) refl refl so
with_mark gets marks (Put key entry kept) is so = other_mark gets marks (Put key entry kept) refl refl so

-- each mark of these is given behind those in front of it
abbrev AllGiven : List Datagram → List Mark → Type 0
AllGiven gets marks = (before : List Mark) (mark : Mark) (after : List Mark) → marks ≡ before ++ mark ∷ after → IsGiven (gets_alone gets) before mark

with_all : (gets : List Datagram) (marks before rest : List Mark) → AllGiven gets marks → marks ≡ before ++ rest → TookFirst gets before → TookFirst gets marks
with_all gets marks before [] each part so = subst (TookFirst gets) (sym (part ∙ append-nil before)) so
with_all gets marks before (mark ∷ rest) each part so =
    with_all gets marks (before ++ mark ∷ []) rest each (part ∙ sym (append_assoc before (mark ∷ []) rest)) (with_mark gets before mark (each before mark rest part) so)

-- a side took the first ones of its datagrams, in order
pub took_first : (gets : List Datagram) (journal : List Mark) → FollowsScript (gets_alone gets) journal → datagrams_in journal ≡ take (recvs_in journal) gets
took_first gets journal follows = (with_all gets journal [] journal follows.each refl (record { first = refl })).first

-- where it told its end behind some marks, it had taken all
pub took_all : (gets : List Datagram) (journal before : List Mark) → FollowsScript (gets_alone gets) journal → journal ≡ before ++ RecvEnd ∷ [] → datagrams_in journal ≡ gets
took_all gets journal before follows is =
    let front : AllGiven gets before = λ first mark after part. follows.each first mark (after ++ RecvEnd ∷ []) (is ∙ (ap (λ (l : List Mark). l ++ RecvEnd ∷ []) part ∙ append_assoc first (mark ∷ after) (RecvEnd ∷ []))) in
    let so : TookFirst gets before = with_all gets before [] before front refl (record { first = refl }) in
    let given = follows.each before RecvEnd [] is in
    let all = (end_mark gets before _ refl (subst (λ n. RecvEnd ≡ got_or_end (slice_get gets n)) (used_all (recvs_in before)) given) so).0 in
    ap datagrams_in is ∙ (flat_map-append datagram_in before (RecvEnd ∷ []) ∙ (append-nil (datagrams_in before) ∙ all))

-- the datagrams that were taken are as many as are counted
pub taken_count : (journal : List Mark) → length (datagrams_in journal) ≡ taken_in journal
taken_count journal = from [] journal refl refl
  where
    one : (mark : Mark) → length (datagram_in mark) ≡ one_if (is_taken mark)
    one (Got d) = refl
    one RecvEnd = refl
    one RecvFailed = refl
    one (Now moment) = refl
    one (Inner mark) = refl
    one (Sent reply flag) = refl
    one (Noted line flag) = refl
    one (Pinned serial) = refl
    one (Unpinned serial) = refl
    one (Looked key moment entry) = refl
    one (Put key entry kept) = refl

    from : (before rest : List Mark) → journal ≡ before ++ rest → length (datagrams_in before) ≡ taken_in before → length (datagrams_in journal) ≡ taken_in journal
    from before [] is so = subst (λ (l : List Mark). length (datagrams_in l) ≡ taken_in l) (sym (is ∙ append-nil before)) so
    from before (mark ∷ rest) is so =
        let left : length (datagrams_in (before ++ mark ∷ []))
        ≡ length (datagrams_in before) + length (datagram_in mark) =
        ap length (more_data before mark)
        ∙ length-append (datagrams_in before) (datagram_in mark) in
        let here = one mark in
        let right : taken_in (before ++ mark ∷ []) ≡ taken_in before + one_if (is_taken mark) =
        sum_by_push (λ m. cond (is_taken m) 1 0) before mark in
        from (before ++ mark ∷ []) rest
        (is ∙ sym (append_assoc before (mark ∷ []) rest)) (omega (arith, left, here, right, so))

-- each query comes by one of both
pub both_ways : (datagrams : List Datagram) → length (queries_by Udp datagrams) + length (queries_by Tcp datagrams) ≡ length datagrams
both_ways [] = refl
both_ways (d ∷ datagrams) = by d.by refl (both_ways datagrams)
  where
    by : (way : Transport) → d.by ≡ way → length (queries_by Udp datagrams) + length (queries_by Tcp datagrams) ≡ length datagrams → length (queries_by Udp (d ∷ datagrams)) + length (queries_by Tcp (d ∷ datagrams)) ≡ length (d ∷ datagrams)
    by Udp is rest = rw is (omega (arith, rest))
    by Tcp is rest = rw is (omega (arith, rest))

pub all_queries : (count : ℕ) → length (queries_of count) ≡ count
all_queries zero = refl
all_queries (suc count) =
    let more = length-append (queries_of count) (datagram_of count ∷ []) in
    let before = all_queries count in
    omega (arith, more, before)
