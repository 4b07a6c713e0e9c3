-- The replies of an RCODE that a journal tells, counted by the datagrams that were taken.
use Rattle.std.proofs.Common.{◌≡◌, ◌∙◌, ◌+◌, ℕ, cond, Bool, true, false, List, [], ◌∷◌, ◌++◌, Option, append-nil, append_assoc, refl, sym, ap, arith}
use Rattle.std.specs.Prelude.{count_by}
use Rattle.std.specs.List.{AllByRecursion, flat_map}
use Rattle.std.proofs.lemmas.List.Concat.{flat_map-append, flat_map-cons}
use Rattle.std.proofs.lemmas.List.Sums.{sum_by-append, sum_by-cons}
use Rattle.dns_data.specs.declared.message.Transport.{Transport}
use Rattle.dns_data.specs.declared.message.Transport.TheVariants.{Udp, Tcp}
use Rattle.outside.specs.declared.datagram.Datagram.{Datagram}
use Rattle.outside.specs.declared.mark.Mark.{Mark}
use Rattle.outside.specs.declared.mark.Mark.TheVariants as mark
use Rattle.outside.specs.Script.{FollowsScript, gets_alone}
use Rattle.load_maker.specs.{datagrams_in}
use Rattle.load_maker.specs.Scripts.{queries_by, same_transport}
use Rattle.load_maker.specs.Summary.{answers_in, has_code, is_answer}
use Rattle.load_maker.specs.Taken.{datagram_in}
use Rattle.dns_server.specs.LoadCounts.{has_rcode}
use Rattle.run_meaning.specs.Turn.{Turn, failed, marks_of, replied, silenced, starved, unread}

-- a mark of the clock or of a cache
abbrev pub IsOfCache : Mark → Type 0
IsOfCache (mark.Now moment) = Unit {0}
IsOfCache (mark.Looked key moment entry) = Unit {0}
IsOfCache (mark.Put key entry kept) = Unit {0}
IsOfCache other = ⊥

-- a reply that went out
abbrev pub IsOut : Mark → Type 0
IsOut (mark.Sent reply flag) = flag ≡ true
IsOut other = Unit {0}

pub front_all : {A : Type 0} (P : A → Type 0) (xs ys : List A) → AllByRecursion P (xs ++ ys) → AllByRecursion P xs
front_all P [] ys a = tt
front_all P (x ∷ xs) ys a = (a.0, front_all P xs ys a.1)

pub back_all : {A : Type 0} (P : A → Type 0) (xs ys : List A) → AllByRecursion P (xs ++ ys) → AllByRecursion P ys
back_all P [] ys a = a
back_all P (x ∷ xs) ys a = back_all P xs ys a.1

-- by a script without failing calls each reply went out
out_mark : (gets : List Datagram) (journal before : List Mark) (m : Mark) (rest : List Mark) → FollowsScript (gets_alone gets) journal → journal ≡ before ++ m ∷ rest → IsOut m
out_mark gets journal before (mark.Sent reply flag) rest follows is = follows.each before (mark.Sent reply flag) rest is
out_mark gets journal before (mark.Got d) rest follows is = tt
out_mark gets journal before mark.RecvEnd rest follows is = tt
out_mark gets journal before mark.RecvFailed rest follows is = tt
out_mark gets journal before (mark.Now t) rest follows is = tt
out_mark gets journal before (mark.Inner m) rest follows is = tt
out_mark gets journal before (mark.Noted b out) rest follows is = tt
out_mark gets journal before (mark.Pinned n) rest follows is = tt
out_mark gets journal before (mark.Unpinned n) rest follows is = tt
out_mark gets journal before (mark.Looked k t e) rest follows is = tt
out_mark gets journal before (mark.Put k e out) rest follows is = tt

out_from : (gets : List Datagram) (journal before rest : List Mark) → FollowsScript (gets_alone gets) journal → journal ≡ before ++ rest → AllByRecursion IsOut rest
out_from gets journal before [] follows is = tt
out_from gets journal before (m ∷ rest) follows is =
    (out_mark gets journal before m rest follows is, out_from gets journal (before ++ m ∷ []) rest follows (is ∙ sym (append_assoc before (m ∷ []) rest)))

pub all_out : (gets : List Datagram) (journal : List Mark) → FollowsScript (gets_alone gets) journal → AllByRecursion IsOut journal
all_out gets journal follows = out_from gets journal [] journal follows refl

module _ (code : ℕ) (code_of : Datagram → Option ℕ) where
  -- what each turn is to come to
  abbrev pub AnswersAs : Turn → Type 0
  AnswersAs failed = Unit {0}
  AnswersAs unread = Unit {0}
  AnswersAs (replied serial d marks reply out) =
      AllByRecursion IsOfCache marks × (out ≡ true) × (has_code code reply ≡ has_rcode code (code_of d))
  AnswersAs (silenced serial d marks why) = AllByRecursion IsOfCache marks × (has_rcode code (code_of d) ≡ false)
  AnswersAs (starved serial d marks) = ⊥

  abbrev one : Mark → ℕ
  one m = cond (is_answer code m) 1 0

  abbrev pub is_meant : Datagram → Bool
  is_meant d = has_rcode code (code_of d)

  abbrev meant : Datagram → ℕ
  meant d = cond (is_meant d) 1 0

  no_answer : (m : Mark) → IsOfCache m → one m ≡ 0
  no_answer (mark.Now moment) is = refl
  no_answer (mark.Looked key moment entry) is = refl
  no_answer (mark.Put key entry kept) is = refl
  no_answer (mark.Got d) is = absurd is
  no_answer mark.RecvEnd is = absurd is
  no_answer mark.RecvFailed is = absurd is
  no_answer (mark.Inner m) is = absurd is
  no_answer (mark.Sent b out) is = absurd is
  no_answer (mark.Noted b out) is = absurd is
  no_answer (mark.Pinned n) is = absurd is
  no_answer (mark.Unpinned n) is = absurd is

  no_answers : (marks : List Mark) → AllByRecursion IsOfCache marks → answers_in code marks ≡ 0
  no_answers [] all = refl
  no_answers (m ∷ marks) all =
      let here = sum_by-cons one m marks in
      let none = no_answer m all.0 in
      let rest = no_answers marks all.1 in
      omega (arith, here, none, rest)

  no_datagram : (m : Mark) → IsOfCache m → datagram_in m ≡ []
  no_datagram (mark.Now moment) is = refl
  no_datagram (mark.Looked key moment entry) is = refl
  no_datagram (mark.Put key entry kept) is = refl
  no_datagram (mark.Got d) is = absurd is
  no_datagram mark.RecvEnd is = absurd is
  no_datagram mark.RecvFailed is = absurd is
  no_datagram (mark.Inner m) is = absurd is
  no_datagram (mark.Sent b out) is = absurd is
  no_datagram (mark.Noted b out) is = absurd is
  no_datagram (mark.Pinned n) is = absurd is
  no_datagram (mark.Unpinned n) is = absurd is

  no_datagrams : (marks : List Mark) → AllByRecursion IsOfCache marks → datagrams_in marks ≡ []
  no_datagrams [] all = refl
  no_datagrams (m ∷ marks) all =
      flat_map-cons datagram_in m marks ∙ (ap (λ (l : List Datagram). l ++ datagrams_in marks) (no_datagram m all.0) ∙ no_datagrams marks all.1)

  -- what stands in a turn behind the pin
  tail_taken : (marks end : List Mark) → AllByRecursion IsOfCache marks → datagrams_in end ≡ [] → datagrams_in (marks ++ end) ≡ []
  tail_taken marks end all none =
      flat_map-append datagram_in marks end ∙ (ap (λ (l : List Datagram). l ++ datagrams_in end) (no_datagrams marks all) ∙ none)

  pub datagram_of_turn : (d : Datagram) (serial : ℕ) (marks end : List Mark) → AllByRecursion IsOfCache marks → datagrams_in end ≡ [] → datagrams_in (mark.Got d ∷ mark.Pinned serial ∷ (marks ++ end)) ≡ d ∷ []
  datagram_of_turn d serial marks end all none =
      flat_map-cons datagram_in (mark.Got d) (mark.Pinned serial ∷ (marks ++ end))
      ∙ ap (λ (l : List Datagram). d ∷ l) (flat_map-cons datagram_in (mark.Pinned serial) (marks ++ end) ∙ tail_taken marks end all none)

  answers_of_turn : (d : Datagram) (serial : ℕ) (marks end : List Mark) → AllByRecursion IsOfCache marks → answers_in code (mark.Got d ∷ mark.Pinned serial ∷ (marks ++ end)) ≡ answers_in code end
  answers_of_turn d serial marks end all =
      let first = sum_by-cons one (mark.Got d) (mark.Pinned serial ∷ (marks ++ end)) in
      let second = sum_by-cons one (mark.Pinned serial) (marks ++ end) in
      let parts = sum_by-append one marks end in
      let none = no_answers marks all in
      omega (arith, first, second, parts, none)

  one_meant : (ds : List Datagram) (d : Datagram) → ds ≡ d ∷ [] → count_by is_meant ds ≡ meant d
  one_meant ds d is =
      let whole = ap (λ (l : List Datagram). count_by is_meant l) is in
      let part = sum_by-cons meant d [] in
      omega (arith, whole, part)

  by_flag : (a b : Bool) → a ≡ b → ◌≡◌ {A = ℕ} (cond a 1 0) (cond b 1 0)
  by_flag a b e = ap (λ (t : Bool). cond t 1 0) e

  turn_answers : (turn : Turn) → AnswersAs turn → answers_in code (marks_of turn) ≡ count_by is_meant (datagrams_in (marks_of turn))
  turn_answers failed is = refl
  turn_answers unread is = refl
  turn_answers (replied serial d marks reply out) is =
      let end = mark.Sent reply out ∷ mark.Unpinned serial ∷ [] in
      let left = answers_of_turn d serial marks end is.0 in
      let sent = sum_by-cons one (mark.Sent reply out) (mark.Unpinned serial ∷ []) in
      let unpinned = sum_by-cons one (mark.Unpinned serial) [] in
      let went : one (mark.Sent reply out) ≡ meant d = ap (λ (t : Bool). one (mark.Sent reply t)) is.1 ∙ by_flag (has_code code reply) (is_meant d) is.2 in
      let right = one_meant (datagrams_in (marks_of (replied serial d marks reply out))) d (datagram_of_turn d serial marks end is.0 refl) in
      omega (arith, left, sent, unpinned, went, right)
  turn_answers (silenced serial d marks why) is =
      let end = mark.Unpinned serial ∷ [] in
      let left = answers_of_turn d serial marks end is.0 in
      let unpinned = sum_by-cons one (mark.Unpinned serial) [] in
      let none : meant d ≡ 0 = by_flag (is_meant d) false is.1 in
      let right = one_meant (datagrams_in (marks_of (silenced serial d marks why))) d (datagram_of_turn d serial marks end is.0 refl) in
      omega (arith, left, unpinned, none, right)
  turn_answers (starved serial d marks) is = absurd is

  turns_answer : (turns : List Turn) → AllByRecursion AnswersAs turns → answers_in code (flat_map marks_of turns) ≡ count_by is_meant (datagrams_in (flat_map marks_of turns))
  turns_answer [] all = refl
  turns_answer (turn ∷ turns) all =
      let parts = flat_map-cons marks_of turn turns in
      let left = ap (λ (l : List Mark). answers_in code l) parts in
      let sum = sum_by-append one (marks_of turn) (flat_map marks_of turns) in
      let right = ap (λ (l : List Mark). count_by is_meant (datagrams_in l)) parts in
      let taken = ap (λ (l : List Datagram). count_by is_meant l) (flat_map-append datagram_in (marks_of turn) (flat_map marks_of turns)) in
      let more = sum_by-append meant (datagrams_in (marks_of turn)) (datagrams_in (flat_map marks_of turns)) in
      let here = turn_answers turn all.0 in
      let rest = turns_answer turns all.1 in
      omega (arith, left, sum, right, taken, more, here, rest)

  -- the replies of a journal, by the datagrams that it tells
  pub journal_answers : (journal ending : List Mark) (turns : List Turn) → journal ≡ flat_map marks_of turns ++ ending → answers_in code ending ≡ 0 → datagrams_in ending ≡ [] → AllByRecursion AnswersAs turns
      → answers_in code journal ≡ count_by is_meant (datagrams_in journal)
  journal_answers journal ending turns is none empty all =
      let left = ap (λ (l : List Mark). answers_in code l) is in
      let sum = sum_by-append one (flat_map marks_of turns) ending in
      let same : datagrams_in journal ≡ datagrams_in (flat_map marks_of turns) =
      ap datagrams_in is ∙ (flat_map-append datagram_in (flat_map marks_of turns) ending
      ∙ (ap (λ (l : List Datagram). datagrams_in (flat_map marks_of turns) ++ l) empty ∙ append-nil (datagrams_in (flat_map marks_of turns)))) in
      let right = ap (λ (l : List Datagram). count_by is_meant l) same in
      let turned = turns_answer turns all in
      omega (arith, left, sum, none, right, turned)

  -- those that came by both ways are all
  pub both_counts : (datagrams : List Datagram) → count_by is_meant (queries_by Udp datagrams) + count_by is_meant (queries_by Tcp datagrams) ≡ count_by is_meant datagrams
  both_counts [] = refl
  both_counts (d ∷ datagrams) = by d.by refl (both_counts datagrams)
    where
      by : (way : Transport) → d.by ≡ way → count_by is_meant (queries_by Udp datagrams) + count_by is_meant (queries_by Tcp datagrams) ≡ count_by is_meant datagrams
          → count_by is_meant (queries_by Udp (d ∷ datagrams)) + count_by is_meant (queries_by Tcp (d ∷ datagrams)) ≡ count_by is_meant (d ∷ datagrams)
      by Udp is rest =
          let way = queries_by Udp datagrams in
          let other = queries_by Tcp datagrams in
          let with_it : queries_by Udp (d ∷ datagrams) ≡ d ∷ way = ap (λ (t : Bool). cond t (d ∷ way) way) (ap (λ (w : Transport). same_transport w Udp) is) in
          let without : queries_by Tcp (d ∷ datagrams) ≡ other = ap (λ (t : Bool). cond t (d ∷ other) other) (ap (λ (w : Transport). same_transport w Tcp) is) in
          let first = ap (λ (l : List Datagram). count_by is_meant l) with_it in
          let second = ap (λ (l : List Datagram). count_by is_meant l) without in
          let whole = sum_by-cons meant d datagrams in
          let part = sum_by-cons meant d way in
          omega (arith, first, second, whole, part, rest)
      by Tcp is rest =
          let way = queries_by Tcp datagrams in
          let other = queries_by Udp datagrams in
          let with_it : queries_by Tcp (d ∷ datagrams) ≡ d ∷ way = ap (λ (t : Bool). cond t (d ∷ way) way) (ap (λ (w : Transport). same_transport w Tcp) is) in
          let without : queries_by Udp (d ∷ datagrams) ≡ other = ap (λ (t : Bool). cond t (d ∷ other) other) (ap (λ (w : Transport). same_transport w Udp) is) in
          let first = ap (λ (l : List Datagram). count_by is_meant l) with_it in
          let second = ap (λ (l : List Datagram). count_by is_meant l) without in
          let whole = sum_by-cons meant d datagrams in
          let part = sum_by-cons meant d way in
          omega (arith, first, second, whole, part, rest)
