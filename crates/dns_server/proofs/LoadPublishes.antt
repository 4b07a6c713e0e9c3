-- The one look of a load that has ended published the second form of its Corefile.
use Rattle.std.proofs.Common.{◌≡◌, ◌∙◌, ◌⊎◌, ◌+◌, ◌*◌, ◌<◌, ◌≤◌, ℕ, Bool, true, false, cond, List, [], ◌∷◌, ◌++◌, map, length, Option, Some, None, refl, sym, ap, subst, inl, inr, arith, append_assoc, append-nil}
use Rattle.std.specs.Prelude.{Result, Ok, Err, nat_lt, slice_get, if◌then◌else◌}
use Rattle.std.specs.List.{AllByRecursion, flat_map}
use Rattle.std.proofs.lemmas.Bool.{ltb-true}
use Rattle.std.proofs.lemmas.List.{take_all}
use Rattle.std.proofs.lemmas.List.Concat.{flat_map-cons}
use Rattle.std.proofs.lemmas.List.Sums.{sum_by-append, sum_by-cons, sum_by_push}
use Rattle.chain_meaning.specs.{IsAccepted, Terms}
use Rattle.chain_meaning.specs.Steps.{block_extras}
use Rattle.corefile_blocks.specs.{ArePorts}
use Rattle.corefile_blocks.specs.PortsLaws.{ports_are_one}
use Rattle.corefile_blocks.specs.declared.bundle.Bundle.{Bundle}
use Rattle.corefile_bundle.specs.Gathering.{Gathers, GathersFrom, GoesOn, OneRead, after_corefile, after_read, bare, bundle_bytes, marks_of, next_file, over, unless_over, with_file}
use Rattle.corefile_bundle.specs.declared.fault.GatherFault.{GatherFault}
use Rattle.corefile_bundle.specs.declared.fault.GatherFault.TheVariants as unread
use Rattle.dns_data.specs.declared.block.Block.{Block}
use Rattle.dns_data.specs.declared.limit.Limit.TheVariants as limit
use Rattle.dns_data.specs.declared.limit.TheConstants as limits
use Rattle.extra_stock.specs.{asked_by, is_named}
use Rattle.outside.specs.declared.mark.WatchMark.{WatchMark}
use Rattle.outside.specs.declared.mark.WatchMark.TheVariants as mark
use Rattle.outside.specs.declared.watch.ReadOut.{ReadOut}
use Rattle.outside.specs.declared.watch.ReadOut.TheVariants as readout
use Rattle.outside.specs.Script.{looks_alone}
use Rattle.outside.specs.WatchMarks.{FollowsWatchScript, found_in, is_look, looks_in}
use Rattle.load_maker.specs.Scripts.{zone_name}
use Rattle.load_maker.specs.Texts.{conf_text, second_text, zone_text}
use Rattle.pin_table.specs.Known.{last_below}
use Rattle.plugin_api.specs.Ranks.{rank_of}
use Rattle.run_meaning.specs.Answers.{AnswersLook, Refuses, Standing, note_marks, publication}
use Rattle.run_meaning.specs.Messages.{look_text}
use Rattle.run_meaning.specs.Reloads.{reloads}
use Rattle.run_meaning.specs.declared.looking.Looking.{Looking}
use Rattle.run_meaning.specs.declared.looking.Looking.TheVariants as looking
use Rattle.run_meaning.specs.WatchRun.{EndsWatch}
use Rattle.run_meaning.specs.WatchTurn.{AreLooks, WatchTurn, all_starved, bundles_of, gathered, looked, published_as, published_by, starved, watch_marks}
use Rattle.dns_server.specs.Holding.{AreHeld, IsHeld, IsHeldFor}
use Rattle.dns_server.specs.LoadCounts.{load_bundle}
use Rattle.dns_server.proofs.LoadAccepts.{second_accepted}
use Rattle.dns_server.proofs.LoadBlocks.{load_block}
use Rattle.dns_server.proofs.LoadBundles.{IsFound, after_conf, same_name, sets, text_words, zone_short}
use Rattle.dns_server.proofs.LoadForms.{load_source}
use Rattle.dns_server.proofs.LoadTurns.{IsForm, has_block}
use Rattle.dns_server.proofs.TurnCounts.{back_all}

-- reads behind so many looks
abbrev FoundAt : ℕ → OneRead → Type 0
FoundAt at read = read.out ≡ found_in (slice_get sets at) read.name

one_look : (before : List WatchMark) (m : WatchMark) → looks_in (before ++ m ∷ []) ≡ looks_in before + cond (is_look m) 1 0
one_look before m = sum_by_push (λ (x : WatchMark). cond (is_look x) 1 0) before m

reads_at : (journal front : List WatchMark) (at : ℕ) (reads : List OneRead) (back : List WatchMark) → FollowsWatchScript (looks_alone sets) journal → looks_in front ≡ at → journal ≡ front ++ (marks_of reads ++ back) → AllByRecursion (FoundAt at) reads
reads_at journal front at [] back follows count is = tt
reads_at journal front at (read ∷ reads) back follows count is =
    let m = mark.Read read.name read.out in
    let here = follows.each front m (marks_of reads ++ back) is in
    let more = one_look front m in (
      here ∙ ap (λ (n : ℕ). found_in (slice_get sets n) read.name) count,
      reads_at journal (front ++ m ∷ []) at reads back follows (omega (arith, more, count)) (is ∙ sym (append_assoc front (m ∷ []) (marks_of reads ++ back))),
    )

reads_look : (reads : List OneRead) → looks_in (marks_of reads) ≡ 0
reads_look [] = refl
reads_look (read ∷ reads) =
    let cut = sum_by-cons (λ (x : WatchMark). cond (is_look x) 1 0) (mark.Read read.name read.out) (marks_of reads) in
    let rest = reads_look reads in
    omega (arith, cut, rest)

as_found : (at : ℕ) → at < 2 → (reads : List OneRead) → AllByRecursion (FoundAt at) reads → AllByRecursion IsFound reads
as_found at low [] all = tt
as_found at low (read ∷ reads) all = (record { at = at; low = low; is = all.0 }, as_found at low reads all.1)

-- what the first reads gave is the first form
pub first_form : (reads : List OneRead) (bundle : Bundle) → AllByRecursion (FoundAt 0) reads → GathersFrom load_source reads (Ok bundle) → bundle ≡ load_bundle conf_text zone_text
first_form [] bundle found is = absurd cc
first_form (read ∷ reads) bundle found is =
    let out : read.out ≡ readout.Got conf_text = found.0 ∙ (ap (λ (n : List ℕ). found_in (slice_get sets 0) n) is.0 ∙ ap readout.Got (take_all limits.READ_BYTES conf_text (omega arith))) in
    after_conf conf_text reads bundle (inl refl) (as_found 0 (omega arith) reads found.1) (over (length conf_text) (length conf_text))
    (subst (λ (o : ReadOut). GoesOn (λ behind. Gathers behind reads (Ok bundle)) (after_corefile load_source o) reads (Ok bundle)) out is.2)

not_above : (a b : ℕ) → a ≤ b → nat_lt b a ≡ false
not_above a b le = by (nat_lt b a) refl
  where
    by : (t : Bool) → nat_lt b a ≡ t → t ≡ false
    by true e = let low = ltb-true b a e in absurd (omega (arith, low, le))
    by false e = refl

within : (size total : ℕ) → size ≤ limits.FILE_BYTES → total ≤ limits.BUNDLE_BYTES → over size total ≡ None
within size total a b =
    ap (λ (t : Bool). if t then Some (unread.TooMany limit.FileBytes (limits.FILE_BYTES + 1)) else if nat_lt limits.BUNDLE_BYTES total then Some (unread.TooMany limit.BundleBytes total) else None) (not_above size limits.FILE_BYTES a)
    ∙ ap (λ (t : Bool). if t then Some (unread.TooMany limit.BundleBytes total) else None) (not_above total limits.BUNDLE_BYTES b)

-- what the reads behind the look came to
abbrev Gave : Result Bundle GatherFault → Type 0
Gave gives = (gives ≡ Ok (load_bundle second_text zone_text)) ⊎ (gives ≡ Err unread.NoMemory)

end_whole : (gives : Result Bundle GatherFault) → Gathers (load_bundle second_text zone_text) [] gives → Gave gives
end_whole (Ok whole) end = inl (ap Ok end.0)
end_whole (Err unread.NoCorefile) end = absurd end
end_whole (Err (unread.ReadFailed name)) end = absurd end
end_whole (Err (unread.TooMany what number)) end = absurd (end.wants (text_words (load_bundle second_text zone_text) second_text refl refl (inr refl)))
end_whole (Err unread.NoMemory) end = inr refl

whole_gives : (reads : List OneRead) (gives : Result Bundle GatherFault) → Gathers (load_bundle second_text zone_text) reads gives → Gave gives
whole_gives [] gives end = end_whole gives end
whole_gives (read ∷ reads) gives asks =
    let none : next_file (load_bundle second_text zone_text) ≡ None = text_words (load_bundle second_text zone_text) second_text refl refl (inr refl) in
    let e : ◌≡◌ {A = Option (List ℕ)} None (Some read.name) = sym none ∙ asks.0.wants in
    absurd cc

end_bare : (gives : Result Bundle GatherFault) → Gathers (bare [] second_text) [] gives → Gave gives
end_bare (Ok whole) end =
    let some : next_file (bare [] second_text) ≡ Some zone_name = text_words (bare [] second_text) second_text refl refl (inr refl) in
    let e : ◌≡◌ {A = Option (List ℕ)} (Some zone_name) None = sym some ∙ end.1 in
    absurd cc
end_bare (Err unread.NoCorefile) end = absurd end
end_bare (Err (unread.ReadFailed name)) end = absurd end
end_bare (Err (unread.TooMany what number)) end = let full = end.full in absurd (omega (arith, full))
end_bare (Err unread.NoMemory) end = inr refl

bare_gives : (reads : List OneRead) (gives : Result Bundle GatherFault) → AllByRecursion (FoundAt 1) reads → Gathers (bare [] second_text) reads gives → Gave gives
bare_gives [] gives found end = end_bare gives end
bare_gives (read ∷ reads) gives found asks =
    let some : next_file (bare [] second_text) ≡ Some zone_name = text_words (bare [] second_text) second_text refl refl (inr refl) in
    let name : read.name ≡ zone_name = same_name read.name zone_name (sym asks.0.wants ∙ some) in
    let short = zone_short in
    let out : read.out ≡ readout.Got zone_text = found.0 ∙ (ap (λ (n : List ℕ). found_in (slice_get sets 1) n) name ∙ ap readout.Got (take_all limits.READ_BYTES zone_text (omega (arith, short)))) in
    let sizes : bundle_bytes (bare [] second_text) ≤ 1000 = omega arith in
    let none = within (length zone_text) (bundle_bytes (bare [] second_text) + length zone_text) (omega (arith, short)) (omega (arith, short, sizes)) in
    whole_gives reads gives
    (subst (λ (o : Option GatherFault). GoesOn (λ behind. Gathers behind reads gives) (unless_over (with_file (bare [] second_text) zone_name (Some zone_text)) o) reads gives) none
    (subst (λ (x : List ℕ × ReadOut). GoesOn (λ behind. Gathers behind reads gives) (after_read (bare [] second_text) x.0 x.1) reads gives) (λ i. (name i, out i)) asks.1))

second_gives : (reads : List OneRead) (gives : Result Bundle GatherFault) → AllByRecursion (FoundAt 1) reads → GathersFrom load_source reads gives → Gave gives
second_gives [] gives found is = inr is
second_gives (read ∷ reads) gives found is =
    let out : read.out ≡ readout.Got second_text = found.0 ∙ (ap (λ (n : List ℕ). found_in (slice_get sets 1) n) is.0 ∙ ap readout.Got (take_all limits.READ_BYTES second_text (omega arith))) in
    let none = within (length second_text) (length second_text) (omega arith) (omega arith) in
    bare_gives reads gives found.1
    (subst (λ (o : Option GatherFault). GoesOn (λ behind. Gathers behind reads gives) (unless_over (bare [] second_text) o) reads gives) none
    (subst (λ (o : ReadOut). GoesOn (λ behind. Gathers behind reads gives) (after_corefile load_source o) reads gives) out is.2))

head_of : List ℕ → ℕ
head_of [] = 0
head_of (byte ∷ bytes) = byte

not_same : ◌≡◌ {A = Result Bundle GatherFault} (Ok (load_bundle second_text zone_text)) (Ok (load_bundle conf_text zone_text)) → ⊥
unfolding head_of
not_same e =
    let bundles : load_bundle second_text zone_text ≡ load_bundle conf_text zone_text = cc in
    let first : 35 ≡ 108 = ap (λ (b : Bundle). head_of b.conf) bundles in
    absurd (omega (arith, first))

same_Ok : (a b : Bundle) → ◌≡◌ {A = Result Bundle GatherFault} (Ok a) (Ok b) → a ≡ b
same_Ok a b e = cc

none_held : (serial : ℕ) (pinned : List (List ℕ)) → IsHeld 0 serial pinned → ⊥
none_held serial [] held = held
none_held serial (p ∷ pinned) (inl one) = never p one
  where
    never : (xs : List ℕ) → last_below 0 xs ≡ Some serial → ⊥
    never [] e = absurd cc
    never (x ∷ xs) e = never xs (sym (ap (λ (t : Bool). if t then Some x else last_below 0 xs) (not_above 0 x (omega arith))) ∙ e)
none_held serial (p ∷ pinned) (inr others) = none_held serial pinned others

no_extras : (n : ℕ) → map block_extras (load_block n ∷ []) ≡ [] ∷ []
unfolding rank_of
no_extras n = refl

is_reloaded : (n : ℕ) → reloads (load_block n ∷ []) ≡ true
unfolding rank_of
is_reloaded n = refl

first_ports : (n : ℕ) (ports : List ℕ) → ArePorts (load_block n ∷ []) ports → ArePorts (load_block 1 ∷ []) ports
first_ports n ports are = record { ascending = are.ascending; those = are.those }

module _ (terms : Terms) (port : terms.default_port ≡ 53) (pinned : List (List ℕ)) (last : Bundle) (last_is : last ≡ load_bundle conf_text zone_text) (blocks : List Block) (accepted : IsAccepted terms last blocks) where
  abbrev standing : Standing
  standing = record { terms = terms; bundle = last; blocks = blocks; published = 1 }

  same_ports : (other : List Block) (bundle : Bundle) → IsAccepted terms bundle other → bundle ≡ load_bundle second_text zone_text → (kept read : List ℕ) → ArePorts blocks kept → ArePorts other read → kept ≡ read
  same_ports other bundle others is kept read a b =
      let mine = has_block zone_text last terms.default_port blocks port (inl last_is) accepted.read in
      let its = has_block zone_text bundle terms.default_port other port (inr is) others.read in
      let one = first_ports mine.line kept (subst (λ (bs : List Block). ArePorts bs kept) mine.blocks_are a) in
      let two = first_ports its.line read (subst (λ (bs : List Block). ArePorts bs read) its.blocks_are b) in
      ports_are_one (load_block 1 ∷ []) kept read one two

  abbrev second : Bundle
  second = load_bundle second_text zone_text

  no_other : (gives : Result Bundle GatherFault) (bundle : Bundle) → gives ≡ Ok bundle → gives ≡ Err unread.NoMemory → ⊥
  no_other gives bundle got none = let e : ◌≡◌ {A = Result Bundle GatherFault} (Ok bundle) (Err unread.NoMemory) = sym got ∙ none in absurd cc

  no_need : (bundle : Bundle) (other : List Block) (name : List ℕ) → IsAccepted terms bundle other → bundle ≡ second → asked_by (is_named name) (map block_extras other) ≡ 0
  no_need bundle other name others is =
      let its = has_block zone_text bundle terms.default_port other port (inr is) others.read in
      ap (λ (bs : List Block). asked_by (is_named name) (map block_extras bs)) its.blocks_are ∙ ap (λ l. asked_by (is_named name) l) (no_extras its.line)

  -- nothing but a publication is answered
  pub answers : (gives : Result Bundle GatherFault) (answer : Looking) → Gave gives → IsHeldFor pinned 1 answer → AnswersLook standing gives answer → published_as gives answer ≡ second ∷ []
  answers gives looking.NoReload gave held is = absurd is
  answers gives (looking.ReadFailed name) (inl ok) held is = let e : ◌≡◌ {A = Result Bundle GatherFault} (Ok second) (Err (unread.ReadFailed name)) = sym ok ∙ is in absurd cc
  answers gives (looking.ReadFailed name) (inr none) held is = let e : ◌≡◌ {A = Result Bundle GatherFault} (Err unread.NoMemory) (Err (unread.ReadFailed name)) = sym none ∙ is in absurd cc
  answers gives looking.Same (inl ok) held is = absurd (not_same (sym ok ∙ (is ∙ ap Ok last_is)))
  answers gives looking.Same (inr none) held is = absurd (no_other gives last is none)
  answers gives (looking.Refused why) (inl ok) held is =
      absurd (second_accepted terms zone_text blocks why port (subst (λ (b : Bundle). IsAccepted terms b blocks) last_is accepted) (subst (λ (g : Result Bundle GatherFault). Refuses terms g why) ok is.0))
  answers gives (looking.Refused why) (inr none) held is = absurd (subst (λ (g : Result Bundle GatherFault). Refuses terms g why) none is.0)
  answers gives (looking.PortsDiffer kept read) (inl ok) held is =
      absurd (is.is.2 (same_ports is.blocks is.bundle is.accepted (same_Ok is.bundle second (sym is.got ∙ ok)) kept read is.is.0 is.is.1))
  answers gives (looking.PortsDiffer kept read) (inr none) held is = absurd (no_other gives is.bundle is.got none)
  answers gives looking.SerialsSpent gave held is = let spent = is.is.1 in absurd (omega (arith, spent))
  answers gives (looking.AllPinned one two three) gave held is = absurd (none_held held.a pinned held.one)
  answers gives (looking.StockShort name asked had) (inl ok) held is =
      let none = no_need is.bundle is.blocks name is.accepted (same_Ok is.bundle second (sym is.got ∙ ok)) in
      let asks = is.is.asked_is ∙ ap (λ (n : ℕ). is.is.workers * n) none in
      let short = is.is.short in
      absurd (omega (arith, asks, short))
  answers gives (looking.StockShort name asked had) (inr none) held is = absurd (no_other gives is.bundle is.got none)
  answers gives (looking.Published serial) (inl ok) held is = ap gathered ok
  answers gives (looking.Published serial) (inr none) held is = absurd (no_other gives is.bundle is.got none)
  answers gives looking.NoMemory gave held is = absurd is

only_last : (before : List Bundle) (first last : Bundle) → first ∷ [] ≡ before ++ last ∷ [] → last ≡ first
only_last [] first last e = cc
only_last (b ∷ []) first last e = absurd cc
only_last (b ∷ c ∷ before) first last e = absurd cc

-- each turn of the watch begins with its look
record Looks (turn : WatchTurn) : Type 0 where
  interval : ℕ
  jitter : ℕ
  tail : List WatchMark
  is : watch_marks turn ≡ mark.Look interval jitter ∷ tail

looks_first : (turn : WatchTurn) → Looks turn
looks_first (looked times reads gives answer flag) = record { interval = times.interval; jitter = times.jitter; tail = _; is = refl }
looks_first (starved times reads gives) = record { interval = times.interval; jitter = times.jitter; tail = _; is = refl }

module _ (terms : Terms) (port : terms.default_port ≡ 53) (journal : List WatchMark) (follows : FollowsWatchScript (looks_alone sets) journal) (first : Bundle) (reads : List OneRead) (gathers : GathersFrom load_source reads (Ok first)) where
  abbrev front : List WatchMark
  front = marks_of reads ++ mark.Published 0 ∷ []

  front_none : looks_in front ≡ 0
  front_none = let more = one_look (marks_of reads) (mark.Published 0) in let none = reads_look reads in omega (arith, more, none)

  abbrev Told : List WatchTurn → List WatchMark → Type 0
  Told looks ending = journal ≡ front ++ (flat_map watch_marks looks ++ ending)

  ended : (looks : List WatchTurn) (ending : List WatchMark) → EndsWatch terms (bundles_of first looks) ending → AllByRecursion (IsForm zone_text) (bundles_of first looks) → ending ≡ mark.End ∷ []
  ended looks ending (inl e) forms = e
  ended looks ending (inr stops) forms =
      let s = stops.1 in
      let form = (back_all (IsForm zone_text) s.before (s.last ∷ []) (subst (AllByRecursion (IsForm zone_text)) s.last_is forms)).0 in
      let has = has_block zone_text s.last terms.default_port s.blocks port form s.accepted.read in
      let e : true ≡ false = sym (is_reloaded has.line) ∙ (sym (ap reloads has.blocks_are) ∙ s.no_reload) in
      absurd cc

  some_look : Told [] (mark.End ∷ []) → ⊥
  some_look told = let given = follows.each front mark.End [] told in let none = front_none in omega (arith, given, none)

  one_look_alone : (turn other : WatchTurn) (looks : List WatchTurn) (ending : List WatchMark) → Told (turn ∷ other ∷ looks) ending → ⊥
  one_look_alone turn other looks ending told =
      let a = looks_first turn in
      let b = looks_first other in
      let rest = b.tail ++ flat_map watch_marks looks in
      let cut : flat_map watch_marks (turn ∷ other ∷ looks) ≡ watch_marks turn ++ (mark.Look b.interval b.jitter ∷ rest) =
      flat_map-cons watch_marks turn (other ∷ looks) ∙ ap (λ l. watch_marks turn ++ l) (flat_map-cons watch_marks other looks ∙ ap (λ l. l ++ flat_map watch_marks looks) b.is) in
      let is : journal ≡ (front ++ watch_marks turn) ++ (mark.Look b.interval b.jitter ∷ (rest ++ ending)) =
      told ∙ (ap (λ l. front ++ (l ++ ending)) cut ∙ (ap (λ l. front ++ l) (append_assoc (watch_marks turn) (mark.Look b.interval b.jitter ∷ rest) ending)
      ∙ sym (append_assoc front (watch_marks turn) (mark.Look b.interval b.jitter ∷ (rest ++ ending))))) in
      let given = follows.each (front ++ watch_marks turn) (mark.Look b.interval b.jitter) (rest ++ ending) is in
      let both = sum_by-append (λ (x : WatchMark). cond (is_look x) 1 0) front (watch_marks turn) in
      let here = ap (λ (l : List WatchMark). looks_in l) a.is in
      let one = sum_by-cons (λ (x : WatchMark). cond (is_look x) 1 0) (mark.Look a.interval a.jitter) a.tail in
      omega (arith, given, both, here, one)

  found_first : (looks : List WatchTurn) (ending : List WatchMark) → Told looks ending → first ≡ load_bundle conf_text zone_text
  found_first looks ending told =
      first_form reads first
      (reads_at journal [] 0 reads (mark.Published 0 ∷ (flat_map watch_marks looks ++ ending)) follows refl (told ∙ append_assoc (marks_of reads) (mark.Published 0 ∷ []) (flat_map watch_marks looks ++ ending))) gathers

  -- what the looks published
  pub published_one : (pinned : List (List ℕ)) (looks : List WatchTurn) (ending : List WatchMark) → Told looks ending → EndsWatch terms (bundles_of first looks) ending → AllByRecursion (IsForm zone_text) (bundles_of first looks)
      → AreLooks load_source terms (first ∷ []) looks → AreHeld pinned (first ∷ []) looks → all_starved looks ≡ 0 → length (flat_map published_by looks) ≡ 1
  published_one pinned [] ending told ends forms are held fed = absurd (some_look (told ∙ ap (λ l. front ++ l) (ended [] ending ends forms)))
  published_one pinned (turn ∷ other ∷ looks) ending told ends forms are held fed = absurd (one_look_alone turn other looks ending told)
  published_one pinned (starved times more gives ∷ []) ending told ends forms are held fed = absurd (omega (arith, fed))
  published_one pinned (looked times more gives answer flag ∷ []) ending told ends forms are held fed =
      let turn = looked times more gives answer flag in
      let look = mark.Look times.interval times.jitter in
      let back = publication answer ++ note_marks (look_text answer) flag in
      let cut : flat_map watch_marks (turn ∷ []) ≡ look ∷ (marks_of more ++ back) = flat_map-cons watch_marks turn [] ∙ append-nil (watch_marks turn) in
      let is : journal ≡ (front ++ look ∷ []) ++ (marks_of more ++ (back ++ ending)) =
      told ∙ (ap (λ l. front ++ (l ++ ending)) cut ∙ (ap (λ l. front ++ look ∷ l) (append_assoc (marks_of more) back ending) ∙ sym (append_assoc front (look ∷ []) (marks_of more ++ (back ++ ending))))) in
      let count = one_look front look in
      let none = front_none in
      let found = reads_at journal (front ++ look ∷ []) 1 more (back ++ ending) follows (omega (arith, count, none)) is in
      let l = are.0.1 in
      let last = only_last l.before first l.last l.last_is ∙ found_first (turn ∷ []) ending told in
      let gave = answers terms port pinned l.last last l.blocks l.accepted gives answer (second_gives more gives found are.0.0) held.0 l.is in
      ap length (flat_map-cons published_by turn [] ∙ (append-nil (published_by turn) ∙ gave))
