-- What is gathered over a load's files: each bundle is one of both forms.
use Rattle.std.proofs.Common.{◌≡◌, ◌∙◌, ◌⊎◌, ◌+◌, ◌*◌, ◌/◌, ◌%◌, ◌<◌, ◌≤◌, ℕ, zero, suc, cond, List, [], ◌∷◌, ◌++◌, length, length-append, Option, Some, None, codes, refl, sym, ap, subst, inl, inr, arith, append_assoc}
use Rattle.std.specs.Prelude.{Ok, slice_get}
use Rattle.std.specs.Fmt.{decimal}
use Rattle.std.specs.List.{AllByRecursion}
use Rattle.std.proofs.lemmas.Fmt.{length-decimal-le}
use Rattle.std.proofs.lemmas.List.{take_all}
use Rattle.std.proofs.lemmas.List.Sums.{sum_by_push}
use Rattle.dns_data.specs.declared.limit.TheConstants as limits
use Rattle.corefile_blocks.specs.Blocks.{read, read_lines, reading_of, step, wants_of}
use Rattle.corefile_blocks.specs.Keys.{double_key, header_keys, key_of, key_zone, pieces_of, port_of}
use Rattle.corefile_blocks.specs.LineForms.{form_at}
use Rattle.corefile_blocks.specs.Seeking.{first_missing}
use Rattle.corefile_blocks.specs.WantedFiles.{each_once, files_of}
use Rattle.corefile_blocks.specs.declared.bundle.Bundle.{Bundle}
use Rattle.corefile_words.specs.Words.{words_of}
use Rattle.dns_names.specs.NameText.{name_of}
use Rattle.corefile_bundle.specs.Gathering.{EndsBy, Gathers, GathersFrom, GoesOn, OneRead, after_corefile, after_read, bare, bundle_bytes, marks_of, next_file, over, source_of, unless_over, with_file}
use Rattle.corefile_bundle.specs.declared.fault.GatherFault.{GatherFault}
use Rattle.outside.specs.declared.mark.WatchMark.{WatchMark}
use Rattle.outside.specs.declared.mark.WatchMark.TheVariants as mark
use Rattle.outside.specs.declared.script.FileSet.{FileSet}
use Rattle.outside.specs.declared.watch.ReadOut.{ReadOut}
use Rattle.outside.specs.declared.watch.ReadOut.TheVariants as readout
use Rattle.outside.specs.Script.{looks_alone}
use Rattle.outside.specs.WatchMarks.{FollowsWatchScript, found_in, is_look, looks_in}
use Rattle.load_maker.specs.Scripts.{conf_name, files_with, zone_name}
use Rattle.load_maker.specs.Texts.{apex_text, conf_text, ended, host_line, hosts_below, second_text, zone_text}
use Rattle.dns_server.specs.LoadCounts.{load_bundle}
use Rattle.dns_server.proofs.LoadTurns.{IsForm}
use Rattle.dns_server.proofs.LoadWords.{Lines, lines_at, second_are, words_are}

-- the zone is no larger than a read may be
ended_length : (text : List ℕ) → length (ended text) ≡ length text + 1
ended_length text = length-append text (10 ∷ [])

few_digits : (n : ℕ) → n < 1000 → length (decimal n) ≤ 3
few_digits n below = length-decimal-le 3 n (omega arith) (omega (arith, below)) (omega (arith, below))

line_length : (k : ℕ) → k < 1000 → length (host_line k) ≤ 40
line_length k below =
    let one = codes "h" ++ decimal k in
    let two = one ++ codes " IN A 10.9." in
    let three = two ++ decimal (k / 256) in
    let four = three ++ codes "." in
    let five = four ++ decimal (k % 256) in
    let whole = ended_length five in
    let a = length-append (codes "h") (decimal k) in
    let b = length-append one (codes " IN A 10.9.") in
    let c = length-append two (decimal (k / 256)) in
    let d = length-append three (codes ".") in
    let e = length-append four (decimal (k % 256)) in
    let h : length (codes "h") ≡ 1 = refl in
    let words : length (codes " IN A 10.9.") ≡ 11 = refl in
    let dot : length (codes ".") ≡ 1 = refl in
    let x = few_digits k below in
    let y = few_digits (k / 256) (omega (arith, below)) in
    let z = few_digits (k % 256) (omega arith) in
    omega (arith, whole, a, b, c, d, e, h, words, dot, x, y, z)

pub hosts_length : (k : ℕ) → k ≤ 1000 → length (hosts_below k) ≤ 40 * k
hosts_length zero few = omega arith
hosts_length (suc k) few =
    let whole = length-append (hosts_below k) (host_line k) in
    let before = hosts_length k (omega (arith, few)) in
    let here = line_length k (omega (arith, few)) in
    omega (arith, whole, before, here)

pub apex_length : length apex_text ≤ 200
apex_length = let e : length apex_text ≡ length apex_text = refl in omega arith

pub zone_short : length zone_text ≤ 40200
unfolding zone_text
zone_short =
    let parts = length-append apex_text (hosts_below 1000) in
    let hosts = hosts_length 1000 (omega arith) in
    let apex = apex_length in
    omega (arith, parts, hosts, apex)

zone_length : length zone_text ≤ limits.READ_BYTES
zone_length = let short = zone_short in omega (arith, short)

-- what a read of the load's files gave
abbrev pub sets : List FileSet
sets = files_with conf_text zone_text ∷ files_with second_text zone_text ∷ []

pub record IsFound (read : OneRead) : Type 0 where
  pub at : ℕ
  pub low : at < 2
  pub is : read.out ≡ found_in (slice_get sets at) read.name

conf_found : (read : OneRead) → read.name ≡ conf_name → IsFound read → (read.out ≡ readout.Got conf_text) ⊎ (read.out ≡ readout.Got second_text)
conf_found read name found = by found.at found.low (found.is ∙ ap (λ (n : List ℕ). found_in (slice_get sets found.at) n) name)
  where
    by : (at : ℕ) → at < 2 → read.out ≡ found_in (slice_get sets at) conf_name → (read.out ≡ readout.Got conf_text) ⊎ (read.out ≡ readout.Got second_text)
    by zero low is = inl (is ∙ ap readout.Got (take_all limits.READ_BYTES conf_text (omega arith)))
    by (suc zero) low is = inr (is ∙ ap readout.Got (take_all limits.READ_BYTES second_text (omega arith)))
    by (suc (suc at)) low is = absurd (omega (arith, low))

zone_found : (read : OneRead) → read.name ≡ zone_name → IsFound read → read.out ≡ readout.Got zone_text
zone_found read name found = by found.at found.low (found.is ∙ ap (λ (n : List ℕ). found_in (slice_get sets found.at) n) name)
  where
    by : (at : ℕ) → at < 2 → read.out ≡ found_in (slice_get sets at) zone_name → read.out ≡ readout.Got zone_text
    by zero low is = is ∙ ap readout.Got (take_all limits.READ_BYTES zone_text zone_length)
    by (suc zero) low is = is ∙ ap readout.Got (take_all limits.READ_BYTES zone_text zone_length)
    by (suc (suc at)) low is = absurd (omega (arith, low))

-- which file a form wants
next_by : Bundle → Lines → Option (List ℕ)
next_by bundle words = first_missing bundle (each_once (read_lines bundle 0 words).named)

of_words : (bundle : Bundle) → next_file bundle ≡ next_by bundle (words_of bundle.env bundle.conf)
unfolding next_file wants_of reading_of next_by
of_words bundle = refl

lines_want : (bundle : Bundle) (n : ℕ) → next_by bundle (Ok (lines_at n)) ≡ first_missing bundle (zone_name ∷ [])
unfolding next_by each_once read step double_key form_at header_keys pieces_of key_of port_of key_zone name_of files_of
lines_want bundle n = refl

-- either text
abbrev pub IsText : List ℕ → Type 0
IsText conf = (conf ≡ conf_text) ⊎ (conf ≡ second_text)

pub text_words : (bundle : Bundle) (conf : List ℕ) → bundle.conf ≡ conf → bundle.env ≡ [] → IsText conf → next_file bundle ≡ first_missing bundle (zone_name ∷ [])
text_words bundle conf is env (inl first) =
    of_words bundle ∙ ((λ i. next_by bundle (words_of (env i) ((is ∙ first) i))) ∙ (ap (next_by bundle) words_are ∙ lines_want bundle 1))
text_words bundle conf is env (inr second) =
    of_words bundle ∙ ((λ i. next_by bundle (words_of (env i) ((is ∙ second) i))) ∙ (ap (next_by bundle) second_are ∙ lines_want bundle 2))

pub same_name : (a b : List ℕ) → ◌≡◌ {A = Option (List ℕ)} (Some a) (Some b) → a ≡ b
same_name a b e = cc

no_Err : (bundle : Bundle) (cause : GatherFault) (reads : List OneRead) → EndsBy cause reads (Ok bundle) → ⊥
no_Err bundle cause reads (none, inl e) = absurd cc
no_Err bundle cause reads (none, inr e) = absurd cc

-- behind both files nothing is wanted
behind_zone : (conf : List ℕ) (reads : List OneRead) (bundle : Bundle) → IsText conf → Gathers (load_bundle conf zone_text) reads (Ok bundle) → bundle ≡ load_bundle conf zone_text
behind_zone conf [] bundle text end = end.0
behind_zone conf (read ∷ reads) bundle text asks =
    let none : next_file (load_bundle conf zone_text) ≡ None = text_words (load_bundle conf zone_text) conf refl refl text in
    let e : ◌≡◌ {A = Option (List ℕ)} None (Some read.name) = sym none ∙ asks.0.wants in
    absurd cc

after_zone : (conf : List ℕ) (reads : List OneRead) (bundle : Bundle) → IsText conf → (o : Option GatherFault)
    → GoesOn (λ behind. Gathers behind reads (Ok bundle)) (unless_over (with_file (bare [] conf) zone_name (Some zone_text)) o) reads (Ok bundle) → bundle ≡ load_bundle conf zone_text
after_zone conf reads bundle text None goes = behind_zone conf reads bundle text goes
after_zone conf reads bundle text (Some cause) goes = absurd (no_Err bundle cause reads goes)

behind_conf : (conf : List ℕ) (reads : List OneRead) (bundle : Bundle) → IsText conf → AllByRecursion IsFound reads → Gathers (bare [] conf) reads (Ok bundle) → bundle ≡ load_bundle conf zone_text
behind_conf conf [] bundle text found end =
    let some : next_file (bare [] conf) ≡ Some zone_name = text_words (bare [] conf) conf refl refl text in
    let e : ◌≡◌ {A = Option (List ℕ)} (Some zone_name) None = sym some ∙ end.1 in
    absurd cc
behind_conf conf (read ∷ reads) bundle text found asks =
    let some : next_file (bare [] conf) ≡ Some zone_name = text_words (bare [] conf) conf refl refl text in
    let name : read.name ≡ zone_name = same_name read.name zone_name (sym asks.0.wants ∙ some) in
    let out = zone_found read name found.0 in
    after_zone conf reads bundle text (over (length zone_text) (bundle_bytes (bare [] conf) + length zone_text))
    (subst (λ (x : List ℕ × ReadOut). GoesOn (λ behind. Gathers behind reads (Ok bundle)) (after_read (bare [] conf) x.0 x.1) reads (Ok bundle)) (λ i. (name i, out i)) asks.1)

pub after_conf : (conf : List ℕ) (reads : List OneRead) (bundle : Bundle) → IsText conf → AllByRecursion IsFound reads → (o : Option GatherFault)
    → GoesOn (λ behind. Gathers behind reads (Ok bundle)) (unless_over (bare [] conf) o) reads (Ok bundle) → bundle ≡ load_bundle conf zone_text
after_conf conf reads bundle text found None goes = behind_conf conf reads bundle text found goes
after_conf conf reads bundle text found (Some cause) goes = absurd (no_Err bundle cause reads goes)

-- what is gathered is one of both forms
pub gathered_form : (reads : List OneRead) (bundle : Bundle) → AllByRecursion IsFound reads → GathersFrom (source_of conf_name []) reads (Ok bundle) → IsForm zone_text bundle
gathered_form [] bundle found is = absurd cc
gathered_form (read ∷ reads) bundle found is = by (conf_found read is.0 found.0)
  where
    by : (read.out ≡ readout.Got conf_text) ⊎ (read.out ≡ readout.Got second_text) → IsForm zone_text bundle
    by (inl got) =
        inl (after_conf conf_text reads bundle (inl refl) found.1 (over (length conf_text) (length conf_text))
        (subst (λ (out : ReadOut). GoesOn (λ behind. Gathers behind reads (Ok bundle)) (after_corefile (source_of conf_name []) out) reads (Ok bundle)) got is.2))
    by (inr got) =
        inr (after_conf second_text reads bundle (inr refl) found.1 (over (length second_text) (length second_text))
        (subst (λ (out : ReadOut). GoesOn (λ behind. Gathers behind reads (Ok bundle)) (after_corefile (source_of conf_name []) out) reads (Ok bundle)) got is.2))

-- each read that a journal of the load's watch tells was found so
abbrev pub IsFoundMark : WatchMark → Type 0
IsFoundMark (mark.Read name out) = IsFound (record { name = name; out = out })
IsFoundMark other = Unit {0}

found_mark : (journal before : List WatchMark) (m : WatchMark) (rest : List WatchMark) → FollowsWatchScript (looks_alone sets) journal → looks_in before < 2 → journal ≡ before ++ m ∷ rest
    → IsFoundMark m × (looks_in (before ++ m ∷ []) < 2)
found_mark journal before (mark.Read name out) rest follows few is =
    let more = sum_by_push (λ (x : WatchMark). cond (is_look x) 1 0) before (mark.Read name out) in
    (record { at = looks_in before; low = few; is = follows.each before (mark.Read name out) rest is }, omega (arith, more, few))
found_mark journal before (mark.Look interval jitter) rest follows few is =
    let more = sum_by_push (λ (x : WatchMark). cond (is_look x) 1 0) before (mark.Look interval jitter) in
    let given = follows.each before (mark.Look interval jitter) rest is in
    (tt, omega (arith, more, given))
found_mark journal before mark.End rest follows few is =
    let more = sum_by_push (λ (x : WatchMark). cond (is_look x) 1 0) before mark.End in (tt, omega (arith, more, few))
found_mark journal before (mark.Noted line out) rest follows few is =
    let more = sum_by_push (λ (x : WatchMark). cond (is_look x) 1 0) before (mark.Noted line out) in (tt, omega (arith, more, few))
found_mark journal before (mark.Published serial) rest follows few is =
    let more = sum_by_push (λ (x : WatchMark). cond (is_look x) 1 0) before (mark.Published serial) in (tt, omega (arith, more, few))

found_from : (journal before rest : List WatchMark) → FollowsWatchScript (looks_alone sets) journal → looks_in before < 2 → journal ≡ before ++ rest → AllByRecursion IsFoundMark rest
found_from journal before [] follows few is = tt
found_from journal before (m ∷ rest) follows few is =
    let here = found_mark journal before m rest follows few is in
    (here.0, found_from journal (before ++ m ∷ []) rest follows here.1 (is ∙ sym (append_assoc before (m ∷ []) rest)))

pub all_found : (journal : List WatchMark) → FollowsWatchScript (looks_alone sets) journal → AllByRecursion IsFoundMark journal
all_found journal follows = found_from journal [] journal follows (omega arith) refl

pub reads_found : (reads : List OneRead) → AllByRecursion IsFoundMark (marks_of reads) → AllByRecursion IsFound reads
reads_found [] all = tt
reads_found (read ∷ reads) all = (all.0, reads_found reads all.1)
