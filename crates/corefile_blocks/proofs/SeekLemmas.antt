-- What a seeker finds, line by line.
use Rattle.std.proofs.Common.{◌≡◌, ℕ, zero, suc, ◌+◌, ◌<◌, ◌≤◌, Bool, true, false, cond, not, ◌||◌, List, [], ◌∷◌, ◌++◌, length, Option, Some, None, Result, Ok, Err}
use Rattle.std.proofs.Common.{refl, sym, ap, subst, ◌∙◌, arith, nat_eq, append_assoc, append-nil, length-append}
use Rattle.std.specs.Prelude.{take, drop, slice_get, if◌then◌else◌, nat_le, option_and_then}
use Rattle.std.specs.Bool.{Decides}
use Rattle.std.specs.Cmp.{unsigned_Decides}
use Rattle.std.specs.Cmp.Lexicographic.{pointwise}
use Rattle.std.specs.List.{find, list_any}
use Rattle.std.specs.Option.{option_or}
use Rattle.std.proofs.lemmas.List.{take-append-drop, take-append-le}
use Rattle.std.proofs.lemmas.List.Folds.{find-append}
use Rattle.std.proofs.lemmas.Slice.Eq.{slice_eq-Decides}
use Rattle.corefile_words.specs.{words_of}
use Rattle.corefile_words.specs.declared.word.WordLine.{WordLine}
use Rattle.corefile_words.specs.declared.fault.WordsFault.{WordsFault}
use Rattle.corefile_words.specs.declared.fault.WordsFault.TheVariants as words
use Rattle.corefile_words.specs.Words.{ReadsWords}
use Rattle.dns_data.specs.declared.limit.TheConstants as limits
use Rattle.dns_data.specs.declared.file.FileText.{FileText}
use Rattle.corefile_blocks.specs.declared.bundle.Bundle.{Bundle}
use Rattle.corefile_blocks.specs.declared.fault.CorefileFault.{CorefileFault}
use Rattle.corefile_blocks.specs.declared.fault.CorefileFault.TheVariants as fault
use Rattle.corefile_blocks.specs.declared.place.LineForm.{LineForm}
use Rattle.corefile_blocks.specs.declared.place.LineForm.TheVariants as form
use Rattle.corefile_blocks.specs.declared.reader.Reader.{Reader}
use Rattle.corefile_blocks.specs.declared.seeking.Seeker.{Seeker}
use Rattle.corefile_blocks.specs.declared.shared.Snippet.{Snippet}
use Rattle.corefile_blocks.specs.declared.stack.Frame.{Frame}
use Rattle.corefile_blocks.specs.Blocks.{EndedData, Reading, Step, beginning, file_of, import_by, import_file, import_name, naming, read, read_lines, reading_of, snippet_of, step, step_by, step_then, stops, wants_of}
use Rattle.corefile_blocks.specs.GrowingLaws.{Begins, read_keeps, step_keeps, with_one}
use Rattle.corefile_blocks.specs.LineForms.{form_at, nesting, same_text}
use Rattle.corefile_blocks.specs.PlacedLines.{PlacedLine, own_lines, stream_of}
use Rattle.corefile_blocks.specs.Reader.{AreTexts, Follows, reading_of as read_by}
use Rattle.corefile_blocks.specs.Seeking.{Seeks, Starts, first_missing, has_file, lacked, lacked_at, lacked_by, with_all}
use Rattle.corefile_blocks.specs.SeekingLaws.{steps-same}
use Rattle.corefile_blocks.specs.WantedFiles.{add_all, add_once, each_once}
use Rattle.corefile_blocks.proofs.ReadLemmas.{at_line, line_goes_on, line_stops, lines_end, past_limit}

-- The first missing name.

decides : (a b : List ℕ) → Decides (same_text a b) (a ≡ b)
decides a b = slice_eq-Decides unsigned_Decides a b (pointwise nat_eq a b) refl

missing_behind : (bundle : Bundle) (front back : List (List ℕ)) → first_missing bundle (front ++ back) ≡ option_or (first_missing bundle front) (first_missing bundle back)
missing_behind bundle front back = find-append (λ name. not (has_file bundle name)) front back

-- names behind those that are all there
behind_there : (bundle : Bundle) (front back : List (List ℕ)) → first_missing bundle front ≡ None → first_missing bundle (front ++ back) ≡ first_missing bundle back
behind_there bundle front back none = missing_behind bundle front back ∙ ap (λ f. option_or f (first_missing bundle back)) none

-- names behind one that is missing
pub front_missing : (bundle : Bundle) (front whole : List (List ℕ)) (name : List ℕ) → Begins front whole → first_missing bundle front ≡ Some name → first_missing bundle whole ≡ Some name
front_missing bundle front whole name begins is =
    ap (first_missing bundle) begins.is ∙ missing_behind bundle front begins.rest ∙ ap (λ f. option_or f (first_missing bundle begins.rest)) is

-- a name among those that are there is there
in_there : (bundle : Bundle) (made : List (List ℕ)) (name : List ℕ) → first_missing bundle made ≡ None → list_any (same_text name) made ≡ true → has_file bundle name ≡ true
in_there bundle [] name none is = absurd cc
in_there bundle (one ∷ made) name none is = by (has_file bundle one) (same_text name one) refl refl (in_there bundle made name) none is
  where
    by : (h s : Bool) → has_file bundle one ≡ h → same_text name one ≡ s → (first_missing bundle made ≡ None → list_any (same_text name) made ≡ true → has_file bundle name ≡ true)
        → cond (not h) (Some one) (first_missing bundle made) ≡ None → (s || list_any (same_text name) made) ≡ true → has_file bundle name ≡ true
    by true true e f behind rest any = ap (has_file bundle) ((decides name one).0 f) ∙ e
    by true false e f behind rest any = behind rest any
    by false s e f behind rest any = absurd cc

once_missing : (bundle : Bundle) (made : List (List ℕ)) (name : List ℕ) → first_missing bundle (add_once made name) ≡ first_missing bundle (made ++ name ∷ [])
once_missing bundle made name = by (list_any (same_text name) made) refl (first_missing bundle made) refl
  where
    by : (b : Bool) → list_any (same_text name) made ≡ b → (found : Option (List ℕ)) → first_missing bundle made ≡ found
        → first_missing bundle (if b then made else made ++ name ∷ []) ≡ first_missing bundle (made ++ name ∷ [])
    by false e found f = refl
    by true e (Some x) f = f ∙ sym (missing_behind bundle made (name ∷ []) ∙ ap (λ o. option_or o (first_missing bundle (name ∷ []))) f)
    by true e None f =
        f ∙ sym (behind_there bundle made (name ∷ []) f ∙ ap (λ h. cond (not h) (Some name) None) (in_there bundle made name f e))

all_missing : (bundle : Bundle) (made names : List (List ℕ)) → first_missing bundle (add_all made names) ≡ first_missing bundle (made ++ names)
all_missing bundle made [] = sym (ap (first_missing bundle) (append-nil made))
all_missing bundle made (name ∷ names) =
    all_missing bundle (add_once made name) names
    ∙ missing_behind bundle (add_once made name) names
    ∙ ap (λ f. option_or f (first_missing bundle names)) (once_missing bundle made name)
    ∙ sym (missing_behind bundle (made ++ name ∷ []) names)
    ∙ ap (first_missing bundle) (append_assoc made (name ∷ []) names)

each_missing : (bundle : Bundle) (names : List (List ℕ)) → first_missing bundle (each_once names) ≡ first_missing bundle names
unfolding each_once
each_missing bundle names = all_missing bundle [] names

pub wants_missing : (bundle : Bundle) (names : List (List ℕ)) → (reading_of bundle 0).named ≡ names → first_missing bundle (wants_of bundle) ≡ first_missing bundle names
unfolding wants_of
wants_missing bundle names is = each_missing bundle (reading_of bundle 0).named ∙ ap (first_missing bundle) is

-- How many are known.

take_one : (names : List (List ℕ)) (at : ℕ) (name : List ℕ) → slice_get names at ≡ Some name → take (suc at) names ≡ take at names ++ name ∷ []
take_one [] at name is = absurd cc
take_one (one ∷ names) zero name is = let same : one ≡ name = cc in ap (λ n. n ∷ []) same
take_one (one ∷ names) (suc at) name is = ap (λ ns. one ∷ ns) (take_one names at name is)

take_all : (names : List (List ℕ)) (at : ℕ) → slice_get names at ≡ None → take at names ≡ names
take_all [] zero is = refl
take_all [] (suc at) is = refl
take_all (one ∷ names) zero is = absurd cc
take_all (one ∷ names) (suc at) is = ap (λ ns. one ∷ ns) (take_all names at is)

pub known_more : (bundle : Bundle) (names : List (List ℕ)) (at : ℕ) (name : List ℕ) → slice_get names at ≡ Some name → first_missing bundle (take at names) ≡ None → has_file bundle name ≡ true
    → first_missing bundle (take (suc at) names) ≡ None
known_more bundle names at name is known there =
    ap (first_missing bundle) (take_one names at name is) ∙ behind_there bundle (take at names) (name ∷ []) known ∙ ap (λ h. cond (not h) (Some name) None) there

pub known_to : (bundle : Bundle) (names : List (List ℕ)) (at : ℕ) (name : List ℕ) → slice_get names at ≡ Some name → first_missing bundle (take at names) ≡ None → has_file bundle name ≡ false
    → first_missing bundle names ≡ Some name
known_to bundle names at name is known lacks =
    front_missing bundle (take (suc at) names) names name (record { rest = drop (suc at) names; is = sym (take-append-drop (suc at) names) })
    (ap (first_missing bundle) (take_one names at name is) ∙ behind_there bundle (take at names) (name ∷ []) known ∙ ap (λ h. cond (not h) (Some name) None) lacks)

pub known_all : (bundle : Bundle) (names : List (List ℕ)) (at : ℕ) → slice_get names at ≡ None → first_missing bundle (take at names) ≡ None → first_missing bundle names ≡ None
known_all bundle names at is known = ap (first_missing bundle) (sym (take_all names at is)) ∙ known

-- Before the first line.

words_all : (bundle : Bundle) (more : List FileText) → words_of (with_all bundle more).env (with_all bundle more).conf ≡ words_of bundle.env bundle.conf
words_all bundle [] = refl
words_all bundle (file ∷ more) = words_all (with_one bundle file) more

named_by : (bundle : Bundle) (told : Result (List WordLine) WordsFault) → words_of bundle.env bundle.conf ≡ told → (reading_of bundle 0).named ≡ (read_lines bundle 0 told).named
unfolding reading_of
named_by bundle told is = ap (λ w. (read_lines bundle 0 w).named) is

at_start : (bundle : Bundle) (seeker : Seeker) (lines : List WordLine) → Starts lines seeker
    → (read limits.LINES bundle 0 beginning (own_lines lines)).named ≡ (read seeker.left bundle 0 (read_by seeker.reader) (stream_of seeker.reader.frames)).named
at_start bundle seeker lines starts = λ i. (read (sym starts.left i) bundle 0 (sym starts.reading i) (sym starts.stream i)).named

started : (bundle : Bundle) (seeker : Seeker) (lines : List WordLine) → Starts lines seeker
    → ((more : List FileText) → (reading_of (with_all bundle more) 0).named ≡ (read limits.LINES (with_all bundle more) 0 beginning (own_lines lines)).named) → Seeks bundle seeker
started bundle seeker lines starts says = record {
  says = λ more. says more ∙ at_start (with_all bundle more) seeker lines starts;
  texts = subst (AreTexts bundle) (sym starts.texts) (λ name. tt);
  nesting = let place = ap (λ (r : Reading). nesting r.place) starts.reading in let left = starts.left in omega (arith, place, left);
  inside = let seen = starts.seen in omega (arith, seen);
  known = subst (λ n. first_missing bundle (take n seeker.reader.named) ≡ None) (sym starts.seen) refl;
}

pub starts_well : (bundle : Bundle) (seeker : Seeker) (lines : List WordLine) → words_of bundle.env bundle.conf ≡ Ok lines → Starts lines seeker → Seeks bundle seeker
starts_well bundle seeker lines is starts =
    started bundle seeker lines starts (λ more. named_by (with_all bundle more) (Ok lines) (words_all bundle more ∙ is))

pub starts_broken : (bundle : Bundle) (seeker : Seeker) (broken : WordsFault) → words_of bundle.env bundle.conf ≡ Err broken → Starts [] seeker → Seeks bundle seeker
starts_broken bundle seeker broken is starts =
    started bundle seeker [] starts (λ more.
    named_by (with_all bundle more) (Err broken) (words_all bundle more ∙ is)
    ∙ sym (ap (λ (e : EndedData). e.named) (lines_end limits.LINES (with_all bundle more) 0 beginning [] refl)))

-- A line.

pub known_behind : (bundle : Bundle) (seen : ℕ) (names whole : List (List ℕ)) → Begins names whole → seen ≤ length names → first_missing bundle (take seen names) ≡ None → first_missing bundle (take seen whole) ≡ None
known_behind bundle seen names whole begins inside known =
    ap (λ all. first_missing bundle (take seen all)) begins.is ∙ ap (first_missing bundle) (take-append-le seen names begins.rest inside) ∙ known

pub inside_behind : (seen : ℕ) (names whole : List (List ℕ)) → Begins names whole → seen ≤ length names → seen ≤ length whole
inside_behind seen names whole begins inside =
    let long : length whole ≡ length names + length begins.rest = ap length begins.is ∙ length-append names begins.rest in omega (arith, long)

-- what is read of these lines stays as it is
pub seeks_as : (bundle : Bundle) (before after : Seeker) → Seeks bundle before → read_by after.reader ≡ read_by before.reader → after.reader.texts ≡ before.reader.texts → after.left ≤ before.left → after.seen ≡ before.seen
    → ((more : List FileText) → (read before.left (with_all bundle more) 0 (read_by before.reader) (stream_of before.reader.frames)).named ≡ (read after.left (with_all bundle more) 0 (read_by after.reader) (stream_of after.reader.frames)).named)
    → Seeks bundle after
seeks_as bundle before after seeks reading texts left seen same = record {
  says = λ more. seeks.says more ∙ same more;
  texts = subst (AreTexts bundle) (sym texts) seeks.texts;
  nesting = let place = ap (λ (r : Reading). nesting r.place) reading in let n = seeks.nesting in omega (arith, place, n, left);
  inside = let long = ap (λ (r : Reading). length r.named) reading in let i = seeks.inside in omega (arith, long, i, seen);
  known = (λ i. first_missing bundle (take (seen i) (reading i).named)) ∙ seeks.known;
}

-- nothing more is named
pub says_all : (bundle : Bundle) (left : ℕ) (reading : Reading) (stream : List PlacedLine) → stream ≡ [] → (read left bundle 0 reading stream).named ≡ reading.named
says_all bundle left reading stream none = ap (λ (e : EndedData). e.named) (lines_end left bundle 0 reading stream none)

pub says_limit : (bundle : Bundle) (left : ℕ) (reading : Reading) (line : PlacedLine) (stream lines : List PlacedLine) → left ≡ 0 → stream ≡ line ∷ lines → (read left bundle 0 reading stream).named ≡ reading.named
says_limit bundle left reading line stream lines none is = ap (λ (e : EndedData). e.named) (past_limit left bundle 0 reading line stream lines none is)

-- a line was taken
pub says_line : (bundle : Bundle) (more : List FileText) (left less : ℕ) (before after : Reader) (line : PlacedLine) (stream : List PlacedLine) → left ≡ suc less → stream ≡ line ∷ stream_of before.frames
    → lacked bundle (read_by before) line ≡ None → Follows (step bundle 0 (read_by before) line) before after None
    → (read left (with_all bundle more) 0 (read_by before) stream).named ≡ (read less (with_all bundle more) 0 (read_by after) (stream_of after.frames)).named
says_line bundle more left less before after line stream e is there follows =
    ap (λ (e : EndedData). e.named) (line_goes_on left less (with_all bundle more) 0 before after line stream e is
    (subst (λ s. Follows s before after None) (sym (steps-same bundle more 0 (read_by before) line there)) follows))

pub says_stop : (bundle : Bundle) (more : List FileText) (left less : ℕ) (before after : Reader) (line : PlacedLine) (stream : List PlacedLine) (met : CorefileFault) → left ≡ suc less → stream ≡ line ∷ stream_of before.frames
    → lacked bundle (read_by before) line ≡ None → Follows (step bundle 0 (read_by before) line) before after (Some met)
    → (read left (with_all bundle more) 0 (read_by before) stream).named ≡ after.named
says_stop bundle more left less before after line stream met e is there follows =
    ap (λ (e : EndedData). e.named) (line_stops left less (with_all bundle more) 0 before after line stream met e is
    (subst (λ s. Follows s before after (Some met)) (sym (steps-same bundle more 0 (read_by before) line there)) follows))

pub names_more : (bundle : Bundle) (before after : Reader) (line : PlacedLine) (met : Option CorefileFault) → Follows (step bundle 0 (read_by before) line) before after met → Begins before.named after.named
names_more bundle before after line met follows =
    subst (λ (r : Reading). Begins before.named r.named) (sym follows.reading) (step_keeps bundle 0 (read_by before) line)

-- A file that is lacking.

lacking_file : (name : List ℕ) (files : List FileText) → list_any (λ f. same_text name f.name) files ≡ false → file_of name files ≡ None
lacking_file name [] is = refl
lacking_file name (one ∷ files) is = by (same_text name one.name) refl (lacking_file name files) is
  where
    by : (b : Bool) → same_text name one.name ≡ b → (list_any (λ (f : FileText). same_text name f.name) files ≡ false → file_of name files ≡ None) → (b || list_any (λ (f : FileText). same_text name f.name) files) ≡ false
        → file_of name (one ∷ files) ≡ None
    by true e behind any = absurd cc
    by false e behind any = ap (λ b. option_and_then (λ (f : FileText). f.bytes) (cond b (Some one) (find (λ (f : FileText). same_text name f.name) files))) e ∙ behind any

-- such an import stops the reading behind its name
record Stops (bundle : Bundle) (reading : Reading) (name : List ℕ) (s : Step) : Type 0 where
  pub lacks : has_file bundle name ≡ false
  pub fault : CorefileFault
  pub is : s.fault ≡ Some fault
  pub named : s.reading.named ≡ reading.named ++ name ∷ []

stops_by : (bundle : Bundle) (reading : Reading) (line : PlacedLine) (name : List ℕ) (found : Option Snippet) → lacked_by bundle (import_name line.line.words) found ≡ Some name → Stops bundle reading name (import_by bundle reading line found)
stops_by bundle reading line name (Some snippet) is = absurd cc
stops_by bundle reading line name None is = by (has_file bundle own) refl is
  where
    own : List ℕ
    own = import_name line.line.words

    by : (b : Bool) → has_file bundle own ≡ b → (◌≡◌ {A = Option (List ℕ)} (if b then None else Some own) (Some name)) → Stops bundle reading name (import_by bundle reading line None)
    by true e is = absurd cc
    by false e is =
        let same : own ≡ name = cc in
        let none : file_of own bundle.files ≡ None = lacking_file own bundle.files e in
        record {
          lacks = subst (λ n. has_file bundle n ≡ false) same e;
          fault = fault.NoSnippet line.number;
          is = ap (λ found. (import_file bundle (naming reading own) line found).fault) none;
          named = ap (λ found. (import_file bundle (naming reading own) line found).reading.named) none ∙ ap (λ n. reading.named ++ n ∷ []) same;
        }

stops_if : (bundle : Bundle) (reading : Reading) (name : List ℕ) (b : Bool) (deep other : Step) (lacks : Option (List ℕ)) → (lacks ≡ Some name → Stops bundle reading name other) → (if b then None else lacks) ≡ Some name
    → Stops bundle reading name (if b then deep else other)
stops_if bundle reading name true deep other lacks on is = absurd cc
stops_if bundle reading name false deep other lacks on is = on is

stops_at : (bundle : Bundle) (reading : Reading) (line : PlacedLine) (name : List ℕ) (of : LineForm) → lacked_at bundle reading line of ≡ Some name → Stops bundle reading name (step_by bundle 0 reading line of)
stops_at bundle reading line name form.Import is =
    let own : List ℕ = import_name line.line.words in
    stops_if bundle reading name (nat_le limits.IMPORT_DEPTH line.depth) (stops reading (fault.ImportLoop line.number)) (import_by bundle reading line (snippet_of own reading.snippets))
    (lacked_by bundle own (snippet_of own reading.snippets)) (stops_by bundle reading line name (snippet_of own reading.snippets)) is
stops_at bundle reading line name other is = absurd cc

stops_here : (bundle : Bundle) (reading : Reading) (line : PlacedLine) (name : List ℕ) → lacked bundle reading line ≡ Some name → Stops bundle reading name (step bundle 0 reading line)
unfolding step
stops_here bundle reading line name is = stops_at bundle reading line name (form_at reading.place line.line.words) is

-- so that it is the first that is missing
pub missing_import : (bundle : Bundle) (seeker : Seeker) (less : ℕ) (line : PlacedLine) (lines : List PlacedLine) (name : List ℕ) → Seeks bundle seeker → first_missing bundle seeker.reader.named ≡ None → seeker.left ≡ suc less
    → stream_of seeker.reader.frames ≡ line ∷ lines → lacked bundle (read_by seeker.reader) line ≡ Some name → first_missing bundle (wants_of bundle) ≡ Some name
missing_import bundle seeker less line lines name seeks there left is lacks =
    let reading : Reading = read_by seeker.reader in
    let stopped = stops_here bundle reading line name lacks in
    let read_is : (read seeker.left bundle 0 reading (stream_of seeker.reader.frames)).named ≡ seeker.reader.named ++ name ∷ [] =
    ap (λ (e : EndedData). e.named) ((λ i. read (left i) bundle 0 reading (is i)) ∙ at_line less bundle 0 reading line lines
    ∙ ap (step_then (step bundle 0 reading line) (λ r put. read less bundle 0 r (put ++ lines))) stopped.is) ∙ stopped.named in
    wants_missing bundle (seeker.reader.named ++ name ∷ []) (seeks.says [] ∙ read_is) ∙ behind_there bundle seeker.reader.named (name ∷ []) there ∙ ap (λ h. cond (not h) (Some name) None) stopped.lacks

pub none_missing : (bundle : Bundle) (seeker : Seeker) → Seeks bundle seeker → first_missing bundle seeker.reader.named ≡ None
    → (read seeker.left bundle 0 (read_by seeker.reader) (stream_of seeker.reader.frames)).named ≡ seeker.reader.named → first_missing bundle (wants_of bundle) ≡ None
none_missing bundle seeker seeks there all = wants_missing bundle seeker.reader.named (seeks.says [] ∙ all) ∙ there

pub named_missing : (bundle : Bundle) (seeker : Seeker) (name : List ℕ) → Seeks bundle seeker → first_missing bundle seeker.reader.named ≡ Some name → first_missing bundle (wants_of bundle) ≡ Some name
named_missing bundle seeker name seeks is =
    let whole : List (List ℕ) = (read seeker.left bundle 0 (read_by seeker.reader) (stream_of seeker.reader.frames)).named in
    wants_missing bundle whole (seeks.says [])
    ∙ front_missing bundle seeker.reader.named whole name (read_keeps seeker.left bundle 0 (read_by seeker.reader) (stream_of seeker.reader.frames)) is

pub starts_faulty : (bundle : Bundle) (seeker : Seeker) (lines : List WordLine) (broken : WordsFault) → (broken ≡ words.NoMemory → ⊥) → ReadsWords bundle.conf bundle.env (Err broken) → lines ≡ [] → Starts lines seeker → Seeks bundle seeker
starts_faulty bundle seeker lines words.NoMemory some reads none starts = absurd (some refl)
starts_faulty bundle seeker lines (words.NotText line) some reads none starts = starts_broken bundle seeker (words.NotText line) reads (subst (λ ls. Starts ls seeker) none starts)
starts_faulty bundle seeker lines (words.OpenQuote line) some reads none starts = starts_broken bundle seeker (words.OpenQuote line) reads (subst (λ ls. Starts ls seeker) none starts)
starts_faulty bundle seeker lines (words.QuoteTail line) some reads none starts = starts_broken bundle seeker (words.QuoteTail line) reads (subst (λ ls. Starts ls seeker) none starts)

-- The next line.

-- the reader of a seeker, of whose lines these are left
abbrev pub with_frames : Seeker → List Frame → Reader
with_frames seeker frames = record seeker.reader { frames = frames }

-- nothing more is named, and no line is left
pub stopped_at : (bundle : Bundle) (seeker after : Seeker) → Seeks bundle seeker → first_missing bundle seeker.reader.named ≡ None → read_by after.reader ≡ read_by seeker.reader → after.reader.texts ≡ seeker.reader.texts → after.left ≡ seeker.left
    → after.seen ≡ seeker.seen → stream_of after.reader.frames ≡ []
    → ((more : List FileText) → (read seeker.left (with_all bundle more) 0 (read_by seeker.reader) (stream_of seeker.reader.frames)).named ≡ seeker.reader.named) → Seeks bundle after × (first_missing bundle (wants_of bundle) ≡ None)
stopped_at bundle seeker after seeks there reading texts left seen none all = (
  seeks_as bundle seeker after seeks reading texts (let l = left in omega (arith, l)) seen
      (λ more. all more ∙ sym (ap (λ (r : Reading). r.named) reading) ∙ sym (says_all (with_all bundle more) after.left (read_by after.reader) (stream_of after.reader.frames) none)),
  none_missing bundle seeker seeks there (all []),
)

-- a line was taken, and the next one follows
pub line_taken : (bundle : Bundle) (seeker after : Seeker) (less : ℕ) (frames : List Frame) (line : PlacedLine) → Seeks bundle seeker → seeker.left ≡ suc less → after.left ≡ less → after.seen ≡ seeker.seen
    → stream_of seeker.reader.frames ≡ line ∷ stream_of frames → lacked bundle (read_by seeker.reader) line ≡ None
    → Follows (step bundle 0 (read_by (with_frames seeker frames)) line) (with_frames seeker frames) after.reader None → AreTexts bundle after.reader.texts → nesting after.reader.place ≤ nesting seeker.reader.place + 1
    → Seeks bundle after × (after.left < seeker.left)
line_taken bundle seeker after less frames line seeks left now seen next there follows texts deep =
    let begins : Begins seeker.reader.named after.reader.named = names_more bundle (with_frames seeker frames) after.reader line None follows in (
      record {
        says = λ more. seeks.says more ∙ says_line bundle more seeker.left less (with_frames seeker frames) after.reader line (stream_of seeker.reader.frames) left next there follows
            ∙ (λ i. (read (sym now i) (with_all bundle more) 0 (read_by after.reader) (stream_of after.reader.frames)).named);
        texts = texts;
        nesting = let n = seeks.nesting in omega (arith, n, left, now, deep);
        inside = subst (λ s. s ≤ length after.reader.named) (sym seen) (inside_behind seeker.seen seeker.reader.named after.reader.named begins seeks.inside);
        known = subst (λ s. first_missing bundle (take s after.reader.named) ≡ None) (sym seen) (known_behind bundle seeker.seen seeker.reader.named after.reader.named begins seeks.inside seeks.known);
      },
      omega (arith, left, now),
    )

-- a line was taken, and has a fault
pub line_stopped : (bundle : Bundle) (seeker after : Seeker) (less : ℕ) (frames : List Frame) (behind : Reader) (line : PlacedLine) (met : CorefileFault) → Seeks bundle seeker → seeker.left ≡ suc less → after.left ≡ less → after.seen ≡ seeker.seen
    → stream_of seeker.reader.frames ≡ line ∷ stream_of frames → lacked bundle (read_by seeker.reader) line ≡ None
    → Follows (step bundle 0 (read_by (with_frames seeker frames)) line) (with_frames seeker frames) behind (Some met) → AreTexts bundle behind.texts → nesting behind.place ≤ nesting seeker.reader.place + 1
    → read_by after.reader ≡ read_by behind → after.reader.texts ≡ behind.texts → stream_of after.reader.frames ≡ [] → Seeks bundle after × (after.left < seeker.left)
line_stopped bundle seeker after less frames behind line met seeks left now seen next there follows texts deep reading same none =
    let begins : Begins seeker.reader.named behind.named = names_more bundle (with_frames seeker frames) behind line (Some met) follows in
    let named : behind.named ≡ after.reader.named = sym (ap (λ (r : Reading). r.named) reading) in (
      record {
        says = λ more. seeks.says more ∙ says_stop bundle more seeker.left less (with_frames seeker frames) behind line (stream_of seeker.reader.frames) met left next there follows ∙ named
            ∙ sym (says_all (with_all bundle more) after.left (read_by after.reader) (stream_of after.reader.frames) none);
        texts = subst (AreTexts bundle) (sym same) texts;
        nesting = let place = ap (λ (r : Reading). nesting r.place) reading in let n = seeks.nesting in omega (arith, place, n, left, now, deep);
        inside = subst (λ s. s ≤ length after.reader.named) (sym seen) (subst (λ ns. seeker.seen ≤ length ns) named (inside_behind seeker.seen seeker.reader.named behind.named begins seeks.inside));
        known = subst (λ s. first_missing bundle (take s after.reader.named) ≡ None) (sym seen)
            (subst (λ ns. first_missing bundle (take seeker.seen ns) ≡ None) named (known_behind bundle seeker.seen seeker.reader.named behind.named begins seeks.inside seeks.known));
      },
      omega (arith, left, now),
    )
