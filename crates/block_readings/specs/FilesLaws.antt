-- The files that a block names are found among those that it reads, with the same bytes.
use Rattle.std.proofs.Common.{◌≡◌, ◌∙◌, ℕ, Bool, true, false, cond, ◌||◌, List, [], ◌∷◌, Option, Some, None, Result, Ok, Err, refl, sym, ap, if◌then◌else◌}
use Rattle.std.specs.Prelude.{map, codes, drop, is_some, nat_eq, option_and_then, unwrap_or}
use Rattle.std.specs.Bool.{Decides, one_answer}
use Rattle.std.specs.Cmp.{unsigned_Decides}
use Rattle.std.specs.Cmp.Lexicographic.{pointwise}
use Rattle.std.specs.List.{filter, find, list_any}
use Rattle.std.proofs.lemmas.List.Folds.{list_any-append}
use Rattle.std.proofs.lemmas.Slice.Eq.{slice_eq-Decides}
use Rattle.corefile_blocks.specs.Blocks.{file_of}
use Rattle.corefile_blocks.specs.LineForms.{same_text}
use Rattle.corefile_blocks.specs.WantedFiles.{files_of, hosts_word, is_path}
use Rattle.dns_data.specs.declared.directive.Directive.{Directive}
use Rattle.dns_data.specs.declared.file.FileText.{FileText}
use Rattle.outside.specs.declared.datagram.Upstream.{Upstream}
use Rattle.plugin_api.specs.Ranks.{has_name, order_of, rank_of, ranks}
use Rattle.plugin_api.specs.declared.fault.DirectiveFault.{DirectiveFault}
use Rattle.plugin_api.specs.declared.fault.DirectiveFault.TheVariants as fault
use Rattle.plugin_api.specs.declared.fault.DirectiveWhy.TheVariants as why
use Rattle.plugin_api.specs.declared.ranks.Rank.{Rank}
use Rattle.plugin_api.specs.declared.ranks.Rank.TheVariants as rank
use Rattle.upstream_words.specs.Upstreams.{servers_in, upstream_of}
use Rattle.upstream_words.specs.Words.{by_file, by_word, file_in, is_file, onward_ok, served, with_word, with_words}
use Rattle.zone_words.specs.{word_zone}
use Rattle.forward_plugin.specs.Reading.{args_read, some_words, upstreams_in}
use Rattle.chain_meaning.specs.Steps.{has_rank, is_rank}
use Rattle.block_readings.specs.Readings.{directive_names, found_file, names_in}
use Rattle.block_readings.specs.RulesLaws.{as_read}

-- something holds of each
abbrev pub Each : {A : Type 0} → (A → Type 0) → List A → Type 0
Each P [] = Unit {0}
Each P (x ∷ xs) = P x × Each P xs

decides : (a b : List ℕ) → Decides (same_text a b) (a ≡ b)
decides a b = slice_eq-Decides unsigned_Decides a b (pointwise nat_eq a b) refl

pub same : (a b : List ℕ) → same_text a b ≡ true → a ≡ b
same a b e = (decides a b).0 e

pub self : (a : List ℕ) → same_text a a ≡ true
self a = (decides a a).1 refl

turned : (a b : List ℕ) → same_text a b ≡ same_text b a
turned a b =
    let d = decides b a in
    one_answer (same_text a b) (same_text b a) (decides a b) ((λ h. sym (d.0 h)), (λ h. d.1 (sym h)))

-- the file of a name
abbrev bytes_in : Option FileText → Option (List ℕ)
bytes_in o = option_and_then (λ file. file.bytes) o

found_by : (files rest : List FileText) (name one : List ℕ) (t : Bool) → same_text name one ≡ t → (t ≡ false → file_of name rest ≡ file_of name files)
    → bytes_in (cond t (Some (found_file files one)) (find (λ file. same_text name file.name) rest)) ≡ file_of name files
found_by files rest name one true e go = ap (λ it. file_of it files) (sym (same name one e))
found_by files rest name one false e go = go refl

or_else : (t u : Bool) → t ≡ false → (t || u) ≡ true → u ≡ true
or_else true u e h = absurd cc
or_else false u e h = h

pub found : (files : List FileText) (names : List (List ℕ)) (name : List ℕ) → list_any (same_text name) names ≡ true → file_of name (map (found_file files) names) ≡ file_of name files
found files [] name h = absurd cc
found files (one ∷ names) name h = found_by files (map (found_file files) names) name one (same_text name one) refl
    (λ e. found files names name (or_else (same_text name one) (list_any (same_text name) names) e h))

-- among other files those that a directive names are as they are among these
abbrev pub Agree : List FileText → List FileText → Directive → Type 0
Agree files others d = (name : List ℕ) → list_any (same_text name) (directive_names d) ≡ true → file_of name others ≡ file_of name files

or_left : (t u : Bool) → t ≡ true → (t || u) ≡ true
or_left true u e = refl
or_left false u e = absurd cc

or_right : (t u : Bool) → u ≡ true → (t || u) ≡ true
or_right true u e = refl
or_right false u e = e

agree_behind : (files : List FileText) (all : List (List ℕ)) (ds : List Directive) → ((name : List ℕ) → list_any (same_text name) (names_in ds) ≡ true → list_any (same_text name) all ≡ true)
    → Each (Agree files (map (found_file files) all)) ds
agree_behind files all [] h = tt
agree_behind files all (d ∷ ds) h = (
  (λ name e. found files all name (h name
      (list_any-append (same_text name) (directive_names d) (names_in ds) ∙ or_left (list_any (same_text name) (directive_names d)) _ e))),
  agree_behind files all ds (λ name e. h name
      (list_any-append (same_text name) (directive_names d) (names_in ds) ∙ or_right (list_any (same_text name) (directive_names d)) _ e)),
)

pub agree : (files : List FileText) (ds : List Directive) → Each (Agree files (map (found_file files) (names_in ds))) ds
agree files ds = agree_behind files (names_in ds) ds (λ name e. e)

-- the name of a directive that names files
or_end : (t : Bool) → (t || false) ≡ true → t ≡ true
or_end true e = refl
or_end false e = e

at_file : (name : List ℕ) (x : Rank) → has_name name x ≡ true → nat_eq (order_of x) (order_of rank.File) ≡ true → has_name name rank.File ≡ true
at_file name rank.File h e = h
at_file name _ h e = absurd cc

at_hosts : (name : List ℕ) (x : Rank) → has_name name x ≡ true → nat_eq (order_of x) (order_of rank.Hosts) ≡ true → has_name name rank.Hosts ≡ true
at_hosts name rank.Hosts h e = h
at_hosts name _ h e = absurd cc

at_forward : (name : List ℕ) (x : Rank) → has_name name x ≡ true → nat_eq (order_of x) (order_of rank.Forward) ≡ true → has_name name rank.Forward ≡ true
at_forward name rank.Forward h e = h
at_forward name _ h e = absurd cc

module _ (r : Rank) (name : List ℕ) (at : (x : Rank) → has_name name x ≡ true → nat_eq (order_of x) (order_of r) ≡ true → has_name name r ≡ true) where
  rank_by : (xs : List Rank) (x : Rank) (t : Bool) → has_name name x ≡ t → (is_rank r (find (has_name name) xs) ≡ true → has_name name r ≡ true)
      → is_rank r (cond t (Some x) (find (has_name name) xs)) ≡ true → has_name name r ≡ true
  rank_by xs x true h go e = at x h e
  rank_by xs x false h go e = go e

  rank_in : (xs : List Rank) → is_rank r (find (has_name name) xs) ≡ true → has_name name r ≡ true
  rank_in [] e = absurd cc
  rank_in (x ∷ xs) e = rank_by xs x (has_name name x) refl (rank_in xs) e

file_name : (d : Directive) → has_rank rank.File d ≡ true → d.name ≡ codes "file"
unfolding rank_of
file_name d e = same d.name (codes "file") (or_end _ (rank_in rank.File d.name (at_file d.name) ranks e))

hosts_name : (d : Directive) → has_rank rank.Hosts d ≡ true → d.name ≡ codes "hosts"
unfolding rank_of
hosts_name d e = same d.name (codes "hosts") (or_end _ (rank_in rank.Hosts d.name (at_hosts d.name) ranks e))

forward_name : (d : Directive) → has_rank rank.Forward d ≡ true → d.name ≡ codes "forward"
unfolding rank_of
forward_name d e = same d.name (codes "forward") (or_end _ (rank_in rank.Forward d.name (at_forward d.name) ranks e))

-- what each of them names
file_names : (word : List ℕ) (words : List (List ℕ)) → files_of (codes "file") (word ∷ words) ≡ word ∷ []
unfolding files_of
file_names word words = refl

hosts_names : (args : List (List ℕ)) → files_of (codes "hosts") args ≡ hosts_word args ∷ []
unfolding files_of
hosts_names args = refl

forward_names : (args : List (List ℕ)) → files_of (codes "forward") args ≡ filter is_path (drop 1 args)
unfolding files_of
forward_names args = refl

among : (name : List ℕ) → list_any (same_text name) (name ∷ []) ≡ true
among name = or_left (same_text name name) false (self name)

-- the file of a directive `file`, where it names one
pub file_stands : (files others : List FileText) (d : Directive) (word : List ℕ) (words : List (List ℕ)) → has_rank rank.File d ≡ true → d.args ≡ word ∷ words
    → Agree files others d → file_of word others ≡ file_of word files
file_stands files others d word words e is agree = agree word
    (ap (list_any (same_text word)) ((λ i. files_of (file_name d e i) (is i)) ∙ file_names word words) ∙ among word)

-- that of a directive `hosts`
pub hosts_stands : (files others : List FileText) (d : Directive) → has_rank rank.Hosts d ≡ true → Agree files others d → file_of (hosts_word d.args) others ≡ file_of (hosts_word d.args) files
hosts_stands files others d e agree = agree (hosts_word d.args)
    (ap (list_any (same_text (hosts_word d.args))) (ap (λ name. files_of name d.args) (hosts_name d e) ∙ hosts_names d.args) ∙ among (hosts_word d.args))

-- the files of upstreams
first_by : (name : List ℕ) (file : FileText) (rest : List FileText) (t u : Bool) → t ≡ u → file_in name rest ≡ file_of name rest
    → (if t then file.bytes else file_in name rest) ≡ bytes_in (cond u (Some file) (find (λ file. same_text name file.name) rest))
first_by name file rest true true e go = refl
first_by name file rest true false e go = absurd cc
first_by name file rest false true e go = absurd cc
first_by name file rest false false e go = go

one_file : (name : List ℕ) (files : List FileText) → file_in name files ≡ file_of name files
one_file name [] = refl
one_file name (file ∷ files) = first_by name file files (same_text file.name name) (same_text name file.name) (turned file.name name) (one_file name files)

onward_as : {A B : Type 0} (r : Result A DirectiveFault) (next : A → Result B DirectiveFault) → as_read (onward_ok r next) ≡ option_and_then (λ v. as_read (next v)) (as_read r)
onward_as (Ok v) next = refl
onward_as (Err e) next = refl

served_as : (us : List Upstream) (l k : ℕ) (servers : List Upstream) → as_read (served us l servers) ≡ as_read (served us k servers)
served_as us l k [] = refl
served_as us l k (server ∷ servers) = refl

file_as : (us : List Upstream) (l k : ℕ) (o : Option (List ℕ)) → as_read (by_file us l o) ≡ as_read (by_file us k o)
file_as us l k None = refl
file_as us l k (Some text) = served_as us l k (servers_in text)

word_as : (us : List Upstream) (l k : ℕ) (o : Option Upstream) → as_read (by_word us l o) ≡ as_read (by_word us k o)
word_as us l k None = refl
word_as us l k (Some upstream) = refl

module _ (files others : List FileText) where
  abbrev Stands : List ℕ → Type 0
  Stands word = is_file word ≡ true → file_in word others ≡ file_in word files

  word_by : (us : List Upstream) (l k : ℕ) (word : List ℕ) (t : Bool) → (t ≡ true → file_in word others ≡ file_in word files)
      → as_read (if t then by_file us l (file_in word others) else by_word us l (upstream_of word))
      ≡ as_read (if t then by_file us k (file_in word files) else by_word us k (upstream_of word))
  word_by us l k word true stands = ap (λ o. as_read (by_file us l o)) (stands refl) ∙ file_as us l k (file_in word files)
  word_by us l k word false stands = word_as us l k (upstream_of word)

  words_as : (us : List Upstream) (l k : ℕ) (words : List (List ℕ)) → Each Stands words → as_read (with_words us l others words) ≡ as_read (with_words us k files words)
  words_as us l k [] stand = refl
  words_as us l k (word ∷ words) stand =
      onward_as (with_word us l others word) (λ more. with_words more l others words)
      ∙ (λ i. option_and_then (λ more. words_as more l k words stand.1 i) (word_by us l k word (is_file word) stand.0 i))
      ∙ sym (onward_as (with_word us k files word) (λ more. with_words more k files words))

  some_as : (l k : ℕ) (words : List (List ℕ)) → Each Stands words → as_read (some_words l others words) ≡ as_read (some_words k files words)
  some_as l k [] stand = refl
  some_as l k (word ∷ words) stand = words_as [] l k (word ∷ words) stand

  zone_by : (t : Bool) (x y a b : Result (List Upstream) DirectiveFault) → as_read x ≡ as_read a → as_read y ≡ as_read b → as_read (if t then x else y) ≡ as_read (if t then a else b)
  zone_by true x y a b p q = p
  zone_by false x y a b p q = q

  args_as : (l k : ℕ) (args : List (List ℕ)) → Each Stands (drop 1 args) → as_read (args_read l others args) ≡ as_read (args_read k files args)
  args_as l k [] stand = refl
  args_as l k (from ∷ words) stand =
      zone_by (is_some (word_zone from)) (some_words l others words) (Err (fault.Why l why.Zone)) (some_words k files words) (Err (fault.Why k why.Zone)) (some_as l k words stand) refl

  -- those paths stand so that are among the files that agree
  abbrev All : List (List ℕ) → Type 0
  All names = (name : List ℕ) → list_any (same_text name) names ≡ true → file_of name others ≡ file_of name files

  path_is : (word : List ℕ) → is_file word ≡ true → is_path word ≡ true
  path_is [] e = absurd cc
  path_is (byte ∷ word) e = e

  head_by : (word : List ℕ) (words : List (List ℕ)) (t : Bool) → t ≡ true → All (cond t (word ∷ filter is_path words) (filter is_path words)) → file_of word others ≡ file_of word files
  head_by word words true e all = all word (or_left (same_text word word) _ (self word))
  head_by word words false e all = absurd cc

  rest_by : (word : List ℕ) (words : List (List ℕ)) (t : Bool) → All (cond t (word ∷ filter is_path words) (filter is_path words)) → All (filter is_path words)
  rest_by word words true all = λ name e. all name (or_right (same_text name word) _ e)
  rest_by word words false all = all

  stand : (words : List (List ℕ)) → All (filter is_path words) → Each Stands words
  stand [] all = tt
  stand (word ∷ words) all = (
    (λ e. one_file word others ∙ head_by word words (is_path word) (path_is word e) all ∙ sym (one_file word files)),
    stand words (rest_by word words (is_path word) all),
  )

-- the upstreams that words read as; none, where they have a fault
abbrev upstreams_or : Option (List Upstream) → List Upstream
upstreams_or o = unwrap_or o []

upstreams_by : (r : Result (List Upstream) DirectiveFault) → upstreams_in r ≡ upstreams_or (as_read r)
upstreams_by (Ok us) = refl
upstreams_by (Err e) = refl

-- the upstreams of a directive `forward`
pub upstreams_stay : (files others : List FileText) (d : Directive) → has_rank rank.Forward d ≡ true → Agree files others d
    → upstreams_in (args_read 0 others d.args) ≡ upstreams_in (args_read d.line files d.args)
upstreams_stay files others d e agree =
    let names = ap (λ name. files_of name d.args) (forward_name d e) ∙ forward_names d.args in
    upstreams_by (args_read 0 others d.args) ∙ ap upstreams_or (args_as files others 0 d.line d.args
    (stand files others (drop 1 d.args) (λ name h. agree name (ap (list_any (same_text name)) names ∙ h))))
    ∙ sym (upstreams_by (args_read d.line files d.args))
