-- The options of `serve`, one after another.
use Rattle.std.proofs.Common.{◌≡◌, ◌≤◌, ◌<◌, ℕ, List, [], ◌∷◌, ◌++◌, length, append_assoc, append-nil, subst, Option, Some, None, option_map, refl, sym, ap, ◌∙◌, arith}
use Rattle.std.specs.List.{flat_map}
use Rattle.command_line.specs.Command.{Choice, conf, port, workers, queries, AreSpelt, conf_in, port_in, workers_in, queries_in}
use Rattle.std.specs.Prelude.{IfSome, unwrap_or}
use Rattle.std.proofs.lemmas.Grind.{flat_map-append}
use Rattle.std.proofs.lemmas.List.Concat.{flat_map-cons}
use Rattle.dns_data.specs.declared.limit.TheConstants as limits
use Rattle.command_line.specs.declared.bounds.TheConstants as defaults
use Rattle.command_line.specs.declared.given.Given.{Given}
use Rattle.command_line.specs.declared.choice.Choice.TheVariants as read
use Rattle.command_line.specs.Command.{Heads, IsChosen, IsServe, ServeData, ServesInRange}
use Rattle.command_line.specs.Options.{choice_data, once, with_choice}
use Rattle.command_line.proofs.Heads.{one_choice, some_words}

-- a number that was given is in its range
abbrev pub IsInRange : ℕ → Option ℕ → Type 0
IsInRange most given = IfSome given (λ n. (1 ≤ n) × (n ≤ most))

pub record AllInRange (given : Given) : Type 0 where
  pub port : IsInRange 65535 given.port
  pub workers : IsInRange defaults.WORKERS given.workers
  pub queries : IsInRange limits.QUERIES given.queries

-- what was given, once at most
abbrev pub listed : {A : Type 0} → Option A → List A
listed None = []
listed (Some x) = x ∷ []

-- the options that stand in front of those that are left, where the words are options at all
pub record GoesOn (done choices : List Choice) (rest : List (List ℕ)) : Type 0 where
  pub left : List Choice
  pub choices_are : choices ≡ done ++ left
  pub spelt : AreSpelt left rest

-- what was read so far: these options
pub record HasRead (words rest : List (List ℕ)) (given : Given) : Type 0 where
  pub done : List Choice
  pub sound : (left : List Choice) → AreSpelt left rest → AreSpelt (done ++ left) words
  pub complete : (choices : List Choice) → AreSpelt choices words → GoesOn done choices rest
  pub conf : flat_map conf_in done ≡ listed (option_map (λ file. file.now) given.conf)
  pub port : flat_map port_in done ≡ listed given.port
  pub workers : flat_map workers_in done ≡ listed given.workers
  pub queries : flat_map queries_in done ≡ listed given.queries
  pub ranges : AllInRange given

-- nothing was read yet
pub starts : (words : List (List ℕ)) → HasRead words words (record { conf = None; port = None; workers = None; queries = None })
starts words = record {
  done = [];
  sound = λ left spelt. spelt;
  complete = λ choices spelt. record { left = choices; choices_are = refl; spelt = spelt };
  conf = refl;
  port = refl;
  workers = refl;
  queries = refl;
  ranges = record { port = tt; workers = tt; queries = tt };
}

-- the words go on with this option
goes : (words rest behind : List (List ℕ)) (c : Choice) (done choices left : List Choice) → Heads c rest behind → choices ≡ done ++ left → AreSpelt left rest → GoesOn (done ++ c ∷ []) choices behind
goes words rest behind c done choices [] heads are spelt = absurd (let some = some_words rest behind c heads in let none = ap length spelt in omega (arith, some, none))
goes words rest behind c done choices (e ∷ left) heads are spelt =
    let one = one_choice rest behind spelt.behind c e heads spelt.heads in
    record {
      left = left;
      choices_are = are ∙ ap (λ (x : Choice). done ++ x ∷ left) (sym one.choice) ∙ sym (append_assoc done (c ∷ []) left);
      spelt = subst (AreSpelt left) (sym one.behind) spelt.is;
    }

-- an option of another kind adds no value, and one of this kind adds its own
kept : {A : Type 0} (f : Choice → List A) (done : List Choice) (c : Choice) → f c ≡ [] → flat_map f (done ++ c ∷ []) ≡ flat_map f done
kept f done c none =
    flat_map-append f done (c ∷ []) ∙ ap (λ l. flat_map f done ++ l) (flat_map-cons f c [] ∙ append-nil (f c) ∙ none) ∙ append-nil (flat_map f done)

added : {A : Type 0} (f : Choice → List A) (done : List Choice) (c : Choice) (x : A) → f c ≡ x ∷ [] → flat_map f done ≡ [] → flat_map f (done ++ c ∷ []) ≡ x ∷ []
added f done c x one none = flat_map-append f done (c ∷ []) ∙ ap (λ l. l ++ flat_map f (c ∷ [])) none ∙ flat_map-cons f c [] ∙ append-nil (f c) ∙ one

-- a value that was put in where there was none
pub record WasNone {A B : Type 0} (given : Option A) (new more : B) : Type 0 where
  pub none : given ≡ None
  pub new_is : new ≡ more

taken : {A B : Type 0} (given : Option A) (new more : B) → once given new ≡ Some more → WasNone given new more
taken None new more is = record { none = refl; new_is = cc }
taken (Some x) new more is = absurd cc

-- a further option
pub goes_on : (words rest behind : List (List ℕ)) (given more : Given) (c : read.the_data) → HasRead words rest given → Heads (choice_data c) rest behind → with_choice given c ≡ Some more → HasRead words behind more
goes_on words rest behind given more (read.Conf file) h heads is =
    let was = taken given.conf (record given { conf = Some file }) more is in
    subst (HasRead words behind) was.new_is (record {
      done = h.done ++ conf file.now ∷ [];
      sound = λ left spelt. subst (λ l. AreSpelt l words) (sym (append_assoc h.done (conf file.now ∷ []) left)) (h.sound (conf file.now ∷ left) (record { behind = behind; heads = heads; is = spelt }));
      complete = λ choices all. let g = h.complete choices all in goes words rest behind (conf file.now) h.done choices g.left heads g.choices_are g.spelt;
      conf = added conf_in h.done (conf file.now) file.now refl (h.conf ∙ ap (λ o. listed (option_map (λ f. f.now) o)) was.none);
      port = kept port_in h.done (conf file.now) refl ∙ h.port;
      workers = kept workers_in h.done (conf file.now) refl ∙ h.workers;
      queries = kept queries_in h.done (conf file.now) refl ∙ h.queries;
      ranges = record { port = h.ranges.port; workers = h.ranges.workers; queries = h.ranges.queries };
    })
goes_on words rest behind given more (read.Port number) h heads is =
    let was = taken given.port (record given { port = Some number }) more is in
    subst (HasRead words behind) was.new_is (record {
      done = h.done ++ port number ∷ [];
      sound = λ left spelt. subst (λ l. AreSpelt l words) (sym (append_assoc h.done (port number ∷ []) left)) (h.sound (port number ∷ left) (record { behind = behind; heads = heads; is = spelt }));
      complete = λ choices all. let g = h.complete choices all in goes words rest behind (port number) h.done choices g.left heads g.choices_are g.spelt;
      conf = kept conf_in h.done (port number) refl ∙ h.conf;
      port = added port_in h.done (port number) number refl (h.port ∙ ap (λ (o : Option ℕ). listed o) was.none);
      workers = kept workers_in h.done (port number) refl ∙ h.workers;
      queries = kept queries_in h.done (port number) refl ∙ h.queries;
      ranges = record { port = (heads.number_is.least, heads.number_is.at_most); workers = h.ranges.workers; queries = h.ranges.queries };
    })
goes_on words rest behind given more (read.Workers number) h heads is =
    let was = taken given.workers (record given { workers = Some number }) more is in
    subst (HasRead words behind) was.new_is (record {
      done = h.done ++ workers number ∷ [];
      sound = λ left spelt. subst (λ l. AreSpelt l words) (sym (append_assoc h.done (workers number ∷ []) left)) (h.sound (workers number ∷ left) (record { behind = behind; heads = heads; is = spelt }));
      complete = λ choices all. let g = h.complete choices all in goes words rest behind (workers number) h.done choices g.left heads g.choices_are g.spelt;
      conf = kept conf_in h.done (workers number) refl ∙ h.conf;
      port = kept port_in h.done (workers number) refl ∙ h.port;
      workers = added workers_in h.done (workers number) number refl (h.workers ∙ ap (λ (o : Option ℕ). listed o) was.none);
      queries = kept queries_in h.done (workers number) refl ∙ h.queries;
      ranges = record { port = h.ranges.port; workers = (heads.number_is.least, heads.number_is.at_most); queries = h.ranges.queries };
    })
goes_on words rest behind given more (read.Queries number) h heads is =
    let was = taken given.queries (record given { queries = Some number }) more is in
    subst (HasRead words behind) was.new_is (record {
      done = h.done ++ queries number ∷ [];
      sound = λ left spelt. subst (λ l. AreSpelt l words) (sym (append_assoc h.done (queries number ∷ []) left)) (h.sound (queries number ∷ left) (record { behind = behind; heads = heads; is = spelt }));
      complete = λ choices all. let g = h.complete choices all in goes words rest behind (queries number) h.done choices g.left heads g.choices_are g.spelt;
      conf = kept conf_in h.done (queries number) refl ∙ h.conf;
      port = kept port_in h.done (queries number) refl ∙ h.port;
      workers = kept workers_in h.done (queries number) refl ∙ h.workers;
      queries = added queries_in h.done (queries number) number refl (h.queries ∙ ap (λ (o : Option ℕ). listed o) was.none);
      ranges = record { port = h.ranges.port; workers = h.ranges.workers; queries = (heads.number_is.least, heads.number_is.at_most) };
    })

no_left : (rest : List (List ℕ)) (left : List Choice) → AreSpelt left rest → 0 < length rest → ((c : Choice) (behind : List (List ℕ)) → Heads c rest behind → ⊥) → ⊥
no_left rest [] spelt some none = let e = ap length spelt in omega (arith, e, some)
no_left rest (c ∷ left) spelt some none = none c spelt.behind spelt.heads

-- words that go on with no option are none of `serve`
pub no_option : (words rest : List (List ℕ)) (given : Given) → HasRead words rest given → 0 < length rest → ((c : Choice) (behind : List (List ℕ)) → Heads c rest behind → ⊥) → (s : ServeData) → IsServe words s → ⊥
no_option words rest given h some none s is = let g = h.complete is.choices is.spelt in no_left rest g.left g.spelt some none

-- an option that was given before
twice : {A : Type 0} (f : Choice → List A) (done choices left : List Choice) (c : Choice) (x y : A) → flat_map f done ≡ x ∷ [] → f c ≡ y ∷ [] → choices ≡ done ++ c ∷ left → flat_map f choices ≡ x ∷ y ∷ flat_map f left
twice f done choices left c x y first again are =
    ap (flat_map f) are ∙ flat_map-append f done (c ∷ left) ∙ ap (λ l. l ++ flat_map f (c ∷ left)) first ∙ ap (λ l. x ∷ l) (flat_map-cons f c left ∙ ap (λ l. l ++ flat_map f left) again)

pub record WasSome {A : Type 0} (given : Option A) : Type 0 where
  pub value : A
  pub is : given ≡ Some value

was_some : {A B : Type 0} (given : Option A) (new : B) → once given new ≡ None → WasSome given
was_some None new is = absurd cc
was_some (Some x) new is = record { value = x; is = refl }

chosen_twice : (default x y n : ℕ) (all more : List ℕ) → all ≡ x ∷ y ∷ more → IsChosen default all n → ⊥
chosen_twice default x y n all more are is = subst (λ (l : List ℕ). IsChosen default l n) are is

again : (given : Given) (c : read.the_data) (words rest : List (List ℕ)) (h : HasRead words rest given) (s : ServeData) (is : IsServe words s) (left : List Choice)
    → is.choices ≡ h.done ++ choice_data c ∷ left → with_choice given c ≡ None → ⊥
again given (read.Conf file) words rest h s is left are none =
    let was = was_some given.conf (record given { conf = Some file }) none in
    let two = twice conf_in h.done is.choices left (conf file.now) was.value.now file.now (h.conf ∙ ap (λ o. listed (option_map (λ f. f.now) o)) was.is) refl are in
    let size = ap length (sym is.conf ∙ two) in
    omega (arith, size)
again given (read.Port number) words rest h s is left are none =
    let was = was_some given.port (record given { port = Some number }) none in
    chosen_twice defaults.DEFAULT_PORT was.value number s.port (flat_map port_in is.choices) (flat_map port_in left)
    (twice port_in h.done is.choices left (port number) was.value number (h.port ∙ ap (λ (o : Option ℕ). listed o) was.is) refl are) is.port
again given (read.Workers number) words rest h s is left are none =
    let was = was_some given.workers (record given { workers = Some number }) none in
    chosen_twice defaults.DEFAULT_WORKERS was.value number s.workers (flat_map workers_in is.choices) (flat_map workers_in left)
    (twice workers_in h.done is.choices left (workers number) was.value number (h.workers ∙ ap (λ (o : Option ℕ). listed o) was.is) refl are) is.workers
again given (read.Queries number) words rest h s is left are none =
    let was = was_some given.queries (record given { queries = Some number }) none in
    chosen_twice limits.TURNS was.value number s.most (flat_map queries_in is.choices) (flat_map queries_in left)
    (twice queries_in h.done is.choices left (queries number) was.value number (h.queries ∙ ap (λ (o : Option ℕ). listed o) was.is) refl are) is.most

again_left : (given : Given) (c : read.the_data) (words rest behind : List (List ℕ)) (h : HasRead words rest given) (s : ServeData) (is : IsServe words s) (left : List Choice)
    → Heads (choice_data c) rest behind → is.choices ≡ h.done ++ left → AreSpelt left rest → with_choice given c ≡ None → ⊥
again_left given c words rest behind h s is [] heads are spelt none = let some = some_words rest behind (choice_data c) heads in let e = ap length spelt in omega (arith, e, some)
again_left given c words rest behind h s is (e ∷ left) heads are spelt none =
    let one = one_choice rest behind spelt.behind (choice_data c) e heads spelt.heads in
    again given c words rest h s is left (are ∙ ap (λ (x : Choice). h.done ++ x ∷ left) (sym one.choice)) none

pub given_again : (words rest behind : List (List ℕ)) (given : Given) (c : read.the_data) → HasRead words rest given → Heads (choice_data c) rest behind → with_choice given c ≡ None → (s : ServeData) → IsServe words s → ⊥
given_again words rest behind given c h heads none s is = let g = h.complete is.choices is.spelt in again_left given c words rest behind h s is g.left heads g.choices_are g.spelt none

-- at the end of the words all options were read
pub all_read : (rest : List (List ℕ)) (left : List Choice) → AreSpelt left rest → rest ≡ [] → left ≡ []
all_read rest [] spelt none = refl
all_read rest (c ∷ left) spelt none = absurd (let some = some_words rest spelt.behind c spelt.heads in let e = ap length none in omega (arith, e, some))

-- without a file there is nothing to serve
pub no_file : (words rest : List (List ℕ)) (given : Given) → HasRead words rest given → rest ≡ [] → given.conf ≡ None → (s : ServeData) → IsServe words s → ⊥
no_file words rest given h end none s is =
    let g = h.complete is.choices is.spelt in
    let all = all_read rest g.left g.spelt end in
    let size = ap length (sym is.conf ∙ ap (flat_map conf_in) (g.choices_are ∙ ap (λ l. h.done ++ l) all ∙ append-nil h.done) ∙ h.conf ∙ ap (λ o. listed (option_map (λ f. f.now) o)) none) in
    omega (arith, size)

chosen : (default : ℕ) (given : Option ℕ) (all : List ℕ) → all ≡ listed given → IsChosen default all (unwrap_or given default)
chosen default None all are = subst (λ (l : List ℕ). IsChosen default l default) (sym are) refl
chosen default (Some n) all are = subst (λ (l : List ℕ). IsChosen default l n) (sym are) refl

-- what was given is how to serve
pub is_serve : (words rest : List (List ℕ)) (given : Given) (file : List ℕ) → HasRead words rest given → rest ≡ [] → option_map (λ f. f.now) given.conf ≡ Some file
    → IsServe words (record { conf = file; port = unwrap_or given.port defaults.DEFAULT_PORT; workers = unwrap_or given.workers defaults.DEFAULT_WORKERS; most = unwrap_or given.queries limits.TURNS })
is_serve words rest given file h end is = record {
  choices = h.done;
  spelt = subst (λ l. AreSpelt l words) (append-nil h.done) (h.sound [] end);
  conf = h.conf ∙ ap (λ (o : Option (List ℕ)). listed o) is;
  port = chosen defaults.DEFAULT_PORT given.port (flat_map port_in h.done) h.port;
  workers = chosen defaults.DEFAULT_WORKERS given.workers (flat_map workers_in h.done) h.workers;
  most = chosen limits.TURNS given.queries (flat_map queries_in h.done) h.queries;
}

in_range_or : (most default : ℕ) (given : Option ℕ) → IsInRange most given → 1 ≤ default → default ≤ most → (1 ≤ unwrap_or given default) × (unwrap_or given default ≤ most)
in_range_or most default None in_range least at_most = (least, at_most)
in_range_or most default (Some n) in_range least at_most = in_range

below : (small most n : ℕ) → (1 ≤ n) × (n ≤ small) → small ≤ most → (1 ≤ n) × (n ≤ most)
below small most n is less = (is.0, let high = is.1 in omega (arith, high, less))

queries_or : (given : Option ℕ) → IsInRange limits.QUERIES given → (1 ≤ unwrap_or given limits.TURNS) × (unwrap_or given limits.TURNS ≤ limits.TURNS)
queries_or None in_range = (omega arith, omega arith)
queries_or (Some n) in_range = below limits.QUERIES limits.TURNS n in_range (omega arith)

pub serves_in_range : (words rest : List (List ℕ)) (given : Given) (file : List ℕ) → HasRead words rest given
    → ServesInRange (record { conf = file; port = unwrap_or given.port defaults.DEFAULT_PORT; workers = unwrap_or given.workers defaults.DEFAULT_WORKERS; most = unwrap_or given.queries limits.TURNS })
serves_in_range words rest given file h = record {
  port = in_range_or 65535 defaults.DEFAULT_PORT given.port h.ranges.port (omega arith) (omega arith);
  workers = in_range_or defaults.WORKERS defaults.DEFAULT_WORKERS given.workers h.ranges.workers (omega arith) (omega arith);
  most = queries_or given.queries h.ranges.queries;
}

pub empty_of : (words : List (List ℕ)) → length words ≤ 0 → words ≡ []
empty_of [] none = refl
empty_of (word ∷ words) some = absurd (omega arith)
