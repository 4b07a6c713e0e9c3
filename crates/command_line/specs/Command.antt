-- The grammar of the command line, without the program's own name: `serve --conf FILE [--port N]
-- [--workers N] [--queries N]` with its options in any order, or `load N`. This server's own rule.
use Rattle.std.specs.Prelude.{◌≡◌, ◌≢◌, ◌≤◌, ◌⊎◌, ℕ, List, [], ◌∷◌, ◌++◌, Some, codes}
use Rattle.std.specs.Prelude.{slice_index}
use Rattle.std.specs.List.{flat_map}
use Rattle.dns_data.specs.declared.limit.TheConstants as limits
use Rattle.numbers.specs.Number.{number_of}
use Rattle.command_line.specs.declared.bounds.TheConstants as defaults
use Rattle.command_line.specs.declared.command.Command.{Command}
use Rattle.command_line.specs.declared.command.Command.TheVariants as asked
use Rattle.command_line.specs.declared.command.Serve.{Serve}

-- an option with its value
pub data Choice : Type 0 where
  conf : List ℕ → Choice
  port : ℕ → Choice
  workers : ℕ → Choice
  queries : ℕ → Choice

-- the words begin with the option of this name and this value, and go on so: the value is the
-- second word, or stands behind a `=` in the first
abbrev pub IsHead : List ℕ → List ℕ → List (List ℕ) → List (List ℕ) → Type 0
IsHead name value words behind =
    (words ≡ name ∷ value ∷ behind) ⊎ (words ≡ (name ++ codes "=" ++ value) ∷ behind)

-- a value isn't empty and doesn't begin with `-`
pub record IsValue (value : List ℕ) : Type 0 where
  pub some : value ≢ []
  pub no_option : slice_index value 0 ≢ 45

-- one to ten digits spell this number, which is 1 at least and `most` at most
pub record IsUpTo (most : ℕ) (text : List ℕ) (number : ℕ) : Type 0 where
  pub spells : number_of 10 text ≡ Some number
  pub least : 1 ≤ number
  pub at_most : number ≤ most

-- the words begin with an option that takes a number from 1 to `most`
pub record HasNumber (name : List ℕ) (most number : ℕ) (words behind : List (List ℕ))
    : Type 0 where
  pub text : List ℕ
  pub number_is : IsUpTo most text number
  pub head : IsHead name text words behind

-- the words begin with this option, and go on so
abbrev pub Heads : Choice → List (List ℕ) → List (List ℕ) → Type 0
Heads (conf file) words behind = IsValue file × IsHead (codes "--conf") file words behind
Heads (port number) words behind = HasNumber (codes "--port") 65535 number words behind
Heads (workers number) words behind =
    HasNumber (codes "--workers") defaults.WORKERS number words behind
Heads (queries number) words behind =
    HasNumber (codes "--queries") limits.QUERIES number words behind

-- the words begin with this option, and a fact of those behind it
pub record BeginsWith (choice : Choice) (words : List (List ℕ)) (P : List (List ℕ) → Type 0)
    : Type 0 where
  pub behind : List (List ℕ)
  pub heads : Heads choice words behind
  pub is : P behind

-- the words are these options, one after another
abbrev pub AreSpelt : List Choice → List (List ℕ) → Type 0
AreSpelt [] words = words ≡ []
AreSpelt (choice ∷ choices) words = BeginsWith choice words (λ behind. AreSpelt choices behind)

-- the values of each option, as often as it was given
abbrev pub conf_in : Choice → List (List ℕ)
conf_in (conf file) = file ∷ []
conf_in (port number) = []
conf_in (workers number) = []
conf_in (queries number) = []

abbrev pub port_in : Choice → List ℕ
port_in (conf file) = []
port_in (port number) = number ∷ []
port_in (workers number) = []
port_in (queries number) = []

abbrev pub workers_in : Choice → List ℕ
workers_in (conf file) = []
workers_in (port number) = []
workers_in (workers number) = number ∷ []
workers_in (queries number) = []

abbrev pub queries_in : Choice → List ℕ
queries_in (conf file) = []
queries_in (port number) = []
queries_in (workers number) = []
queries_in (queries number) = number ∷ []

-- an option that was given once has its value, and one that wasn't its default; none is given twice
abbrev pub IsChosen : ℕ → List ℕ → ℕ → Type 0
IsChosen default [] number = number ≡ default
IsChosen default (given ∷ []) number = number ≡ given
IsChosen default (given ∷ again ∷ others) number = ⊥

-- how to serve
pub record ServeData : Type 0 where
  pub conf : List ℕ
  pub port : ℕ
  pub workers : ℕ
  pub most : ℕ

-- the words behind `serve`: options, of which `--conf` is given just once
pub record IsServe (words : List (List ℕ)) (serve : ServeData) : Type 0 where
  pub choices : List Choice
  pub spelt : AreSpelt choices words
  pub conf : flat_map conf_in choices ≡ serve.conf ∷ []
  pub port : IsChosen defaults.DEFAULT_PORT (flat_map port_in choices) serve.port
  pub workers : IsChosen defaults.DEFAULT_WORKERS (flat_map workers_in choices) serve.workers
  pub most : IsChosen limits.TURNS (flat_map queries_in choices) serve.most

-- the words behind `load`: one number
pub record IsLoad (words : List (List ℕ)) (number : ℕ) : Type 0 where
  pub text : List ℕ
  pub words_are : words ≡ text ∷ []
  pub is : IsUpTo defaults.LOAD text number

-- what the words ask for
pub data CommandData : Type 0 where
  serve : ServeData → CommandData
  load : ℕ → CommandData

-- the words begin with this one, and a fact of the others
pub record Follows (word : List ℕ) (words : List (List ℕ)) (P : List (List ℕ) → Type 0)
    : Type 0 where
  pub others : List (List ℕ)
  pub words_are : words ≡ word ∷ others
  pub is : P others

-- the words are this command
abbrev pub IsCommand : List (List ℕ) → CommandData → Type 0
IsCommand words (serve how) = Follows (codes "serve") words (λ others. IsServe others how)
IsCommand words (load number) = Follows (codes "load") words (λ others. IsLoad others number)

-- the numbers of a command are in their ranges
pub record ServesInRange (serve : ServeData) : Type 0 where
  pub port : (1 ≤ serve.port) × (serve.port ≤ 65535)
  pub workers : (1 ≤ serve.workers) × (serve.workers ≤ defaults.WORKERS)
  pub most : (1 ≤ serve.most) × (serve.most ≤ limits.TURNS)

abbrev pub IsInRange : CommandData → Type 0
IsInRange (serve how) = ServesInRange how
IsInRange (load number) = (1 ≤ number) × (number ≤ defaults.LOAD)

-- what a command that was read says
abbrev pub serve_data : Serve → ServeData
serve_data s = record { conf = s.conf.now; port = s.port; workers = s.workers; most = s.most }

abbrev pub command_data : Command → CommandData
command_data (asked.Serve s) = serve (serve_data s)
command_data (asked.Load number) = load number
