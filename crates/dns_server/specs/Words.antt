-- What a run is, by the words of the command line. This server's own rule.
use Rattle.std.specs.Prelude.{◌≡◌, ◌⊎◌, ℕ, List, [], None}
use Rattle.command_line.specs.Command.{CommandData, ServeData, IsCommand, load, serve}
use Rattle.corefile_words.specs.declared.word.Pair.{Pair}
use Rattle.outside.specs.Hosts.{HostState}
use Rattle.dns_server.specs.declared.status.Status.TheVariants as status
use Rattle.dns_server.specs.Loading.{LoadsBy}
use Rattle.dns_server.specs.Report.{RunData, RunsCommand}
use Rattle.dns_server.specs.States.{setup_of}
use Rattle.dns_server.specs.Stocking.{Program}

-- the words are no command
abbrev pub IsUsage : List (List ℕ) → Type 0
IsUsage words = (command : CommandData) → IsCommand words command → ⊥

-- words that are no command open nothing and tell nothing
pub record IsIdle (words : List (List ℕ)) (run : RunData) (before after : HostState) : Type 0 where
  pub usage : IsUsage words
  pub status_is : run.status ≡ status.Usage
  pub sides : run.sides ≡ []
  pub watch : run.watch ≡ None
  pub published : run.published ≡ 0
  pub starved : run.starved ≡ 0
  pub load : run.load ≡ None
  pub host : after ≡ before

-- the words ask to serve so, and the run is by that
pub record IsByCommand (program : Program) (words : List (List ℕ)) (env : List Pair)
    (run : RunData) (before after : HostState) : Type 0 where
  pub how : ServeData
  pub words_are : IsCommand words (serve how)
  pub load : run.load ≡ None
  pub runs : RunsCommand (setup_of program env how) run before after

-- the words ask for a load of so many queries, and the run is by that
pub record IsByLoad (program : Program) (words : List (List ℕ)) (run : RunData)
    (before after : HostState) : Type 0 where
  pub count : ℕ
  pub words_are : IsCommand words (load count)
  pub loads : LoadsBy program count run before after

-- what a run is, by its words, before its status is told
abbrev pub IsRunOf : Program → List (List ℕ) → List Pair → RunData → HostState → HostState → Type 0
IsRunOf program words env run before after =
    IsIdle words run before after
    ⊎ (IsByCommand program words env run before after ⊎ IsByLoad program words run before after)
