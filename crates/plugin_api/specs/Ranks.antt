-- The order of directives in a block's chain, by their names. This server's own rule, in the manner
-- of CoreDNS.
use Rattle.std.specs.Prelude.{ℕ, Bool, true, false, List, [], ◌∷◌, Option, nat_eq, codes}
use Rattle.std.specs.List.{find, list_any}
use Rattle.std.specs.Cmp.Lexicographic.{pointwise}
use Rattle.plugin_api.specs.declared.ranks.Rank.{Rank}
use Rattle.plugin_api.specs.declared.ranks.Rank.TheVariants as rank

-- every rank, in the order of a chain
abbrev pub ranks : List Rank
ranks = rank.Passive ∷ rank.Reload ∷ rank.Errors ∷ rank.Log ∷ rank.Dns64 ∷ rank.Acl ∷ rank.Any
    ∷ rank.Extra ∷ rank.Cache ∷ rank.Rewrite ∷ rank.Template ∷ rank.Hosts ∷ rank.File
    ∷ rank.Forward ∷ rank.Whoami ∷ []

-- names that are accepted and do nothing
abbrev pub passive_names : List (List ℕ)
passive_names = codes "debug" ∷ codes "health" ∷ codes "ready" ∷ codes "prometheus"
    ∷ codes "pprof" ∷ codes "loop" ∷ codes "cancel" ∷ []

-- the names of directives of a rank; those of extra directives stand in no table
abbrev pub names_of : Rank → List (List ℕ)
names_of rank.Passive = passive_names
names_of rank.Reload = codes "reload" ∷ []
names_of rank.Errors = codes "errors" ∷ []
names_of rank.Log = codes "log" ∷ []
names_of rank.Dns64 = codes "dns64" ∷ []
names_of rank.Acl = codes "acl" ∷ []
names_of rank.Any = codes "any" ∷ []
names_of rank.Extra = []
names_of rank.Cache = codes "cache" ∷ []
names_of rank.Rewrite = codes "rewrite" ∷ []
names_of rank.Template = codes "template" ∷ []
names_of rank.Hosts = codes "hosts" ∷ []
names_of rank.File = codes "file" ∷ []
names_of rank.Forward = codes "forward" ∷ []
names_of rank.Whoami = codes "whoami" ∷ []

-- whether a name is one of a rank, letter by letter
abbrev pub has_name : List ℕ → Rank → Bool
has_name name rank = list_any (pointwise nat_eq name) (names_of rank)

-- the rank of a directive by its name
unfoldable pub rank_of : List ℕ → Option Rank
rank_of name = find (has_name name) ranks

-- whether a name of this rank may stand in a block only once
abbrev pub is_once : Rank → Bool
is_once rank.Acl = false
is_once rank.Extra = false
is_once rank.Rewrite = false
is_once rank.Template = false
is_once rank.File = false
is_once rank.Forward = false
is_once _ = true

-- how many ranks stand before one in a chain
abbrev pub order_of : Rank → ℕ
order_of rank.Passive = 0
order_of rank.Reload = 1
order_of rank.Errors = 2
order_of rank.Log = 3
order_of rank.Dns64 = 4
order_of rank.Acl = 5
order_of rank.Any = 6
order_of rank.Extra = 7
order_of rank.Cache = 8
order_of rank.Rewrite = 9
order_of rank.Template = 10
order_of rank.Hosts = 11
order_of rank.File = 12
order_of rank.Forward = 13
order_of rank.Whoami = 14
