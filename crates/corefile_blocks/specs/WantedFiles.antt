-- Which words of a directive name files. Bytes by number: 47 `/`.
use Rattle.std.specs.Prelude.{String, ◌≡◌, ℕ, ◌==◌, Bool, false, List, [], ◌∷◌, ◌++◌, codes, drop, take}
use Rattle.std.specs.Prelude.{if◌then◌else◌}
use Rattle.std.specs.Global.{Global}
use Rattle.std.specs.BTreeSet.{BTreeSet, contains_text}
use Rattle.std.specs.List.{filter, list_any}
use Rattle.corefile_blocks.specs.LineForms.{same_text}

-- a file of addresses, where `hosts` names none
abbrev pub hosts_default : List ℕ
hosts_default = codes "/etc/hosts"

-- the file that the words of `hosts` name, or else that one
abbrev pub hosts_word : List (List ℕ) → List ℕ
hosts_word [] = hosts_default
hosts_word (file ∷ zones) = file

-- the file that the words of `file` name
abbrev pub file_word : List (List ℕ) → List ℕ
file_word [] = []
file_word (file ∷ zones) = file

-- whether a text is the path of a file from the root on
abbrev pub is_path : List ℕ → Bool
is_path [] = false
is_path (byte ∷ text) = byte == 47

-- the files that a directive of this name with these words names: the first word of `file`, that of
-- `hosts` or /etc/hosts, and of the upstreams of `forward` those that begin with a `/`
unfoldable pub files_of : List ℕ → List (List ℕ) → List (List ℕ)
files_of name args =
    if same_text name (codes "file") then take 1 args
    else if same_text name (codes "hosts") then hosts_word args ∷ []
    else if same_text name (codes "forward") then filter is_path (drop 1 args)
    else []

-- a name behind others, unless it is among them
abbrev pub add_once : List (List ℕ) → List ℕ → List (List ℕ)
add_once names name = if list_any (same_text name) names then names else names ++ name ∷ []

-- names behind others, each once
abbrev pub add_all : List (List ℕ) → List (List ℕ) → List (List ℕ)
add_all names [] = names
add_all names (name ∷ more) = add_all (add_once names name) more

-- names, each once, in the order in which they first stand
unfoldable pub each_once : List (List ℕ) → List (List ℕ)
each_once names = add_all [] names

-- the set has just these names
abbrev pub AreKnown : BTreeSet (String Global) → List (List ℕ) → Type 0
AreKnown known names = (name : List ℕ) → contains_text known name ≡ list_any (same_text name) names
