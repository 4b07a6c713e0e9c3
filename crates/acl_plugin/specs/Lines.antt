-- The line of a policy: `allow`, `block`, `filter` or `drop`, and then any number of `type` with
-- types or `*`, and of `net` with nets or `*`. This server's own rule, in the manner of CoreDNS.
use Rattle.std.specs.Prelude.{ℕ, Bool, true, false, not, ◌&&◌, ◌||◌, List, [], ◌∷◌, ◌++◌, codes}
use Rattle.std.specs.Prelude.{Option, Some, None, is_some, unwrap_or, if◌then◌else◌}
use Rattle.std.specs.Option.{option_or}
use Rattle.dns_data.specs.{net_of}
use Rattle.dns_data.specs.Addresses.{Net}
use Rattle.type_names.specs.{kind_of_text}
use Rattle.plugin_api.specs.{is_word}
use Rattle.plugin_api.specs.declared.fault.DirectiveWhy.{DirectiveWhy}
use Rattle.plugin_api.specs.declared.fault.DirectiveWhy.TheVariants as why
use Rattle.acl_plugin.specs.declared.part.Part.{Part}
use Rattle.acl_plugin.specs.declared.part.Part.TheVariants as part
use Rattle.acl_plugin.specs.declared.policy.Action.{Action}
use Rattle.acl_plugin.specs.declared.policy.Action.TheVariants as action
use Rattle.acl_plugin.specs.declared.policy.Policy.{Policy}

-- the action that a word names
abbrev pub action_of : List ℕ → Option Action
action_of word =
    if is_word word (codes "allow") then Some action.Allow
    else if is_word word (codes "block") then Some action.Block
    else if is_word word (codes "filter") then Some action.Filter
    else if is_word word (codes "drop") then Some action.Drop
    else None

-- the part that a word opens
abbrev pub opened : List ℕ → Option Part
opened word =
    if is_word word (codes "type") then Some part.Types
    else if is_word word (codes "net") then Some part.Nets
    else None

-- the part behind a word
abbrev pub part_behind : Part → List ℕ → Part
part_behind part word = unwrap_or (opened word) part

-- `*` means all
abbrev pub is_star : List ℕ → Bool
is_star word = is_word word (codes "*")

-- a fault, unless the word is good
abbrev pub unless : Bool → DirectiveWhy → Option DirectiveWhy
unless good why = if good then None else Some why

-- why a word that opens no part doesn't fit
abbrev pub plain_why : Part → List ℕ → Option DirectiveWhy
plain_why part.Front word = Some why.Option
plain_why part.Types word = unless (is_star word || is_some (kind_of_text word)) why.Kind
plain_why part.Nets word = unless (is_star word || is_some (net_of word)) why.Net

abbrev pub word_why : Part → List ℕ → Option DirectiveWhy
word_why part word = if is_some (opened word) then None else plain_why part word

-- why the first word that doesn't fit doesn't
abbrev pub words_why : Part → List (List ℕ) → Option DirectiveWhy
words_why part [] = None
words_why part (word ∷ words) =
    option_or (word_why part word) (words_why (part_behind part word) words)

-- why a line is no policy
unfoldable pub line_why : List (List ℕ) → Option DirectiveWhy
line_why [] = Some why.Option
line_why (word ∷ words) =
    option_or (unless (is_some (action_of word)) why.Option) (words_why part.Front words)

-- a part ends before another one, and at the end of the line
abbrev pub ends_part : List (List ℕ) → Bool
ends_part [] = true
ends_part (word ∷ words) = is_some (opened word)

-- whether two parts are of one kind
abbrev pub same_part : Part → Part → Bool
same_part part.Front part.Front = true
same_part part.Types part.Types = true
same_part part.Nets part.Nets = true
same_part a b = false

-- whether a word opens a part of this kind
abbrev pub opens_by : Part → Option Part → Bool
opens_by want None = false
opens_by want (Some part) = same_part part want

abbrev pub opens : Part → List ℕ → Bool
opens want word = opens_by want (opened word)

-- whether a word makes its part take all, by the part that it opens
abbrev pub all_by : Part → Part → List ℕ → List (List ℕ) → Option Part → Bool
all_by want part word behind None = same_part part want && is_star word
all_by want part word behind (Some next) = same_part next want && ends_part behind

-- a part takes all where it has no words, or a `*`
abbrev pub all_at : Part → Part → List ℕ → List (List ℕ) → Bool
all_at want part word behind = all_by want part word behind (opened word)

-- whether some part of this kind takes all
abbrev pub some_all : Part → Part → List (List ℕ) → Bool
some_all want part [] = false
some_all want part (word ∷ words) =
    all_at want part word words || some_all want (part_behind part word) words

-- whether some word opens a part of this kind
abbrev pub some_opens : Part → List (List ℕ) → Bool
some_opens want [] = false
some_opens want (word ∷ words) = opens want word || some_opens want words

-- a policy takes all of a kind where it has no part of it, or one that takes all
unfoldable pub takes_all : Part → List (List ℕ) → Bool
takes_all want words = not (some_opens want words) || some_all want part.Front words

-- the item that was read, if any, as a list
abbrev pub listed : {A : Type 0} → Option A → List A
listed None = []
listed (Some item) = item ∷ []

-- the types that a word lists, by its part
abbrev pub kinds_at : Part → List ℕ → List ℕ
kinds_at part.Types word = listed (kind_of_text word)
kinds_at part word = []

-- the types that words list
abbrev pub kinds_in : Part → List (List ℕ) → List ℕ
kinds_in part [] = []
kinds_in part (word ∷ words) =
    let behind = part_behind part word in kinds_at behind word ++ kinds_in behind words

-- the nets that a word lists, by its part
abbrev pub nets_at : Part → List ℕ → List Net
nets_at part.Nets word = listed (net_of word)
nets_at part word = []

-- the nets that words list
abbrev pub nets_in : Part → List (List ℕ) → List Net
nets_in part [] = []
nets_in part (word ∷ words) =
    let behind = part_behind part word in nets_at behind word ++ nets_in behind words

-- the policy of an action and the words behind it
abbrev pub policy_by : Option Action → List (List ℕ) → Policy
policy_by first words = record {
  action = unwrap_or first action.Allow;
  all_kinds = takes_all part.Types words;
  kinds = kinds_in part.Front words;
  all_nets = takes_all part.Nets words;
  nets = nets_in part.Front words;
}

-- the policy of a line
unfoldable pub policy_of : List (List ℕ) → Policy
policy_of [] = policy_by None []
policy_of (word ∷ words) = policy_by (action_of word) words
