-- Which upstreams the words of a directive name, by themselves and by files, or the fault of the
-- first word that doesn't fit. This server's own rule. Byte 47 is `/`.
use Rattle.std.specs.Prelude.{◌≡◌, ℕ, ◌+◌, nat_le, ◌==◌, Bool, false, List, [], ◌∷◌, ◌++◌, length}
use Rattle.std.specs.Prelude.{Option, Some, None, Result, Ok, Err, if◌then◌else◌}
use Rattle.dns_data.specs.declared.file.FileText.{FileText}
use Rattle.dns_data.specs.declared.limit.TheConstants as limits
use Rattle.dns_data.specs.declared.limit.Limit.TheVariants as limit
use Rattle.outside.specs.declared.datagram.Upstream.{Upstream}
use Rattle.plugin_api.specs.{is_word}
use Rattle.plugin_api.specs.declared.fault.DirectiveFault.{DirectiveFault}
use Rattle.plugin_api.specs.declared.fault.DirectiveFault.TheVariants as fault
use Rattle.plugin_api.specs.declared.fault.DirectiveWhy.TheVariants as why
use Rattle.upstream_words.specs.Upstreams.{servers_in, upstream_of}

-- with more upstreams; the sixteenth is one too many
abbrev pub with_more : List Upstream → List Upstream → Result (List Upstream) DirectiveFault
with_more us more =
    if nat_le (length us + length more) limits.UPSTREAMS then Ok (us ++ more)
    else Err (fault.TooMany limit.Upstreams (limits.UPSTREAMS + 1))

-- with those of a file, which names one or more
abbrev pub served : List Upstream → ℕ → List Upstream → Result (List Upstream) DirectiveFault
served us line [] = Err (fault.Why line why.NoUpstream)
served us line (server ∷ servers) = with_more us (server ∷ servers)

-- with those of a file of these bytes, which may be missing
abbrev pub by_file : List Upstream → ℕ → Option (List ℕ) → Result (List Upstream) DirectiveFault
by_file us line None = Err (fault.Why line why.NoFile)
by_file us line (Some text) = served us line (servers_in text)

-- with the one that a word names
abbrev pub by_word : List Upstream → ℕ → Option Upstream → Result (List Upstream) DirectiveFault
by_word us line None = Err (fault.Why line why.Net)
by_word us line (Some upstream) = with_more us (upstream ∷ [])

-- a word that begins with `/` names a file
abbrev pub is_file : List ℕ → Bool
is_file [] = false
is_file (byte ∷ word) = byte == 47

-- what a file of this name has, where it isn't missing
abbrev pub file_in : List ℕ → List FileText → Option (List ℕ)
file_in name [] = None
file_in name (file ∷ files) = if is_word file.name name then file.bytes else file_in name files

-- with those that a word names
abbrev pub with_word : List Upstream → ℕ → List FileText → List ℕ
    → Result (List Upstream) DirectiveFault
with_word us line files word =
    if is_file word then by_file us line (file_in word files)
    else by_word us line (upstream_of word)

-- what follows on a result, unless it is a fault
abbrev pub onward_ok : {A B : Type 0} → Result A DirectiveFault → (A → Result B DirectiveFault)
    → Result B DirectiveFault
onward_ok (Ok v) next = next v
onward_ok (Err e) next = Err e

-- with the upstreams that words name
abbrev pub with_words : List Upstream → ℕ → List FileText → List (List ℕ)
    → Result (List Upstream) DirectiveFault
with_words us line files [] = Ok us
with_words us line files (word ∷ words) =
    onward_ok (with_word us line files word) (λ more. with_words more line files words)

-- a reader gives this, or its fault. Want of memory is always allowed.
abbrev pub Reads : {A : Type 0} → Result A DirectiveFault → Result A DirectiveFault → Type 0
Reads means (Ok v) = means ≡ Ok v
Reads means (Err fault.NoMemory) = Unit {0}
Reads means (Err refused) = means ≡ Err refused
