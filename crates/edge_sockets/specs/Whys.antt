-- What the numbers of errors mean (Linux's errno(3)), and what the edge says by itself of a port
-- that it couldn't open and a file that it couldn't read. This server's own rule.
use Rattle.std.specs.Prelude.{◌≡◌, ◌≢◌, ℕ, ℤ, pos, unsigned_abs, List, ◌++◌, codes}
use Rattle.std.specs.Fmt.{decimal}
use Rattle.dns_data.specs.declared.message.Transport.TheVariants.{Udp, Tcp}
use Rattle.edge_sockets.specs.declared.why.Why.{Why}
use Rattle.edge_sockets.specs.declared.why.Why.TheVariants as why
use Rattle.edge_sockets.specs.declared.why.EdgeLine.{EdgeLine}
use Rattle.edge_sockets.specs.declared.why.EdgeLine.TheVariants as edge

-- none of the numbers that have a cause of their own
abbrev pub IsOther : ℤ → Type 0
IsOther number =
    (number ≢ pos 0) × (number ≢ pos 1) × (number ≢ pos 12) × (number ≢ pos 13) ×
    (number ≢ pos 20) × (number ≢ pos 21) × (number ≢ pos 23) × (number ≢ pos 24) ×
    (number ≢ pos 40) × (number ≢ pos 98) × (number ≢ pos 105)

-- what the number of an error means
pub record Means (number : ℤ) (cause : Why) : Type 0 where
  pub not_asked : number ≡ pos 0 → cause ≡ why.Unnamed
  pub not_permitted : number ≡ pos 1 → cause ≡ why.Denied
  pub out_of_memory : number ≡ pos 12 → cause ≡ why.Memory
  pub no_access : number ≡ pos 13 → cause ≡ why.Denied
  pub no_folder : number ≡ pos 20 → cause ≡ why.NotFolder
  pub is_folder : number ≡ pos 21 → cause ≡ why.NotRegular
  pub files_of_system : number ≡ pos 23 → cause ≡ why.Descriptors
  pub files_of_process : number ≡ pos 24 → cause ≡ why.Descriptors
  pub circle : number ≡ pos 40 → cause ≡ why.Links
  pub address_in_use : number ≡ pos 98 → cause ≡ why.InUse
  pub no_buffers : number ≡ pos 105 → cause ≡ why.Memory
  pub other : IsOther number → cause ≡ why.System (unsigned_abs number)

-- the words of a cause
abbrev pub why_text : Why → List ℕ
why_text why.Denied = codes "permission denied"
why_text why.InUse = codes "address in use"
why_text why.Descriptors = codes "too many open files"
why_text why.Memory = codes "out of memory"
why_text why.NotRegular = codes "not a regular file"
why_text why.NotFolder = codes "not a folder on the way to it"
why_text why.Links = codes "links that lead round in a circle"
why_text why.Unnamed = codes "not a name that a file can have"
why_text (why.System number) = codes "error " ++ decimal number

-- the line of a port that is not open, or open at some addresses alone, of a file that was not
-- read, and of threads that can't run
abbrev pub edge_text : EdgeLine → List ℕ
edge_text (edge.NotOpen Udp port cause) =
    codes "open udp port " ++ decimal port ++ codes ": " ++ why_text cause
edge_text (edge.NotOpen Tcp port cause) =
    codes "open tcp port " ++ decimal port ++ codes ": " ++ why_text cause
edge_text (edge.NotRead name cause) =
    codes "read " ++ name ++ codes ": " ++ why_text cause
edge_text (edge.OpenAt Udp port at) =
    codes "udp port " ++ decimal port ++ codes " open at " ++ at
edge_text (edge.OpenAt Tcp port at) =
    codes "tcp port " ++ decimal port ++ codes " open at " ++ at
edge_text (edge.LeftOut Udp port at) =
    codes "udp port " ++ decimal port ++ codes " taken at " ++ at
edge_text (edge.LeftOut Tcp port at) =
    codes "tcp port " ++ decimal port ++ codes " taken at " ++ at
edge_text (edge.NoThreads count) =
    codes "threads: resource temporarily unavailable: " ++ decimal count ++ codes " asked for"
