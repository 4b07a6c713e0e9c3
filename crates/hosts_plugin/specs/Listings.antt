-- Addresses with their names, as a hosts file (hosts(5)) and the lines of `hosts` list them. This
-- server's own rule, in the manner of CoreDNS. Bytes by number: 9 tab, 32 space, 35 `#`.
use Rattle.std.specs.Prelude.{ℕ, ◌==◌, Bool, true, false, ◌||◌, List, [], ◌∷◌, ◌++◌}
use Rattle.std.specs.Prelude.{Option, Some, None, option_map, if◌then◌else◌}
use Rattle.std.specs.List.{filter, slice_split}
use Rattle.std.specs.Str.{is_utf8}
use Rattle.corefile_words.specs.Lines.{before, lines_of}
use Rattle.dns_data.specs.{addr_of, lowered, name_of}
use Rattle.dns_data.specs.Addresses.{Addr}
use Rattle.dns_data.specs.declared.directive.Line.{Line}
use Rattle.hosts_plugin.specs.declared.listing.Listing.{Listing}

-- the name that a word spells below the root, in small letters; none where its bytes are no UTF-8
unfoldable pub name_in : List ℕ → Option (List (List ℕ))
name_in word = if is_utf8 word then option_map lowered (name_of word []) else None

-- an address with its name, where there is one
abbrev pub listed : Addr → Option (List (List ℕ)) → List Listing
listed addr None = []
listed addr (Some name) = record { addr = addr; name = name } ∷ []

-- an address with each word that is a name
abbrev pub named : Addr → List (List ℕ) → List Listing
named addr [] = []
named addr (word ∷ words) = listed addr (name_in word) ++ named addr words

abbrev pub named_by : Option Addr → List (List ℕ) → List Listing
named_by None words = []
named_by (Some addr) words = named addr words

-- what the words of a line list: an address, which is the first one, with its names. A line that
-- begins with another word lists nothing.
abbrev pub listings_of : List (List ℕ) → List Listing
listings_of [] = []
listings_of (word ∷ words) = named_by (addr_of word) words

-- a space or a tab
abbrev pub is_blank : ℕ → Bool
is_blank byte = byte == 32 || byte == 9

-- `#` begins a comment
abbrev pub is_hash : ℕ → Bool
is_hash byte = byte == 35

-- a line without its comment
abbrev pub uncommented : List ℕ → List ℕ
uncommented line = before is_hash line

abbrev pub is_filled : List ℕ → Bool
is_filled [] = false
is_filled (byte ∷ bytes) = true

-- the words of a line: what stands between its blanks, and isn't empty
unfoldable pub words_in : List ℕ → List (List ℕ)
words_in line = filter is_filled (slice_split is_blank line)

-- what a line of a hosts file lists
abbrev pub line_listings : List ℕ → List Listing
line_listings line = listings_of (words_in (uncommented line))

abbrev pub lines_listings : List (List ℕ) → List Listing
lines_listings [] = []
lines_listings (line ∷ lines) = line_listings line ++ lines_listings lines

-- what a hosts file lists, in the order of the text
unfoldable pub file_listings : List ℕ → List Listing
file_listings text = lines_listings (lines_of text)

-- what the lines of a directive list, in the order of the text
abbrev pub inline_listings : List Line → List Listing
inline_listings [] = []
inline_listings (line ∷ lines) = listings_of line.words ++ inline_listings lines
