-- What a load came to, counted over the journals of its two sides, and its five lines. This
-- server's own rule.
use Rattle.std.specs.Prelude.{ℕ, ◌+◌, ◌%◌, nat_eq, Bool, true, false, List, [], ◌∷◌, ◌++◌, codes}
use Rattle.std.specs.Prelude.{Option, Some, None, count_by, slice_get}
use Rattle.std.specs.Fmt.{decimal}
use Rattle.outside.specs.declared.mark.Mark.{Mark}
use Rattle.outside.specs.declared.mark.Mark.TheVariants.{Got, Sent}
use Rattle.load_maker.specs.declared.summary.Summary.{Summary}

-- a datagram was taken
abbrev pub is_taken : Mark → Bool
is_taken (Got datagram) = true
is_taken mark = false

-- a byte has an RCODE in its lower half (RFC 1035, section 4.1.1)
abbrev pub byte_has : ℕ → Option ℕ → Bool
byte_has code None = false
byte_has code (Some byte) = nat_eq (byte % 16) code

abbrev pub has_code : ℕ → List ℕ → Bool
has_code code reply = byte_has code (slice_get reply 3)

-- a reply of this RCODE went out
abbrev pub is_answer : ℕ → Mark → Bool
is_answer code (Sent reply true) = has_code code reply
is_answer code mark = false

-- how many of the marks are so
abbrev pub taken_in : List Mark → ℕ
taken_in journal = count_by is_taken journal

abbrev pub answers_in : ℕ → List Mark → ℕ
answers_in code journal = count_by (is_answer code) journal

-- the datagrams that both sides took, the replies of each RCODE that they sent, and how many
-- generations were published
abbrev pub summary_of : List Mark → List Mark → ℕ → Summary
summary_of udp tcp published = record {
  queries = taken_in udp + taken_in tcp;
  noerror = answers_in 0 udp + answers_in 0 tcp;
  nxdomain = answers_in 3 udp + answers_in 3 tcp;
  refused = answers_in 5 udp + answers_in 5 tcp;
  published = published;
}

-- a word and a number
abbrev pub counted_line : List ℕ → ℕ → List ℕ
counted_line word count = word ++ codes " " ++ decimal count

-- the lines of a summary, without line ends
abbrev pub summary_lines : Summary → List (List ℕ)
summary_lines summary =
    counted_line (codes "queries") summary.queries
    ∷ counted_line (codes "noerror") summary.noerror
    ∷ counted_line (codes "nxdomain") summary.nxdomain
    ∷ counted_line (codes "refused") summary.refused
    ∷ counted_line (codes "published") summary.published ∷ []
