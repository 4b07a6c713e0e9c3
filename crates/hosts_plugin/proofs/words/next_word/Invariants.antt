use Rattle.std.proofs.Common.{◌≡◌, ◌≤◌, length}
use Rattle.hosts_plugin.specs.Listings.{words_in}
use Rattle.hosts_plugin.proofs.words.next_word.Given as goal

abbrev pub invariant-loop-byte : goal.invariant-loop-byte
invariant-loop-byte l = record {
  words : words_in l.rest ≡ words_in l.fn.line;
  shorter : length l.rest ≤ length l.fn.line;
}

abbrev pub decreases-loop-byte : goal.decreases-loop-byte
decreases-loop-byte l = length l.rest
