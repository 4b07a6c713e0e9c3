use Rattle.std.proofs.Common.{◌≡◌, ◌++◌, length}
use Rattle.hosts_plugin.specs.Listings.{named, words_in}
use Rattle.hosts_plugin.proofs.file.add_names.Given as goal

abbrev pub invariant-loop-word : goal.invariant-loop-word
invariant-loop-word l = l.listings ++ named l.addr (words_in l.rest) ≡ l.fn.listings ++ named l.addr (words_in l.words)

abbrev pub decreases-loop-word : goal.decreases-loop-word
decreases-loop-word l = length l.rest
