use Rattle.std.proofs.Common.{◌≡◌, ◌++◌, length}
use Rattle.corefile_words.specs.Lines.{lines_of}
use Rattle.hosts_plugin.specs.Listings.{lines_listings}
use Rattle.hosts_plugin.proofs.file.add_file.Given as goal

abbrev pub invariant-loop-rest : goal.invariant-loop-rest
invariant-loop-rest l = l.listings ++ lines_listings (lines_of l.rest) ≡ l.fn.listings ++ lines_listings (lines_of l.text)

abbrev pub decreases-loop-rest : goal.decreases-loop-rest
decreases-loop-rest l = length l.rest
