use Rattle.std.proofs.Common.{◌≡◌, ◌++◌, length}
use Rattle.hosts_plugin.specs.Listings.{inline_listings}
use Rattle.hosts_plugin.proofs.listing.add_inline.Given as goal

abbrev pub invariant-loop-line : goal.invariant-loop-line
invariant-loop-line l = l.listings ++ inline_listings l.rest ≡ l.fn.listings ++ inline_listings l.lines

abbrev pub decreases-loop-line : goal.decreases-loop-line
decreases-loop-line l = length l.rest
