use Rattle.std.proofs.Common.{◌≡◌, length}
use Rattle.hosts_plugin.specs.Listings.{inline_listings}
use Rattle.hosts_plugin.proofs.same.same_words.Given as goal

abbrev pub invariant-loop-first : goal.invariant-loop-first
invariant-loop-first l = inline_listings l.a ≡ inline_listings l.b → inline_listings l.fn.a ≡ inline_listings l.fn.b

abbrev pub decreases-loop-first : goal.decreases-loop-first
decreases-loop-first l = length l.a
