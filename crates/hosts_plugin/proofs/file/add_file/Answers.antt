use Rattle.std.proofs.Common.{◌≡◌, ◌≤◌, ◌++◌, ◌∙◌, ℕ, List, [], ◌∷◌, length, ap, sym, refl, arith}
use Rattle.std.proofs.lemmas.List.{append-nil}
use Rattle.corefile_words.specs.Lines.{lines_of}
use Rattle.hosts_plugin.specs.declared.listing.Listing.{Listing}
use Rattle.hosts_plugin.specs.Listings.{file_listings, lines_listings}
use Rattle.hosts_plugin.proofs.file.add_file.Goals as goal

no_lines : (text : List ℕ) → length text ≤ 0 → lines_listings (lines_of text) ≡ []
unfolding lines_of
no_lines [] h = refl
no_lines (byte ∷ text) h = absurd (omega arith)

pub returns : goal.returns
unfolding file_listings
returns c =
    let rest = c.loop-rest.rest.now in
    let none = no_lines rest (omega (arith, c.loop-rest-test.false)) in
    sym (ap (λ (ls : List Listing). c.loop-rest.listings ++ ls) none ∙ append-nil c.loop-rest.listings) ∙ c.loop-rest.invariant
