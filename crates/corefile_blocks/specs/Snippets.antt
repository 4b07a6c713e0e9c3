-- Snippets by the places of their names. This server's own rule.
use Rattle.std.specs.Prelude.{◌≡◌, ℕ, List, length, Some, slice_get}
use Rattle.corefile_blocks.specs.declared.shared.Snippet.{Snippet}
use Rattle.corefile_blocks.specs.Blocks.{snippet_of}
use Rattle.corefile_blocks.specs.Places.{place_from}

-- what has a name is found at the name's place
pub record ArePlaced (snippets : List Snippet) (places : List (List Snippet)) : Type 0 where
  pub many : length places ≡ 256
  pub found : (name : List ℕ) (set : List Snippet)
      → slice_get places (place_from 256 0 name) ≡ Some set
      → snippet_of name snippets ≡ snippet_of name set
