-- A line is told of a key exactly where a block is picked.
use Rattle.std.proofs.Common.{◌≡◌, ◌∙◌, ℕ, ◌+◌, Bool, true, false, ◌||◌, if◌then◌else◌, List, [], ◌∷◌}
use Rattle.std.proofs.Common.{Option, Some, None, refl, ap}
use Rattle.std.specs.Prelude.{find, is_some, option_map}
use Rattle.std.specs.List.{list_any, position_from}
use Rattle.std.specs.Option.{option_or}
use Rattle.dns_data.specs.declared.block.Block.{Block}
use Rattle.dns_data.specs.declared.block.BlockKey.{BlockKey}
use Rattle.plugin_api.specs.Picking.{block_of, has_key, is_key, longest_of, picked}
use Rattle.chain_trail.specs.Names.{first_key, key_in, key_line, picked_line}

-- an item is found exactly where there is one
found_at : (t : Bool) (key : BlockKey) (rest : Option BlockKey) (any : Bool)
    → is_some rest ≡ any → is_some (if t then Some key else rest) ≡ (t || any)
found_at true key rest any h = refl
found_at false key rest any h = h

found_any : (f : BlockKey → Bool) (keys : List BlockKey)
    → is_some (find f keys) ≡ list_any f keys
found_any f [] = refl
found_any f (key ∷ keys) = found_at (f key) key (find f keys) (list_any f keys) (found_any f keys)

-- a key of the first block that has one, and the number of that block
here_or : (key rest : Option BlockKey) (has : Bool) (i : ℕ) (at : Option ℕ)
    → is_some key ≡ has → is_some rest ≡ is_some at
    → is_some (option_or key rest) ≡ is_some (if has then Some i else at)
here_or (Some key) rest true i at e h = refl
here_or (Some key) rest false i at e h = absurd cc
here_or None rest true i at e h = absurd cc
here_or None rest false i at e h = h

first_as : (port : ℕ) (zone : List (List ℕ)) (i : ℕ) (blocks : List Block)
    → is_some (first_key port zone blocks)
    ≡ is_some (position_from (has_key port zone) i blocks)
unfolding has_key
first_as port zone i [] = refl
first_as port zone i (block ∷ blocks) =
    here_or (key_in port zone block) (first_key port zone blocks)
    (list_any (is_key port zone) block.keys) i
    (position_from (has_key port zone) (i + 1) blocks)
    (found_any (is_key port zone) block.keys) (first_as port zone (i + 1) blocks)

lined : (key : Option BlockKey) → is_some (option_map (λ k. k.line) key) ≡ is_some key
lined (Some key) = refl
lined None = refl

key_as : (blocks : List Block) (port : ℕ) (zone : List (List ℕ))
    → is_some (key_line blocks port zone) ≡ is_some (block_of blocks port zone)
unfolding block_of
key_as blocks port zone = lined (first_key port zone blocks) ∙ first_as port zone 0 blocks

or_as : (a b x y : Option ℕ) → is_some a ≡ is_some b → is_some x ≡ is_some y
    → is_some (option_or a x) ≡ is_some (option_or b y)
or_as (Some a) (Some b) x y e h = refl
or_as (Some a) None x y e h = absurd cc
or_as None (Some b) x y e h = absurd cc
or_as None None x y e h = h

longest_as : (f g : List (List ℕ) → Option ℕ)
    → ((zone : List (List ℕ)) → is_some (f zone) ≡ is_some (g zone)) → (name : List (List ℕ))
    → is_some (longest_of f name) ≡ is_some (longest_of g name)
unfolding longest_of
longest_as f g same [] = same []
longest_as f g same (label ∷ above) =
    or_as (f (label ∷ above)) (g (label ∷ above)) (longest_of f above) (longest_of g above)
    (same (label ∷ above)) (longest_as f g same above)

pub line_where_picked : (blocks : List Block) (port : ℕ) (name : List (List ℕ))
    → is_some (picked_line blocks port name) ≡ is_some (picked blocks port name)
unfolding picked
line_where_picked blocks port name =
    longest_as (key_line blocks port) (block_of blocks port) (key_as blocks port) name

pub line_as_picked : (blocks : List Block) (port : ℕ) (name : List (List ℕ)) (line : Option ℕ)
    → line ≡ picked_line blocks port name → is_some line ≡ is_some (picked blocks port name)
line_as_picked blocks port name line e = ap is_some e ∙ line_where_picked blocks port name
