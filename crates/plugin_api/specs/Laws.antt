-- Laws of the choice of a block.
use Rattle.std.proofs.Common.{◌≡◌, ℕ, ◌+◌, ◌-◌, true, List, length, drop, Option, Some, None, sym, ap, subst, ◌∙◌, arith, inl, inr, length-drop}
use Rattle.std.specs.Prelude.{slice_get}
use Rattle.std.proofs.lemmas.Bool.{cases_lt}
use Rattle.std.proofs.lemmas.List.{length-map}
use Rattle.std.specs.Char.{to_ascii_lowercase}
use Rattle.std.specs.Prelude.{map}
use Rattle.dns_names.specs.Name.{lowered}
use Rattle.dns_data.specs.declared.block.Block.{Block}
use Rattle.plugin_api.specs.Index.{IndexData, IsIndexOf, block_in}
use Rattle.plugin_api.specs.KeyLaws.{Finds, IsLongest, finds, has_of, key_of}
use Rattle.plugin_api.specs.Picking.{IsPicked, Picks, Serves, block_of, has_key, longest_of, picked}
use Rattle.plugin_api.specs.PositionLaws.{IsFirst, IsFound, found}

-- an index picks what its blocks do
pub index_picks : (index : IndexData) (blocks : List Block) (port : ℕ) (name : List (List ℕ)) → IsIndexOf index blocks → longest_of (block_in index port) name ≡ picked blocks port name
unfolding picked
index_picks index blocks port name is = λ i. longest_of (λ zone. is.agrees port zone i) name

long_as : (a b : List (List ℕ)) → lowered a ≡ lowered b → length a ≡ length b
long_as a b e =
    let left = length-map a (λ (label : List ℕ). map to_ascii_lowercase label) in
    let right = length-map b (λ (label : List ℕ). map to_ascii_lowercase label) in
    sym left ∙ ap length e ∙ right

-- the first block that serves a zone
first_of : (blocks : List Block) (port : ℕ) (zone : List (List ℕ)) → IsFound (has_key port zone) 0 blocks (block_of blocks port zone)
unfolding block_of
first_of blocks port zone = found (has_key port zone) 0 blocks

first_at : (blocks : List Block) (port : ℕ) (zone : List (List ℕ)) (at : ℕ) → block_of blocks port zone ≡ Some at → IsFirst (has_key port zone) 0 blocks at
first_at blocks port zone at e = subst (λ (o : Option ℕ). IsFound (has_key port zone) 0 blocks o) e (first_of blocks port zone)

-- a block that serves the name has a key with one of its suffixes
serves_some : (blocks : List Block) (port : ℕ) (name : List (List ℕ)) (i n : ℕ) (s : Serves blocks port name i n) → has_key port (drop s.within.above name) s.block ≡ true
serves_some blocks port name i n s = has_of port (drop s.within.above name) s.block (record { key = s.key; has = s.has; port_is = s.port_is; same = s.within.same })

not_none : (blocks : List Block) (port : ℕ) (name : List (List ℕ)) (i n : ℕ) (s : Serves blocks port name i n) → block_of blocks port (drop s.within.above name) ≡ None → ⊥
not_none blocks port name i n s e =
    let none = subst (λ (o : Option ℕ). IsFound (has_key port (drop s.within.above name)) 0 blocks o) e (first_of blocks port (drop s.within.above name)) in
    none i s.block s.stands (serves_some blocks port name i n s)

-- how many labels its zone has
served_length : (blocks : List Block) (port : ℕ) (name : List (List ℕ)) (i n : ℕ) (s : Serves blocks port name i n) → n + s.within.above ≡ length name
served_length blocks port name i n s =
    let long = long_as (drop s.within.above name) s.key.zone s.within.same in
    omega (arith, s.long, long, length-drop s.within.above name, s.within.inside)

picked_first : (blocks : List Block) (port : ℕ) (name : List (List ℕ)) (at : ℕ) (l : IsLongest (block_of blocks port) name at) → IsFirst (has_key port (drop l.above name)) 0 blocks at → IsPicked blocks port name at
picked_first blocks port name at l first =
    let held = key_of port (drop l.above name) first.item first.passes in
    let here : at ≡ first.index = omega (arith, first.at_is) in record {
      labels = length name - l.above;
      serves = record {
        block = first.item;
        key = held.key;
        stands = subst (λ (k : ℕ). slice_get blocks k ≡ Some first.item) (sym here) first.stands;
        has = held.has;
        port_is = held.port_is;
        within = record { above = l.above; inside = l.inside; same = held.same };
        long = let long = long_as (drop l.above name) held.key.zone held.same in omega (arith, long, length-drop l.above name, l.inside);
      };
      longest = λ i n s. elim (cases_lt s.within.above l.above) [
        | inl lt ↦ absurd (not_none blocks port name i n s (l.longer s.within.above lt))
        | inr le ↦ omega (arith, served_length blocks port name i n s)
      ];
      first = λ i s.
          let same : s.within.above ≡ l.above = omega (arith, served_length blocks port name i (length name - l.above) s, l.inside, s.within.inside) in
          let passes : has_key port (drop l.above name) s.block ≡ true = subst (λ (k : ℕ). has_key port (drop k name) s.block ≡ true) same (serves_some blocks port name i (length name - l.above) s) in
          omega (arith, here, first.first i s.block s.stands passes);
    }

is_picked : (blocks : List Block) (port : ℕ) (name : List (List ℕ)) (at : ℕ) → IsLongest (block_of blocks port) name at → IsPicked blocks port name at
is_picked blocks port name at l = picked_first blocks port name at l (first_at blocks port (drop l.above name) at l.is)

picks : (blocks : List Block) (port : ℕ) (name : List (List ℕ)) (o : Option ℕ) → Finds (block_of blocks port) name o → Picks blocks port name o
picks blocks port name (Some at) h = is_picked blocks port name at h
picks blocks port name None h = λ i n s. not_none blocks port name i n s (h s.within.above s.within.inside)

-- what `picked` gives is the block with the longest zone that the name is within
pub picked_is : (blocks : List Block) (port : ℕ) (name : List (List ℕ)) → Picks blocks port name (picked blocks port name)
unfolding picked
picked_is blocks port name = picks blocks port name (longest_of (block_of blocks port) name) (finds (block_of blocks port) name)
