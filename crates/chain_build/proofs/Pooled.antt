-- The uses of a chain by its number, and what using some of them keeps.
use Rattle.std.proofs.Common.{◌≡◌, ◌<◌, refl, ℕ, zero, suc, List, [], ◌∷◌, ◌++◌, length, map, take, drop, Some, slice_get, slice_index_or, slice_set, sym, ap, ◌∙◌, arith}
use Rattle.std.proofs.lemmas.List.{append-nil, drop_all, length-map, take_all}
use Rattle.chain_build.specs.Uses.{AreUsed, IsUsed, SameUses, UseShape, chain_shape, use_shape}
use Rattle.chain_build.specs.declared.block.BlockChain.{BlockChain}
use Rattle.chain_build.specs.declared.block_uses.BlockUses.{BlockUses}

-- those of the chain with a number
pub used_at : (chains : List BlockChain) (blocks : List BlockUses) (n : ℕ) (chain : BlockChain) (none : BlockUses) → AreUsed chains blocks → slice_get chains n ≡ Some chain
    → (n < length blocks) × (slice_get blocks n ≡ Some (slice_index_or blocks n none)) × IsUsed chain (slice_index_or blocks n none)
used_at [] blocks n chain none used at = absurd cc
used_at (c ∷ chains) [] n chain none used at = absurd cc
used_at (c ∷ chains) (uses ∷ blocks) zero chain none used at =
    let it : c ≡ chain = cc in
    let first : use_shape uses ≡ chain_shape c = cc in
    (omega arith, refl, first ∙ ap chain_shape it)
used_at (c ∷ chains) (uses ∷ blocks) (suc n) chain none used at =
    let more : AreUsed chains blocks = cc in
    let rest = used_at chains blocks n chain none more at in
    let low = rest.0 in
    (omega (arith, low), rest.1, rest.2)

-- the same ones are used
pub used_same : (chain : BlockChain) (old new : BlockUses) → SameUses old new → IsUsed chain old → IsUsed chain new
used_same chain old new same used = same ∙ used

map_set : (blocks : List BlockUses) (n : ℕ) (none uses : BlockUses) → n < length blocks → SameUses (slice_index_or blocks n none) uses → map use_shape (slice_set blocks n uses) ≡ map use_shape blocks
map_set [] n none uses inside same = absurd (omega (arith, inside))
map_set (b ∷ blocks) zero none uses inside same = ap (λ (s : UseShape). s ∷ map use_shape blocks) same
map_set (b ∷ blocks) (suc n) none uses inside same = ap (λ (rest : List UseShape). use_shape b ∷ rest) (map_set blocks n none uses (omega (arith, inside)) same)

pub used_set : (chains : List BlockChain) (blocks : List BlockUses) (n : ℕ) (none uses : BlockUses) → n < length blocks → AreUsed chains blocks → SameUses (slice_index_or blocks n none) uses → AreUsed chains (slice_set blocks n uses)
used_set chains blocks n none uses inside used same = map_set blocks n none uses inside same ∙ used

pub used_long : (chains : List BlockChain) (blocks : List BlockUses) → AreUsed chains blocks → length blocks ≡ length chains
used_long chains blocks used = sym (length-map blocks use_shape) ∙ ap (λ (l : List UseShape). length l) used ∙ length-map chains chain_shape

-- what stands within a list stands there by whatever would stand behind it
pub same_at : {A : Type 0} (xs : List A) (n : ℕ) (d e : A) → n < length xs → slice_index_or xs n d ≡ slice_index_or xs n e
same_at [] n d e inside = absurd (omega (arith, inside))
same_at (x ∷ xs) zero d e inside = refl
same_at (x ∷ xs) (suc n) d e inside = same_at xs n d e (omega (arith, inside))

-- what is written back over a whole list
pub written_back : {A : Type 0} (xs ys : List A) (n : ℕ) → length ys ≡ length xs → n ≡ length xs → take n (ys ++ drop (length ys) xs) ≡ ys
written_back xs ys n long is =
    ap (λ (rest : List _). take n (ys ++ rest)) (drop_all (length ys) xs (omega (arith, long))) ∙ ap (take n) (append-nil ys) ∙ take_all n ys (omega (arith, long, is))
