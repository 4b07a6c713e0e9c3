-- The keys of the blocks of a bundle: none stands twice, so that no two blocks with keys begin alike.
use Rattle.std.proofs.Common.{◌≡◌, ◌≢◌, ◌⊎◌, inl, inr, ℕ, ◌<◌, Bool, true, false, List, [], ◌∷◌, ◌++◌, map, length, Option, Some, None, Ok, refl, sym, ap, ◌∙◌, subst, arith, append_assoc}
use Rattle.std.specs.Prelude.{◌==◌, ◌||◌, if◌then◌else◌}
use Rattle.std.specs.List.{list_any}
use Rattle.std.proofs.lemmas.Bool.Decides.{Decides-eqb, nat_tests}
use Rattle.std.proofs.lemmas.Slice.Eq.{slice_eq-Decides}
use Rattle.std.proofs.lemmas.List.{append-nil}
use Rattle.std.proofs.lemmas.List.Folds.{list_any-append}
use Rattle.std.proofs.lemmas.List.Concat.{flat_map-cons}
use Rattle.corefile_blocks.specs.declared.bundle.Bundle.{Bundle}
use Rattle.corefile_blocks.specs.declared.fault.CorefileFault.{CorefileFault}
use Rattle.corefile_blocks.specs.Blocks.{EndedData, blocks_of, if_good, reading_of, unless_double}
use Rattle.corefile_blocks.specs.Keys.{double_behind, double_key, keys_of, same_key}
use Rattle.block_readings.specs.Readings.{BlockReading, bare_key, block_reading}
use Rattle.dns_data.specs.declared.file.FileText.{FileText}
use Rattle.dns_data.specs.declared.block.Block.{Block}
use Rattle.dns_data.specs.declared.block.BlockKey.{BlockKey}
use Rattle.dns_data.specs.{same_labels}
use Rattle.chain_build.specs.Plans.{AreKeyed}

by_fault : (ended : EndedData) (blocks : List Block) → double_key ended.blocks ≡ None → (o : Option CorefileFault) → if_good ended.blocks o ≡ Ok blocks → double_key blocks ≡ None
by_fault ended blocks once None is =
    let same : ended.blocks ≡ blocks = cc in
    subst (λ (l : List Block). double_key l ≡ None) same once
by_fault ended blocks once (Some fault) is = absurd cc

by_double : (ended : EndedData) (blocks : List Block) (o : Option ℕ) → double_key ended.blocks ≡ o → unless_double ended o ≡ Ok blocks → double_key blocks ≡ None
by_double ended blocks (Some line) double is = absurd cc
by_double ended blocks None double is = by_fault ended blocks double ended.fault is

-- no key of a bundle stands twice
pub keys_once : (bundle : Bundle) (port : ℕ) (blocks : List Block) → blocks_of bundle port ≡ Ok blocks → double_key blocks ≡ None
unfolding blocks_of
keys_once bundle port blocks is = by_double (reading_of bundle port) blocks (double_key (reading_of bundle port).blocks) refl is

-- one key is among these
abbrev pub IsKeyIn : BlockKey → List BlockKey → Type 0
IsKeyIn k [] = ⊥
IsKeyIn k (x ∷ xs) = (x ≡ k) ⊎ IsKeyIn k xs

key_left : (k : BlockKey) (xs ys : List BlockKey) → IsKeyIn k xs → IsKeyIn k (xs ++ ys)
key_left k [] ys is = absurd is
key_left k (x ∷ xs) ys (inl is) = inl is
key_left k (x ∷ xs) ys (inr other) = inr (key_left k xs ys other)

key_right : (k : BlockKey) (xs ys : List BlockKey) → IsKeyIn k ys → IsKeyIn k (xs ++ ys)
key_right k [] ys is = is
key_right k (x ∷ xs) ys is = inr (key_right k xs ys is)

or_left : (a b : Bool) → (a || b) ≡ false → a ≡ false
or_left true b e = absurd cc
or_left false b e = refl

or_right : (a b : Bool) → (a || b) ≡ false → b ≡ false
or_right true b e = absurd cc
or_right false b e = e

any_cons : (p : BlockKey → Bool) (x : BlockKey) (xs : List BlockKey) → list_any p (x ∷ xs) ≡ (list_any p (x ∷ []) || list_any p xs)
any_cons p x xs = list_any-append p (x ∷ []) xs

any_one : (p : BlockKey → Bool) (x : BlockKey) → list_any p (x ∷ []) ≡ false → p x ≡ false
any_one p x e = by (p x) refl
  where
    by : (b : Bool) → p x ≡ b → p x ≡ false
    by false is = is
    by true is = absurd cc

none_same : (k other : BlockKey) (before : List BlockKey) → IsKeyIn k before → list_any (same_key other) before ≡ false → same_key other k ≡ false
none_same k other [] is none = absurd is
none_same k other (x ∷ xs) (inl is) none =
    subst (λ (y : BlockKey). same_key other y ≡ false) is (any_one (same_key other) x (or_left (list_any (same_key other) (x ∷ [])) (list_any (same_key other) xs) (sym (any_cons (same_key other) x xs) ∙ none)))
none_same k other (x ∷ xs) (inr more) none =
    none_same k other xs more (or_right (list_any (same_key other) (x ∷ [])) (list_any (same_key other) xs) (sym (any_cons (same_key other) x xs) ∙ none))

not_double : (before : List BlockKey) (key : BlockKey) (keys : List BlockKey) → double_behind before (key ∷ keys) ≡ None → (list_any (same_key key) before ≡ false) × (double_behind (before ++ key ∷ []) keys ≡ None)
not_double before key keys none = by (list_any (same_key key) before) refl none
  where
    by : (b : Bool) → list_any (same_key key) before ≡ b → (if b then Some key.line else double_behind (before ++ key ∷ []) keys) ≡ None → (list_any (same_key key) before ≡ false) × (double_behind (before ++ key ∷ []) keys ≡ None)
    by true is e = absurd cc
    by false is e = (is, e)

-- a key that stood before stands no more
none_later : (k other : BlockKey) (before keys : List BlockKey) → IsKeyIn k before → IsKeyIn other keys → double_behind before keys ≡ None → same_key other k ≡ false
none_later k other before [] is has none = absurd has
none_later k other before (key ∷ keys) is (inl here) none =
    let t = not_double before key keys none in
    none_same k other before is (subst (λ (x : BlockKey). list_any (same_key x) before ≡ false) here t.0)
none_later k other before (key ∷ keys) is (inr more) none =
    let t = not_double before key keys none in
    none_later k other (before ++ key ∷ []) keys (key_left k before (key ∷ []) is) more t.1

pub double_skips : (before keys others : List BlockKey) → double_behind before (keys ++ others) ≡ None → double_behind (before ++ keys) others ≡ None
double_skips before [] others none = subst (λ (l : List BlockKey). double_behind l others ≡ None) (sym (append-nil before)) none
double_skips before (key ∷ keys) others none =
    let t = not_double before key (keys ++ others) none in
    subst (λ (l : List BlockKey). double_behind l others ≡ None) (append_assoc before (key ∷ []) keys) (double_skips (before ++ key ∷ []) keys others t.1)

keys_cons : (block : Block) (blocks : List Block) → keys_of (block ∷ blocks) ≡ block.keys ++ keys_of blocks
keys_cons block blocks = flat_map-cons (λ (b : Block). b.keys) block blocks

-- keys of one zone and port are the same
pub key_same : (a b : BlockKey) → a.zone ≡ b.zone → a.port ≡ b.port → same_key a b ≡ true
key_same a b zone port =
    let labels : same_labels a.zone b.zone ≡ true = (slice_eq-Decides (λ x y. slice_eq-Decides Decides-eqb x y _ refl) a.zone b.zone _ refl).1 zone in
    let ports : (a.port == b.port) ≡ true = grind (arith, nat_tests, port) in
    rw labels (rw ports refl)

-- these keys begin alike, but for their lines
pub record BeginAlike (keys others : List BlockKey) : Type 0 where
  pub one : BlockKey
  pub other : BlockKey
  pub is : IsKeyIn one keys
  pub other_is : IsKeyIn other others
  pub zone : other.zone ≡ one.zone
  pub port : other.port ≡ one.port

-- no block further on has a key that begins alike
abbrev pub NoneAlike : Block → List Block → Type 0
NoneAlike block [] = Unit {0}
NoneAlike block (other ∷ blocks) = (BeginAlike block.keys other.keys → ⊥) × NoneAlike block blocks

abbrev pub AllApart : List Block → Type 0
AllApart [] = Unit {0}
AllApart (block ∷ blocks) = NoneAlike block blocks × AllApart blocks

none_alike : (block : Block) (before : List BlockKey) (blocks : List Block) → ((k : BlockKey) → IsKeyIn k block.keys → IsKeyIn k before) → double_behind before (keys_of blocks) ≡ None → NoneAlike block blocks
none_alike block before [] within none = tt
none_alike block before (other ∷ blocks) within none =
    let first : double_behind before (other.keys ++ keys_of blocks) ≡ None = subst (λ (l : List BlockKey). double_behind before l ≡ None) (keys_cons other blocks) none in (
      (λ alike.
          let off = none_later alike.one alike.other before (other.keys ++ keys_of blocks) (within alike.one alike.is) (key_left alike.other other.keys (keys_of blocks) alike.other_is) first in
          let on = key_same alike.other alike.one alike.zone alike.port in
          absurd (cc (on, off))),
      none_alike block (before ++ other.keys) blocks (λ k is. key_left k before other.keys (within k is)) (double_skips before other.keys (keys_of blocks) first),
    )

pub all_apart : (before : List BlockKey) (blocks : List Block) → double_behind before (keys_of blocks) ≡ None → AllApart blocks
all_apart before [] none = tt
all_apart before (block ∷ blocks) none =
    let first : double_behind before (block.keys ++ keys_of blocks) ≡ None = subst (λ (l : List BlockKey). double_behind before l ≡ None) (keys_cons block blocks) none in
    let rest = double_skips before block.keys (keys_of blocks) first in
    (none_alike block (before ++ block.keys) blocks (λ k is. key_right k before block.keys is) rest, all_apart (before ++ block.keys) blocks rest)

-- no further block reads the same
abbrev pub NoneReads : BlockReading → List BlockReading → Type 0
NoneReads reading [] = Unit {0}
NoneReads reading (r ∷ readings) = (r ≢ reading) × NoneReads reading readings

-- no two of these blocks read the same
abbrev pub ReadApart : List BlockReading → Type 0
ReadApart [] = Unit {0}
ReadApart (r ∷ readings) = NoneReads r readings × ReadApart readings

alike : (keys others : List BlockKey) → 0 < length keys → map bare_key others ≡ map bare_key keys → BeginAlike keys others
alike [] others some same = absurd (omega (arith, some))
alike (k ∷ keys) [] some same = absurd cc
alike (k ∷ keys) (o ∷ others) some same =
    let first : bare_key o ≡ bare_key k = cc in
    record { one = k; other = o; is = inl refl; other_is = inl refl; zone = ap (λ (b : BlockKey). b.zone) first; port = ap (λ (b : BlockKey). b.port) first }

none_reads : (files : List FileText) (block : Block) (blocks : List Block) → 0 < length block.keys → NoneAlike block blocks → NoneReads (block_reading files block) (map (block_reading files) blocks)
none_reads files block [] some none = tt
none_reads files block (other ∷ blocks) some none =
    ((λ same. none.0 (alike block.keys other.keys some (ap (λ (r : BlockReading). r.block.keys) same))), none_reads files block blocks some none.1)

read_apart : (files : List FileText) (blocks : List Block) → AreKeyed blocks → AllApart blocks → ReadApart (map (block_reading files) blocks)
read_apart files [] keyed apart = tt
read_apart files (block ∷ blocks) keyed apart = (none_reads files block blocks keyed.0 apart.0, read_apart files blocks keyed.1 apart.1)

-- so no two blocks of a bundle read the same
pub reads_apart : (bundle : Bundle) (port : ℕ) (files : List FileText) (blocks : List Block) → blocks_of bundle port ≡ Ok blocks → AreKeyed blocks → ReadApart (map (block_reading files) blocks)
unfolding double_key
reads_apart bundle port files blocks is keyed = read_apart files blocks keyed (all_apart [] blocks (keys_once bundle port blocks is))
