-- Laws of keys, of blocks that have them, and of longest suffixes. No public clause cites this
-- module.
use Rattle.std.proofs.Common.{◌≡◌, ℕ, zero, suc, ◌<◌, ◌≤◌, true, List, [], ◌∷◌, length, drop, Option, Some, None, refl, sym, ap, arith, eqb-true, eq-eqb}
use Rattle.std.specs.Prelude.{Contains}
use Rattle.std.specs.Option.{option_or}
use Rattle.std.proofs.lemmas.Bool.{and_parts, and_from}
use Rattle.std.proofs.lemmas.List.Folds.{Any-from_list_any, list_any-from_Any}
use Rattle.dns_names.specs.WithinLaws.{same_is}
use Rattle.dns_names.specs.Name.{lowered}
use Rattle.dns_data.specs.declared.block.Block.{Block}
use Rattle.dns_data.specs.declared.block.BlockKey.{BlockKey}
use Rattle.plugin_api.specs.Picking.{has_key, is_key, longest_of}

-- a key of a block that serves a zone on a port
pub record HasKey (port : ℕ) (zone : List (List ℕ)) (block : Block) : Type 0 where
  pub key : BlockKey
  pub has : Contains block.keys key
  pub port_is : key.port ≡ port
  pub same : lowered zone ≡ lowered key.zone

pub key_of : (port : ℕ) (zone : List (List ℕ)) (block : Block) → has_key port zone block ≡ true → HasKey port zone block
unfolding has_key is_key
key_of port zone block e =
    let any = Any-from_list_any (is_key port zone) block.keys e in
    let parts = and_parts _ _ any.4 in record {
      key = any.1;
      has = (any.0, any.2, any.3);
      port_is = eqb-true any.1.port port parts.0;
      same = sym ((same_is any.1.zone zone).0 parts.1);
    }

pub has_of : (port : ℕ) (zone : List (List ℕ)) (block : Block) → HasKey port zone block → has_key port zone block ≡ true
unfolding has_key is_key
has_of port zone block h =
    list_any-from_Any (is_key port zone) block.keys
    (h.has.0, h.key, h.has.1, h.has.2, and_from _ _ (eq-eqb h.key.port port h.port_is) ((same_is h.key.zone zone).1 (sym h.same)))

-- what is found for the longest suffix, and that nothing is for a longer one
pub record IsLongest (f : List (List ℕ) → Option ℕ) (name : List (List ℕ)) (at : ℕ) : Type 0 where
  pub above : ℕ
  pub inside : above ≤ length name
  pub is : f (drop above name) ≡ Some at
  pub longer : (k : ℕ) → k < above → f (drop k name) ≡ None

abbrev pub Finds : (List (List ℕ) → Option ℕ) → List (List ℕ) → Option ℕ → Type 0
Finds f name (Some at) = IsLongest f name at
Finds f name None = (k : ℕ) → k ≤ length name → f (drop k name) ≡ None

none_below : (f : List (List ℕ) → Option ℕ) (label : List ℕ) (name : List (List ℕ)) → f (label ∷ name) ≡ None → Finds f name None → (k : ℕ) → k ≤ suc (length name) → f (drop k (label ∷ name)) ≡ None
none_below f label name e h zero l = e
none_below f label name e h (suc k) l = h k (omega arith)

longer_below : (f : List (List ℕ) → Option ℕ) (label : List ℕ) (name : List (List ℕ)) (above : ℕ) → f (label ∷ name) ≡ None → ((k : ℕ) → k < above → f (drop k name) ≡ None) → (k : ℕ) → k < suc above → f (drop k (label ∷ name)) ≡ None
longer_below f label name above e h zero l = e
longer_below f label name above e h (suc k) l = h k (omega arith)

here_or_above : (f : List (List ℕ) → Option ℕ) (label : List ℕ) (name : List (List ℕ)) (o r : Option ℕ) → f (label ∷ name) ≡ o → Finds f name r → Finds f (label ∷ name) (option_or o r)
here_or_above f label name (Some at) r e h = record { above = 0; inside = omega arith; is = e; longer = λ k l. absurd (omega arith) }
here_or_above f label name None None e h = none_below f label name e h
here_or_above f label name None (Some at) e h = record {
  above = suc h.above;
  inside = omega (arith, h.inside);
  is = h.is;
  longer = longer_below f label name h.above e h.longer;
}

alone_none : (f : List (List ℕ) → Option ℕ) → f [] ≡ None → (k : ℕ) → f (drop k []) ≡ None
alone_none f e zero = e
alone_none f e (suc k) = e

alone : (f : List (List ℕ) → Option ℕ) (o : Option ℕ) → f [] ≡ o → Finds f [] o
alone f None e = λ k l. alone_none f e k
alone f (Some at) e = record { above = 0; inside = omega arith; is = e; longer = λ k l. absurd (omega arith) }

pub finds : (f : List (List ℕ) → Option ℕ) (name : List (List ℕ)) → Finds f name (longest_of f name)
unfolding longest_of
finds f [] = alone f (f []) refl
finds f (label ∷ name) = here_or_above f label name (f (label ∷ name)) (longest_of f name) refl (finds f name)

-- what a suffix gives, none longer of which gives anything
pub longest_here : (f : List (List ℕ) → Option ℕ) (rest : List (List ℕ)) (at : ℕ) → f rest ≡ Some at → longest_of f rest ≡ Some at
unfolding longest_of
longest_here f [] at e = e
longest_here f (label ∷ rest) at e = ap (λ (o : Option ℕ). option_or o (longest_of f rest)) e

pub longest_end : (f : List (List ℕ) → Option ℕ) (rest : List (List ℕ)) → rest ≡ [] → f rest ≡ None → longest_of f rest ≡ None
unfolding longest_of
longest_end f [] empty e = e
longest_end f (label ∷ rest) empty e = absurd cc
