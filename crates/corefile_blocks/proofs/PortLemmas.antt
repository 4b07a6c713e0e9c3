-- A list that is sorted, and has each number once.
use Rattle.std.proofs.Common.{◌≡◌, ℕ, eqb, List, [], sym, subst}
use Rattle.std.specs.Ordering.{nat_cmp}
use Rattle.std.specs.List.{Contains}
use Rattle.std.specs.List.Retain.{DiffersFromLast, IsFiltered}
use Rattle.std.specs.List.Sorted.{IsPermutation, IsSorted, IsStrictlyIncreasing}
use Rattle.std.proofs.lemmas.List.Filters.{dedup_is}
use Rattle.std.proofs.lemmas.List.Kept.{Contains-dedup_nat, Contains-from_dedup}
use Rattle.std.proofs.lemmas.List.Sorted.{Contains-permutation, IsPermutation-sym}
use Rattle.std.proofs.lemmas.Map.Keys.{IsStrictlyIncreasing-dedup}
use Rattle.dns_data.specs.declared.block.Block.{Block}
use Rattle.corefile_blocks.specs.Ports.{ArePorts, key_ports}

pub are_ports : (blocks : List Block) (all sorted after : List ℕ) → all ≡ key_ports blocks → IsPermutation all sorted → IsSorted nat_cmp sorted
    → IsFiltered (DiffersFromLast eqb) [] sorted after → ArePorts blocks after
are_ports blocks all sorted after is mixed order kept =
    let left = dedup_is eqb sorted after kept in
    record {
      ascending = subst IsStrictlyIncreasing (sym left) (IsStrictlyIncreasing-dedup sorted order);
      those = λ port. (
        λ h. subst (λ xs. Contains xs port) is (Contains-permutation sorted all port (IsPermutation-sym all sorted mixed) (Contains-from_dedup eqb sorted port (subst (λ xs. Contains xs port) left h))),
        λ h. subst (λ xs. Contains xs port) (sym left) (Contains-dedup_nat sorted port (Contains-permutation all sorted port mixed (subst (λ xs. Contains xs port) (sym is) h))),
      );
    }
