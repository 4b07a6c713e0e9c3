-- A tree of a zone's names, and the sections that stand ready beside it.
use Rattle.std.specs.Prelude.{◌≡◌, ℕ, List, [], length, slice_get, Option, Some, IfSome}
use Rattle.std.specs.Global.{Box}
use Rattle.dns_data.specs.declared.kind.TheConstants as kinds
use Rattle.dns_write.specs.Tails.{TailData}
use Rattle.name_table.specs.Table.{IsNamed}
use Rattle.zone_lookup.specs.Ready.{IsDenial, IsReady, StandsBehind}
use Rattle.zone_lookup.specs.Zone.{set_at}
use Rattle.zone_tree.specs.declared.tree.Tree.{Tree}
use Rattle.zone_tree.specs.Tree.{IsTree}

-- the NS of the name with a number, and all addresses of their hosts
abbrev pub IsReferralAt : Tree → ℕ → TailData → Type 0
IsReferralAt tree number tail = (name : List (List ℕ)) → IsNamed tree.table number name
    → StandsBehind tree.zone [] (set_at tree.zone name kinds.NS) tail

-- those of the first so many names, where they stand ready
pub record AreReferrals (tree : Tree) (tails : List (Option (Box TailData))) (count : ℕ)
    : Type 0 where
  pub as_many : length tails ≡ count
  pub each : (i : ℕ) (tail : Option (Box TailData)) → slice_get tails i ≡ Some tail
      → IfSome tail (λ t. IsReferralAt tree i t.value)

-- a tree, and, where they stand ready, the servers with all addresses of their hosts, the SOA of a
-- denial, and the same of each cut
pub record AreReady (tree : Tree) (servers denial : Option TailData)
    (referrals : List (Option (Box TailData))) : Type 0 where
  pub tree_is : IsTree tree
  pub servers_are : IfSome servers (λ tail. IsReady tree.zone [] tail)
  pub denial_is : IfSome denial (λ tail. IsDenial tree.zone tail)
  pub referrals_are : AreReferrals tree referrals (length tree.table)
