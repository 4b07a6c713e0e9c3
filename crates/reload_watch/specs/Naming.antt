-- Which caches serve the next generation. This server's own rule.
use Rattle.std.specs.Prelude.{List}
use Rattle.chain_build.specs.{PlansData}
use Rattle.chain_build.specs.Naming.{AddsCaches, NamesPlans, SamePlans, change}
use Rattle.chain_build.specs.declared.naming.Naming.{Naming}
use Rattle.lent_caches.specs.Held.{HeldData}

-- the next plans are these, with the caches that serve their blocks; nothing but new caches that
-- serve them is held besides
pub record NamesNext (naming : Naming) (plans next : PlansData) (before after : List HeldData)
    : Type 0 where
  pub same : SamePlans plans next
  pub names : NamesPlans naming (change before after) next
  pub adds : AddsCaches naming.serial 0 before after
