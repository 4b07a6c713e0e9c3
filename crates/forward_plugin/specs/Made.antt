-- What a plan keeps of its directive and its upstreams.
use Rattle.std.specs.Prelude.{◌≡◌, ◌≤◌, ◌<◌, ℕ, Bool, List, ◌++◌, length}
use Rattle.forward_plugin.specs.declared.options.Policy.{Policy}
use Rattle.forward_plugin.specs.declared.numbered.Numbered.{Numbered}
use Rattle.forward_plugin.specs.Forward.{numbered}
use Rattle.forward_plugin.specs.Options.{ForwardData, except_of, fails_of, from_by, is_forced, is_pooled, policy_of}

pub record Made : Type 0 where
  pub from : List (List ℕ)
  pub except : List (List (List ℕ))
  pub is_forced : Bool
  pub policy : Policy
  pub most : ℕ
  pub is_pooled : Bool
  pub ring : List Numbered

pub record IsMade (plan : ForwardData) (made : Made) : Type 0 where
  pub from : made.from ≡ from_by plan.directive.args
  pub except : made.except ≡ except_of plan.directive.body
  pub forced : made.is_forced ≡ is_forced plan.directive.body
  pub policy : made.policy ≡ policy_of plan.directive.body
  pub most : made.most ≡ fails_of plan.directive.body
  pub pooled : made.is_pooled ≡ is_pooled plan
  pub ring : made.ring ≡ numbered plan.upstreams ++ numbered plan.upstreams
  pub some : 0 < length plan.upstreams
  pub few : length plan.upstreams ≤ 15
