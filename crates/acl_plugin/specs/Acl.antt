-- The rule of `acl`: the first policy that fits decides. This server's own rule, in the manner of
-- CoreDNS.
use Rattle.std.specs.Prelude.{◌≡◌, ℕ, ◌==◌, Bool, ◌&&◌, ◌||◌, List, [], ◌∷◌, map, Option, Some, None}
use Rattle.std.specs.Prelude.{is_some, unwrap_or, Result, Ok, Err, if◌then◌else◌}
use Rattle.std.specs.List.{list_any}
use Rattle.std.specs.Option.{option_or}
use Rattle.dns_data.specs.{agree}
use Rattle.dns_data.specs.declared.directive.Directive.{Directive}
use Rattle.dns_data.specs.declared.directive.Line.{Line}
use Rattle.dns_data.specs.declared.query.Query.{Query}
use Rattle.plugin_api.specs.{PlanData, fault_at}
use Rattle.plugin_api.specs.declared.fault.DirectiveFault.{DirectiveFault}
use Rattle.plugin_api.specs.declared.fault.DirectiveFault.TheVariants as fault
use Rattle.plugin_api.specs.declared.fault.DirectiveWhy.TheVariants as why
use Rattle.zone_words.specs.{is_in, zones_or}
use Rattle.acl_plugin.specs.declared.plan.AclSay.{AclSay}
use Rattle.acl_plugin.specs.declared.plan.AclSay.TheVariants as say
use Rattle.acl_plugin.specs.declared.policy.Action.{Action}
use Rattle.acl_plugin.specs.declared.policy.Action.TheVariants as action
use Rattle.acl_plugin.specs.declared.policy.Policy.{Policy}
use Rattle.acl_plugin.specs.Lines.{line_why, policy_of, unless}

-- the fault of the first line that is no policy, at that line
abbrev pub lines_fault : List Line → Option DirectiveFault
lines_fault [] = None
lines_fault (line ∷ lines) =
    option_or (fault_at line.number (line_why line.words)) (lines_fault lines)

-- a directive without a policy is refused at its own line
abbrev pub body_fault : ℕ → List Line → Option DirectiveFault
body_fault line [] = Some (fault.Why line why.Args)
body_fault line (first ∷ lines) = lines_fault (first ∷ lines)

-- the first fault of a directive: its words are zones, and its lines policies
unfoldable pub acl_fault : Directive → List (List (List ℕ)) → Option DirectiveFault
acl_fault d zones =
    option_or (fault_at d.line (unless (is_some (zones_or zones d.args)) why.Zone))
    (body_fault d.line d.body)

-- reading a directive of a block with these zones gives its plan, or its first fault. Want of
-- memory is always allowed.
abbrev pub ReadsAcl : Directive → List (List (List ℕ)) → Result PlanData DirectiveFault → Type 0
ReadsAcl d zones (Ok plan) =
    (acl_fault d zones ≡ None) × (plan ≡ record { directive = d; zones = zones })
ReadsAcl d zones (Err fault.NoMemory) = Unit {0}
ReadsAcl d zones (Err refused) = acl_fault d zones ≡ Some refused

-- the zones for which a plan stands
abbrev pub plan_zones : PlanData → List (List (List ℕ))
plan_zones plan = unwrap_or (zones_or plan.zones plan.directive.args) []

-- the policies of a plan, in the order of the text
abbrev pub policies_of : List Line → List Policy
policies_of lines = map (λ line. policy_of line.words) lines

-- whether a policy fits a query, by its type and its client
abbrev pub fits : Query → Policy → Bool
fits q policy =
    (policy.all_kinds || list_any (λ kind. kind == q.kind) policy.kinds)
    && (policy.all_nets || list_any (λ net. agree net.bits net.addr q.client) policy.nets)

-- the action of the first policy that fits
abbrev pub first_action : Query → List Policy → Option Action
first_action q [] = None
first_action q (policy ∷ policies) =
    if fits q policy then Some policy.action else first_action q policies

-- the action of a plan, where the name is in its zones
abbrev pub plan_action : Query → PlanData → Option Action
plan_action q plan =
    if is_in q.name (plan_zones plan) then first_action q (policies_of plan.directive.body)
    else None

-- `allow` ends all policies
abbrev pub said : Action → AclSay
said action.Allow = say.GoOn
said action.Block = say.Block
said action.Filter = say.Filter
said action.Drop = say.Drop

-- what is said, or else what the plans behind say
abbrev pub said_or : Option Action → AclSay → AclSay
said_or None rest = rest
said_or (Some action) rest = said action

-- what the plans of a block say of a query; without a policy that fits it goes on
abbrev pub acl_say : List PlanData → Query → AclSay
acl_say [] q = say.GoOn
acl_say (plan ∷ plans) q = said_or (plan_action q plan) (acl_say plans q)
