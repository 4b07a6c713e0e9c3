-- The sides that a run opens: for each port UDP and then TCP, and for each as many as workers. This
-- server's own rule.
use Rattle.std.specs.Prelude.{◌≡◌, ◌≢◌, ◌≤◌, ◌<◌, ℕ, zero, suc, ◌+◌, ◌*◌, List, [], ◌∷◌, ◌++◌}
use Rattle.std.specs.Prelude.{length, map, Some}
use Rattle.std.specs.List.{AllByRecursion, flat_map}
use Rattle.dns_data.specs.declared.block.Block.{Block}
use Rattle.dns_data.specs.declared.limit.TheConstants as limits
use Rattle.dns_data.specs.declared.limit.Limit.TheVariants as limit
use Rattle.dns_data.specs.declared.message.Transport.{Transport}
use Rattle.dns_data.specs.declared.message.Transport.TheVariants.{Udp, Tcp}
use Rattle.outside.specs.Hosts.{AddsHost, FailsToOpen, HostState, HostTold, IsFreshSide, OpenedSide}
use Rattle.outside.specs.Hosts.{OpensNothing, SupplyData}
use Rattle.outside.specs.Script.{SideScriptData}
use Rattle.outside.specs.States.{SideState}
use Rattle.outside.specs.declared.host.OpenFault.{OpenFault}
use Rattle.outside.specs.declared.host.OpenFault.TheVariants as openfault
use Rattle.std.specs.Prelude.{Option, None, Result, Ok, Err}
use Rattle.corefile_blocks.specs.declared.bundle.Bundle.{Bundle}
use Rattle.corefile_blocks.specs.Ports.{ArePorts}
use Rattle.corefile_bundle.specs.declared.fault.GatherFault.{GatherFault}
use Rattle.chain_meaning.specs.declared.refusal.Refusal.{Refusal}
use Rattle.chain_meaning.specs.declared.refusal.Refusal.TheVariants as refusal
use Rattle.chain_meaning.specs.{Terms}
use Rattle.chain_meaning.specs.Accepting.{IsAccepted}
use Rattle.dns_server.specs.declared.sides.Place.{Place}

-- a place of a side, as a host tells it
abbrev pub place_of : Place → OpenedSide
place_of place = record { port = place.port; by = place.by; number = place.number }

-- the sides of an endpoint: one for each worker, by number
abbrev pub sides_to : ℕ → Transport → ℕ → List OpenedSide
sides_to port by zero = []
sides_to port by (suc number) =
    sides_to port by number ++ record { port = port; by = by; number = number } ∷ []

-- the sides of a port: over UDP, and then over TCP
abbrev pub port_sides : ℕ → ℕ → List OpenedSide
port_sides workers port = sides_to port Udp workers ++ sides_to port Tcp workers

-- the sides of ports, in their order
abbrev pub sides_of : ℕ → List ℕ → List OpenedSide
sides_of workers ports = flat_map (port_sides workers) ports

-- how many sides ports want
abbrev pub side_count : ℕ → List ℕ → ℕ
side_count workers ports = 2 * (length ports * workers)

-- the first bundle is accepted, with these ports, and its sides are no more than may be opened
pub record WantsSides (terms : Terms) (workers : ℕ) (bundle : Bundle) (sides : List OpenedSide)
    : Type 0 where
  pub blocks : List Block
  pub accepted : IsAccepted terms bundle blocks
  pub ports : List ℕ
  pub ports_are : ArePorts blocks ports
  pub some : ports ≢ []
  pub few : length sides ≤ limits.WORKERS
  pub are : sides ≡ sides_of workers ports

-- what was read is a bundle that wants these sides, and others behind them
pub record BeginsSides (terms : Terms) (workers : ℕ) (sides : List OpenedSide)
    (gives : Result Bundle GatherFault) : Type 0 where
  pub bundle : Bundle
  pub got : gives ≡ Ok bundle
  pub others : List OpenedSide
  pub wants : WantsSides terms workers bundle (sides ++ others)

-- more sides than may be opened
abbrev pub RefusesSides : List ℕ → ℕ → Refusal → Type 0
RefusesSides ports workers why =
    (limits.WORKERS < side_count workers ports)
    × (why ≡ refusal.TooMany limit.Workers (limits.WORKERS + 1))

-- what a host tells of opening sides
abbrev pub told_sides : List OpenedSide → HostTold
told_sides sides = record { lines = []; opens = sides; watches = 0 }

-- where the supply is told, so many sides were taken from it, the first ones, which tell these
-- scripts; and nothing else
pub record TakesFirst (before after : SupplyData) (scripts : List (Option SideScriptData))
    : Type 0 where
  pub watch : after.watch ≡ before.watch
  pub taken : List SideScriptData
  pub before_is : before.sides ≡ taken ++ after.sides
  pub are : scripts ≡ map Some taken

abbrev pub TakesSides : Option SupplyData → Option SupplyData → List (Option SideScriptData)
    → Type 0
TakesSides None after scripts = after ≡ None
TakesSides (Some before) None scripts = ⊥
TakesSides (Some before) (Some after) scripts = TakesFirst before after scripts

-- the scripts of sides
abbrev pub scripts_of : List SideState → List (Option SideScriptData)
scripts_of sides = map (λ side. side.script) sides

-- these sides were opened at these places, one after another
pub record OpensAll (before after : HostState) (places : List OpenedSide) (sides : List SideState)
    : Type 0 where
  pub told : AddsHost before after (told_sides places)
  pub counts : after.counts ≡ before.counts
  pub supply : TakesSides before.supply after.supply (scripts_of sides)
  pub fresh : AllByRecursion IsFreshSide sides
  pub each : length sides ≡ length places

-- the first of these sides were opened, and then one could not be
pub record OpensSome (before after : HostState) (all : List OpenedSide) (P : HostState → Type 0)
    : Type 0 where
  pub places : List OpenedSide
  pub others : List OpenedSide
  pub all_are : all ≡ places ++ others
  pub sides : List SideState
  pub mid : HostState
  pub opens : OpensAll before mid places sides
  pub fails : P mid

-- opening sides at places, by its answer
abbrev pub OpensPlaces : HostState → HostState → List OpenedSide → List SideState
    → Result (Unit {0}) OpenFault → Type 0
OpensPlaces before after places sides (Ok done) = OpensAll before after places sides
OpensPlaces before after places sides (Err openfault.Failed) =
    OpensSome before after places (λ mid. FailsToOpen mid after)
OpensPlaces before after places sides (Err openfault.NoMemory) =
    OpensSome before after places (λ mid. OpensNothing mid after)
