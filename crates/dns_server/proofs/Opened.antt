-- How sides are opened.
use Rattle.std.proofs.Common.{◌≡◌, ◌≢◌, ◌≤◌, ◌<◌, ℕ, zero, suc, ◌+◌, ◌*◌, List, [], ◌∷◌, ◌++◌, map, length, take, drop, get_or, Option, Some, None, Result, Ok, Err, append_assoc, refl, sym, ap, subst, ◌∙◌, arith}
use mathlib.Core.List.{map-append}
use Rattle.std.specs.Result.{IsErrAnd}
use Rattle.std.proofs.Common.{length-append}
use Rattle.std.proofs.lemmas.List.{length-map, take-append-drop, take_more}
use Rattle.std.proofs.lemmas.List.Concat.{flat_map-cons}
use Rattle.dns_data.specs.declared.limit.TheConstants as limits
use Rattle.dns_data.specs.declared.message.Transport.{Transport}
use Rattle.dns_data.specs.declared.message.Transport.TheVariants.{Udp, Tcp}
use Rattle.outside.specs.Hosts.{HostState, IsFreshSide, OpenedSide, OpensOneSide, OpensSide, SupplyData, TakesSide}
use Rattle.outside.specs.Journals.{host-adds-nothing, host-adds-then}
use Rattle.outside.specs.Script.{SideScriptData}
use Rattle.outside.specs.States.{SideState}
use Rattle.outside.specs.declared.host.OpenFault.{OpenFault}
use Rattle.outside.specs.declared.host.OpenFault.TheVariants as openfault
use Rattle.pin_core.specs.declared.slots.TheConstants.{WORKERS}
use Rattle.dns_server.specs.declared.sides.Place.{Place}
use Rattle.dns_server.specs.Opening.{OpensAll, OpensPlaces, OpensSome, TakesSides, place_of, port_sides, scripts_of, side_count, sides_of, sides_to}
use Rattle.dns_server.proofs.Each.{all_push}

-- nothing was taken from the supply
pub none_taken : (before after : Option SupplyData) → after ≡ before → TakesSides before after []
none_taken None after same = same
none_taken (Some before) None same = absurd cc
none_taken (Some before) (Some after) same =
    let is : after ≡ before = cc in
    record { watch = ap (λ (x : SupplyData). x.watch) is; taken = []; before_is = sym (ap (λ (x : SupplyData). x.sides) is); are = refl }

pub opens_none : (a : HostState) → OpensAll a a [] []
opens_none a = record { told = host-adds-nothing a; counts = refl; supply = none_taken a.supply a.supply refl; fresh = tt; each = refl }

-- one more was taken
takes_more : (before mid after : Option SupplyData) (scripts : List (Option SideScriptData)) (script : Option SideScriptData) → TakesSides before mid scripts → TakesSide mid after script
    → TakesSides before after (scripts ++ script ∷ [])
takes_more None mid after scripts script takes one = let none : mid ≡ None = takes in subst (λ (m : Option SupplyData). TakesSide m after script) none one
takes_more (Some before) None after scripts script takes one = absurd takes
takes_more (Some before) (Some mid) None scripts script takes one = absurd (let is = one.3 in cc)
takes_more (Some before) (Some mid) (Some after) scripts script takes one =
    let is : after ≡ record mid { sides = one.1 } = let e = one.3 in cc in
    let left : after.sides ≡ one.1 = ap (λ (x : SupplyData). x.sides) is in
    record {
      watch = ap (λ (x : SupplyData). x.watch) is ∙ takes.watch;
      taken = takes.taken ++ one.0 ∷ [];
      before_is = takes.before_is ∙ ap (λ (l : List SideScriptData). takes.taken ++ l) (one.2 ∙ ap (λ (l : List SideScriptData). one.0 ∷ l) (sym left)) ∙ sym (append_assoc takes.taken (one.0 ∷ []) after.sides);
      are = (λ i. takes.are i ++ one.4 i ∷ []) ∙ sym (map-append (λ (x : SideScriptData). Some x) takes.taken (one.0 ∷ []));
    }

length-push : {A : Type 0} (items : List A) (item : A) → length (items ++ item ∷ []) ≡ length items + 1
length-push [] item = refl
length-push (i ∷ items) item = omega (arith, length-push items item)

-- one more side was opened
pub opens_more : (a b c : HostState) (places : List OpenedSide) (sides : List SideState) (place : OpenedSide) (side : SideState) → OpensAll a b places sides → OpensOneSide b c place side
    → OpensAll a c (places ++ place ∷ []) (sides ++ side ∷ [])
opens_more a b c places sides place side all one = record {
  told = host-adds-then all.told one.told;
  counts = one.counts ∙ all.counts;
  supply = subst (TakesSides a.supply c.supply) (sym (map-append (λ (s : SideState). s.script) sides (side ∷ []))) (takes_more a.supply b.supply c.supply (scripts_of sides) side.script all.supply one.supply);
  fresh = all_push IsFreshSide sides side all.fresh one.fresh;
  each = length-push sides side ∙ ap (λ (n : ℕ). n + 1) all.each ∙ sym (length-push places place);
}

-- where there are ports, at least so many sides are wanted as workers
pub few_workers : (ports : List ℕ) (workers : ℕ) → 2 * (length ports * workers) ≤ 32 → ports ≢ [] → workers ≤ 32
few_workers [] workers few some = absurd (some refl)
few_workers (port ∷ ports) workers few some = omega (arith, few)

-- the places before the next one, and that one
pub place_more : (places : List Place) (at : ℕ) (d : Place) → at < length places → map place_of (take (at + 1) places) ≡ map place_of (take at places) ++ place_of (get_or places at d) ∷ []
place_more places at d lt = ap (λ (l : List Place). map place_of l) (take_more places at d lt) ∙ map-append place_of (take at places) (get_or places at d ∷ [])

-- behind the sides of some places, one could not be opened
some_opened : (P : HostState → Type 0) (before mid after : HostState) (places : List Place) (at : ℕ) (sides : List SideState) → OpensAll before mid (map place_of (take at places)) sides → P mid
    → OpensSome before after (map place_of places) P
some_opened P before mid after places at sides opens fails = record {
  places = map place_of (take at places);
  others = map place_of (drop at places);
  all_are = ap (λ (l : List Place). map place_of l) (sym (take-append-drop at places)) ∙ map-append place_of (take at places) (drop at places);
  sides = sides;
  mid = mid;
  opens = opens;
  fails = fails;
}

pub fails_at : {S : Type 0} (state : S → SideState) (before mid after : HostState) (places : List Place) (at : ℕ) (sides : List SideState) (place : OpenedSide) (fault : OpenFault) (result : Result (Unit {0}) OpenFault)
    → OpensAll before mid (map place_of (take at places)) sides → OpensSide state mid after place (Err fault) → IsErrAnd result (λ f. f ≡ fault) → OpensPlaces before after (map place_of places) sides result
fails_at state before mid after places at sides place fault (Ok done) opens fails is = absurd is
fails_at state before mid after places at sides place openfault.Failed (Err openfault.Failed) opens fails is = some_opened _ before mid after places at sides opens fails
fails_at state before mid after places at sides place openfault.Failed (Err openfault.NoMemory) opens fails is = absurd cc
fails_at state before mid after places at sides place openfault.NoMemory (Err openfault.Failed) opens fails is = absurd cc
fails_at state before mid after places at sides place openfault.NoMemory (Err openfault.NoMemory) opens fails is = some_opened _ before mid after places at sides opens fails

-- how many sides ports have
pub endpoint_count : (port : ℕ) (by : Transport) (workers : ℕ) → length (sides_to port by workers) ≡ workers
endpoint_count port by zero = refl
endpoint_count port by (suc number) = length-push (sides_to port by number) _ ∙ ap (λ (n : ℕ). n + 1) (endpoint_count port by number) ∙ omega arith

pub sides_count : (workers : ℕ) (ports : List ℕ) → length (sides_of workers ports) ≡ side_count workers ports
sides_count workers [] = omega arith
sides_count workers (port ∷ ports) =
    let here = length-append (sides_to port Udp workers) (sides_to port Tcp workers) in
    let all = length-append (port_sides workers port) (sides_of workers ports) in
    let cut = ap (λ (l : List OpenedSide). length l) (flat_map-cons (port_sides workers) port ports) in
    omega (arith, cut, all, here, endpoint_count port Udp workers, endpoint_count port Tcp workers, sides_count workers ports)

-- where there are ports and workers, some sides are wanted
pub some_sides : (workers : ℕ) (ports : List ℕ) → 0 < workers → ports ≢ [] → 0 < side_count workers ports
some_sides workers [] some ports = absurd (ports refl)
some_sides workers (port ∷ ports) some is = omega (arith, some)

-- how many chains are built for the sides of ports
pub chain_count : (workers chains : ℕ) (ports : List ℕ) (places : List Place) → chains ≡ length places → map place_of places ≡ sides_of workers ports → 0 < workers → ports ≢ []
    → side_count workers ports ≤ limits.WORKERS → (0 < chains) × (chains ≤ WORKERS)
chain_count workers chains ports places each are some ports_are few =
    let same = ap (λ (l : List OpenedSide). length l) are in
    let here = length-map places place_of in
    let count = sides_count workers ports in
    let more = some_sides workers ports some ports_are in
    (omega (arith, each, same, here, count, more), omega (arith, each, same, here, count, few))

-- a side was opened at each place
pub opened_count : {S : Type 0} (state : S → SideState) (places : List Place) (sides : List S) (all : List OpenedSide) → map place_of places ≡ all → length (map state sides) ≡ length all → length sides ≡ length places
opened_count state places sides all are each = sym (length-map sides state) ∙ each ∙ ap (λ (l : List OpenedSide). length l) (sym are) ∙ length-map places place_of
