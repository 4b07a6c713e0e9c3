-- What a host in memory is at a moment. This server's own rule.
use Rattle.std.specs.Prelude.{List, map, Option, Some, option_map}
use Rattle.std.specs.Vec.Iter.{into_iter_items}
use Rattle.outside.specs.Causes.{no_host_faults}
use Rattle.outside.specs.Hosts.{HostState, SupplyData, no_telling}
use Rattle.outside_mem.specs.Unused.{side_script, watch_script}
use Rattle.outside_mem.specs.declared.host.MemHost.{MemHost}
use Rattle.outside_mem.specs.declared.side.MemSide.{MemSide}
use Rattle.outside_mem.specs.declared.watch.MemWatch.{MemWatch}

-- the scripts of these sides, and of this watch where it isn't opened yet
abbrev pub supply_of : List MemSide → Option MemWatch → SupplyData
supply_of sides watch =
    record { sides = map side_script sides; watch = option_map watch_script watch }

-- what it told, how often a call failed, and what it is still to give. Telling a line never fails.
abbrev pub host_state : MemHost → HostState
host_state host = record {
  told = host.told;
  counts = record { opens = host.open_faults; tells = 0 };
  supply = Some (supply_of (into_iter_items host.sides) host.watch);
}

-- as it was made of these sides and this watch
abbrev pub as_made : List MemSide → MemWatch → HostState
as_made sides watch =
    record {
      told = Some no_telling;
      counts = no_host_faults;
      supply = Some (supply_of sides (Some watch));
    }
