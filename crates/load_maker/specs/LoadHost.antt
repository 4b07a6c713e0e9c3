-- The host of a load: a host in memory of which no call fails. This server's own rule.
use Rattle.std.specs.Prelude.{[], ◌∷◌, Some}
use Rattle.dns_data.specs.declared.message.Transport.TheVariants.{Udp, Tcp}
use Rattle.outside.specs.Causes.{no_host_faults}
use Rattle.outside.specs.Hosts.{HostState, no_telling}
use Rattle.outside.specs.Script.{gets_alone, looks_alone}
use Rattle.outside_mem.specs.{host_state}
use Rattle.load_maker.specs.declared.load.Load.{Load}
use Rattle.load_maker.specs.declared.load_host.LoadHost.{LoadHost}
use Rattle.load_maker.specs.Scripts.{looks_of, queries_by}

-- a host whose counts of failing calls are the constant 0
abbrev pub without_host_faults : HostState → HostState
without_host_faults host =
    record { told = host.told; counts = no_host_faults; supply = host.supply }

-- what it is at a moment
abbrev pub load_state : LoadHost → HostState
load_state load = without_host_faults (host_state load.host)

-- the host of a load as it is made: a UDP side and a TCP side, each of which gives the queries that
-- come so, and a watch that finds both forms of the Corefile
abbrev pub host_of : Load → HostState
host_of load = record {
  told = Some no_telling;
  counts = no_host_faults;
  supply = Some (record {
    sides =
        gets_alone (queries_by Udp load.datagrams)
        ∷ gets_alone (queries_by Tcp load.datagrams) ∷ [];
    watch = Some (looks_alone (looks_of load));
  });
}
