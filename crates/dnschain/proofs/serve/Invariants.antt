use Rattle.std.proofs.Common.{◌≡◌, List}
use Rattle.plugin_api.specs.{Obey}
use Rattle.sinkhole_plugin.specs.Sinkhole.{sink_said, takes_sink}
use Rattle.dnschain.proofs.serve.OwnLists as own
use Rattle.dnschain.proofs.serve.Given as goal

abbrev pub invariant-loop : goal.invariant-loop
invariant-loop g l =
    Obey (λ name. takes_sink) (λ name. sink_said) (λ e. (own.own-1.entry e.vtable).1.title e.value) (λ e. (own.own-1.entry e.vtable).1.takes e.value) (λ e. (own.own-1.entry e.vtable).1.ruling e.value) l.extras.items
