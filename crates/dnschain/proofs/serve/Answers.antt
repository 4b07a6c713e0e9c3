use Rattle.std.proofs.Common.{◌≡◌, List, refl, sym, subst}
use Rattle.std.proofs.lemmas.List.Elements.{All-push}
use Rattle.plugin_api.specs.{Obey, Obeys}
use Rattle.sinkhole_plugin.specs.Sinkhole.{sink_said, takes_sink}
use Rattle.dnschain.proofs.serve.OwnLists as own
use Rattle.dnschain.proofs.serve.Goals as goal

pub loop-preserved : goal.loop-preserved
loop-preserved g c =
    let here = subst (λ v. (x : _) → Obeys (λ name. takes_sink) (λ name. sink_said) ((own.own-1.entry v).1.title x) ((own.own-1.entry v).1.takes x) ((own.own-1.entry v).1.ruling x)) (sym c.into_dyn_box-boxed.ensures.0)
    (λ x. record { takes_it = λ d. refl; says_it = λ d q. refl }) c.into_dyn_box-boxed.result.value in
    subst (λ l. Obey (λ name. takes_sink) (λ name. sink_said) (λ e. (own.own-1.entry e.vtable).1.title e.value) (λ e. (own.own-1.entry e.vtable).1.takes e.value) (λ e. (own.own-1.entry e.vtable).1.ruling e.value) l)
    (sym c.in-Ok-push.ensures.items) (All-push (λ x. Obeys (λ name. takes_sink) (λ name. sink_said) ((own.own-1.entry x.vtable).1.title x.value) ((own.own-1.entry x.vtable).1.takes x.value) ((own.own-1.entry x.vtable).1.ruling x.value)) c.loop.extras.items c.into_dyn_box-boxed.result c.loop.invariant here)
