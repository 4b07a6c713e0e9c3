-- Sinkholes keep to their rulebook, for those who bring them.
use Rattle.std.proofs.Common.{List, [], ◌∷◌, codes, refl}
use Rattle.std.specs.List.{All}
use Rattle.std.proofs.lemmas.List.Elements.{All-cons, All-nil}
use Rattle.plugin_api.specs.{Obey, Obeys}
use Rattle.sinkhole_plugin.specs.Sinkhole.{sink_said, takes_sink}

pub sinkholes_obey : {S : Type 0} (items : List S) → Obey (λ name. takes_sink) (λ name. sink_said) (λ s. codes "sinkhole") (λ s. takes_sink) (λ s. sink_said) items
sinkholes_obey {S} [] = All-nil (λ (s : S). Obeys (λ name. takes_sink) (λ name. sink_said) (codes "sinkhole") takes_sink sink_said)
sinkholes_obey {S} (s ∷ items) =
    All-cons (λ (s : S). Obeys (λ name. takes_sink) (λ name. sink_said) (codes "sinkhole") takes_sink sink_said) s items
    (record { takes_it = λ d. refl; says_it = λ d q. refl }) (sinkholes_obey items)
