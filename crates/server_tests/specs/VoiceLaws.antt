-- The extras of these tests keep to their rulebook, whatever they are called.
use Rattle.std.proofs.Common.{ℕ, List, [], ◌∷◌, refl}
use Rattle.std.proofs.lemmas.List.Elements.{All-cons, All-nil}
use Rattle.plugin_api.specs.{Obey, Obeys}
use Rattle.server_tests.specs.Voice.{voice_said, voice_takes}

pub voices_obey : {S : Type 0} (title : S → List ℕ) (items : List S) → Obey (λ name. voice_takes) (λ name. voice_said) title (λ s. voice_takes) (λ s. voice_said) items
voices_obey {S} title [] = All-nil (λ (s : S). Obeys (λ name. voice_takes) (λ name. voice_said) (title s) voice_takes voice_said)
voices_obey {S} title (s ∷ items) =
    All-cons (λ (s : S). Obeys (λ name. voice_takes) (λ name. voice_said) (title s) voice_takes voice_said) s items
    (record { takes_it = λ d. refl; says_it = λ d q. refl }) (voices_obey title items)
