-- Which chain a worker's chain is. This server's own rule.
use Rattle.std.specs.Prelude.{ℕ, List, [], ◌∷◌, ◌++◌}
use Rattle.std.specs.Arc.{arc_value}
use Rattle.std.specs.Box.{box_value}
use Rattle.dns_data.specs.declared.directive.Directive.{Directive}
use Rattle.outside.specs.declared.mark.Mark.{Mark}
use Rattle.pin_table.specs.{Identity, tag}
use Rattle.plugin_api.specs.{Sayings, Takings}
use Rattle.plugin_api.specs.declared.extra.Extra as extra
use Rattle.plugin_api.specs.declared.rulebook.Rulebook as rulebook
use Rattle.chain_build.specs.declared.chain.Chain.{Chain}
use Rattle.lent_caches.specs.Held.{LentData}
use Rattle.chain_build.specs.Lending.{uses_lents}
use Rattle.chain_build.specs.Logs.{chain_places, held_log}
use Rattle.chain_build.specs.Plans.{PlansData, terms_in}
use Rattle.chain_build.specs.Replying.{Server}

-- what a chain serves by
abbrev pub plans_of : {B E : Type 0} {b : rulebook.Ghosts B} {e : extra.Ghosts E}
    → Chain B E b e → PlansData
plans_of chain = arc_value chain.plans

-- its serial, its worker, and what it serves by
abbrev pub chain_identity : {B E : Type 0} {b : rulebook.Ghosts B} {e : extra.Ghosts E}
    → Chain B E b e → Identity PlansData
chain_identity chain =
    tag (box_value chain.held).serial (box_value chain.held).worker (plans_of chain)

-- what it called of what workers share
abbrev pub chain_log : {B E : Type 0} {b : rulebook.Ghosts B} {e : extra.Ghosts E}
    → Chain B E b e → List (List Mark)
chain_log chain = held_log (box_value chain.held).uses.items

-- its uses of caches, and those of chains
abbrev pub chain_lents : {B E : Type 0} {b : rulebook.Ghosts B} {e : extra.Ghosts E}
    → Chain B E b e → List LentData
chain_lents chain = uses_lents (box_value chain.held).uses.items

abbrev pub chains_lents : {B E : Type 0} {b : rulebook.Ghosts B} {e : extra.Ghosts E}
    → List (Chain B E b e) → List LentData
chains_lents [] = []
chains_lents (chain ∷ chains) = chain_lents chain ++ chains_lents chains

-- by what plans serve, with this serial
abbrev pub server_in : Takings → Sayings → PlansData → ℕ → Server
server_in taken said plans serial = record {
  bundle = plans.bundle;
  terms = terms_in taken said plans;
  serial = serial;
  places = chain_places plans;
}

-- by what a chain serves
abbrev pub server_of : {B E : Type 0} {b : rulebook.Ghosts B} {e : extra.Ghosts E}
    → Chain B E b e → Server
server_of {b} chain =
    server_in b.taken b.said (plans_of chain) (box_value chain.held).serial

-- the directives of its extras, block by block
abbrev pub chain_extras : {B E : Type 0} {b : rulebook.Ghosts B} {e : extra.Ghosts E}
    → Chain B E b e → List (List Directive)
chain_extras chain = (plans_of chain).extras
