-- What the cache of a chain may be given.
use Rattle.std.specs.Prelude.{◌≡◌, ℕ}
use Rattle.dns_data.specs.Message.{AnswerData}
use Rattle.dns_data.specs.declared.query.Query.{Query}
use Rattle.cache_plugin.specs.{IsFair}
use Rattle.outside.specs.declared.kept.Kept.{Kept}
use Rattle.plugin_api.specs.{PlanData}
use Rattle.chain_meaning.specs.declared.decision.Decision.{Decision}
use Rattle.chain_meaning.specs.declared.decision.Decision.TheVariants as decision
use Rattle.lent_caches.specs.Held.{CacheOf}
use Rattle.lent_caches.specs.Judging.{is_just}

-- where this is a reply, whatever entry is made of its answer and its marks is just
abbrev pub IsFairFor : CacheOf → PlanData → Query → ℕ → Decision → Kept → Type 0
IsFairFor cache plan q moment v kept =
    (answer : AnswerData) → v ≡ decision.Reply answer
    → IsFair (is_just cache.judge) plan q moment answer kept
