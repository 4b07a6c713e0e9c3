-- Why a chain with a cache decides SERVFAIL there: a hit's entry had that RCODE, or behind a miss
-- the rest has the cause. This server's own rule.
use Rattle.std.specs.Prelude.{◌≡◌, ℕ, Bool, true, false, List, Option, Some, None}
use Rattle.cache_rules.specs.{aged, cache_zones, key_of}
use Rattle.dns_data.specs.Message.{AnswerData}
use Rattle.dns_data.specs.declared.query.Query.{Query}
use Rattle.dns_data.specs.declared.rcode.TheConstants as rcodes
use Rattle.outside.specs.{EntryData}
use Rattle.outside.specs.Meanings.{Meaning, Done, More, Off}
use Rattle.outside.specs.declared.entry.InnerMark.{InnerMark}
use Rattle.outside.specs.declared.mark.Mark.{Mark}
use Rattle.plugin_api.specs.{PlanData}
use Rattle.zone_words.specs.{is_in}
use Rattle.chain_meaning.specs.declared.decision.Decision.{Decision}
use Rattle.chain_meaning.specs.declared.decision.Decision.TheVariants as decision
use Rattle.chain_meaning.specs.Caching.{entry_for, take_looked, take_now}

-- an answer as the client gets it behind a miss
abbrev pub shown : PlanData → ℕ → AnswerData → Option EntryData → AnswerData
shown plan moment a None = a
shown plan moment a (Some entry) = aged plan entry moment

-- a decision of the rest as the client gets it behind a miss
abbrev pub given : PlanData → Query → ℕ → List InnerMark → Decision → Decision
given plan q moment inner (decision.Reply a) =
    decision.Reply (shown plan moment a (entry_for plan q moment a inner))
given plan q moment inner (decision.Code code cause) = decision.Code code cause
given plan q moment inner decision.Drop = decision.Drop

-- the rest has the cause of a decision, which is given so
pub record IsGiven (plan : PlanData) (q : Query) (moment : ℕ) (P : Decision → Type 0)
    (v : Decision) : Type 0 where
  pub rest : Decision
  pub inner : List InnerMark
  pub cause : P rest
  pub is : v ≡ given plan q moment inner rest

-- for a name within the zones of the cache, and for another
abbrev pub by_zone : Bool → Type 0 → Type 0 → Type 0
by_zone true within beyond = within
by_zone false within beyond = beyond

module _ (rest : List Mark → Decision → Type 0) (plan : PlanData) (q : Query) (v : Decision) where
  -- behind a look
  abbrev pub found_cause : ℕ → Option EntryData → List Mark → Type 0
  found_cause moment (Some entry) left =
      (v ≡ decision.Reply (aged plan entry moment)) × (entry.answer.rcode ≡ rcodes.SERVFAIL)
  found_cause moment None left = IsGiven plan q moment (rest left) v

  abbrev pub looked_cause : ℕ → Meaning (Option EntryData) → Type 0
  looked_cause moment (Done found left) = found_cause moment found left
  looked_cause moment More = ⊥
  looked_cause moment Off = ⊥

  -- behind a reading of the clock
  abbrev pub moment_cause : Meaning ℕ → Type 0
  moment_cause (Done moment left) = looked_cause moment (take_looked (key_of q) moment left)
  moment_cause More = ⊥
  moment_cause Off = ⊥

  abbrev pub cache_cause : List Mark → Type 0
  cache_cause marks =
      by_zone (is_in q.name (cache_zones plan)) (moment_cause (take_now marks)) (rest marks v)
