-- What keeping an answer behind a miss decides.
use Rattle.std.specs.Prelude.{◌≡◌, ℕ, List, [], Option, Some, None, Result, Ok, Err}
use Rattle.std.specs.Arc.{arc_value}
use Rattle.dns_lists.specs.declared.memory.NoMemory.{NoMemory}
use Rattle.dns_data.specs.Message.{AnswerData}
use Rattle.dns_data.specs.declared.query.Query.{Query}
use Rattle.cache_rules.specs.{aged}
use Rattle.cache_shards.specs.Stores.{Held}
use Rattle.outside.specs.{EntryData}
use Rattle.outside.specs.Kept.{Keeps}
use Rattle.outside.specs.declared.entry.InnerMark.{InnerMark}
use Rattle.outside.specs.declared.kept.Kept.{Kept}
use Rattle.outside.specs.declared.kept.Kept.TheVariants as kept
use Rattle.plugin_api.specs.{PlanData}
use Rattle.chain_meaning.specs.Caching.{entry_for}
use Rattle.chain_meaning.specs.declared.decision.Decision.{Decision}
use Rattle.chain_meaning.specs.declared.decision.Decision.TheVariants as decision

-- the marks that were kept from the first one on
abbrev pub ArePast : Kept → List InnerMark → Type 0
ArePast after inner = Keeps (kept.On []) after inner

-- the answer that is given where it was put, and where it wasn't
abbrev pub kept_answer : PlanData → ℕ → AnswerData → Option Held → AnswerData
kept_answer plan moment answer None = answer
kept_answer plan moment answer (Some entry) = aged plan (arc_value entry) moment

abbrev pub kept_result : PlanData → ℕ → AnswerData → Result (Option Held) NoMemory
    → Result Decision NoMemory
kept_result plan moment answer (Ok put) = Ok (decision.Reply (kept_answer plan moment answer put))
kept_result plan moment answer (Err e) = Err e

-- a decision where an entry was put
abbrev pub put_result : Decision → Result Held NoMemory → Result Decision NoMemory
put_result v (Ok entry) = Ok v
put_result v (Err e) = Err e

-- it is the entry of an answer and its marks, where one is made
abbrev pub IsMade : PlanData → Query → ℕ → AnswerData → Kept → Option EntryData → Type 0
IsMade plan q moment answer after None = Unit {0}
IsMade plan q moment answer after (Some entry) =
    ArePast after entry.inner × (entry_for plan q moment answer entry.inner ≡ Some entry)
    × (entry.origin ≡ q)

-- whatever entry is made of an answer and its marks, it is just
abbrev pub IsFair : (EntryData → Type 0) → PlanData → Query → ℕ → AnswerData → Kept → Type 0
IsFair just plan q moment answer after =
    (inner : List InnerMark) → ArePast after inner → (entry : EntryData)
    → entry_for plan q moment answer inner ≡ Some entry → just entry
