-- The calls of what workers share that a datagram makes: those of the query that it asks, in the
-- block that this picks. This server's own rule.
use Rattle.std.specs.Prelude.{◌≡◌, ◌⊎◌, ℕ, List, []}
use Rattle.dns_data.specs.declared.block.Block.{Block}
use Rattle.dns_wire.specs.Asked.{QueriesThis}
use Rattle.dns_wire.specs.declared.asked.Asked.{Asked}
use Rattle.outside.specs.declared.datagram.Datagram.{Datagram}
use Rattle.outside.specs.declared.mark.Mark.{Mark}
use Rattle.corefile_blocks.specs.declared.bundle.Bundle.{Bundle}
use Rattle.one_history.specs.Calls.{Call}
use Rattle.one_history.specs.Shared.{calls_in}
use Rattle.chain_meaning.specs.Accepting.{IsAccepted}
use Rattle.chain_meaning.specs.CallsByRun.{turn_calls}
use Rattle.chain_meaning.specs.Grounds.{Terms}
use Rattle.chain_meaning.specs.Serving.{query_of}
use Rattle.chain_meaning.specs.Steps.{steps_of}

-- the calls of a turn at this serial, told by these marks: those of what its datagram asks
pub record AsksCalls (bundle : Bundle) (terms : Terms) (serial : ℕ) (d : Datagram)
    (marks : List Mark) (calls : List (Call Mark)) : Type 0 where
  pub blocks : List Block
  pub accepted : IsAccepted terms bundle blocks
  pub asked : Asked
  pub queries : QueriesThis d.bytes asked
  pub are : calls ≡ turn_calls (steps_of terms.said bundle.files) blocks serial
      (query_of d asked) marks

-- or there are none
abbrev pub AreCalls : Bundle → Terms → ℕ → Datagram → List Mark → List (Call Mark) → Type 0
AreCalls bundle terms serial d marks calls =
    ((calls ≡ []) × (calls_in marks ≡ [])) ⊎ AsksCalls bundle terms serial d marks calls
