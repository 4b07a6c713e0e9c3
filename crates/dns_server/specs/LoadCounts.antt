-- What a load comes to by its number of queries alone: the RCODEs that its first configuration
-- gives to its queries where no cache answers. This server's own rule.
use Rattle.std.specs.Prelude.{ℕ, ◌%◌, nat_eq, Bool, false, List, [], ◌∷◌, count_by, Option, Some}
use Rattle.std.specs.Prelude.{None, option_and_then, option_map, Result, Ok, Err}
use Rattle.command_line.specs.declared.bounds.TheConstants as defaults
use Rattle.dns_data.specs.declared.block.Block.{Block}
use Rattle.dns_data.specs.declared.file.FileText.{FileText}
use Rattle.dns_data.specs.Message.{AnswerData}
use Rattle.dns_wire.specs.Asked.{asked_of}
use Rattle.dns_wire.specs.declared.asked.Asked.{Asked}
use Rattle.message_decoding.specs.Decoding.{decode_query}
use Rattle.outside.specs.declared.datagram.Datagram.{Datagram}
use Rattle.outside.specs.Meanings.{Meaning, Done, More, Off}
use Rattle.corefile_blocks.specs.{blocks_of}
use Rattle.corefile_blocks.specs.declared.bundle.Bundle.{Bundle}
use Rattle.corefile_blocks.specs.declared.fault.CorefileFault.{CorefileFault}
use Rattle.chain_meaning.specs.declared.decision.Decision.{Decision}
use Rattle.chain_meaning.specs.Serving.{answer_in, asked_decides}
use Rattle.chain_meaning.specs.Steps.{Step, back_steps, context_of}
use Rattle.load_maker.specs.{load_of}
use Rattle.load_maker.specs.Scripts.{zone_name}
use Rattle.load_maker.specs.declared.load.Load.{Load}
use Rattle.load_maker.specs.declared.summary.Summary.{Summary}

-- a configuration of a load: a Corefile, and the zone that it names
abbrev pub load_bundle : List ℕ → List ℕ → Bundle
load_bundle conf zone =
    record { conf = conf; env = []; files = record { name = zone_name; bytes = Some zone } ∷ [] }

-- the blocks, where the text is good
abbrev pub good_blocks : Result (List Block) CorefileFault → List Block
good_blocks (Ok blocks) = blocks
good_blocks (Err fault) = []

-- what stands behind the cache of a block
abbrev pub behind_cache : List FileText → Block → List Step
behind_cache files block = back_steps (context_of files block) block.directives

-- the RCODE of a decision that has a reply
abbrev pub code_in : Decision → Option ℕ
code_in v = option_map (λ (a : AnswerData). a.rcode) (answer_in v)

-- the RCODE that is meant without marks
abbrev pub meant_code : Meaning Decision → Option ℕ
meant_code (Done v left) = code_in v
meant_code More = None
meant_code Off = None

-- the RCODE that a bundle means where no cache answers
abbrev pub asked_code : Bundle → Datagram → Asked → Option ℕ
asked_code bundle d asked =
    meant_code
    (asked_decides (behind_cache bundle.files)
    (good_blocks (blocks_of bundle defaults.DEFAULT_PORT)) d asked [])

-- that of a datagram, where it is a query
abbrev pub datagram_code : Bundle → Datagram → Option ℕ
datagram_code bundle d =
    option_and_then (λ m. asked_code bundle d (asked_of m)) (decode_query d.bytes)

-- whether it is this RCODE, of which the lower half of a byte tells 4 bits
abbrev pub has_rcode : ℕ → Option ℕ → Bool
has_rcode code None = false
has_rcode code (Some rcode) = nat_eq (rcode % 16) code

-- how many of a load's queries get this RCODE from its first configuration
abbrev pub load_count : Load → ℕ → ℕ
load_count load code =
    count_by (λ d. has_rcode code (datagram_code (load_bundle load.conf load.zone) d))
    load.datagrams

-- what a load of so many queries comes to: both of its configurations are published
abbrev pub load_summary : ℕ → Summary
load_summary count = record {
  queries = count;
  noerror = load_count (load_of count) 0;
  nxdomain = load_count (load_of count) 3;
  refused = load_count (load_of count) 5;
  published = 2;
}
