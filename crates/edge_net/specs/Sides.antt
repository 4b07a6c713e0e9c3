-- What a real side is at a moment: its counts, and nothing told. This server's own rule.
use Rattle.std.specs.Prelude.{None}
use Rattle.outside.specs.{SideState, raised}
use Rattle.outside.specs.declared.datagram.Outcome.{Outcome}
use Rattle.outside.specs.declared.datagram.Outcome.TheVariants as outcome
use Rattle.edge_net.specs.declared.tally.Tally.{Tally}

-- as it is opened
abbrev pub no_tally : Tally
no_tally = record { recv = 0; send = 0; ask = 0; silences = 0; note = 0; left = 0 }

-- once an upstream has answered: a silence and a failure count, and nothing else does
abbrev pub behind_outcome : Tally → Outcome → Tally
behind_outcome tally (outcome.Got bytes) = tally
behind_outcome tally outcome.Silence = record tally { silences = raised tally.silences }
behind_outcome tally outcome.Failed = record tally { ask = raised tally.ask }
behind_outcome tally outcome.NoMemory = tally

abbrev pub side_state : Tally → SideState
side_state tally = record {
  journal = None;
  counts = record {
    recv = tally.recv;
    send = tally.send;
    ask = tally.ask;
    silences = tally.silences;
    note = tally.note;
  };
  script = None;
  left = tally.left;
}
