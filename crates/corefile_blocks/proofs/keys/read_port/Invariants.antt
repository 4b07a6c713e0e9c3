use Rattle.std.proofs.Common.{◌≡◌, ◌<◌, ◌^◌, drop}
use Rattle.corefile_blocks.specs.Keys.{number_from}
use Rattle.corefile_blocks.proofs.keys.read_port.Given as goal

abbrev pub invariant-loop-byte : goal.invariant-loop-byte
invariant-loop-byte l = record {
  says : number_from l.number (drop l.byte-index l.text) ≡ number_from 0 l.text;
  small : l.number < 10 ^ l.byte-index;
}
