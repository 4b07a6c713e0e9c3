-- What stands for a block's reading where no block is. This server's own rule.
use Rattle.std.specs.Prelude.{[]}
use Rattle.block_readings.specs.Readings.{BlockReading}

-- what a block without keys and directives reads
abbrev pub bare_reading : BlockReading
bare_reading = record { block = record { keys = []; directives = [] }; files = [] }
