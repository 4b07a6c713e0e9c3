-- How the counts of failing calls rise: by one at each failure. This server's own rule.
use Rattle.std.specs.Prelude.{ℕ, Bool, true, false}
use Rattle.outside.specs.declared.datagram.Outcome.{Outcome}
use Rattle.outside.specs.declared.datagram.Outcome.TheVariants as outcome
use Rattle.outside.specs.declared.datagram.Wrote.{Wrote}
use Rattle.outside.specs.declared.datagram.Wrote.TheVariants as wrote
use Rattle.outside.specs.declared.watch.ReadOut.{ReadOut}
use Rattle.outside.specs.declared.watch.ReadOut.TheVariants as readout
use Rattle.outside_mem.specs.Calls.{one_more}

-- behind a call that hands something out
abbrev pub faults_with : ℕ → Wrote → ℕ
faults_with faults wrote.Ok = faults
faults_with faults wrote.Failed = one_more faults

-- behind a call of ask or more
abbrev pub ask_faults_with : ℕ → Outcome → ℕ
ask_faults_with faults outcome.Failed = one_more faults
ask_faults_with faults outcome.Silence = faults
ask_faults_with faults outcome.NoMemory = faults
ask_faults_with faults (outcome.Got bytes) = faults

abbrev pub silences_with : ℕ → Outcome → ℕ
silences_with silences outcome.Silence = one_more silences
silences_with silences outcome.Failed = silences
silences_with silences outcome.NoMemory = silences
silences_with silences (outcome.Got bytes) = silences

-- behind a read
abbrev pub read_faults_with : ℕ → ReadOut → ℕ
read_faults_with faults readout.Failed = one_more faults
read_faults_with faults readout.Missing = faults
read_faults_with faults readout.NoMemory = faults
read_faults_with faults (readout.Got bytes) = faults

-- want of memory at a read
abbrev pub is_starved : ReadOut → Bool
is_starved readout.NoMemory = true
is_starved readout.Failed = false
is_starved readout.Missing = false
is_starved (readout.Got bytes) = false
