-- What a gathering without a bundle comes to. This server's own rule.
use Rattle.corefile_bundle.specs.declared.fault.GatherFault.{GatherFault}
use Rattle.corefile_bundle.specs.declared.fault.GatherFault.TheVariants as unread
use Rattle.chain_meaning.specs.declared.refusal.Refusal.TheVariants as refusal
use Rattle.reload_watch.specs.declared.fault.ReadFault.{ReadFault}
use Rattle.reload_watch.specs.declared.fault.ReadFault.TheVariants as fault
use Rattle.run_meaning.specs.declared.looking.Looking.{Looking}
use Rattle.run_meaning.specs.declared.looking.Looking.TheVariants as looking

-- why there is nothing to serve by, where a gathering came to this
abbrev pub read_fault : GatherFault → ReadFault
read_fault unread.NoCorefile = fault.Refused refusal.NoCorefile
read_fault (unread.ReadFailed name) = fault.ReadFailed name
read_fault (unread.TooMany what number) = fault.Refused (refusal.TooMany what number)
read_fault unread.NoMemory = fault.NoMemory

-- what a look answers to it
abbrev pub answer_to : ReadFault → Looking
answer_to (fault.Refused why) = looking.Refused why
answer_to (fault.ReadFailed name) = looking.ReadFailed name
answer_to fault.NoMemory = looking.NoMemory
