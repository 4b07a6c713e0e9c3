-- A bundle that was gathered, and what is read again behind it. This server's own rule.
use Rattle.std.specs.Prelude.{◌≡◌, List, [], ◌∷◌, ◌++◌, Some, Result, Ok, Err}
use Rattle.dns_data.specs.declared.file.FileText.{FileText}
use Rattle.corefile_blocks.specs.declared.bundle.Bundle.{Bundle}
use Rattle.corefile_bundle.specs.declared.fault.GatherFault.{GatherFault}
use Rattle.corefile_bundle.specs.declared.regathering.Regathered.{Regathered}
use Rattle.corefile_bundle.specs.declared.regathering.Regathered.TheVariants as again
use Rattle.corefile_bundle.specs.Gathering.{IsWhole, next_file}

-- a bundle with these files in place of its own
abbrev pub with_files : Bundle → List FileText → Bundle
with_files bundle files = record { conf = bundle.conf; env = bundle.env; files = files }

-- behind these files of a bundle, each further one is the first that is wanted and not there, and
-- behind all of them none is missing
abbrev pub InOrder : Bundle → List FileText → List FileText → Type 0
InOrder bundle done [] = IsWhole (with_files bundle done)
InOrder bundle done (file ∷ rest) = (next_file (with_files bundle done) ≡ Some file.name)
    × InOrder bundle (done ++ file ∷ []) rest

-- the files of a bundle came one after another, as reads bring them
abbrev pub IsGathered : Bundle → Type 0
IsGathered bundle = InOrder bundle [] bundle.files

-- what a bundle is behind a further reading
abbrev pub read_again : Bundle → Result Regathered GatherFault → Result Bundle GatherFault
read_again last (Ok again.Same) = Ok last
read_again last (Ok (again.Other bundle)) = Ok bundle
read_again last (Err cause) = Err cause

-- what is read is another bundle than before, unless it is a fault
abbrev pub others : Result Bundle GatherFault → Result Regathered GatherFault
others (Ok bundle) = Ok (again.Other bundle)
others (Err cause) = Err cause

-- where another bundle was read, this holds of it
abbrev pub IfOther : Result Regathered GatherFault → (Bundle → Type 0) → Type 0
IfOther (Ok again.Same) P = Unit {0}
IfOther (Ok (again.Other bundle)) P = P bundle
IfOther (Err cause) P = Unit {0}
