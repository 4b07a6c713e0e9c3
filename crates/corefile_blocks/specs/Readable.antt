-- The sizes of the texts of a bundle.
use Rattle.std.specs.Prelude.{◌<◌, ◌^◌, length, IfSome}
use Rattle.std.specs.List.{All}
use Rattle.dns_data.specs.declared.file.FileText.{FileText}
use Rattle.corefile_blocks.specs.declared.bundle.Bundle.{Bundle}

-- the file has fewer than 2 ^ 32 bytes, or is missing
abbrev pub HasShortBytes : FileText → Type 0
HasShortBytes file = IfSome file.bytes (λ bytes. length bytes < 2 ^ 32)

-- the lines of each text can be counted in 32 bits
pub record IsReadable (bundle : Bundle) : Type 0 where
  pub conf : length bundle.conf < 2 ^ 32
  pub files : All HasShortBytes bundle.files
