-- What a block reads: its keys and directives without the numbers of their lines, and the files
-- that its directives name. Two blocks read the same where these are equal. This server's own rule.
use Rattle.std.specs.Prelude.{ℕ, List, map}
use Rattle.std.specs.List.{flat_map}
use Rattle.corefile_blocks.specs.Blocks.{file_of}
use Rattle.corefile_blocks.specs.WantedFiles.{files_of}
use Rattle.dns_data.specs.declared.block.Block.{Block}
use Rattle.dns_data.specs.declared.block.BlockKey.{BlockKey}
use Rattle.dns_data.specs.declared.directive.Directive.{Directive}
use Rattle.dns_data.specs.declared.directive.Line.{Line}
use Rattle.dns_data.specs.declared.file.FileText.{FileText}

-- lines, directives and keys without the numbers of their lines
abbrev pub bare_line : Line → Line
bare_line line = record { words = line.words; number = 0 }

abbrev pub bare : Directive → Directive
bare d = record { name = d.name; args = d.args; body = map bare_line d.body; line = 0 }

abbrev pub bare_key : BlockKey → BlockKey
bare_key key = record { zone = key.zone; port = key.port; line = 0 }

abbrev pub bare_block : Block → Block
bare_block block =
    record { keys = map bare_key block.keys; directives = map bare block.directives }

-- what a bundle with these files has under a name: bytes, or none where the file is missing
abbrev pub found_file : List FileText → List ℕ → FileText
found_file files name = record { name = name; bytes = file_of name files }

-- the files that directives name, in the order of the text
abbrev pub directive_names : Directive → List (List ℕ)
directive_names d = files_of d.name d.args

abbrev pub names_in : List Directive → List (List ℕ)
names_in directives = flat_map directive_names directives

-- what a block reads in a bundle with these files
pub record BlockReading : Type 0 where
  pub block : Block
  pub files : List FileText

abbrev pub block_reading : List FileText → Block → BlockReading
block_reading files block = record {
  block = bare_block block;
  files = map (found_file files) (names_in block.directives);
}
