use Rattle.std.proofs.Common.{◌≡◌, drop}
use Rattle.std.specs.List.{filter}
use Rattle.corefile_blocks.specs.WantedFiles.{is_path}
use Rattle.block_readings.specs.Same.{find_same}
use Rattle.block_readings.proofs.comparing.finds_paths.Given as goal

-- what is left decides
abbrev pub invariant-loop-word : goal.invariant-loop-word
invariant-loop-word l = find_same l.files l.others (filter is_path (drop l.word-index l.words)) ≡ find_same l.fn.files l.fn.others (filter is_path l.fn.words)
