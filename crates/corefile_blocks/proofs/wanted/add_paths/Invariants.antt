use Rattle.std.proofs.Common.{◌≡◌, ◌++◌, length}
use Rattle.std.specs.List.{filter}
use Rattle.corefile_blocks.specs.WantedFiles.{is_path}
use Rattle.corefile_blocks.proofs.wanted.add_paths.Given as goal

abbrev pub invariant-loop-upstream : goal.invariant-loop-upstream
invariant-loop-upstream l = l.named ++ filter is_path l.rest ≡ l.fn.named ++ filter is_path l.upstreams

abbrev pub decreases-loop-upstream : goal.decreases-loop-upstream
decreases-loop-upstream l = length l.rest
