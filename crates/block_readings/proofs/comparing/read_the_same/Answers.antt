use Rattle.std.proofs.Common.{Bool, sym, subst, ◌≡◌}
use Rattle.std.specs.Bool.{Decides}
use Rattle.block_readings.specs.Readings.{block_reading}
use Rattle.block_readings.specs.SameLaws.{exact_reading}
use Rattle.block_readings.proofs.comparing.read_the_same.Goals as goal

pub returns-clause-same : goal.returns-clause-same
returns-clause-same c =
    let one = c.args.one in
    let other = c.args.other in
    subst (λ (t : Bool). Decides t (block_reading one.files.now one.block.now ≡ block_reading other.files.now other.block.now)) (sym c.pass_the_test.ensures)
    (exact_reading one.files.now other.files.now one.block.now other.block.now)
