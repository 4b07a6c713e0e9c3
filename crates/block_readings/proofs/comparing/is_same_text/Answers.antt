use Rattle.block_readings.specs.SameLaws.{word_from}
use Rattle.block_readings.proofs.comparing.is_same_text.Goals as goal

pub returns : goal.returns
returns c = word_from c.are_equal.result c.args.bytes.now c.args.other.now c.are_equal.ensures
