use Rattle.std.proofs.Common.{◌∙◌, ap, arith}
use Rattle.std.specs.Int.{w64, from_le_bytes}
use Rattle.name_table.proofs.Tables.{small_range}
use Rattle.name_table.proofs.hash.word_at.Goals as goal

pub returns : goal.returns
returns c = small_range c.args.bytes.now c.args.at c.from_le_bytes.result c.requires (λ i. omega (arith, c.type_inv.bytes i)) (c.from_le_bytes.ensures ∙ ap (from_le_bytes w64) c.copy_from_slice.ensures.after)
