use Rattle.std.proofs.Common.{arith}
use Rattle.dns_lists.proofs.Words.{same_word}
use Rattle.dns_lists.proofs.compare.is_same_word.Goals as goal

pub returns : goal.returns
returns c =
    same_word c.args.a.now c.args.b.now c.args.at c.word_at.result c.word_at-2.result c.requires.a c.requires.b (λ i. omega (arith, c.type_inv.a i)) (λ i. omega (arith, c.type_inv.b i)) c.word_at.ensures c.word_at-2.ensures
