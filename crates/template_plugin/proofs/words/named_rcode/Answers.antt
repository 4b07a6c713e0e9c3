use Rattle.std.proofs.Common.{rules}
use Rattle.template_plugin.proofs.Codes.{small_rcode}
use Rattle.template_plugin.proofs.words.named_rcode.Goals as goal

pub returns-clause-value : goal.returns-clause-value
returns-clause-value c = search rules

pub returns-clause-small : goal.returns-clause-small
returns-clause-small c = rw (returns-clause-value c) (small_rcode c.args.word.now)
