use Rattle.std.proofs.Common.{sym, arith}
use Rattle.corefile_words.proofs.Variables.{name_found}
use Rattle.corefile_words.proofs.variable.name_in.Goals as goal

pub returns-clause-value : goal.returns-clause-value
returns-clause-value c =
    sym (name_found c.args.bytes.now c.name_size-size.result c.name_size-size.ensures.value c.if-size-eq0.false (omega arith) c.if-bytes-size-ne125.false)
