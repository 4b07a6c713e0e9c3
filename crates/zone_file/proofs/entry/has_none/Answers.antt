use Rattle.std.proofs.Common.{ap, ◌∙◌, nat_eq}
use Rattle.zone_file.proofs.EntryLines.{has_none_is}
use Rattle.zone_file.proofs.entry.has_none.Goals as goal

pub returns : goal.returns
returns c = ap (λ n. nat_eq n 0) c.len.ensures ∙ has_none_is c.args.words.now
