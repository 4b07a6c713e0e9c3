use Rattle.std.proofs.Common.{◌∙◌, ap, take}
use Rattle.hosts_plugin.specs.Listings.{is_hash}
use Rattle.corefile_words.specs.LinesLaws.{take_before}
use Rattle.hosts_plugin.proofs.words.uncommented.Goals as goal

pub returns : goal.returns
returns c = c.split_at.ensures.front ∙ ap (λ size. take size c.args.line.now) c.text_size.ensures.value ∙ take_before is_hash c.args.line.now
