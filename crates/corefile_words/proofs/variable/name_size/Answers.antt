use Rattle.std.proofs.Common.{rules, tests}
use Rattle.std.proofs.lemmas.Iterator.{YieldsList-from_slice}
use Rattle.std.proofs.lemmas.Iterator.Search.{position_from_yields_List}
use Rattle.corefile_words.specs.Variables.{is_other}
use Rattle.corefile_words.specs.LinesLaws.{size_before, before-le}
use Rattle.corefile_words.proofs.variable.name_size.Goals as goal

pub returns-clause-value : goal.returns-clause-value
returns-clause-value c =
    let bytes = c.args.bytes.now in
    let at = position_from_yields_List is_other _ _ c.position.result c.position.ensures.ran (YieldsList-from_slice bytes cc) (λ x b q k. search (rules, tests)) in
    size_before is_other bytes c.position.result c.unwrap_or.result at c.unwrap_or.ensures

pub returns-clause-inside : goal.returns-clause-inside
returns-clause-inside c = rw (returns-clause-value c) (before-le is_other c.args.bytes.now)
