use Rattle.std.proofs.Common.{◌≡◌, ◌∙◌, sym, ap, option_map, rules}
use Rattle.extra_stock.specs.Shortage.{asked}
use Rattle.extra_stock.specs.Stocks.{is_named, names_weigh}
use Rattle.extra_stock.proofs.shortage.find_short.Goals as goal

pub returns : goal.returns
returns g c =
    let name : c.in_ok-name.name ≡ c.in-Some.directive.now.name = search rules in
    let asked_name : c.as_bytes.result.now ≡ c.in_ok-name.name = search rules in
    let had_name : c.as_bytes-2.result.now ≡ c.in_ok-name.name = search rules in
    record {
      directive = c.in-Some.directive.now;
      first = sym c.first_short.ensures ∙ ap (option_map (λ d. d.now)) c.in-Some.is;
      name_is = name;
      asks_is = c.count_asked-asked.ensures ∙ (λ i. asked c.args.workers c.args.blocks.now (asked_name i));
      has_is = c.count_spare-had.ensures.value ∙ (λ i. names_weigh g.E.Extra.title (is_named (had_name i)) c.args.spare.now);
    }
