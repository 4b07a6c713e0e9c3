use Rattle.std.proofs.Common.{rules, ◌≡◌, ◌++◌, length, ap, subst, sym, ◌∙◌}
use Rattle.std.specs.List.{AllByRecursion}
use Rattle.dns_write.specs.Tails.{IsInside, begun, laid_behind, laid_records, records_pieces, spots_of, text_of}
use Rattle.dns_write.proofs.Layouts.{lays_both}
use Rattle.dns_write.proofs.Tails.{asked-append, records_asked}
use Rattle.dns_write.proofs.Truncating.{all_append}
use Rattle.dns_write.proofs.plan.plan_of.Goals as goal

pub returns : goal.returns
returns c =
    let xs = c.args.authority.now in
    let ys = c.args.additional.now in
    let rs = xs ++ ys in
    let copied = sym c.in_ok-copy.ensures in
    let one = c.in_ok-add_records.ensures c.if-not-branch.false ∙ ap (λ l. laid_records l xs) c.in_ok-layout.ensures in
    let all = c.in_ok-add_records-2.ensures c.if-not-branch-2.false ∙ ap (λ l. laid_records l ys) one ∙ lays_both (laid_behind c.args.anchor.now) xs ys in
    let first = c.in_ok-list_records.ensures.listed c.if-not-branch-3.false in
    let second = c.in_ok-list_records-2.ensures.listed c.if-not-branch-4.false in
    let kept = c.in_ok-list_records-2.ensures.kept c.if-not-branch-4.false in
    let long : c.len.result ≡ length c.into_parts-text.result.0.items = search rules in
    record {
      text = c.into_parts-text.ensures.text ∙ ap (λ l. l.text) all ∙ ap (λ a. text_of (records_pieces (begun a) rs)) copied;
      spots = c.into_parts-text.ensures.spots ∙ ap (λ l. l.spots) all ∙ ap (λ a. spots_of 0 (records_pieces (begun a) rs)) copied;
      inside = subst (λ n. AllByRecursion (IsInside n) c.into_parts-text.result.1.items) long (subst (AllByRecursion (IsInside c.len.result)) c.deref.ensures.value (c.are_inside.ensures c.if-not-are_inside.false));
      listed = asked-append _ xs ys (records_asked (λ name listed label lacks. listed label (kept label lacks)) xs first) second;
      proper = all_append xs ys c.are_proper.ensures c.are_proper-2.ensures;
      depth = c.label_count.ensures ∙ ap length copied;
    }
