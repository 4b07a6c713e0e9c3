use Rattle.std.proofs.Common.{◌≡◌, ◌∙◌, List, [], ◌∷◌, ◌++◌, length, map, sym, ap, subst, append_assoc, arith}
use Rattle.std.specs.List.{All}
use Rattle.std.proofs.lemmas.List.{length_push}
use Rattle.std.proofs.lemmas.List.Elements.{All-head, All-push, All-tail}
use Rattle.std.proofs.lemmas.List.Sums.{sum_by_push}
use Rattle.chain_meaning.specs.{named_in}
use Rattle.extra_stock.specs.{names_weigh}
use Rattle.plugin_api.specs.{Obeys}
use Rattle.dns_server.proofs.Stocked.{names_grow, names_stay}
use Rattle.dns_server.proofs.stocking.part_extras.Goals as goal

pub loop-extra-preserved-then-is_judged : goal.loop-extra-preserved-then-is_judged
loop-extra-preserved-then-is_judged g c =
    let i = c.loop-extra.invariant in
    let title = g.E.Extra.title in
    let extra = c.in-Some.extra in
    let yielded = c.loop-extra.yielded in
    let judges = c.loop-extra.judges.items in
    let spare = c.loop-extra.spare.items in
    let steps = c.in-Some.ensures.steps.0 in
    let P : g.row.E.Denot → Type 0 = λ x. Obeys g.B.Rulebook.taken g.B.Rulebook.said (title x) (g.E.Extra.takes x) (g.E.Extra.ruling x) in
    let obey = subst (λ (l : List g.row.E.Denot). All P l) steps i.rest in
    let rest = c.next.new.self.rest.items in
    let pushed = c.push_reserved.ensures.items in
    let is : c.is_judged.result ≡ named_in (map title judges) (title extra) =
    c.is_judged.ensures ∙ (λ k. named_in (map title (c.as_slice.ensures.value k)) (c.name.ensures k)) in
    record {
      all = (i.all ∙ ap (λ (l : List g.row.E.Denot). yielded ++ l) steps) ∙ sym (append_assoc yielded (extra ∷ []) rest);
      rest = All-tail P extra rest obey;
      judges = i.judges;
      spare = subst (λ (l : List g.row.E.Denot). All P l) (sym pushed) (All-push P spare extra i.spare (All-head P extra rest obey));
      names = names_stay title judges yielded extra i.names (sym is ∙ c.if-is_judged.true);
      weigh = λ w.
          let a = i.weigh w in
          let one = ap (λ (l : List g.row.E.Denot). names_weigh title w l) pushed ∙ sum_by_push (λ (x : g.row.E.Denot). w (title x)) spare extra in
          let all = sum_by_push (λ (x : g.row.E.Denot). w (title x)) yielded extra in omega (arith, a, one, all);
      count =
          let a = i.count in
          let one = ap (λ (l : List g.row.E.Denot). length l) pushed ∙ length_push spare extra in
          let all = length_push yielded extra in omega (arith, a, one, all);
      judging = i.judging;
      sparing = c.push_reserved.ensures.capacity ∙ i.sparing;
    }

pub loop-extra-preserved : goal.loop-extra-preserved
loop-extra-preserved g c =
    let i = c.loop-extra.invariant in
    let title = g.E.Extra.title in
    let extra = c.in-Some.extra in
    let yielded = c.loop-extra.yielded in
    let judges = c.loop-extra.judges.items in
    let spare = c.loop-extra.spare.items in
    let steps = c.in-Some.ensures.steps.0 in
    let P : g.row.E.Denot → Type 0 = λ x. Obeys g.B.Rulebook.taken g.B.Rulebook.said (title x) (g.E.Extra.takes x) (g.E.Extra.ruling x) in
    let obey = subst (λ (l : List g.row.E.Denot). All P l) steps i.rest in
    let rest = c.next.new.self.rest.items in
    let pushed = c.push_reserved-else-is_judged.ensures.items in
    let is : c.is_judged.result ≡ named_in (map title judges) (title extra) =
    c.is_judged.ensures ∙ (λ k. named_in (map title (c.as_slice.ensures.value k)) (c.name.ensures k)) in
    record {
      all = (i.all ∙ ap (λ (l : List g.row.E.Denot). yielded ++ l) steps) ∙ sym (append_assoc yielded (extra ∷ []) rest);
      rest = All-tail P extra rest obey;
      judges = subst (λ (l : List g.row.E.Denot). All P l) (sym pushed) (All-push P judges extra i.judges (All-head P extra rest obey));
      spare = i.spare;
      names = ap (λ (l : List g.row.E.Denot). map title l) pushed ∙ names_grow title judges yielded extra i.names (sym is ∙ c.if-is_judged.false);
      weigh = λ w.
          let a = i.weigh w in
          let one = ap (λ (l : List g.row.E.Denot). names_weigh title w l) pushed ∙ sum_by_push (λ (x : g.row.E.Denot). w (title x)) judges extra in
          let all = sum_by_push (λ (x : g.row.E.Denot). w (title x)) yielded extra in omega (arith, a, one, all);
      count =
          let a = i.count in
          let one = ap (λ (l : List g.row.E.Denot). length l) pushed ∙ length_push judges extra in
          let all = length_push yielded extra in omega (arith, a, one, all);
      judging = c.push_reserved-else-is_judged.ensures.capacity ∙ i.judging;
      sparing = i.sparing;
    }
