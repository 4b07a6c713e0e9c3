use Rattle.std.proofs.Common.{◌≡◌, ◌+◌, ◌++◌, ℕ, Bool, List, option_map, None, sym, ap, arith, ◌∙◌}
use Rattle.std.proofs.lemmas.List.{nil_from_length}
use Rattle.corefile_words.specs.Lines.{lines_of}
use Rattle.record_text.specs.Words.{WordData}
use Rattle.zone_file.specs.declared.entry.Open.{Open}
use Rattle.zone_file.specs.Entries.{after, begun, behind, broken, deepened, ended_by, entries_from, entry_in, has_none, idle, scan}
use Rattle.zone_file.proofs.EntryLines.{at_bad, at_broken, begun_depth, closes, stays, ends_text}
use Rattle.zone_file.proofs.entry.read_entries.Goals as goal

pub returns-then-not-is_text : goal.returns-then-not-is_text
returns-then-not-is_text c =
    c.broken.ensures
    ∙ at_bad c.loop-rest.number c.loop-rest.opened c.loop-rest.words c.loop-rest.rest.now c.first_line.result.0.now c.first_line.result.1.now c.args.text.now c.loop-rest.entries
    c.loop-rest.invariant.says c.first_line.ensures.lines (sym c.is_text.ensures ∙ c.if-not-is_text.true)

pub returns-in-Bad : goal.returns-in-Bad
returns-in-Bad c =
    let line = c.first_line.result.0.now in
    let state : c.begun-opened.result ≡ begun (c.loop-rest.number + 1) line c.loop-rest.opened (has_none c.loop-rest.words) =
    c.begun-opened.ensures ∙ ap (λ (b : Bool). begun (c.loop-rest.number + 1) line c.loop-rest.opened b) c.has_none.ensures in
    let depth : c.begun-opened.result.depth ≡ c.loop-rest.opened.depth = ap (λ (o : Open). o.depth) state ∙ begun_depth (c.loop-rest.number + 1) line c.loop-rest.opened (has_none c.loop-rest.words) in
    let none : scan c.begun-opened.result.depth 0 line ≡ None = rw c.in-Bad.is at c.in-Err.ensures.value in
    c.broken-in-Bad.ensures ∙ ap (λ (o : Open). after c.loop-rest.entries (broken o.line)) state
    ∙ at_broken c.loop-rest.number c.loop-rest.opened c.loop-rest.words c.loop-rest.rest.now line c.first_line.result.1.now c.args.text.now c.loop-rest.entries
    c.loop-rest.invariant.says c.first_line.ensures.lines (sym c.is_text.ensures ∙ c.if-not-is_text.false) (ap (λ (d : ℕ). scan d 0 line) (sym depth) ∙ none)

pub loop-rest-preserved-in_ok-push_entry : goal.loop-rest-preserved-in_ok-push_entry
loop-rest-preserved-in_ok-push_entry c =
    let line = c.first_line.result.0.now in
    let others = c.first_line.result.1.now in
    let before = c.loop-rest.number + 1 in
    let state : c.begun-opened.result ≡ begun before line c.loop-rest.opened (has_none c.loop-rest.words) =
    c.begun-opened.ensures ∙ ap (λ (b : Bool). begun before line c.loop-rest.opened b) c.has_none.ensures in
    let depth : c.begun-opened.result.depth ≡ c.loop-rest.opened.depth = ap (λ (o : Open). o.depth) state ∙ begun_depth before line c.loop-rest.opened (has_none c.loop-rest.words) in
    let deep : c.deepened-opened.result ≡ deepened (begun before line c.loop-rest.opened (has_none c.loop-rest.words)) c.in-Ok.depth =
    c.deepened-opened.ensures ∙ ap (λ (o : Open). deepened o c.in-Ok.depth) state in
    let zero : c.in-Ok.depth ≡ 0 = sym (ap (λ (o : Open). o.depth) deep) ∙ c.if-opened-eq0.true in
    let start : c.idle-opened-then-opened-eq0.result ≡ idle = c.idle-opened-then-opened-eq0.ensures in
    let a = c.first_line.ensures.inside in
    record {
      says = ap (λ (o : Open). after c.push_entry.new.entries (entries_from before o c.new-words-then-opened-eq0.result (lines_of others))) start
          ∙ ap (λ (w : List WordData). after c.push_entry.new.entries (entries_from before idle w (lines_of others))) c.new-words-then-opened-eq0.ensures
          ∙ closes c.loop-rest.number c.in-Ok.depth c.loop-rest.opened c.loop-rest.words c.in-Ok.more c.loop-rest.rest.now line others c.args.text.now c.loop-rest.entries c.push_entry.new.entries
          c.loop-rest.invariant.says c.first_line.ensures.lines (sym c.is_text.ensures ∙ c.if-not-is_text.false)
          (ap (λ (d : ℕ). option_map (behind c.loop-rest.words) (scan d 0 line)) (sym depth) ∙ c.in-Ok.ensures.value) zero
          (c.in_ok-push_entry.ensures ∙ ap (λ (o : Open). c.loop-rest.entries ++ entry_in o c.in-Ok.more) deep);
      counted = omega arith;
      nested = let none : c.idle-opened-then-opened-eq0.result.depth ≡ 0 = ap (λ (o : Open). o.depth) start in omega (arith, none, a);
    }

pub loop-rest-preserved : goal.loop-rest-preserved
loop-rest-preserved c =
    let line = c.first_line.result.0.now in
    let others = c.first_line.result.1.now in
    let before = c.loop-rest.number + 1 in
    let state : c.begun-opened.result ≡ begun before line c.loop-rest.opened (has_none c.loop-rest.words) =
    c.begun-opened.ensures ∙ ap (λ (b : Bool). begun before line c.loop-rest.opened b) c.has_none.ensures in
    let depth : c.begun-opened.result.depth ≡ c.loop-rest.opened.depth = ap (λ (o : Open). o.depth) state ∙ begun_depth before line c.loop-rest.opened (has_none c.loop-rest.words) in
    let deep : c.deepened-opened.result ≡ deepened (begun before line c.loop-rest.opened (has_none c.loop-rest.words)) c.in-Ok.depth =
    c.deepened-opened.ensures ∙ ap (λ (o : Open). deepened o c.in-Ok.depth) state in
    let deeper : c.deepened-opened.result.depth ≡ c.in-Ok.depth = ap (λ (o : Open). o.depth) deep in
    let a = c.first_line.ensures.inside in
    let b = c.in-Ok.ensures.few in
    let n = c.loop-rest.invariant.nested in
    record {
      says = ap (λ (o : Open). after c.loop-rest.entries (entries_from before o c.in-Ok.more (lines_of others))) deep
          ∙ stays c.loop-rest.number c.in-Ok.depth c.loop-rest.opened c.loop-rest.words c.in-Ok.more c.loop-rest.rest.now line others c.args.text.now c.loop-rest.entries
          c.loop-rest.invariant.says c.first_line.ensures.lines (sym c.is_text.ensures ∙ c.if-not-is_text.false)
          (ap (λ (d : ℕ). option_map (behind c.loop-rest.words) (scan d 0 line)) (sym depth) ∙ c.in-Ok.ensures.value)
          (λ e. c.if-opened-eq0.false (deeper ∙ e));
      counted = omega arith;
      nested = omega (arith, deeper, depth, a, b, n);
    }

pub returns : goal.returns
returns c =
    c.ended.ensures ∙ ap (λ (b : Bool). after c.loop-rest.entries (ended_by c.loop-rest.number c.loop-rest.opened b)) c.has_none-2.ensures
    ∙ ends_text c.loop-rest.number c.loop-rest.opened c.loop-rest.words c.loop-rest.rest.now c.args.text.now c.loop-rest.entries c.loop-rest.invariant.says
    (nil_from_length c.loop-rest.rest.now (omega arith))
