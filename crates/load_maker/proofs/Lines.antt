-- Lines that are told one after another.
use Rattle.std.proofs.Common.{◌∙◌, ◌<◌, ◌+◌, ◌∷◌, ◌++◌, ℕ, true, List, [], take, drop, get_or, length, append_assoc, refl, sym, ap, subst}
use Rattle.std.proofs.lemmas.List.{take-append-drop, take_more}
use mathlib.Core.List.{map-append}
use Rattle.outside.specs.declared.datagram.Wrote.TheVariants as wrote
use Rattle.outside.specs.Hosts.{AddsHost, HostState, TellsOneLine, ToldLine}
use Rattle.outside.specs.Journals.{host-adds-nothing, host-adds-then}
use Rattle.load_maker.specs.Lines.{TellsAll, TellsSome}

pub all_none : (a : HostState) → TellsAll a a []
all_none a = record { told = host-adds-nothing a; counts = refl; supply = refl }

pub all_more : {a b c : HostState} (lines : List (List ℕ)) (line : List ℕ) → TellsAll a b lines → TellsOneLine b c line wrote.Ok → TellsAll a c (lines ++ line ∷ [])
all_more {a} {b} {c} lines line all one = record {
  told = subst (λ (l : List ToldLine). AddsHost a c (record { lines = l; opens = []; watches = 0 })) (sym (map-append (λ (x : List ℕ). record { line = x; out = true }) lines (line ∷ []))) (host-adds-then all.told one.told);
  counts = one.counts ∙ all.counts;
  supply = one.supply ∙ all.supply;
}

-- behind the first ones, one fails
pub fails_at : {a b c : HostState} (lines : List (List ℕ)) (at : ℕ) (d : List ℕ) → at < length lines → TellsAll a b (take at lines) → TellsOneLine b c (get_or lines at d) wrote.Failed → TellsSome a c lines
fails_at {b = b} lines at d inside all one = record {
  first = take at lines;
  line = get_or lines at d;
  others = drop (at + 1) lines;
  lines_are = sym (take-append-drop (at + 1) lines) ∙ (ap (λ (l : List (List ℕ)). l ++ drop (at + 1) lines) (take_more lines at d inside) ∙ append_assoc (take at lines) (get_or lines at d ∷ []) (drop (at + 1) lines));
  mid = b;
  tells = all;
  fails = one;
}
