use Rattle.std.proofs.Common.{String, Global, List, ◌∙◌, string_bytes, sym, ap}
use Rattle.std.specs.Ordering.{nat_cmp}
use Rattle.std.specs.List.{list_any}
use Rattle.std.specs.BTreeMap.{is_at}
use Rattle.std.specs.Cmp.Lexicographic.{slice_cmp}
use Rattle.corefile_blocks.specs.LineForms.{same_text}
use Rattle.corefile_blocks.specs.WantedFiles.{add_all}
use Rattle.corefile_blocks.proofs.wanted.each_once.Goals as goal

pub loop-name-init : goal.loop-name-init
loop-name-init c = record {
  says = ap (λ made. add_all made c.args.names.now) c.new-made.ensures;
  known = λ name.
      ap (λ (keys : List (String Global)). list_any (is_at (λ k. slice_cmp nat_cmp name (string_bytes k))) keys) c.new-known.ensures.empty
      ∙ ap (λ made. list_any (same_text name) made) (sym c.new-made.ensures);
}
