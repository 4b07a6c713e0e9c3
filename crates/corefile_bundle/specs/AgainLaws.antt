-- What is gathered came in order: each file is the first that was wanted when those before it were
-- there.
use Rattle.std.proofs.Common.{◌≡◌, List, [], ◌∷◌, ◌++◌, length, Option, Some, Ok}
use Rattle.std.proofs.Common.{refl, sym, ap, subst, ◌∙◌, append_assoc, append-nil, ℕ}
use Rattle.dns_data.specs.declared.file.FileText.{FileText}
use Rattle.outside.specs.declared.watch.ReadOut.{ReadOut}
use Rattle.outside.specs.declared.watch.ReadOut.TheVariants as readout
use Rattle.corefile_blocks.specs.declared.bundle.Bundle.{Bundle}
use Rattle.corefile_bundle.specs.Again.{InOrder, IsGathered, with_files}
use Rattle.corefile_bundle.specs.Gathering.{Gathers, GathersFrom, GoesOn, IsWhole, OneRead, Source}
use Rattle.corefile_bundle.specs.Gathering.{after_corefile, bare, next_file, over, with_file}
use Rattle.corefile_bundle.specs.WholeLaws.{not_both, over_goes, read_goes}

-- a bundle came of another by files that were read in order
record Comes (bundle whole : Bundle) : Type 0 where
  pub rest : List FileText
  pub files : whole.files ≡ bundle.files ++ rest
  pub front : with_files whole bundle.files ≡ bundle
  pub order : InOrder whole bundle.files rest

comes_ended : (bundle whole : Bundle) → whole ≡ bundle → IsWhole bundle → Comes bundle whole
comes_ended bundle whole is none = record {
  rest = [];
  files = ap (λ b. b.files) is ∙ sym (append-nil bundle.files);
  front = ap (λ b. with_files b bundle.files) is;
  order = subst (λ b. IsWhole (with_files b bundle.files)) (sym is) none;
}

comes_on : (bundle whole : Bundle) (name : List ℕ) (bytes : Option (List ℕ))
    → next_file bundle ≡ Some name → Comes (with_file bundle name bytes) whole → Comes bundle whole
comes_on bundle whole name bytes next comes =
    let file : FileText = record { name = name; bytes = bytes } in
    let front : with_files whole bundle.files ≡ bundle =
    ap (λ b. with_files b bundle.files) comes.front in
    record {
      rest = file ∷ comes.rest;
      files = comes.files ∙ append_assoc bundle.files (file ∷ []) comes.rest;
      front = front;
      order = (ap next_file front ∙ next, comes.order);
    }

gathers_in_order : (bundle whole : Bundle) (reads : List OneRead)
    → Gathers bundle reads (Ok whole) → Comes bundle whole
gathers_in_order bundle whole [] end = comes_ended bundle whole end.0 end.1
gathers_in_order bundle whole (read ∷ reads) gathers =
    read_goes bundle whole read.name reads read.out
    (λ bytes on. comes_on bundle whole read.name bytes gathers.0.wants
    (gathers_in_order (with_file bundle read.name bytes) whole reads on)) gathers.1

in_order : (bundle whole : Bundle) → bundle.files ≡ [] → Comes bundle whole → IsGathered whole
in_order bundle whole none comes =
    let rest : whole.files ≡ comes.rest =
    comes.files ∙ ap (λ files. files ++ comes.rest) none in
    subst (InOrder whole []) (sym rest)
    (subst (λ done. InOrder whole done comes.rest) none comes.order)

-- reads that give a bundle give one whose files came in order
pub gathered-in-order : (source : Source) (reads : List OneRead) (whole : Bundle)
    → GathersFrom source reads (Ok whole) → IsGathered whole
gathered-in-order source [] whole none = absurd cc
gathered-in-order source (read ∷ reads) whole gathers = goes read.out gathers.2
  where
    goes : (out : ReadOut)
        → GoesOn (λ behind. Gathers behind reads (Ok whole)) (after_corefile source out) reads
        (Ok whole) → IsGathered whole
    goes (readout.Got bytes) on =
        over_goes (bare source.env bytes) whole (over (length bytes) (length bytes)) reads
        (λ gathered. in_order (bare source.env bytes) whole refl
        (gathers_in_order (bare source.env bytes) whole reads gathered)) on
    goes readout.Missing on = absurd (not_both on.1)
    goes readout.Failed on = absurd (not_both on.1)
    goes readout.NoMemory on = absurd (not_both on.1)
