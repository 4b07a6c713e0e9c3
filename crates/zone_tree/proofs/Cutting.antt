-- Cuts and closest enclosers by the numbers of names.
use Rattle.std.proofs.Common.{◌≡◌, ℕ, zero, suc, ◌+◌, ◌-◌, ◌<◌, ◌≤◌, Bool, true, false, cond, List, [], ◌∷◌, ◌++◌, length, drop, map, get_or, Option, Some, None, refl, sym, ap, subst, ◌∙◌, arith, inl, inr, length-append, rules}
use Rattle.std.specs.Prelude.{slice_get, ◌&&◌, ◌==◌, not, nat_lt, nat_le}
use Rattle.std.specs.Option.{option_map, option_or}
use Rattle.std.specs.List.{filter, list_any}
use Rattle.std.specs.Char.{to_ascii_lowercase}
use Rattle.std.proofs.lemmas.List.{drop_all}
use Rattle.std.proofs.lemmas.Option.{slice_get-get_or}
use Rattle.dns_names.specs.Name.{lowered, same_labels, wire_length}
use Rattle.dns_data.specs.Record.{RecordData, kind_of}
use Rattle.dns_data.specs.declared.zone.Zone.{Zone}
use Rattle.name_table.specs.Table.{IsMissing, IsNamed, IsLongest}
use Rattle.name_table.specs.declared.table.Longest.{Longest}
use Rattle.zone_lookup.specs.Zone.{is_at, is_of, is_star, is_cut, has_items, only_if, by_type, cut_of, encloser, exists_in, has_at, set_at, star_of, where_it_exists}
use Rattle.zone_lookup.specs.ZoneAnswer.{Finds, Steps, found, owned_by, sought, with_owner}
use Rattle.zone_lookup.specs.declared.find.Find.{Find}
use Rattle.zone_lookup.specs.declared.find.Step.TheVariants as step
use Rattle.zone_lookup.proofs.Suffixes.{encloser_here, encloser_up, no_encloser}
use Rattle.zone_lookup.proofs.Finding.{finds_here, finds_wild, finds_none}
use Rattle.zone_lookup.proofs.Chaining.{steps_found}
use Rattle.zone_tree.specs.declared.node.Node.{Node}
use Rattle.zone_tree.specs.declared.tree.Tree.{Tree}
use Rattle.zone_tree.specs.Sets.{is_asked, picked, found_in}
use Rattle.zone_tree.specs.Tree.{star_at, IsStarOf, IsShape, IsNodeOf, AreNames, AreSets, IsCutAt, AreCuts, IsTree, exists_among}
use Rattle.zone_tree.proofs.Shapes.{there, named_as, named_from, named_case, missing_case, inside, length_case, star_case, get_either, wire_case}
use Rattle.zone_tree.proofs.Filling.{node_is, none_at, has_in_at, found_in_at}

-- a test over a list of records asks of a name in small letters
abbrev low_at : List (List ℕ) → RecordData → Bool
low_at low r = same_labels (lowered r.owner) low

has_case : (zone : Zone) (a b : List (List ℕ)) (kind : ℕ) → lowered a ≡ lowered b → has_at zone a kind ≡ has_at zone b kind
unfolding has_at set_at is_at is_of
has_case zone a b kind e =
    ap (λ (low : List (List ℕ)). has_items (cond (kind == 255) (by_type [] (filter (low_at low) zone.records)) (filter (λ r. low_at low r && (kind_of r.rdata == kind)) zone.records))) e

pub set_case : (zone : Zone) (a b : List (List ℕ)) (kind : ℕ) → lowered a ≡ lowered b → set_at zone a kind ≡ set_at zone b kind
unfolding set_at is_at is_of
set_case zone a b kind e =
    ap (λ (low : List (List ℕ)). cond (kind == 255) (by_type [] (filter (low_at low) zone.records)) (filter (λ r. low_at low r && (kind_of r.rdata == kind)) zone.records)) e

low_or : (a b : Option (List (List ℕ))) → option_map lowered (option_or a b) ≡ option_or (option_map lowered a) (option_map lowered b)
low_or None b = refl
low_or (Some x) b = refl

low_if : (b : Bool) (name : List (List ℕ)) → option_map lowered (only_if b name) ≡ only_if b (lowered name)
low_if true name = refl
low_if false name = refl

-- the cut of a name in another case
cut_case : (zone : Zone) (a b : List (List ℕ)) → lowered a ≡ lowered b → option_map lowered (cut_of zone a) ≡ option_map lowered (cut_of zone b)
unfolding cut_of is_cut
cut_case zone [] [] e = refl
cut_case zone [] (m ∷ b) e = absurd cc
cut_case zone (l ∷ a) [] e = absurd cc
cut_case zone (l ∷ a) (m ∷ b) e =
    let first : map to_ascii_lowercase l ≡ map to_ascii_lowercase m = cc in
    let rest : lowered a ≡ lowered b = cc in
    let is : (nat_lt (length zone.origin) (length a + 1) && not (is_star l) && has_at zone (l ∷ a) 2) ≡ (nat_lt (length zone.origin) (length b + 1) && not (is_star m) && has_at zone (m ∷ b) 2) =
    λ j. nat_lt (length zone.origin) (length_case a b rest j + 1) && not (star_case l m first j) && has_case zone (l ∷ a) (m ∷ b) 2 e j in
    low_or (cut_of zone a) (only_if (nat_lt (length zone.origin) (length a + 1) && not (is_star l) && has_at zone (l ∷ a) 2) (l ∷ a))
    ∙ (λ j. option_or (cut_case zone a b rest j) ((low_if (nat_lt (length zone.origin) (length a + 1) && not (is_star l) && has_at zone (l ∷ a) 2) (l ∷ a) ∙ (λ k. only_if (is k) (e k))
    ∙ sym (low_if (nat_lt (length zone.origin) (length b + 1) && not (is_star m) && has_at zone (m ∷ b) 2) (m ∷ b))) j))
    ∙ sym (low_or (cut_of zone b) (only_if (nat_lt (length zone.origin) (length b + 1) && not (is_star m) && has_at zone (m ∷ b) 2) (m ∷ b)))

cut_moves : (names : List (List (List ℕ))) (o p : Option (List (List ℕ))) (i : Option ℕ) → IsCutAt names o i → option_map lowered o ≡ option_map lowered p → IsCutAt names p i
cut_moves names None None i c e = c
cut_moves names None (Some b) i c e = absurd cc
cut_moves names (Some a) None i c e = absurd cc
cut_moves names (Some a) (Some b) None c e = c
cut_moves names (Some a) (Some b) (Some i) c e = let same : lowered a ≡ lowered b = cc in named_case names i a b same c

-- a name that isn't there has no records
pub has_none : (names : List (List (List ℕ))) (zone : Zone) (name : List (List ℕ)) (kind : ℕ) → AreNames names zone.records → IsMissing names name → has_at zone name kind ≡ false
has_none names zone name kind n missing = sym (has_in_at zone name kind [] (sym (none_at names zone name n missing)))

or_none : {X : Type 0} (o : Option X) → option_or o None ≡ o
or_none None = refl
or_none (Some x) = refl

and_false : (b : Bool) → (b && false) ≡ false
and_false true = refl
and_false false = refl

no_cut : (names : List (List (List ℕ))) (zone : Zone) (label : List ℕ) (above : List (List ℕ)) → AreNames names zone.records → IsMissing names (label ∷ above) → cut_of zone (label ∷ above) ≡ cut_of zone above
unfolding cut_of is_cut
no_cut names zone label above n missing =
    let here : (nat_lt (length zone.origin) (length above + 1) && not (is_star label) && has_at zone (label ∷ above) 2) ≡ false =
    ap (λ (b : Bool). nat_lt (length zone.origin) (length above + 1) && not (is_star label) && b) (has_none names zone (label ∷ above) 2 n missing) ∙ and_false (nat_lt (length zone.origin) (length above + 1) && not (is_star label)) in
    ap (λ (b : Bool). option_or (cut_of zone above) (only_if b (label ∷ above))) here ∙ or_none (cut_of zone above)

-- the cut of a name is that of the longest suffix that is there
cut_up : (names : List (List (List ℕ))) (zone : Zone) (name : List (List ℕ)) (k : ℕ) → AreNames names zone.records → k ≤ length name → ((j : ℕ) → j < k → IsMissing names (drop j name)) → cut_of zone name ≡ cut_of zone (drop k name)
cut_up names zone name zero n h missing = refl
cut_up names zone [] (suc k) n h missing = absurd (omega arith)
cut_up names zone (label ∷ above) (suc k) n h missing =
    no_cut names zone label above n (missing 0 (omega arith)) ∙ cut_up names zone above k n (omega arith) (λ j lt. missing (suc j) (omega arith))

cut_root : (zone : Zone) → cut_of zone [] ≡ None
unfolding cut_of
cut_root zone = refl

pub no_cut_at : (names : List (List (List ℕ))) (zone : Zone) (name : List (List ℕ)) → AreNames names zone.records → ((k : ℕ) → k ≤ length name → IsMissing names (drop k name)) → cut_of zone name ≡ None
no_cut_at names zone name n missing =
    cut_up names zone name (length name) n (omega arith) (λ j lt. missing j (omega arith)) ∙ ap (cut_of zone) (drop_all (length name) name (omega arith)) ∙ cut_root zone

-- the number of the cut, by that of the longest suffix
pub cut_is_at : (tree : Tree) (name : List (List ℕ)) (found : Longest) (cut : Option ℕ) → IsTree tree → IsLongest tree.table name found → cut ≡ get_or tree.cuts.items found.number cut → IsCutAt tree.table (cut_of tree.zone name) cut
cut_is_at tree name found cut t l is =
    let rest = drop found.above name in
    let of = named_as tree.table found.number rest l.is.is in
    let lt : found.number < length tree.cuts.items = omega (arith, t.cuts.as_many, inside tree.table found.number rest l.is.is) in
    let at = t.cuts.each found.number of.name cut of.is (slice_get-get_or tree.cuts.items found.number cut lt ∙ ap Some (sym is)) in
    let here = cut_moves tree.table (cut_of tree.zone of.name) (cut_of tree.zone rest) cut at (cut_case tree.zone of.name rest of.same) in
    subst (λ (o : Option (List (List ℕ))). IsCutAt tree.table o cut) (sym (cut_up tree.table tree.zone name found.above t.names l.inside l.longer)) here

pub no_cut_by : (names : List (List (List ℕ))) (o : Option (List (List ℕ))) (cut : Option ℕ) → IsCutAt names o cut → cut ≡ None → o ≡ None
no_cut_by names None cut c e = refl
no_cut_by names (Some a) None c e = absurd c
no_cut_by names (Some a) (Some i) c e = absurd cc

-- the cut of a number
pub record CutOf (names : List (List (List ℕ))) (o : Option (List (List ℕ))) (i : ℕ) : Type 0 where
  pub name : List (List ℕ)
  pub is : o ≡ Some name
  pub named : IsNamed names i name

pub cut_by : (names : List (List (List ℕ))) (o : Option (List (List ℕ))) (cut : Option ℕ) (i : ℕ) → IsCutAt names o cut → cut ≡ Some i → CutOf names o i
cut_by names None None i c e = absurd cc
cut_by names None (Some j) i c e = absurd c
cut_by names (Some a) None i c e = absurd c
cut_by names (Some a) (Some j) i c e = let same : j ≡ i = cc in record { name = a; is = refl; named = subst (λ (k : ℕ). IsNamed names k a) same c }

-- a cut is a suffix of the name
record Suffix (name cut : List (List ℕ)) : Type 0 where
  pub inside : length cut ≤ length name
  pub is : cut ≡ drop (length name - length cut) name

suffix_more : (label : List ℕ) (above cut : List (List ℕ)) → Suffix above cut → Suffix (label ∷ above) cut
suffix_more label above cut s =
    let n : suc (length above - length cut) ≡ length (label ∷ above) - length cut = omega (arith, s.inside) in record {
      inside = omega (arith, s.inside);
      is = s.is ∙ ap (λ (k : ℕ). drop k (label ∷ above)) n;
    }

suffix_self : (name cut : List (List ℕ)) → name ≡ cut → Suffix name cut
suffix_self name cut e =
    let zero_off : 0 ≡ length name - length cut = omega (arith, ap length e) in record {
      inside = omega (arith, ap length e);
      is = sym e ∙ ap (λ (k : ℕ). drop k name) zero_off;
    }

suffix_or : (zone : Zone) (label : List ℕ) (above cut : List (List ℕ)) (o : Option (List (List ℕ))) (b : Bool) → ((c : List (List ℕ)) → o ≡ Some c → Suffix above c) → option_or o (only_if b (label ∷ above)) ≡ Some cut
    → Suffix (label ∷ above) cut
suffix_or zone label above cut (Some c) b up e = let same : c ≡ cut = cc in suffix_more label above cut (up cut (ap Some same))
suffix_or zone label above cut None true up e = suffix_self (label ∷ above) cut (let same : label ∷ above ≡ cut = cc in same)
suffix_or zone label above cut None false up e = absurd cc

cut_suffix : (zone : Zone) (name cut : List (List ℕ)) → cut_of zone name ≡ Some cut → Suffix name cut
unfolding cut_of
cut_suffix zone [] cut e = absurd cc
cut_suffix zone (label ∷ above) cut e = suffix_or zone label above cut (cut_of zone above) (is_cut zone label above) (λ c is. cut_suffix zone above c is) e

labels_are : (names : List (List (List ℕ))) (nodes : List Node) (i : ℕ) (name : List (List ℕ)) (node : Node) → IsShape names nodes → IsNamed names i name → node ≡ get_or nodes i node → node.labels ≡ length name
labels_are names nodes i name node s n is =
    let of = named_as names i name n in
    let lt : i < length nodes = omega (arith, s.as_many, inside names i name n) in
    let at = s.each i of.name node of.is (slice_get-get_or nodes i node lt ∙ ap Some (sym is)) in
    at.labels ∙ length_case of.name name of.same

pub cut_labels : (tree : Tree) (name : List (List ℕ)) (i : ℕ) (node : Node) (c : CutOf tree.table (cut_of tree.zone name) i) → IsTree tree → node ≡ get_or tree.nodes.items i node → node.labels ≤ length name
cut_labels tree name i node c t is =
    let many = labels_are tree.table tree.nodes.items i c.name node t.shape c.named is in
    omega (arith, many, (cut_suffix tree.zone name c.name c.is).inside)

pub cut_name : (tree : Tree) (name : List (List ℕ)) (i : ℕ) (node : Node) (c : CutOf tree.table (cut_of tree.zone name) i) → IsTree tree → node ≡ get_or tree.nodes.items i node
    → Some (drop (length name - node.labels) name) ≡ cut_of tree.zone name
cut_name tree name i node c t is =
    let many = labels_are tree.table tree.nodes.items i c.name node t.shape c.named is in
    let suffix = cut_suffix tree.zone name c.name c.is in
    ap (λ (n : ℕ). Some (drop (length name - n) name)) many ∙ ap Some (sym suffix.is) ∙ sym c.is

-- what a number of the table gives, by its records
pub set_of_number : (tree : Tree) (name : List (List ℕ)) (i : ℕ) (set : List ℕ) → IsTree tree → IsNamed tree.table i name → set ≡ get_or tree.sets.items i set → picked tree.zone.records set ≡ filter (is_at name) tree.zone.records
set_of_number tree name i set t n is = node_is tree.table tree.zone.records tree.sets.items i name set t.sets n is

-- names that are there exist, and no others
pub named_in : (names : List (List (List ℕ))) (zone : Zone) (i : ℕ) (name : List (List ℕ)) → AreNames names zone.records → IsNamed names i name → exists_in zone name ≡ true
unfolding exists_in exists_among
named_in names zone i name n at = n.stands i name at

pub missing_in : (names : List (List (List ℕ))) (zone : Zone) (name : List (List ℕ)) → AreNames names zone.records → IsMissing names name → exists_in zone name ≡ false
unfolding exists_in exists_among
missing_in names zone name n missing = n.missing name missing

-- closest enclosers
encloser_past : (names : List (List (List ℕ))) (zone : Zone) (name : List (List ℕ)) (k : ℕ) → AreNames names zone.records → k ≤ length name → ((j : ℕ) → j < k → IsMissing names (drop j name)) → encloser zone name ≡ encloser zone (drop k name)
encloser_past names zone name zero n h missing = refl
encloser_past names zone [] (suc k) n h missing = absurd (omega arith)
encloser_past names zone (label ∷ above) (suc k) n h missing =
    encloser_up zone (label ∷ above) (omega arith) (missing_in names zone (label ∷ above) n (missing 0 (omega arith))) ∙ encloser_past names zone above k n (omega arith) (λ j lt. missing (suc j) (omega arith))

pub encloser_at : (tree : Tree) (name : List (List ℕ)) (found : Longest) → IsTree tree → IsLongest tree.table name found → encloser tree.zone name ≡ Some (drop found.above name)
encloser_at tree name found t l =
    encloser_past tree.table tree.zone name found.above t.names l.inside l.longer
    ∙ encloser_here tree.zone (drop found.above name) (named_in tree.table tree.zone found.number (drop found.above name) t.names l.is.is)

pub encloser_none : (names : List (List (List ℕ))) (zone : Zone) (name : List (List ℕ)) → AreNames names zone.records → ((k : ℕ) → k ≤ length name → IsMissing names (drop k name)) → encloser zone name ≡ None
encloser_none names zone name n missing =
    let root = drop_all (length name) name (omega arith) in
    encloser_past names zone name (length name) n (omega arith) (λ j lt. missing j (omega arith)) ∙ ap (encloser zone) root
    ∙ no_encloser zone [] (omega arith) (missing_in names zone [] n (subst (λ (rest : List (List ℕ)). IsMissing names rest) root (missing (length name) (omega arith))))

-- nothing of the name is there
pub finds_nothing : (names : List (List (List ℕ))) (zone : Zone) (name : List (List ℕ)) (kind : ℕ) (find : Find) (old : List RecordData) → AreNames names zone.records
    → ((k : ℕ) → k ≤ length name → IsMissing names (drop k name)) → find.absent ≡ true → find.target ≡ None → Finds (found zone name kind) find old old
finds_nothing names zone name kind find old n missing absent target =
    finds_none zone name kind find old (missing_in names zone name n (missing 0 (omega arith))) (ap (λ (o : Option (List (List ℕ))). where_it_exists zone (star_of o)) (encloser_none names zone name n missing)) absent target

pub steps_nothing : (names : List (List (List ℕ))) (zone : Zone) (name : List (List ℕ)) (kind : ℕ) (find : Find) (old : List RecordData) → AreNames names zone.records
    → ((k : ℕ) → k ≤ length name → IsMissing names (drop k name)) → find.absent ≡ true → find.target ≡ None → Steps (sought zone name kind) (step.Found find) old old
steps_nothing names zone name kind find old n missing absent target =
    steps_found zone name kind find old old (no_cut_at names zone name n missing) (finds_nothing names zone name kind find old n missing absent target)

-- the name itself is there
pub finds_itself : (tree : Tree) (name : List (List ℕ)) (kind : ℕ) (longest : Longest) (set : List ℕ) → IsTree tree → IsLongest tree.table name longest → longest.above ≡ 0 → set ≡ get_or tree.sets.items longest.number set
    → found_in (picked tree.zone.records set) kind ≡ found tree.zone name kind
finds_itself tree name kind longest set t l here is =
    let named : IsNamed tree.table longest.number name = subst (λ (k : ℕ). IsNamed tree.table longest.number (drop k name)) here l.is.is in
    found_in_at tree.zone name kind (picked tree.zone.records set) (set_of_number tree name longest.number set t named is)
    ∙ sym (finds_here tree.zone name kind (named_in tree.table tree.zone longest.number name t.names named))

star_low : (a b : List (List ℕ)) → lowered a ≡ lowered b → lowered (star_at a) ≡ lowered (star_at b)
star_low a b e = λ j. map to_ascii_lowercase (42 ∷ []) ∷ e j

star_moves : (names : List (List (List ℕ))) (star : Option ℕ) (a b : List (List ℕ)) → lowered a ≡ lowered b → IsStarOf names star a → IsStarOf names star b
star_moves names None a b e s = missing_case names (star_at a) (star_at b) (star_low a b e) s
star_moves names (Some star) a b e s = (named_case names star (star_at a) (star_at b) (star_low a b e) s.0, omega (arith, s.1, wire_case a b e))

no_star_if : (zone : Zone) (b : Bool) (star : List (List ℕ)) → exists_in zone star ≡ false → where_it_exists zone (only_if b star) ≡ None
no_star_if zone true star e = ap (λ (b : Bool). only_if b star) e
no_star_if zone false star e = refl

no_star : (zone : Zone) (top : List (List ℕ)) → exists_in zone (star_at top) ≡ false → where_it_exists zone (star_of (Some top)) ≡ None
no_star zone top e = no_star_if zone (nat_le (wire_length top + 2) 255) (star_at top) e

some_star : (top : List (List ℕ)) → wire_length top + 2 ≤ 255 → star_of (Some top) ≡ Some (star_at top)
some_star top h = let fits : nat_le (wire_length top + 2) 255 ≡ true = search rules in ap (λ (b : Bool). only_if b (star_at top)) fits

-- what a node tells of the wildcard, in the case of the name that is asked for
star_here : (tree : Tree) (name : List (List ℕ)) (longest : Longest) (node : Node) → IsTree tree → IsLongest tree.table name longest → node ≡ get_or tree.nodes.items longest.number node
    → IsStarOf tree.table node.star (drop longest.above name)
star_here tree name longest node t l is =
    let rest = drop longest.above name in
    let of = named_as tree.table longest.number rest l.is.is in
    let lt : longest.number < length tree.nodes.items = omega (arith, t.shape.as_many, inside tree.table longest.number rest l.is.is) in
    let at = t.shape.each longest.number of.name node of.is (slice_get-get_or tree.nodes.items longest.number node lt ∙ ap Some (sym is)) in
    star_moves tree.table node.star of.name rest of.same at.star

pub finds_no_star : (tree : Tree) (name : List (List ℕ)) (kind : ℕ) (longest : Longest) (node : Node) (find : Find) (old : List RecordData) → IsTree tree → IsLongest tree.table name longest → (longest.above ≡ 0 → ⊥)
    → node ≡ get_or tree.nodes.items longest.number node → node.star ≡ None → find.absent ≡ true → find.target ≡ None → Finds (found tree.zone name kind) find old old
finds_no_star tree name kind longest node find old t l below is none absent target =
    let missing = subst (λ (o : Option ℕ). IsStarOf tree.table o (drop longest.above name)) none (star_here tree name longest node t l is) in
    finds_none tree.zone name kind find old (missing_in tree.table tree.zone name t.names (l.longer 0 (omega arith)))
    (ap (λ (o : Option (List (List ℕ))). where_it_exists tree.zone (star_of o)) (encloser_at tree name longest t l)
    ∙ no_star tree.zone (drop longest.above name) (missing_in tree.table tree.zone (star_at (drop longest.above name)) t.names missing)) absent target

pub star_number : (tree : Tree) (name : List (List ℕ)) (longest : Longest) (node : Node) (star : ℕ) → IsTree tree → IsLongest tree.table name longest → node ≡ get_or tree.nodes.items longest.number node → node.star ≡ Some star
    → IsStarOf tree.table (Some star) (drop longest.above name)
star_number tree name longest node star t l is some = subst (λ (o : Option ℕ). IsStarOf tree.table o (drop longest.above name)) some (star_here tree name longest node t l is)

pub finds_star : (tree : Tree) (name : List (List ℕ)) (kind : ℕ) (longest : Longest) (star : ℕ) (set : List ℕ) (find : Find) (old new some : List RecordData) → IsTree tree → IsLongest tree.table name longest → (longest.above ≡ 0 → ⊥)
    → IsStarOf tree.table (Some star) (drop longest.above name) → set ≡ get_or tree.sets.items star set → Finds (found_in (picked tree.zone.records set) kind) find [] some → new ≡ old ++ map (with_owner name) some
    → Finds (found tree.zone name kind) find old new
finds_star tree name kind longest star set find old new some t l below s is f e =
    let rest = drop longest.above name in
    let at = set_of_number tree (star_at rest) star set t s.0 is in
    let finds = subst (λ (what : _). Finds what find [] some) (found_in_at tree.zone (star_at rest) kind (picked tree.zone.records set) at) f in
    finds_wild tree.zone name (star_at rest) kind find old new some (missing_in tree.table tree.zone name t.names (l.longer 0 (omega arith))) (ap star_of (encloser_at tree name longest t l) ∙ some_star rest s.1)
    (named_in tree.table tree.zone star (star_at rest) t.names s.0) finds e

pub finds_star_as : (tree : Tree) (name : List (List ℕ)) (kind : ℕ) (longest : Longest) (star : ℕ) (set : List ℕ) (find : Find) (old new : List RecordData) → IsTree tree → IsLongest tree.table name longest → (longest.above ≡ 0 → ⊥)
    → IsStarOf tree.table (Some star) (drop longest.above name) → set ≡ get_or tree.sets.items star set → Finds (owned_by name (found_in (picked tree.zone.records set) kind)) find old new → Finds (found tree.zone name kind) find old new
finds_star_as tree name kind longest star set find old new t l below s is f =
    finds_star tree name kind longest star set find old new (found_in (picked tree.zone.records set) kind).records t l below s is (record { absent = f.absent; target = f.target; records = refl }) f.records

-- the cuts of one name more
cut_joins : (names : List (List (List ℕ))) (o : Option (List (List ℕ))) (above : Option ℕ) (b : Bool) (i : ℕ) (name : List (List ℕ)) → IsCutAt names o above → IsNamed names i name
    → IsCutAt names (option_or o (only_if b name)) (option_or above (only_if b i))
cut_joins names None None true i name c n = n
cut_joins names None None false i name c n = tt
cut_joins names None (Some a) b i name c n = absurd c
cut_joins names (Some x) None b i name c n = absurd c
cut_joins names (Some x) (Some a) b i name c n = c

above_lt : (names : List (List (List ℕ))) (name : List (List ℕ)) (node : Node) (i count : ℕ) → IsNodeOf names i name node → i ≡ count → 0 < node.labels → node.above < count
above_lt names [] node i count n same some = absurd (omega (arith, n.labels))
above_lt names (label ∷ rest) node i count n same some = omega (arith, n.above.1, same)

lt_zero : (n : ℕ) → nat_lt n 0 ≡ false
lt_zero n = search rules

pub above_inside : (names : List (List (List ℕ))) (nodes : List Node) (i count : ℕ) (node : Node) → IsShape names nodes → i < length names → slice_get nodes i ≡ Some node → i ≡ count → 0 < node.labels → node.above < count
above_inside names nodes i count node s lt at same some =
    let of = there names i lt in
    above_lt names of.item node i count (s.each i of.item node of.is at) same some

-- the cut of a name by that of the one above
cut_there : (names : List (List (List ℕ))) (zone : Zone) (i : ℕ) (name : List (List ℕ)) (node : Node) (cuts : List (Option ℕ)) (above cut : Option ℕ) (has : Bool) → IsNodeOf names i name node → AreCuts names zone cuts i → slice_get names i ≡ Some name
    → (node.labels ≡ 0 → above ≡ None) → (0 < node.labels → slice_get cuts node.above ≡ Some above) → has ≡ has_at zone name 2
    → cut ≡ option_or above (only_if (nat_lt (length zone.origin) node.labels && not node.is_wild && has) i) → IsCutAt names (cut_of zone name) cut
unfolding cut_of is_cut
cut_there names zone i [] node cuts above cut has n c at root below is e =
    let none = root n.labels in
    let few : nat_lt (length zone.origin) node.labels ≡ false = ap (λ (k : ℕ). nat_lt (length zone.origin) k) n.labels ∙ lt_zero (length zone.origin) in
    let no : cut ≡ None = e ∙ (λ j. option_or (none j) (only_if (few j && not node.is_wild && has) i)) in
    subst (λ (o : Option ℕ). IsCutAt names None o) (sym no) tt
cut_there names zone i (label ∷ rest) node cuts above cut has n c at root below is e =
    let of = named_as names node.above rest n.above.0 in
    let up = c.each node.above of.name above of.is (below (omega (arith, n.labels))) in
    let here = cut_moves names (cut_of zone of.name) (cut_of zone rest) above up (cut_case zone of.name rest of.same) in
    let count : node.labels ≡ length rest + 1 = omega (arith, n.labels) in
    let same : (nat_lt (length zone.origin) node.labels && not node.is_wild && has) ≡ (nat_lt (length zone.origin) (length rest + 1) && not (is_star label) && has_at zone (label ∷ rest) 2) =
    λ j. nat_lt (length zone.origin) (count j) && not (n.wild j) && is j in
    subst (λ (o : Option ℕ). IsCutAt names (cut_of zone (label ∷ rest)) o) (sym (e ∙ ap (λ (b : Bool). option_or above (only_if b i)) same))
    (cut_joins names (cut_of zone rest) above (is_cut zone label rest) i (label ∷ rest) here (named_from names i (label ∷ rest) (label ∷ rest) at refl))

pub cuts_more : (names : List (List (List ℕ))) (zone : Zone) (nodes : List Node) (sets : List (List ℕ)) (cuts : List (Option ℕ)) (i : ℕ) (node : Node) (set : List ℕ) (above cut : Option ℕ) (has : Bool) → IsShape names nodes
    → AreSets names zone.records sets (length zone.records) → AreCuts names zone cuts i → i < length names → slice_get nodes i ≡ Some node → set ≡ get_or sets i set → (node.labels ≡ 0 → above ≡ None)
    → (0 < node.labels → slice_get cuts node.above ≡ Some above) → has ≡ list_any (is_asked 2) (picked zone.records set) → cut ≡ option_or above (only_if (nat_lt (length zone.origin) node.labels && not node.is_wild && has) i)
    → AreCuts names zone (cuts ++ cut ∷ []) (i + 1)
cuts_more names zone nodes sets cuts i node set above cut has shape s c lt node_at set_is root below has_is e = record {
  as_many = omega (arith, c.as_many, length-append cuts (cut ∷ []));
  each = λ j name of at in_cuts. elim (get_either cuts cut of j in_cuts) [
    | inl old ↦ c.each j name of at old
    | inr new ↦
        let here : slice_get names i ≡ Some name = subst (λ (k : ℕ). slice_get names k ≡ Some name) (new.0 ∙ c.as_many) at in
        let named = named_from names i name name here refl in
        let has_here = has_is ∙ has_in_at zone name 2 (picked zone.records set) (node_is names zone.records sets i name set s named set_is) in
        subst (λ (o : Option ℕ). IsCutAt names (cut_of zone name) o) new.1 (cut_there names zone i name node cuts above cut has (shape.each i name node here node_at) c here root below has_here e)
  ];
}

pub longest_inside : (names : List (List (List ℕ))) (name : List (List ℕ)) (longest : Longest) → IsLongest names name longest → longest.number < length names
longest_inside names name longest l = inside names longest.number (drop longest.above name) l.is.is
