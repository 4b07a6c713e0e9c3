-- Reading a name character by character.
use Rattle.std.proofs.Common.{◌≡◌, ◌≢◌, ℕ, zero, suc, ◌+◌, ◌<◌, ◌≤◌, true, false, eqb, ltb, List, [], ◌∷◌, ◌++◌, length, take, drop, get_or, set, Option, Some, None, option_map, option_and_then, Result, Ok, Err, refl, sym, ap, subst, ◌∙◌, append_assoc, arith, length-append}
use Rattle.std.proofs.lemmas.List.{append-nil, drop_more, length-drop, length-take-le, nil_from_length, set_at, take-append-drop, take_all, take_at}
use Rattle.std.proofs.lemmas.Bool.{ltb-true, and_parts, eq-eqb, ne_eqb, false_from_ne_true}
use Rattle.std.specs.List.{AllByRecursion}
use Rattle.std.specs.Result.{OnErr}
use Rattle.dns_names.specs.Name.{IsLabel, IsName, IsWire, labels_of, spelled, wire_length}
use Rattle.dns_names.specs.NameLaws.{IsName-push, is_wire, length-spelled, spelled-append, view_of, wire_length-push}
use Rattle.dns_names.specs.declared.name_read.NameFault.{NameFault}
use Rattle.dns_names.specs.declared.name_read.NameFault.TheVariants.{Bad, NoMemory}
use Rattle.dns_names.specs.NameText.{Character, dot, byte, byte_at, byte_then, characters, byte_first, parted, completed, placed, is_label, are_labels, is_name, if_name, is_dot, name_of, Fits, IsRun, ReadsName, Completes}
use Rattle.dns_names.specs.NameTextLaws.{completed_end, name_test}

-- what holds anyway holds on a refusal
pub on_err : {A E : Type 0} → (r : Result A E) → {P : Type 0} → P → OnErr r P
on_err (Ok x) p = tt
on_err (Err e) p = p

-- bytes at the front of the first label
abbrev pub bytes_first : List ℕ → List (List ℕ) → List (List ℕ)
bytes_first [] labels = labels
bytes_first (value ∷ label) labels = byte_first value (bytes_first label labels)

bytes_first-push : (label : List ℕ) (value : ℕ) (labels : List (List ℕ)) → bytes_first (label ++ value ∷ []) labels ≡ bytes_first label (byte_first value labels)
bytes_first-push [] value labels = refl
bytes_first-push (x ∷ label) value labels = ap (byte_first x) (bytes_first-push label value labels)

bytes_first-end : (label : List ℕ) (labels : List (List ℕ)) → bytes_first label ([] ∷ labels) ≡ label ∷ labels
bytes_first-end [] labels = refl
bytes_first-end (x ∷ label) labels = ap (byte_first x) (bytes_first-end label labels)

-- the labels that were read, the bytes of the next one, and what the rest of the text adds
abbrev pub labels_with : List (List ℕ) → List ℕ → List ℕ → Option (List (List ℕ))
labels_with name label rest = option_map (λ others. name ++ bytes_first label (parted others)) (characters 0 rest)

pub starts : (text : List ℕ) (name : List (List ℕ)) (label : List ℕ) → name ≡ [] → label ≡ [] → labels_with name label text ≡ labels_with [] [] text
starts text name label n l = λ i. labels_with (n i) (l i) text

at_dot : (name : List (List ℕ)) (label : List ℕ) (others : Option (List Character))
    → option_map (λ cs. name ++ bytes_first label (parted cs)) (option_map (λ cs. dot ∷ cs) others) ≡ option_map (λ cs. (name ++ label ∷ []) ++ parted cs) others
at_dot name label None = refl
at_dot name label (Some cs) =
    ap Some (ap (λ (t : List (List ℕ)). name ++ t) (bytes_first-end label (parted cs)) ∙ sym (append_assoc name (label ∷ []) (parted cs)))

at_byte : (name : List (List ℕ)) (label : List ℕ) (value : ℕ) (others : Option (List Character))
    → option_map (λ cs. name ++ bytes_first label (parted cs)) (option_map (λ cs. byte value ∷ cs) others) ≡ option_map (λ cs. name ++ bytes_first (label ++ value ∷ []) (parted cs)) others
at_byte name label value None = refl
at_byte name label value (Some cs) = ap Some (ap (λ (t : List (List ℕ)). name ++ t) (sym (bytes_first-push label value (parted cs))))

characters-skip : (skip : ℕ) (text : List ℕ) → characters skip text ≡ characters 0 (drop skip text)
characters-skip zero text = refl
characters-skip (suc skip) [] = refl
characters-skip (suc skip) (x ∷ text) = characters-skip skip text

-- behind a dot
pub after_dot : (whole : Option (List (List ℕ))) (name new : List (List ℕ)) (label emptied rest behind : List ℕ) (first : ℕ) → labels_with name label rest ≡ whole
    → rest ≡ first ∷ behind → first ≡ 46 → new ≡ name ++ label ∷ [] → emptied ≡ [] → labels_with new emptied behind ≡ whole
after_dot whole name new label emptied rest behind first says is e n l =
    let test : eqb first 46 ≡ true = eq-eqb first 46 e in
    let step : characters 0 rest ≡ option_map (λ cs. dot ∷ cs) (characters 0 behind) = ap (characters 0) is ∙ rw test refl in
    (λ i. labels_with (n i) (l i) behind) ∙ sym (at_dot name label (characters 0 behind))
    ∙ ap (option_map (λ cs. name ++ bytes_first label (parted cs))) (sym step) ∙ says

-- behind a byte
byte_step : (rest behind : List ℕ) (first : ℕ) → rest ≡ first ∷ behind → first ≢ 46 → characters 0 rest ≡ byte_then (byte_at first behind) (λ skip. characters skip behind)
byte_step rest behind first is ne =
    let test : eqb first 46 ≡ false = ne_eqb first 46 ne in ap (characters 0) is ∙ rw test refl

pub after_byte : (whole : Option (List (List ℕ))) (name : List (List ℕ)) (label more rest behind after : List ℕ) (first value size : ℕ) → labels_with name label rest ≡ whole
    → rest ≡ first ∷ behind → first ≢ 46 → byte_at first behind ≡ Some (value, size) → more ≡ label ++ value ∷ [] → after ≡ drop size behind → labels_with name more after ≡ whole
after_byte whole name label more rest behind after first value size says is ne found m a =
    let step : characters 0 rest ≡ option_map (λ cs. byte value ∷ cs) (characters 0 (drop size behind)) =
    byte_step rest behind first is ne ∙ ap (λ o. byte_then o (λ skip. characters skip behind)) found ∙ ap (option_map (λ cs. byte value ∷ cs)) (characters-skip size behind) in
    (λ i. labels_with name (m i) (a i)) ∙ sym (at_byte name label value (characters 0 (drop size behind)))
    ∙ ap (option_map (λ cs. name ++ bytes_first label (parted cs))) (sym step) ∙ says

-- behind a run of bytes that stand for themselves
after_run : (size : ℕ) (rest label : List ℕ) (name : List (List ℕ)) → IsRun size rest → size ≤ length rest → labels_with name label rest ≡ labels_with name (label ++ take size rest) (drop size rest)
after_run zero rest label name run inside = ap (λ (l : List ℕ). labels_with name l rest) (sym (append-nil label))
after_run (suc size) [] label name run inside = absurd (omega (arith, inside))
after_run (suc size) (x ∷ rest) label name run inside =
    let here = run 0 (omega arith) in
    let found : byte_at x rest ≡ Some (x, 0) = rw (ne_eqb x 92 here.1) refl in
    sym (after_byte (labels_with name label (x ∷ rest)) name label (label ++ x ∷ []) (x ∷ rest) rest rest x x 0 refl refl here.0 found refl refl)
    ∙ after_run size rest (label ++ x ∷ []) name (λ k lt. run (suc k) (omega (arith, lt))) (omega (arith, inside))
    ∙ ap (λ (l : List ℕ). labels_with name l (drop size rest)) (append_assoc label (x ∷ []) (take size rest))

run_says : (whole : Option (List (List ℕ))) (size : ℕ) (rest : List ℕ) (name : List (List ℕ)) → labels_with name [] rest ≡ whole → IsRun size rest → size ≤ length rest → labels_with name (take size rest) (drop size rest) ≡ whole
run_says whole size rest name says run inside = sym (after_run size rest [] name run inside) ∙ says

-- behind a run and a dot
pub run_dot : (whole : Option (List (List ℕ))) (name new : List (List ℕ)) (label rest behind : List ℕ) (size : ℕ) → labels_with name [] rest ≡ whole → IsRun size rest → size < length rest
    → get_or rest size 0 ≡ 46 → label ≡ take size rest → new ≡ name ++ label ∷ [] → behind ≡ drop (size + 1) rest → labels_with new [] behind ≡ whole
run_dot whole name new label rest behind size says run inside stop l n b =
    after_dot whole name new (take size rest) [] (drop size rest) behind (get_or rest size 0) (run_says whole size rest name says run (omega (arith, inside)))
    (drop_more rest size 0 inside ∙ ap (λ (t : List ℕ). get_or rest size 0 ∷ t) (sym b)) stop (n ∙ ap (λ (t : List ℕ). name ++ t ∷ []) l) refl

-- a name, by the labels of its text
abbrev pub name_by : List (List ℕ) → Option (List (List ℕ)) → Option (List (List ℕ))
name_by origin None = None
name_by origin (Some all) = if_name (placed origin all)

pub by_labels : (text : List ℕ) (origin : List (List ℕ)) → is_dot text ≡ false → name_of text origin ≡ name_by origin (labels_with [] [] text)
unfolding name_of
by_labels text origin no_dot = rw no_dot (named (characters 0 text))
  where
    named : (o : Option (List Character)) → option_and_then (λ all. if_name (placed origin (parted all))) o ≡ name_by origin (option_map (λ cs. parted cs) o)
    named None = refl
    named (Some cs) = refl

-- what stands where so much was read
pub finds : (text rest label : List ℕ) (name origin : List (List ℕ)) → is_dot text ≡ false → labels_with name label rest ≡ labels_with [] [] text
    → name_of text origin ≡ name_by origin (labels_with name label rest)
finds text rest label name origin no_dot says = by_labels text origin no_dot ∙ ap (name_by origin) (sym says)

-- a backslash that means nothing
pub bad_byte : (text rest label behind : List ℕ) (name origin : List (List ℕ)) (first : ℕ) → is_dot text ≡ false → labels_with name label rest ≡ labels_with [] [] text
    → rest ≡ first ∷ behind → first ≢ 46 → byte_at first behind ≡ None → name_of text origin ≡ None
bad_byte text rest label behind name origin first no_dot says is ne none =
    let stops : characters 0 rest ≡ None = byte_step rest behind first is ne ∙ ap (λ o. byte_then o (λ skip. characters skip behind)) none in
    finds text rest label name origin no_dot says ∙ ap (λ o. name_by origin (option_map (λ cs. name ++ bytes_first label (parted cs)) o)) stops

-- no name has a label that doesn't fit
test_labels : (name : List (List ℕ)) (label : List ℕ) (more : List (List ℕ)) → are_labels (name ++ label ∷ more) ≡ true → is_label label ≡ true
test_labels [] label more e = (and_parts (is_label label) (are_labels more) e).0
test_labels (first ∷ name) label more e = test_labels name label more (and_parts (is_label first) (are_labels (name ++ label ∷ more)) e).1

longer : (name : List (List ℕ)) (label : List ℕ) (more : List (List ℕ)) → wire_length name + length label + wire_length more ≡ wire_length (name ++ label ∷ more)
longer [] label more = omega arith
longer (first ∷ name) label more = omega (arith, longer name label more)

some_length : (more : List (List ℕ)) → 1 ≤ wire_length more
some_length [] = omega arith
some_length (label ∷ more) = omega (arith, some_length more)

test_fits : (name : List (List ℕ)) (label : List ℕ) (more : List (List ℕ)) → is_name (name ++ label ∷ more) ≡ true → Fits name label
test_fits name label more e =
    let both = and_parts (are_labels (name ++ label ∷ more)) (ltb (wire_length (name ++ label ∷ more)) 256) e in
    let sized = test_labels name label more both.0 in
    let parts = and_parts (ltb 0 (length label)) (ltb (length label) 64) sized in
    let low = ltb-true 0 (length label) parts.0 in
    let high = ltb-true (length label) 64 parts.1 in
    let short = ltb-true (wire_length (name ++ label ∷ more)) 256 both.1 in
    ((omega arith, omega arith), omega (arith, longer name label more, some_length more))

no_room : (name : List (List ℕ)) (label : List ℕ) (more : List (List ℕ)) → (Fits name label → ⊥) → if_name (name ++ label ∷ more) ≡ None
no_room name label more h =
    let test : is_name (name ++ label ∷ more) ≡ false = false_from_ne_true (is_name (name ++ label ∷ more)) (λ e. h (test_fits name label more e)) in
    rw test refl

too_long : (name : List (List ℕ)) → 255 < wire_length name → if_name name ≡ None
too_long name h =
    let test : is_name name ≡ false = false_from_ne_true (is_name name) (λ e.
    let short = ltb-true (wire_length name) 256 (and_parts (are_labels name) (ltb (wire_length name) 256) e).1 in absurd (omega arith)) in
    rw test refl

-- a label with others behind it is in its place
behind_name : (origin name : List (List ℕ)) (label next : List ℕ) (more : List (List ℕ)) → AllByRecursion IsLabel name
    → completed origin (name ++ label ∷ next ∷ more) ≡ name ++ label ∷ completed origin (next ∷ more)
behind_name origin [] [] next more h = refl
behind_name origin [] (x ∷ label) next more h = refl
behind_name origin ([] ∷ name) label next more h = absurd (omega (arith, h.0.0))
behind_name origin ((x ∷ first) ∷ name) label next more h = ap (λ (t : List (List ℕ)). (x ∷ first) ∷ t) (behind_name origin name label next more h.1)

placed_name : (origin name : List (List ℕ)) (label next : List ℕ) (more : List (List ℕ)) → AllByRecursion IsLabel name
    → placed origin (name ++ label ∷ next ∷ more) ≡ name ++ label ∷ completed origin (next ∷ more)
placed_name origin [] label next more h = refl
placed_name origin (first ∷ name) label next more h = ap (λ (t : List (List ℕ)). first ∷ t) (behind_name origin name label next more h.1)

-- the labels of characters are one or more
record Some1 (labels : List (List ℕ)) : Type 0 where
  first : List ℕ
  others : List (List ℕ)
  are : labels ≡ first ∷ others

one_or_more : (cs : List Character) → Some1 (parted cs)
one_or_more [] = record { first = []; others = []; are = refl }
one_or_more (dot ∷ cs) = record { first = []; others = parted cs; are = refl }
one_or_more (byte value ∷ cs) =
    let more = one_or_more cs in
    record { first = value ∷ more.first; others = more.others; are = ap (byte_first value) more.are }

-- a label before a dot that doesn't fit
misfit : (name origin : List (List ℕ)) (label : List ℕ) (cs : List Character) → AllByRecursion IsLabel name → (Fits name label → ⊥)
    → if_name (placed origin (name ++ label ∷ parted cs)) ≡ None
misfit name origin label cs each h =
    let more = one_or_more cs in
    ap (λ (t : List (List ℕ)). if_name (placed origin (name ++ label ∷ t))) more.are
    ∙ ap if_name (placed_name origin name label more.first more.others each)
    ∙ no_room name label (completed origin (more.first ∷ more.others)) h

misfits : (name origin : List (List ℕ)) (label : List ℕ) (others : Option (List Character)) → AllByRecursion IsLabel name → (Fits name label → ⊥)
    → name_by origin (option_map (λ cs. name ++ bytes_first label (parted cs)) (option_map (λ cs. dot ∷ cs) others)) ≡ None
misfits name origin label None each h = refl
misfits name origin label (Some cs) each h =
    ap (λ (t : List (List ℕ)). if_name (placed origin (name ++ t))) (bytes_first-end label (parted cs)) ∙ misfit name origin label cs each h

pub bad_label : (text rest label behind : List ℕ) (name origin : List (List ℕ)) (first : ℕ) → is_dot text ≡ false → labels_with name label rest ≡ labels_with [] [] text
    → rest ≡ first ∷ behind → first ≡ 46 → IsName name → (Fits name label → ⊥) → name_of text origin ≡ None
bad_label text rest label behind name origin first no_dot says is e n h =
    let test : eqb first 46 ≡ true = eq-eqb first 46 e in
    let step : characters 0 rest ≡ option_map (λ cs. dot ∷ cs) (characters 0 behind) = ap (characters 0) is ∙ rw test refl in
    finds text rest label name origin no_dot says
    ∙ ap (λ o. name_by origin (option_map (λ cs. name ++ bytes_first label (parted cs)) o)) step
    ∙ misfits name origin label (characters 0 behind) n.each h

-- at the end of the text
pub at_end : (text rest label : List ℕ) (name origin : List (List ℕ)) → is_dot text ≡ false → labels_with name label rest ≡ labels_with [] [] text → length rest ≡ 0
    → if_name (placed origin (name ++ label ∷ [])) ≡ name_of text origin
at_end text rest label name origin no_dot says none =
    let ends : labels_with name label rest ≡ Some (name ++ label ∷ []) =
    ap (labels_with name label) (nil_from_length rest none) ∙ ap (λ (t : List (List ℕ)). Some (name ++ t)) (bytes_first-end label []) in
    sym (finds text rest label name origin no_dot says ∙ ap (name_by origin) ends)

-- a dot ended the text
pub ended : (name origin : List (List ℕ)) (label : List ℕ) → label ≡ [] → IsName name → 1 < wire_length name → if_name (placed origin (name ++ label ∷ [])) ≡ Some name
ended [] origin label e n h = absurd (omega arith)
ended (first ∷ name) origin label e n h =
    ap (λ (l : List ℕ). if_name (first ∷ completed origin (name ++ l ∷ []))) e
    ∙ ap (λ (t : List (List ℕ)). if_name (first ∷ t)) (completed_end origin name n.each.1)
    ∙ name_test (first ∷ name) n

-- the text was empty
pub none_read : (name origin : List (List ℕ)) (label : List ℕ) → label ≡ [] → wire_length name ≤ 1 → if_name (placed origin (name ++ label ∷ [])) ≡ None
none_read [] origin label e h = ap (λ (l : List ℕ). if_name (l ∷ origin)) e ∙ no_room [] [] origin (λ f. absurd (omega (arith, f.0.0)))
none_read (first ∷ name) origin label e h = absurd (omega (arith, some_length name, h))

-- a text that no dot ends
completed_last : (origin name : List (List ℕ)) (label : List ℕ) → AllByRecursion IsLabel name → (length label ≡ 0 → ⊥) → completed origin (name ++ label ∷ []) ≡ name ++ label ∷ origin
completed_last origin [] [] each some = absurd (some refl)
completed_last origin [] (x ∷ label) each some = refl
completed_last origin ([] ∷ name) label each some = absurd (omega (arith, each.0.0))
completed_last origin ((x ∷ first) ∷ name) label each some = ap (λ (t : List (List ℕ)). (x ∷ first) ∷ t) (completed_last origin name label each.1 some)

placed_last : (origin name : List (List ℕ)) (label : List ℕ) → AllByRecursion IsLabel name → (length label ≡ 0 → ⊥) → placed origin (name ++ label ∷ []) ≡ name ++ label ∷ origin
placed_last origin [] label each some = refl
placed_last origin (first ∷ name) label each some = ap (λ (t : List (List ℕ)). first ∷ t) (completed_last origin name label each.1 some)

pub last_misfit : (name origin : List (List ℕ)) (label : List ℕ) → IsName name → (length label ≡ 0 → ⊥) → (Fits name label → ⊥) → if_name (placed origin (name ++ label ∷ [])) ≡ None
last_misfit name origin label n some h = ap if_name (placed_last origin name label n.each some) ∙ no_room name label origin h

pub last_too_long : (name pushed origin : List (List ℕ)) (label : List ℕ) → IsName name → (length label ≡ 0 → ⊥) → pushed ≡ name ++ label ∷ []
    → 256 < wire_length pushed + wire_length origin → if_name (placed origin (name ++ label ∷ [])) ≡ None
last_too_long name pushed origin label n some is long =
    ap if_name (placed_last origin name label n.each some)
    ∙ too_long (name ++ label ∷ origin) (omega (arith, long, ap wire_length is, wire_length-push name label, longer name label origin))

each_label : (name origin : List (List ℕ)) (label : List ℕ) → AllByRecursion IsLabel name → IsLabel label → AllByRecursion IsLabel origin → AllByRecursion IsLabel (name ++ label ∷ origin)
each_label [] origin label each sized others = (sized, others)
each_label (first ∷ name) origin label each sized others = (each.0, each_label name origin label each.1 sized others)

pub last_fits : (name pushed origin made : List (List ℕ)) (label : List ℕ) → IsName name → IsName origin → (length label ≡ 0 → ⊥) → Fits name label → pushed ≡ name ++ label ∷ []
    → wire_length pushed + wire_length origin ≤ 256 → made ≡ pushed ++ origin → if_name (placed origin (name ++ label ∷ [])) ≡ Some made
last_fits name pushed origin made label n o some fits is short all =
    let whole : made ≡ name ++ label ∷ origin = all ∙ ap (λ (t : List (List ℕ)). t ++ origin) is ∙ append_assoc name (label ∷ []) origin in
    ap if_name (placed_last origin name label n.each some)
    ∙ name_test (name ++ label ∷ origin) (record {
      each = each_label name origin label n.each fits.0 o.each;
      short = omega (arith, short, ap wire_length is, wire_length-push name label, longer name label origin);
    })
    ∙ ap Some (sym whole)

-- the text is a dot
pub reads_dot : (text : List ℕ) (origin name : List (List ℕ)) → is_dot text ≡ true → name ≡ [] → name_of text origin ≡ Some name
unfolding name_of
reads_dot text origin name e is = rw e (ap Some (sym is))

-- what the end of the text gives
pub reads_completed : (text : List ℕ) (origin name : List (List ℕ)) (label : List ℕ) (result : Result (List (List ℕ)) NameFault)
    → if_name (placed origin (name ++ label ∷ [])) ≡ name_of text origin → Completes name label origin result → ReadsName text origin result
reads_completed text origin name label (Ok made) e h = sym e ∙ h
reads_completed text origin name label (Err Bad) e h = sym e ∙ h
reads_completed text origin name label (Err NoMemory) e h = h

-- a run that ends the text
pub run_ends : (text rest : List ℕ) (name origin : List (List ℕ)) (size : ℕ) (result : Result (List (List ℕ)) NameFault) → is_dot text ≡ false → labels_with name [] rest ≡ labels_with [] [] text → IsRun size rest
    → size ≡ length rest → Completes name rest origin result → ReadsName text origin result
run_ends text rest name origin size result no_dot says run e h =
    let all : take size rest ≡ rest = take_all size rest (omega (arith, e)) in
    let none : length (drop size rest) ≡ 0 = omega (arith, length-drop size rest, e) in
    reads_completed text origin name rest result
    (ap (λ (l : List ℕ). if_name (placed origin (name ++ l ∷ []))) (sym all) ∙ at_end text (drop size rest) (take size rest) name origin no_dot (run_says (labels_with [] [] text) size rest name says run (omega (arith, e))) none) h

-- a text that was copied behind one byte, of which the labels that were read stand behind their lengths
pub record Filled (wire : List ℕ) (at : ℕ) (rest : List ℕ) (whole : Option (List (List ℕ))) : Type 0 where
  pub name : List (List ℕ)
  pub is_name : IsName name
  pub size : length (spelled name) ≡ at
  pub says : labels_with name [] rest ≡ whole
  pub next : ℕ
  pub tail : List ℕ
  pub wire_is : wire ≡ spelled name ++ next ∷ (rest ++ tail)
  pub room : at + length rest ≤ 254

pub filled_none : (wire old text : List ℕ) → take (length text + 1) wire ≡ take 1 old ++ text → 1 ≤ length old → length text ≤ 254 → Filled wire 0 text (labels_with [] [] text)
filled_none wire [] text is some short = absurd (omega (arith, some))
filled_none wire (x ∷ old) text is some short = record {
  name = [];
  is_name = record { each = tt; short = omega arith };
  size = refl;
  says = refl;
  next = x;
  tail = drop (length text + 1) wire;
  wire_is = sym (take-append-drop (length text + 1) wire) ∙ ap (λ (t : List ℕ). t ++ drop (length text + 1) wire) is;
  room = omega (arith, short);
}

-- behind a run, its length in front of it, and a dot
pub filled_on : (whole : Option (List (List ℕ))) (wire new rest behind : List ℕ) (at size : ℕ) → Filled wire at rest whole → IsRun size rest → size < length rest → get_or rest size 0 ≡ 46
    → 1 ≤ size → size ≤ 63 → new ≡ set wire at size → behind ≡ drop (size + 1) rest → Filled new (at + (size + 1)) behind whole
filled_on whole wire new rest behind at size f run inside stop low high is b =
    let label : List ℕ = take size rest in
    let long : length label ≡ size = length-take-le size rest (omega (arith, inside)) in
    let name : List (List ℕ) = f.name ++ label ∷ [] in
    let rest_is : rest ≡ label ++ 46 ∷ behind =
    sym (take-append-drop size rest) ∙ ap (λ (t : List ℕ). label ++ t) (drop_more rest size 0 inside ∙ (λ i. stop i ∷ sym b i)) in
    let spelt : spelled name ≡ spelled f.name ++ size ∷ label = spelled-append f.name (label ∷ []) ∙ (λ i. spelled f.name ++ (long i ∷ append-nil label i)) in
    let set_is : new ≡ spelled f.name ++ size ∷ (rest ++ f.tail) =
    is ∙ ap (λ (w : List ℕ). set w at size) f.wire_is ∙ set_at (spelled f.name) f.next (rest ++ f.tail) size at f.size in
    let parts : size ∷ (rest ++ f.tail) ≡ (size ∷ label) ++ 46 ∷ (behind ++ f.tail) =
    ap (λ (r : List ℕ). size ∷ (r ++ f.tail)) rest_is ∙ ap (λ (t : List ℕ). size ∷ t) (append_assoc label (46 ∷ behind) f.tail) in
    record {
      name = name;
      is_name = IsName-push f.name label f.is_name (omega (arith, low, long), omega (arith, high, long)) (omega (arith, length-spelled f.name, f.size, f.room, inside, long));
      size = omega (arith, ap length spelt, length-append (spelled f.name) (size ∷ label), long, f.size);
      says = run_dot whole f.name name label rest behind size f.says run inside stop refl refl b;
      next = 46;
      tail = f.tail;
      wire_is = set_is ∙ ap (λ (t : List ℕ). spelled f.name ++ t) parts ∙ sym (append_assoc (spelled f.name) (size ∷ label) (46 ∷ (behind ++ f.tail)))
          ∙ ap (λ (s : List ℕ). s ++ 46 ∷ (behind ++ f.tail)) (sym spelt);
      room = omega (arith, f.room, inside, ap length b, length-drop (size + 1) rest);
    }

cut_is : (wire rest : List ℕ) (at : ℕ) (whole : Option (List (List ℕ))) (f : Filled wire at rest whole) → take at wire ≡ spelled f.name
cut_is wire rest at whole f = ap (take at) f.wire_is ∙ take_at (spelled f.name) (f.next ∷ (rest ++ f.tail)) at f.size

-- what was read is the wire format of a name
pub filled_wire : (wire rest : List ℕ) (at : ℕ) (whole : Option (List (List ℕ))) → Filled wire at rest whole → IsWire (take at wire)
filled_wire wire rest at whole f = is_wire (take at wire) f.name (cut_is wire rest at whole f) f.is_name

-- a run that ends the text
pub filled_ends : (text rest wire cut : List ℕ) (name origin : List (List ℕ)) (at size : ℕ) (result : Result (List (List ℕ)) NameFault) → is_dot text ≡ false
    → Filled wire at rest (labels_with [] [] text) → cut ≡ take at wire → name ≡ labels_of cut → IsRun size rest → size ≡ length rest → Completes name rest origin result → ReadsName text origin result
filled_ends text rest wire cut name origin at size result no_dot f c n run e h =
    let is : name ≡ f.name = n ∙ ap labels_of c ∙ view_of (take at wire) f.name (cut_is wire rest at (labels_with [] [] text) f) in
    run_ends text rest name origin size result no_dot (ap (λ (n : List (List ℕ)). labels_with n [] rest) is ∙ f.says) run e h

-- a dot ended the text
pub filled_ended : (text rest wire cut : List ℕ) (name origin : List (List ℕ)) (at size : ℕ) → is_dot text ≡ false → Filled wire at rest (labels_with [] [] text) → cut ≡ take at wire → name ≡ labels_of cut
    → IsRun size rest → size ≡ length rest → size ≡ 0 → 0 < at → name_of text origin ≡ Some name
filled_ended text rest wire cut name origin at size no_dot f c n run e none some =
    let is : name ≡ f.name = n ∙ ap labels_of c ∙ view_of (take at wire) f.name (cut_is wire rest at (labels_with [] [] text) f) in
    let long : 1 < wire_length name = omega (arith, ap wire_length is, length-spelled f.name, f.size, some) in
    filled_ends text rest wire cut name origin at size (Ok name) no_dot f c n run e (ended name origin rest (nil_from_length rest (omega (arith, e, none))) (subst IsName (sym is) f.is_name) long)
