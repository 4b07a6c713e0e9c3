-- The bundles that a load's run published are its both forms, and so its cache has one run.
use Rattle.std.proofs.Common.{◌≡◌, ◌≢◌, ◌∙◌, ◌+◌, ◌-◌, ◌<◌, ℕ, zero, suc, Bool, true, false, List, [], ◌∷◌, ◌++◌, map, length, Some, None, refl, sym, ap, subst, arith}
use Rattle.std.specs.Prelude.{Result, Ok, Err, nat_lt, slice_get, if◌then◌else◌}
use Rattle.std.specs.List.{AllByRecursion, flat_map}
use Rattle.std.proofs.lemmas.Bool.{ltb-true}
use Rattle.std.proofs.lemmas.List.Concat.{flat_map-cons}
use Rattle.block_readings.specs.Readings.{BlockReading, block_reading}
use Rattle.chain_build.specs.History.{has_cache}
use Rattle.chain_meaning.specs.{Terms}
use Rattle.corefile_blocks.specs.declared.bundle.Bundle.{Bundle}
use Rattle.corefile_bundle.specs.declared.fault.GatherFault.{GatherFault}
use Rattle.corefile_bundle.specs.Gathering.{GathersFrom, OneRead, Source, marks_of, source_of}
use Rattle.one_history.specs.Runs.{CacheRun, IsRun, block_at, reading}
use Rattle.load_maker.specs.Scripts.{conf_name}
use Rattle.load_maker.specs.Texts.{zone_text}
use Rattle.reload_watch.specs.Histories.{AreReadAs}
use Rattle.run_meaning.specs.Answers.{note_marks, publication}
use Rattle.run_meaning.specs.Messages.{look_text}
use Rattle.run_meaning.specs.declared.looking.Looking.{Looking}
use Rattle.run_meaning.specs.declared.looking.Looking.TheVariants as looking
use Rattle.run_meaning.specs.WatchTurn.{AreLooks, WatchTurn, looked, published_as, published_by, starved, watch_marks}
use Rattle.dns_server.proofs.LoadBlocks.{is_cached, load_block, same_reading}
use Rattle.dns_server.proofs.LoadBundles.{IsFound, IsFoundMark, gathered_form, reads_found}
use Rattle.dns_server.proofs.LoadTurns.{IsForm, has_block, load_files}
use Rattle.dns_server.proofs.TurnCounts.{back_all, front_all}

all_join : {A : Type 0} (P : A → Type 0) (xs ys : List A) → AllByRecursion P xs → AllByRecursion P ys → AllByRecursion P (xs ++ ys)
all_join P [] ys a b = b
all_join P (x ∷ xs) ys a b = (a.0, all_join P xs ys a.1 b)

abbrev pub load_source : Source
load_source = source_of conf_name []

forms_as : (reads : List OneRead) (gives : Result Bundle GatherFault) (answer : Looking) → AllByRecursion IsFound reads → GathersFrom load_source reads gives → AllByRecursion (IsForm zone_text) (published_as gives answer)
forms_as reads (Ok bundle) (looking.Published serial) found gathers = (gathered_form reads bundle found gathers, tt)
forms_as reads (Err cause) (looking.Published serial) found gathers = tt
forms_as reads gives looking.NoReload found gathers = tt
forms_as reads gives (looking.ReadFailed name) found gathers = tt
forms_as reads gives looking.Same found gathers = tt
forms_as reads gives (looking.Refused why) found gathers = tt
forms_as reads gives (looking.PortsDiffer kept other) found gathers = tt
forms_as reads gives looking.SerialsSpent found gathers = tt
forms_as reads gives (looking.AllPinned first second third) found gathers = tt
forms_as reads gives (looking.StockShort name asked had) found gathers = tt
forms_as reads gives looking.NoMemory found gathers = tt

-- what looks published
pub look_forms : (terms : Terms) (bundles : List Bundle) (looks : List WatchTurn) → AreLooks load_source terms bundles looks → AllByRecursion IsFoundMark (flat_map watch_marks looks) → AllByRecursion (IsForm zone_text) (flat_map published_by looks)
look_forms terms bundles [] are found = tt
look_forms terms bundles (looked times reads gives answer flag ∷ looks) are found =
    let turn = looked times reads gives answer flag in
    let cut = subst (AllByRecursion IsFoundMark) (flat_map-cons watch_marks turn looks) found in
    let here = front_all IsFoundMark (watch_marks turn) (flat_map watch_marks looks) cut in
    let mine = reads_found reads (front_all IsFoundMark (marks_of reads) (publication answer ++ note_marks (look_text answer) flag) here.1) in
    subst (AllByRecursion (IsForm zone_text)) (sym (flat_map-cons published_by turn looks))
    (all_join (IsForm zone_text) (published_by turn) (flat_map published_by looks) (forms_as reads gives answer mine are.0.0)
    (look_forms terms (bundles ++ published_by turn) looks are.1 (back_all IsFoundMark (watch_marks turn) (flat_map watch_marks looks) cut)))
look_forms terms bundles (starved times reads gives ∷ looks) are found =
    let turn = starved times reads gives in
    let cut = subst (AllByRecursion IsFoundMark) (flat_map-cons watch_marks turn looks) found in
    subst (AllByRecursion (IsForm zone_text)) (sym (flat_map-cons published_by turn looks))
    (look_forms terms (bundles ++ published_by turn) looks are.1 (back_all IsFoundMark (watch_marks turn) (flat_map watch_marks looks) cut))

pub all_at : {A : Type 0} (P : A → Type 0) (xs : List A) (k : ℕ) (x : A) → AllByRecursion P xs → slice_get xs k ≡ Some x → P x
all_at P [] zero x all e = absurd cc
all_at P [] (suc k) x all e = absurd cc
all_at P (y ∷ xs) zero x all e = let same : y ≡ x = cc in subst P same all.0
all_at P (y ∷ xs) (suc k) x all e = all_at P xs k x all.1 e

-- what the block of both forms reads
abbrev pub load_reading : BlockReading
load_reading = block_reading (load_files zone_text) (load_block 1)

abbrev pub all_readings : List Bundle → List (List BlockReading)
all_readings bundles = map (λ (b : Bundle). load_reading ∷ []) bundles

pub readings_are : (terms : Terms) → terms.default_port ≡ 53 → (bundles : List Bundle) (readings : List (List BlockReading)) → AllByRecursion (IsForm zone_text) bundles → AreReadAs terms bundles readings → readings ≡ all_readings bundles
readings_are terms port [] [] forms read = refl
readings_are terms port [] (r ∷ readings) forms read = absurd read
readings_are terms port (b ∷ bundles) [] forms read = absurd read
readings_are terms port (b ∷ bundles) (r ∷ readings) forms read =
    let h = has_block zone_text b terms.default_port read.0.blocks port forms.0 read.0.accepted.read in
    let one : r ≡ load_reading ∷ [] =
    read.0.are ∙ ((λ i. map (block_reading (h.files_are i)) (h.blocks_are i)) ∙ ap (λ (x : BlockReading). x ∷ []) (same_reading (load_files zone_text) h.line 1)) in
    let rest = readings_are terms port bundles readings forms.1 read.1 in
    λ i. one i ∷ rest i

abbrev pub zeros : List Bundle → List ℕ
zeros bundles = map (λ (b : Bundle). 0) bundles

-- its cache's one run
abbrev pub load_run : List Bundle → CacheRun BlockReading
load_run bundles = record { reads = load_reading; first = 0; blocks = zeros bundles }

never_below : (n : ℕ) → nat_lt n 0 ≡ false
never_below n = by (nat_lt n 0) refl
  where
    by : (t : Bool) → nat_lt n 0 ≡ t → t ≡ false
    by true e = let low = ltb-true n 0 e in absurd (omega (arith, low))
    by false e = refl

at_is : (bundles : List Bundle) (serial : ℕ) → block_at (load_run bundles) serial ≡ slice_get (zeros bundles) serial
at_is bundles serial =
    let low = never_below serial in
    let same : serial - 0 ≡ serial = omega arith in
    ap (λ (t : Bool). if t then None else slice_get (zeros bundles) (serial - 0)) low ∙ ap (λ (n : ℕ). slice_get (zeros bundles) n) same

zero_at : (bundles : List Bundle) (serial : ℕ) (b : Bundle) → slice_get bundles serial ≡ Some b → slice_get (zeros bundles) serial ≡ Some 0
zero_at [] zero b e = absurd cc
zero_at [] (suc serial) b e = absurd cc
zero_at (x ∷ bundles) zero b e = refl
zero_at (x ∷ bundles) (suc serial) b e = zero_at bundles serial b e

pub block_of_run : (bundles : List Bundle) (serial : ℕ) (b : Bundle) → slice_get bundles serial ≡ Some b → block_at (load_run bundles) serial ≡ Some 0
block_of_run bundles serial b e = at_is bundles serial ∙ zero_at bundles serial b e

each_reads : (bundles : List Bundle) (serial block : ℕ) → slice_get (zeros bundles) serial ≡ Some block → reading (all_readings bundles) serial block ≡ Some load_reading
each_reads [] zero block e = absurd cc
each_reads [] (suc serial) block e = absurd cc
each_reads (b ∷ bundles) zero block e =
    let same : 0 ≡ block = cc in subst (λ (k : ℕ). slice_get (load_reading ∷ []) k ≡ Some load_reading) same refl
each_reads (b ∷ bundles) (suc serial) block e = each_reads bundles serial block e

no_more : (bundles : List Bundle) (block : ℕ) → reading (all_readings bundles) (length (zeros bundles)) block ≢ Some load_reading
no_more [] zero = λ e. absurd cc
no_more [] (suc block) = λ e. absurd cc
no_more (b ∷ bundles) block = no_more bundles block

some_zeros : (bundles : List Bundle) → 0 < length bundles → 0 < length (zeros bundles)
some_zeros [] some = absurd (omega (arith, some))
some_zeros (b ∷ bundles) some = omega arith

pub is_load_run : (bundles : List Bundle) → 0 < length bundles → IsRun has_cache (all_readings bundles) (load_run bundles)
is_load_run bundles some = record {
  has_cache = is_cached (load_files zone_text);
  some = some_zeros bundles some;
  each = λ serial block e. each_reads bundles serial block (sym (at_is bundles serial) ∙ e);
  before = λ serial block e. absurd (omega (arith, e));
  behind = λ block.
      let same : length (zeros bundles) ≡ 0 + length (zeros bundles) = omega arith in
      subst (λ (n : ℕ). reading (all_readings bundles) n block ≢ Some load_reading) same (no_more bundles block);
}
