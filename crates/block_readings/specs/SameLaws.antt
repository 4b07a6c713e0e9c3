-- The test of two blocks is exact: it holds just where they read the same.
use Rattle.std.proofs.Common.{◌≡◌, ◌∙◌, ℕ, ◌&&◌, Bool, true, false, List, [], ◌∷◌, ◌++◌, Option, Some, None, refl, sym, ap}
use Rattle.std.specs.Prelude.{◌↔◌, IsTrue, map, unwrap_or, codes, take, drop, if◌then◌else◌}
use Rattle.std.specs.Bool.{Decides, one_answer}
use Rattle.std.proofs.lemmas.Bool.Decides.{Decides-eqb}
use Rattle.std.specs.Cmp.{unsigned_Decides}
use Rattle.std.specs.Cmp.Lexicographic.{pointwise}
use Rattle.std.specs.List.{filter, flat_map}
use Rattle.std.proofs.lemmas.Slice.Eq.{slice_eq-Decides}
use Rattle.corefile_blocks.specs.Blocks.{file_of}
use Rattle.corefile_blocks.specs.LineForms.{same_text}
use Rattle.corefile_blocks.specs.WantedFiles.{files_of, hosts_word, is_path}
use Rattle.dns_data.specs.declared.block.Block.{Block}
use Rattle.dns_data.specs.declared.block.BlockKey.{BlockKey}
use Rattle.dns_data.specs.declared.directive.Directive.{Directive}
use Rattle.dns_data.specs.declared.directive.Line.{Line}
use Rattle.dns_data.specs.declared.file.FileText.{FileText}
use Rattle.block_readings.specs.Readings.{bare, bare_block, bare_key, bare_line, block_reading, directive_names, found_file, names_in}
use Rattle.block_readings.specs.Same.{find_same, reads_same, same_block, same_bytes, same_directive, same_key, same_line, same_lines, same_word, same_words}

exact_list : {A : Type 0} (same : A → A → Bool) → ((a b : A) → Decides (same a b) (a ≡ b)) → (xs ys : List A) → Decides (pointwise same xs ys) (xs ≡ ys)
exact_list same exact xs ys = slice_eq-Decides exact xs ys _ refl

exact_word : (a b : List ℕ) → Decides (same_word a b) (a ≡ b)
exact_word a b = slice_eq-Decides unsigned_Decides a b _ refl

exact_words : (a b : List (List ℕ)) → Decides (same_words a b) (a ≡ b)
exact_words a b = exact_list same_word exact_word a b

both : {P Q : Type 0} (t u : Bool) → Decides t P → Decides u Q → Decides (t && u) (P × Q)
both true true d e = ((λ h. (d.0 refl, e.0 refl)), (λ h. refl))
both true false d e = ((λ h. absurd cc), (λ h. e.1 h.1))
both false u d e = ((λ h. absurd cc), (λ h. d.1 h.0))

exact_as : {P Q : Type 0} (t : Bool) → (P → Q) → (Q → P) → Decides t P → Decides t Q
exact_as t there back d = ((λ e. there (d.0 e)), (λ q. d.1 (back q)))

abbrev head_or : {B : Type 0} → B → List B → B
head_or b [] = b
head_or b (c ∷ cs) = c

abbrev tail_of : {B : Type 0} → List B → List B
tail_of [] = []
tail_of (b ∷ bs) = bs

-- a test of what is left of two things makes one of what is left of lists
exact_less : {A B : Type 0} (less : A → B) (same : A → A → Bool) → ((a b : A) → Decides (same a b) (less a ≡ less b)) → (xs ys : List A) → Decides (pointwise same xs ys) (map less xs ≡ map less ys)
exact_less less same exact [] [] = ((λ h. refl), (λ h. refl))
exact_less less same exact [] (y ∷ ys) = ((λ h. absurd cc), (λ h. absurd cc))
exact_less less same exact (x ∷ xs) [] = ((λ h. absurd cc), (λ h. absurd cc))
exact_less less same exact (x ∷ xs) (y ∷ ys) =
    exact_as _ (λ h i. h.0 i ∷ h.1 i) (λ h. (ap (head_or (less x)) h, ap tail_of h))
    (both (same x y) (pointwise same xs ys) (exact x y) (exact_less less same exact xs ys))

exact_line : (a b : Line) → Decides (same_line a b) (bare_line a ≡ bare_line b)
exact_line a b = exact_as _ (λ h i. record { words = h i; number = 0 }) (λ h. ap (λ line. line.words) h) (exact_words a.words b.words)

exact_directive : (a b : Directive) → Decides (same_directive a b) (bare a ≡ bare b)
exact_directive a b =
    exact_as (same_directive a b) (λ h i. record { name = h.0.0 i; args = h.0.1 i; body = h.1 i; line = 0 })
    (λ h. ((ap (λ d. d.name) h, ap (λ d. d.args) h), ap (λ d. d.body) h))
    (both (same_word a.name b.name && same_words a.args b.args) (same_lines a.body b.body)
    (both (same_word a.name b.name) (same_words a.args b.args) (exact_word a.name b.name) (exact_words a.args b.args))
    (exact_less bare_line same_line exact_line a.body b.body))

exact_key : (a b : BlockKey) → Decides (same_key a b) (bare_key a ≡ bare_key b)
exact_key a b =
    exact_as _ (λ h i. record { zone = h.0 i; port = h.1 i; line = 0 }) (λ h. (ap (λ key. key.zone) h, ap (λ key. key.port) h))
    (both _ _ (exact_words a.zone b.zone) (Decides-eqb a.port b.port))

exact_block : (a b : Block) → Decides (same_block a b) (bare_block a ≡ bare_block b)
exact_block a b =
    exact_as _ (λ h i. record { keys = h.0 i; directives = h.1 i }) (λ h. (ap (λ block. block.keys) h, ap (λ block. block.directives) h))
    (both _ _ (exact_less bare_key same_key exact_key a.keys b.keys) (exact_less bare same_directive exact_directive a.directives b.directives))

-- files
exact_bytes : (a b : Option (List ℕ)) → Decides (same_bytes a b) (a ≡ b)
exact_bytes None None = ((λ h. refl), (λ h. refl))
exact_bytes None (Some b) = ((λ h. absurd cc), (λ h. absurd cc))
exact_bytes (Some a) None = ((λ h. absurd cc), (λ h. absurd cc))
exact_bytes (Some a) (Some b) = exact_as _ (λ h. ap Some h) (λ h. ap (λ o. unwrap_or o a) h) (exact_word a b)

exact_found : (files others : List FileText) (names : List (List ℕ)) → Decides (find_same files others names) (map (found_file files) names ≡ map (found_file others) names)
exact_found files others [] = ((λ h. refl), (λ h. refl))
exact_found files others (name ∷ names) =
    exact_as _ (λ h i. (record { name = name; bytes = h.0 i }) ∷ h.1 i)
    (λ h. (ap (λ them. (head_or (found_file files name) them).bytes) h, ap tail_of h))
    (both _ _ (exact_bytes (file_of name files) (file_of name others)) (exact_found files others names))

-- directives that differ in the numbers of lines alone name the same files
bare_names : (ds : List Directive) → flat_map directive_names (map bare ds) ≡ names_in ds
bare_names [] = refl
bare_names (d ∷ ds) = ap (λ names. directive_names d ++ names) (bare_names ds)

named_alike : (a b : Block) → bare_block a ≡ bare_block b → names_in a.directives ≡ names_in b.directives
named_alike a b same = sym (bare_names a.directives) ∙ ap (λ block. names_in block.directives) same ∙ bare_names b.directives

pub exact_reading : (files others : List FileText) (a b : Block) → Decides (reads_same files a others b) (block_reading files a ≡ block_reading others b)
exact_reading files others a b =
    exact_as _
    (λ h i. record { block = h.0 i; files = (h.1 ∙ ap (map (found_file others)) (named_alike a b h.0)) i })
    (λ h. let same = ap (λ reading. reading.block) h in (same, ap (λ reading. reading.files) h ∙ sym (ap (map (found_file others)) (named_alike a b same))))
    (both _ _ (exact_block a b) (exact_found files others (names_in a.directives)))

pub word_from : (t : Bool) (a b : List ℕ) → IsTrue t ↔ (a ≡ b) → t ≡ same_word a b
word_from t a b is = one_answer t (same_word a b) (is.0, is.1) (exact_word a b)

-- which files a directive of this name names, as the tests of the name tell
pub named_files : (name : List ℕ) (args : List (List ℕ)) → files_of name args
    ≡ (if same_text name (codes "file") then take 1 args
    else if same_text name (codes "hosts") then hosts_word args ∷ []
    else if same_text name (codes "forward") then filter is_path (drop 1 args)
    else [])
unfolding files_of
named_files name args = refl
