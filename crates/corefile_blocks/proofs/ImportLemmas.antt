-- What an import of a file puts.
use Rattle.std.proofs.Common.{◌≡◌, ℕ, ◌+◌, ◌++◌, Bool, true, false, cond, List, [], ◌∷◌, Option, Some, None, Err, IfSome, refl, sym, subst}
use Rattle.std.specs.Prelude.{nat_le}
use Rattle.std.specs.Option.{option_or}
use Rattle.std.specs.Cmp.{unsigned_Decides}
use Rattle.std.proofs.lemmas.Slice.Eq.{slice_eq-Decides}
use Rattle.std.proofs.lemmas.List.Folds.{find-append}
use Rattle.corefile_words.specs.{ReadsWords, words_of}
use Rattle.corefile_words.specs.declared.word.Pair.{Pair}
use Rattle.corefile_words.specs.declared.fault.WordsFault.{WordsFault}
use Rattle.corefile_words.specs.declared.fault.WordsFault.TheVariants as words
use Rattle.dns_data.specs.declared.limit.TheConstants as limits
use Rattle.corefile_blocks.specs.declared.bundle.Bundle.{Bundle}
use Rattle.corefile_blocks.specs.declared.fault.CorefileFault.{CorefileFault}
use Rattle.corefile_blocks.specs.declared.fault.CorefileFault.TheVariants as fault
use Rattle.corefile_blocks.specs.declared.shared.Snippet.{Snippet}
use Rattle.corefile_blocks.specs.LineForms.{same_text}
use Rattle.corefile_blocks.specs.PlacedLines.{PlacedLine, placed}
use Rattle.corefile_blocks.specs.Blocks.{Reading, ReadsBlocks, at_line, blocks_of, import, import_name, puts, snippet_of, naming}
use Rattle.corefile_blocks.specs.Reader.{AreTexts, IsText, IsTold}

pub same_text-is : (a b : List ℕ) → same_text a b ≡ true → a ≡ b
same_text-is a b h = (slice_eq-Decides unsigned_Decides a b (same_text a b) refl).0 h

-- a file that was read before
pub known_text : (bundle : Bundle) (reading : Reading) (line : PlacedLine) (texts : List Snippet) (text : Snippet) → AreTexts bundle texts
    → snippet_of (import_name line.line.words) texts ≡ Some text → nat_le limits.IMPORT_DEPTH line.depth ≡ false
    → snippet_of (import_name line.line.words) reading.snippets ≡ None
    → import bundle reading line ≡ puts (naming reading (import_name line.line.words)) (placed line.number (line.depth + 1) text.lines)
known_text bundle reading line texts text are found deep none =
    let t : IsText bundle (import_name line.line.words) text = subst (λ o. IfSome o (IsText bundle (import_name line.line.words))) found (are (import_name line.line.words)) in
    rw (deep, none, t.file, t.words) refl

either : (bundle : Bundle) (name : List ℕ) (text : Snippet) (known : Option Snippet) → IfSome known (IsText bundle name)
    → IsText bundle text.name text → (b : Bool) → same_text name text.name ≡ b → IfSome (option_or known (cond b (Some text) None)) (IsText bundle name)
either bundle name text (Some t) is new b h = is
either bundle name text None is new true h = subst (λ n. IsText bundle n text) (sym (same_text-is name text.name h)) new
either bundle name text None is new false h = tt

-- one text more
pub one_more_text : (bundle : Bundle) (texts : List Snippet) (text : Snippet) → AreTexts bundle texts → IsText bundle text.name text → AreTexts bundle (texts ++ text ∷ [])
one_more_text bundle texts text are new = λ name.
    subst (λ o. IfSome o (IsText bundle name)) (sym (find-append (λ snippet. same_text name snippet.name) texts (text ∷ [])))
    (either bundle name text (snippet_of name texts) (are name) new (same_text name text.name) refl)

-- a fault of words that isn't want of memory
pub words_fault : (bytes : List ℕ) (env : List Pair) (broken : WordsFault) → ReadsWords bytes env (Err broken) → (broken ≡ words.NoMemory → ⊥) → words_of env bytes ≡ Err broken
words_fault bytes env (words.NotText line) reads told = reads
words_fault bytes env (words.OpenQuote line) reads told = reads
words_fault bytes env (words.QuoteTail line) reads told = reads
words_fault bytes env words.NoMemory reads told = absurd (told refl)

-- a fault that is none of memory stays so at another line
pub told_at : (line : ℕ) (broken : WordsFault) → (broken ≡ words.NoMemory → ⊥) → IsTold (fault.Words (at_line line broken))
told_at line (words.NotText own) told = tt
told_at line (words.OpenQuote own) told = tt
told_at line (words.QuoteTail own) told = tt
told_at line words.NoMemory told = told refl

pub told_here : (broken : WordsFault) → (broken ≡ words.NoMemory → ⊥) → IsTold (fault.Words broken)
told_here (words.NotText own) told = tt
told_here (words.OpenQuote own) told = tt
told_here (words.QuoteTail own) told = tt
told_here words.NoMemory told = told refl

-- a fault that is the bundle's is the answer
pub answers : (bundle : Bundle) (port : ℕ) (met : CorefileFault) → blocks_of bundle port ≡ Err met → IsTold met → ReadsBlocks bundle port (Err met)
answers bundle port (fault.Words words.NoMemory) is told = absurd told
answers bundle port (fault.Words (words.NotText line)) is told = (is, λ e. absurd cc)
answers bundle port (fault.Words (words.OpenQuote line)) is told = (is, λ e. absurd cc)
answers bundle port (fault.Words (words.QuoteTail line)) is told = (is, λ e. absurd cc)
answers bundle port (fault.Block line why) is told = is
answers bundle port (fault.NoSnippet line) is told = is
answers bundle port (fault.ImportLoop line) is told = is
answers bundle port (fault.DoubleKey line) is told = is
answers bundle port (fault.TooMany what number) is told = is
answers bundle port fault.NoMemory is told = tt
