-- Laws of what is accepted and refused, for those who read directives one after another.
use Rattle.std.proofs.Common.{◌≡◌, ◌∙◌, ℕ, ◌+◌, List, [], ◌∷◌, ◌++◌, length, map, Option, refl, sym, ap, subst, append_assoc}
use Rattle.std.proofs.lemmas.List.{map-append}
use Rattle.dns_data.specs.declared.block.Block.{Block}
use Rattle.dns_data.specs.declared.directive.Directive.{Directive}
use Rattle.dns_data.specs.declared.file.FileText.{FileText}
use Rattle.pattern_judging.specs.{IsFault, IsWell, Task}
use Rattle.pattern_judging.specs.Tasks.{Carries}
use Rattle.pattern_judging.specs.TasksLaws.{carries-behind, carries-on, fault_first}
use Rattle.chain_meaning.specs.declared.refusal.Refusal.{Refusal}
use Rattle.chain_meaning.specs.Grounds.{Brought}
use Rattle.chain_meaning.specs.Accepting.{Behind, behind_one, block_task, blocks_task, directive_task, directives_task, patterns_in, told}

-- behind a directive that isn't refused, what becomes of the others becomes of all
pub directives-on : (brought : Brought) (b : Behind) (d : Directive) (ds : List Directive) → IsWell (directive_task brought b d) → Carries told (directives_task brought (behind_one b d) ds) (directives_task brought b (d ∷ ds))
directives-on brought b d ds w = carries-behind told (directive_task brought b d) (directives_task brought (behind_one b d) ds) refl w

-- and one that is refused is the refusal of all
pub directive-refused : (brought : Brought) (b : Behind) (d : Directive) (ds : List Directive) (last : Option (List ℕ)) (why : Refusal) → IsFault told (directive_task brought b d) last why → IsFault told (directives_task brought b (d ∷ ds)) last why
directive-refused brought b d ds last why h = fault_first told (directive_task brought b d) (directives_task brought (behind_one b d) ds) last why h

-- the same of blocks
pub blocks-on : (brought : Brought) (patterns : ℕ) (files : List FileText) (block : Block) (blocks : List Block) → IsWell (block_task brought patterns files block)
    → Carries told (blocks_task brought (patterns + length (patterns_in block.directives)) files blocks) (blocks_task brought patterns files (block ∷ blocks))
blocks-on brought patterns files block blocks w =
    carries-behind told (block_task brought patterns files block) (blocks_task brought (patterns + length (patterns_in block.directives)) files blocks) refl w

pub block-refused : (brought : Brought) (patterns : ℕ) (files : List FileText) (block : Block) (blocks : List Block) (last : Option (List ℕ)) (why : Refusal) → IsFault told (block_task brought patterns files block) last why
    → IsFault told (blocks_task brought patterns files (block ∷ blocks)) last why
block-refused brought patterns files block blocks last why h =
    fault_first told (block_task brought patterns files block) (blocks_task brought (patterns + length (patterns_in block.directives)) files blocks) last why h

-- behind a block without a fault, what becomes of the others becomes of all
pub blocks_carried : (brought : Brought) (patterns next : ℕ) (files : List FileText) (rest : List Block) (block : Block) (behind : List Block) (whole : Task Refusal) → rest ≡ block ∷ behind
    → next ≡ patterns + length (patterns_in block.directives) → IsWell (block_task brought patterns files block) → Carries told (blocks_task brought patterns files rest) whole
    → Carries told (blocks_task brought next files behind) whole
blocks_carried brought patterns next files rest block behind whole is count well on =
    let there = subst (λ bs. Carries told (blocks_task brought patterns files bs) whole) is on in
    subst (λ n. Carries told (blocks_task brought n files behind) whole) (sym count)
    (carries-on told (blocks_task brought (patterns + length (patterns_in block.directives)) files behind) (blocks_task brought patterns files (block ∷ behind)) whole (blocks-on brought patterns files block behind well) there)

-- what was made of blocks one by one, with one more
pub blocks_made : {X T : Type 0} (of_made : X → T) (of_block : Block → T) (made new : List X) (one : X) (rest behind : List Block) (block : Block) (all : List T)
    → new ≡ made ++ one ∷ [] → of_made one ≡ of_block block → rest ≡ block ∷ behind → map of_made made ++ map of_block rest ≡ all → map of_made new ++ map of_block behind ≡ all
blocks_made of_made of_block made new one rest behind block all e same is so =
    ap (λ xs. map of_made xs ++ map of_block behind) e
    ∙ ap (λ l. l ++ map of_block behind) (map-append of_made made (one ∷ []))
    ∙ append_assoc (map of_made made) (of_made one ∷ []) (map of_block behind)
    ∙ ap (λ s. map of_made made ++ s ∷ map of_block behind) same
    ∙ ap (λ bs. map of_made made ++ map of_block bs) (sym is) ∙ so
