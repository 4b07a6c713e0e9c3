-- The line that an operator sees of each look. This server's own rule.
use Rattle.std.specs.Prelude.{ℕ, List, [], ◌++◌, codes}
use Rattle.std.specs.Fmt.{decimal}
use Rattle.chain_meaning.specs.{refusal_text}
use Rattle.run_meaning.specs.declared.looking.Looking.{Looking}
use Rattle.run_meaning.specs.declared.looking.Looking.TheVariants as looking

-- that a stock has fewer extras of a name than are asked for
abbrev pub stock_text : List ℕ → ℕ → ℕ → List ℕ
stock_text name asked had =
    codes "stock of " ++ name ++ codes ": asked " ++ decimal asked ++ codes ", had " ++ decimal had

-- the line that notes a look, without a line end. A look that changed nothing, or met want of
-- memory, has none.
abbrev pub look_text : Looking → List ℕ
look_text looking.NoReload = []
look_text (looking.ReadFailed name) = codes "reload cannot read " ++ name
look_text looking.Same = []
look_text (looking.Refused why) = codes "reload refused: " ++ refusal_text why
look_text (looking.PortsDiffer kept read) = codes "reload ports differ"
look_text looking.SerialsSpent = codes "reload serials spent"
look_text (looking.AllPinned first second third) = codes "reload all pinned"
look_text (looking.StockShort name asked had) = codes "reload " ++ stock_text name asked had
look_text (looking.Published serial) = codes "reload published " ++ decimal serial
look_text looking.NoMemory = []
