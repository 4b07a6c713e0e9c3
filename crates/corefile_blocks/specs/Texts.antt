-- Why lines are no blocks, as an operator sees it. This server's own rule.
use Rattle.std.specs.Prelude.{ℕ, List, codes}
use Rattle.corefile_blocks.specs.declared.fault.BlockWhy.{BlockWhy}
use Rattle.corefile_blocks.specs.declared.fault.BlockWhy.TheVariants as why

-- why lines are no blocks
abbrev pub why_text : BlockWhy → List ℕ
why_text why.NoKey = codes "nokey"
why_text why.Scheme = codes "scheme"
why_text why.Port = codes "port"
why_text why.Zone = codes "zone"
why_text why.Cidr = codes "cidr"
why_text why.DeepBrace = codes "deepbrace"
why_text why.OpenBlock = codes "openblock"
why_text why.StrayBrace = codes "straybrace"
why_text why.Outside = codes "outside"
why_text why.ImportArgs = codes "importargs"
why_text why.SnippetName = codes "snippetname"
