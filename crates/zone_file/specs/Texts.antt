-- Why a line of a zone file is refused, as an operator sees it. This server's own rule.
use Rattle.std.specs.Prelude.{ℕ, List, codes}
use Rattle.zone_file.specs.declared.fault.ZoneWhy.{ZoneWhy}
use Rattle.zone_file.specs.declared.fault.ZoneWhy.TheVariants as zone

-- what is wrong with a zone file
abbrev pub zone_text : ZoneWhy → List ℕ
zone_text zone.Control = codes "control"
zone_text zone.Syntax = codes "syntax"
zone_text zone.NoSoa = codes "nosoa"
zone_text zone.TwoSoa = codes "twosoa"
zone_text zone.CnameMix = codes "cnamemix"
