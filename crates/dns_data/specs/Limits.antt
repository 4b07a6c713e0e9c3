-- Of what there may only be so many, as an operator sees it. This server's own rule.
use Rattle.std.specs.Prelude.{ℕ, List, codes}
use Rattle.dns_data.specs.declared.limit.Limit.{Limit}
use Rattle.dns_data.specs.declared.limit.Limit.TheVariants as limit

-- of what there are too many
abbrev pub limit_text : Limit → List ℕ
limit_text limit.Workers = codes "workers"
limit_text limit.Blocks = codes "blocks"
limit_text limit.Directives = codes "directives"
limit_text limit.Lines = codes "lines"
limit_text limit.Patterns = codes "patterns"
limit_text limit.FileBytes = codes "file bytes"
limit_text limit.BundleBytes = codes "bundle bytes"
limit_text limit.Files = codes "files"
limit_text limit.ZoneRecords = codes "zone records"
limit_text limit.Upstreams = codes "upstreams"
