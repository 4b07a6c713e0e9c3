-- What is wrong with a directive, and why a query ends with a code, as an operator sees them. This
-- server's own rule.
use Rattle.std.specs.Prelude.{ℕ, List, codes}
use Rattle.plugin_api.specs.declared.fault.DirectiveWhy.{DirectiveWhy}
use Rattle.plugin_api.specs.declared.fault.DirectiveWhy.TheVariants as wrong
use Rattle.plugin_api.specs.declared.verdict.Code.{Code}
use Rattle.plugin_api.specs.declared.verdict.Code.TheVariants as code
use Rattle.plugin_api.specs.declared.verdict.Cause.{Cause}
use Rattle.plugin_api.specs.declared.verdict.Cause.TheVariants as cause

-- what is wrong with a directive
abbrev pub directive_text : DirectiveWhy → List ℕ
directive_text wrong.Args = codes "args"
directive_text wrong.Option = codes "option"
directive_text wrong.Number = codes "number"
directive_text wrong.Zone = codes "zone"
directive_text wrong.Net = codes "net"
directive_text wrong.Kind = codes "kind"
directive_text wrong.Pattern = codes "pattern"
directive_text wrong.PatternSize = codes "patternsize"
directive_text wrong.Place = codes "place"
directive_text wrong.NoUpstream = codes "noupstream"
directive_text wrong.NoFile = codes "nofile"
directive_text wrong.Twice = codes "twice"
directive_text wrong.DoubleZone = codes "doublezone"
directive_text wrong.Extra = codes "extra"

-- the code that a query ends with
abbrev pub code_text : Code → List ℕ
code_text code.FormErr = codes "FORMERR"
code_text code.ServFail = codes "SERVFAIL"
code_text code.NotImp = codes "NOTIMP"
code_text code.Refused = codes "REFUSED"

-- and why
abbrev pub cause_text : Cause → List ℕ
cause_text cause.EndOfChain = codes "end-of-chain"
cause_text cause.NoMatch = codes "template-no-match"
cause_text cause.NotRecord = codes "template-record"
cause_text cause.UnknownHost = codes "hosts-unknown"
cause_text cause.AllUpstreams = codes "forward-failed"
cause_text cause.ExtraCode = codes "extra"
