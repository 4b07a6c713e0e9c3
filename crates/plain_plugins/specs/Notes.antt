-- The lines that `errors` and `log` note. This server's own rule.
use Rattle.std.specs.Prelude.{ℕ, List, [], ◌∷◌, ◌++◌, codes}
use Rattle.std.specs.Fmt.{decimal}
use Rattle.dns_data.specs.{addr_text, name_text}
use Rattle.dns_data.specs.declared.message.Transport.{Transport}
use Rattle.dns_data.specs.declared.message.Transport.TheVariants as transport
use Rattle.dns_data.specs.declared.query.Query.{Query}
use Rattle.plugin_api.specs.{cause_text, code_text}
use Rattle.plugin_api.specs.declared.verdict.Code.{Code}
use Rattle.plugin_api.specs.declared.verdict.Cause.{Cause}
use Rattle.type_names.specs.{kind_text, rcode_text}
use Rattle.plain_plugins.specs.declared.lines.LogOutcome.{LogOutcome}
use Rattle.plain_plugins.specs.declared.lines.LogOutcome.TheVariants as outcome

abbrev pub transport_text : Transport → List ℕ
transport_text transport.Udp = codes " udp "
transport_text transport.Tcp = codes " tcp "

-- a type and a name, with a space behind each
abbrev pub asked_text : Query → List ℕ
asked_text q = kind_text q.kind ++ (codes " " ++ (name_text q.name ++ codes " "))

-- `error CODE TYPE NAME CAUSE`
unfoldable pub error_line : Query → Code → Cause → List ℕ
error_line q code cause =
    codes "error " ++ (code_text code ++ (codes " " ++ (asked_text q ++ cause_text cause)))

-- an RCODE by its name, or that there was no reply
abbrev pub outcome_text : LogOutcome → List ℕ
outcome_text (outcome.Rcode rcode) = rcode_text rcode
outcome_text outcome.Dropped = codes "DROP"

-- `query ADDRESS PORT TRANSPORT TYPE NAME RCODE`
unfoldable pub log_line : Query → LogOutcome → List ℕ
log_line q outcome =
    codes "query " ++ (addr_text q.client ++ (codes " " ++ (decimal q.port
    ++ (transport_text q.by ++ (asked_text q ++ outcome_text outcome)))))
