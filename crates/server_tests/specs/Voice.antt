-- What the extras of these tests say: without a word they drop each query, with one they answer
-- SERVFAIL, with two they pass it, and with more they answer NXDOMAIN.
use Rattle.std.specs.Prelude.{ℕ, ◌==◌, Bool, true, false, List, [], length, if◌then◌else◌}
use Rattle.dns_data.specs.Message.{AnswerData}
use Rattle.dns_data.specs.declared.directive.Directive.{Directive}
use Rattle.dns_data.specs.declared.query.Query.{Query}
use Rattle.dns_data.specs.declared.rcode.TheConstants as rcodes
use Rattle.plugin_api.specs.declared.verdict.Code.TheVariants as code
use Rattle.plugin_api.specs.declared.verdict.Verdict.{Verdict}
use Rattle.plugin_api.specs.declared.verdict.Verdict.TheVariants as verdict

-- NXDOMAIN with AA, and no record
abbrev pub no_name : AnswerData
no_name = record {
  rcode = rcodes.NXDOMAIN;
  aa = true;
  ra = false;
  tc = false;
  answer = [];
  authority = [];
  additional = [];
}

abbrev pub voice_by : ℕ → Verdict
voice_by words =
    if words == 0 then verdict.Drop
    else if words == 1 then verdict.Code code.ServFail
    else if words == 2 then verdict.Pass
    else verdict.Reply no_name

abbrev pub voice_said : Directive → Query → Verdict
voice_said d q = voice_by (length d.args)

abbrev pub voice_takes : Directive → Bool
voice_takes d = true
