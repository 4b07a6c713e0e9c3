-- What `file` says is nothing, or the answer of a zone.
use Rattle.std.proofs.Common.{Bool, true, false, Option, Some, None, if◌then◌else◌}
use Rattle.std.specs.Prelude.{List}
use Rattle.dns_data.specs.Message.{AnswerData}
use Rattle.dns_data.specs.declared.query.Query.{Query}
use Rattle.dns_data.specs.declared.zone.Zone.{Zone}
use Rattle.zone_lookup.specs.{zone_answer}
use Rattle.file_plugin.specs.Zones.{FileData, Served, answer_from, file_say, goes_on, longest_of}

by_test : (P : Option AnswerData → Type 0) (on : Bool) (a : AnswerData) → P None → P (Some a) → P (if on then None else Some a)
by_test P true a none some = none
by_test P false a none some = some

from_zone : (P : Option AnswerData → Type 0) (q : Query) (served : Option Served) → P None → ((zone : Zone) → P (Some (zone_answer zone q.name q.kind))) → P (answer_from q served)
from_zone P q None none some = none
from_zone P q (Some served) none some =
    by_test P (goes_on served q.name (zone_answer served.zone q.name q.kind)) (zone_answer served.zone q.name q.kind) none (some served.zone)

-- what holds of nothing and of each answer of a zone holds of what is said
pub file_said : (P : Option AnswerData → Type 0) (plans : List FileData) (q : Query) → P None → ((zone : Zone) → P (Some (zone_answer zone q.name q.kind))) → P (file_say plans q)
unfolding file_say
file_said P plans q none some = from_zone P q (longest_of q.name None plans) none some
