-- The plugin `any`: queries for all types get one record (RFC 8482, section 4.2).
use Rattle.std.specs.Prelude.{ℕ, ◌==◌, Bool, false, List, [], ◌∷◌, codes}
use Rattle.dns_data.specs.Message.{AnswerData}
use Rattle.dns_data.specs.declared.class.TheConstants as classes
use Rattle.dns_data.specs.declared.kind.TheConstants as kinds
use Rattle.dns_data.specs.declared.rcode.TheConstants as rcodes
use Rattle.dns_data.specs.declared.record.Rdata.TheVariants as rdata
use Rattle.dns_data.specs.declared.query.Query.{Query}

-- whether a query asks for all types
abbrev pub is_any : Query → Bool
is_any q = q.kind == kinds.ANY

-- one HINFO record at the name, and AA clear
unfoldable pub any_of : Query → AnswerData
any_of q = record {
  rcode = rcodes.NOERROR;
  aa = false;
  ra = false;
  tc = false;
  answer = record {
    owner = q.name;
    class = classes.IN;
    ttl = 8482;
    rdata = rdata.Hinfo (codes "ANY obsoleted") (codes "See RFC 8482");
  } ∷ [];
  authority = [];
  additional = [];
}
