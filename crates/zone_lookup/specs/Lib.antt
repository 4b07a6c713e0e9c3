pub mod Zone
pub mod ZoneAnswer
pub mod Ready
-- what public clauses cite
pub use Rattle.zone_lookup.specs.Zone.{Begins, cut_of, encloser, exists_in, has_at, is_of, set_at}
pub use Rattle.zone_lookup.specs.ZoneAnswer.{Finds, Refers, Steps, denying, found, found_at}
pub use Rattle.zone_lookup.specs.ZoneAnswer.{host_of, is_alias, sought, with_addresses, with_hosts}
pub use Rattle.zone_lookup.specs.ZoneAnswer.{with_set, zone_answer}
pub use Rattle.zone_lookup.specs.Ready.{IsDenial, IsReady, ended_by}
