pub mod Building
pub mod Chains
pub mod Judging
pub mod Plans
pub mod Pools
pub mod Uses
pub mod Judges
pub mod Caches
pub mod Shares
pub mod Lending
pub mod Naming
pub mod KeysLaws
pub mod NamesLaws
pub mod Holding
pub mod Workers
pub mod LentsLaws
pub mod PartsLaws
pub mod Seats
pub mod SeatsLaws
pub mod HomeLaws
pub mod History
pub mod HistoryLaws
pub mod SeatNamesLaws
pub mod EndedLaws
pub mod HistoryPins
pub mod HistoryPinsLaws
pub mod Compiled
pub mod Own
pub mod Places
pub mod PlacesLaws
pub mod Reading
pub mod Replying
pub mod Walking
pub mod Logs
pub mod Giving
pub mod LoggedWalks
pub mod WalkingLaws
-- what public clauses cite
pub use Rattle.chain_build.specs.Building.{Builds, BuildsChains}
pub use Rattle.chain_build.specs.Chains.{IsMade, IsRead, MakesPlans, ReadsBundle}
pub use Rattle.chain_build.specs.Own.{AreOwnPlans, OwnChain, own_ground, own_terms}
pub use Rattle.chain_build.specs.Reading.{check_behind, is_of_pattern}
pub use Rattle.chain_build.specs.Plans.{ArePlans, PlansData, ground_of, terms_in}
pub use Rattle.chain_build.specs.Workers.{chain_extras, chain_identity, chain_log, plans_of, server_of}
pub use Rattle.chain_build.specs.LoggedWalks.{ServeState, serving}
pub use Rattle.chain_build.specs.Logs.{chain_places}
pub use Rattle.chain_build.specs.Replying.{LogsServing, Server, TellsServing}
