pub mod Extras
pub mod Index
pub mod KeyLaws
pub mod Laws
pub mod Options
pub mod Picking
pub mod Plans
pub mod PositionLaws
pub mod Ranks
pub mod Texts
-- what public clauses cite
pub use Rattle.plugin_api.specs.Extras.{Obey, Obeys, Sayings, Takings, set_to}
pub use Rattle.plugin_api.specs.Index.{IndexData, IsIndexOf}
pub use Rattle.plugin_api.specs.Picking.{Picks, picked}
pub use Rattle.plugin_api.specs.Laws.{picked_is}
pub use Rattle.plugin_api.specs.Options.{empty_why, fallthrough_of, fallthrough_why, once}
pub use Rattle.plugin_api.specs.Options.{option_in, unless, words_behind}
pub use Rattle.plugin_api.specs.Plans.{PlanData, fault_at, is_word}
pub use Rattle.plugin_api.specs.Ranks.{is_once, order_of, rank_of, ranks}
pub use Rattle.plugin_api.specs.Texts.{cause_text, code_text, directive_text}
