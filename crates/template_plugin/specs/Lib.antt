pub mod Pieces
pub mod Words
pub mod Reading
pub mod Judging
pub mod Template
pub mod Parts
pub mod Made
pub mod Heads
-- what public clauses cite
pub use Rattle.pattern_judging.specs.{maker_behind}
pub use Rattle.template_plugin.specs.Judging.{ReadsTemplate, template_task}
pub use Rattle.template_plugin.specs.Made.{Says}
pub use Rattle.template_plugin.specs.Reading.{template_fault}
pub use Rattle.template_plugin.specs.Template.{Said, template_say}
pub use Rattle.template_plugin.specs.Words.{patterns_of}
