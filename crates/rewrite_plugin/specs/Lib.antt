pub mod Shapes
pub mod Texts
pub mod Renaming
pub mod Rules
pub mod Answers
pub mod Words
pub mod Reading
pub mod Judging
pub mod Rewrite
pub mod Made
-- what public clauses cite
pub use Rattle.pattern_judging.specs.{maker_behind}
pub use Rattle.rewrite_plugin.specs.Judging.{ReadsRewrite, rewrite_task}
pub use Rattle.rewrite_plugin.specs.Reading.{patterns_of, rewrite_fault}
pub use Rattle.rewrite_plugin.specs.Rewrite.{changed_by, restored}
