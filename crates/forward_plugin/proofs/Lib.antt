pub mod Partings
pub mod CallLaws
pub mod Judging
pub mod Orders
pub mod Rings
pub mod Uses
pub mod Asks
pub mod UseLaws
