pub mod Passing
pub mod Shortage
pub mod ShortageLaws
pub mod Stocks
pub mod StocksLaws
pub mod Turns
-- what public clauses cite
pub use Rattle.extra_stock.specs.Passing.{all_pass, all_taken, passing_book, passing_extra}
pub use Rattle.extra_stock.specs.Shortage.{IsShort, SaysShort, first_short}
pub use Rattle.extra_stock.specs.Stocks.{are_numbered, asked_by, in_chains, is_named, names_weigh}
pub use Rattle.extra_stock.specs.Stocks.{seats_in, seats_of_chains}
pub use Rattle.extra_stock.specs.Turns.{in_turn, said_at}
