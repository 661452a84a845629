-- Words of the contracts inside the crate. No public clause cites them.
pub mod Entries
pub mod Functions
pub mod Indexed
pub mod Limits
pub mod Lines
pub mod Maps
pub mod NameKeys
pub mod Naming
pub mod Nearby
pub mod Piles
pub mod Ranges
pub mod Ranking
pub mod Rising
pub mod Rows
pub mod Shows
pub mod Spans
pub mod SymbolTable
