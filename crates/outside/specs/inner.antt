-- What only the inner contracts cite.
pub mod Front
pub mod Entries
pub mod Pieces
