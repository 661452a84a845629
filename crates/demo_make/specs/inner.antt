-- Words of the crate's own clauses, which no public one cites.
pub mod Lists
