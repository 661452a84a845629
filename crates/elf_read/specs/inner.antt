-- Words of the crate's own clauses, which no public one cites.
pub mod Answers
pub mod Fronts
pub mod Elf
pub mod Tables
